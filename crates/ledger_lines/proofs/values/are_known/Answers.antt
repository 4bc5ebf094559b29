use Rattle.std.proofs.Common.{map, refl}
use Rattle.ledger_lines.proofs.Known.{known_all, known_next, one_unknown}
use Rattle.ledger_lines.proofs.values.are_known.Goals as goal

pub loop-member-preserved : goal.loop-member-preserved
loop-member-preserved c =
    known_next (map (λ k. k.now) c.args.known.now) c.args.members.now c.loop-member.member-index c.member-item.result c.loop-member-test.true c.member-item.is c.loop-member.invariant
    c.in-Some.ensures.1

pub returns-in-None : goal.returns-in-None
returns-in-None c = (
  λ never. absurd (cc),
  λ all. absurd (one_unknown (map (λ k. k.now) c.args.known.now) c.args.members.now c.loop-member.member-index c.member-item.result c.loop-member-test.true c.member-item.is c.in-None.ensures all),
)

pub returns : goal.returns
returns c = (λ _. known_all (map (λ k. k.now) c.args.known.now) c.args.members.now c.loop-member.member-index c.loop-member-test.false c.loop-member.invariant, λ _. refl)
