use Rattle.std.proofs.Common.{◌<◌, [], length, get_or, refl, ap, ◌∙◌, arith}
use Rattle.ledger_files.specs.Chains.{chain_after}
use Rattle.ledger_files.specs.Tails.{body_in}
use Rattle.ledger_files.proofs.Chains.{with_line}
use Rattle.ledger_files.proofs.Ends.{holds_same}
use Rattle.ledger_files.proofs.batch.Batch.pass_line.Goals as goal

pub returns-clause-chain : goal.returns-clause-chain
returns-clause-chain c = λ held h lines s.
    let batch = c.args.self.now in
    let some : batch.whole < length held = omega (arith, c.if-self-len.false, c.len.ensures, batch.counted.1, batch.ends.ok.0, h.count) in
    with_line _ _ lines (body_in (get_or held batch.whole []))
    (c.add_digest.ensures.after ∙ ap (chain_after c.args.chain.now.sum) (c.digest_of.ensures held (holds_same batch _ held h refl refl refl refl refl) some))
    s
