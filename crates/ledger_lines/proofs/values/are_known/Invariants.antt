use Rattle.std.proofs.Common.{take, map}
use Rattle.std.specs.List.{All, Contains}
use Rattle.json.specs.Strict.{keys}
use Rattle.json.specs.Value.{members_view}
use Rattle.ledger_lines.proofs.values.are_known.Given as goal

abbrev pub invariant-loop-member : goal.invariant-loop-member
invariant-loop-member l = All (Contains (map (λ k. k.now) l.known)) (keys (members_view (take l.member-index l.members)))
