use Rattle.std.proofs.Common.{ℕ, ◌≤◌, ◌<◌, ◌≢◌, map, get_or, []}
use Rattle.ledger_lines.proofs.values.place_from.Given as goal

abbrev pub invariant-loop-place : goal.invariant-loop-place
invariant-loop-place l = (place : ℕ) → l.from ≤ place → place < l.place → get_or (map (λ k. k.now) l.known) place [] ≢ l.key
