use Rattle.std.proofs.Common.{◌≡◌, ℕ, ◌-◌, ◌≤◌, ◌<◌, length}
use Rattle.std.specs.Prelude.{slice_index, ◌≢◌}
use Rattle.ledger_writer.proofs.file_before.last_feed.Given as goal

abbrev pub invariant-loop-behind : goal.invariant-loop-behind
invariant-loop-behind l = (place : ℕ) → l.count - l.behind ≤ place → place < length l.octets → slice_index l.octets place ≢ 10
