use Rattle.std.proofs.Common.{◌≡◌, ℕ, ◌<◌, take, get_or}
use Rattle.locked_lanes.specs.declared.report.LaneEnd.{LaneEnd}
use Rattle.rad_console.specs.Closing.{IsKnownAt, known_at}
use Rattle.rad_console.specs.Totals.{count_in_all}
use Rattle.rad_console.proofs.closing.count_untaken.Given as goal

abbrev pub invariant-loop-end : goal.invariant-loop-end
invariant-loop-end l = record {
  count : l.count ≡ count_in_all known_at (take l.end-index l.ends);
  known : (k : ℕ) (d : LaneEnd) → k < l.end-index → IsKnownAt (get_or l.ends k d);
}
