use Rattle.std.proofs.Common.{◌≡◌, ◌≤◌, length, drop, None}
use Rattle.rad_advice.specs.Place.{line_behind}
use Rattle.rad_advice.proofs.place.behind_line_feed.Given as goal

abbrev pub invariant-loop-place : goal.invariant-loop-place
invariant-loop-place l = record {
  within : l.place ≤ length l.octets;
  none : line_behind (drop l.place l.octets) ≡ None;
}

abbrev pub decreases-loop-place : goal.decreases-loop-place
decreases-loop-place l = l.place
