-- What the counts of a lane behind a lock are (own): each request that was accepted is queued, outstanding or answered.
use Rattle.std.specs.Prelude.{◌≡◌, ◌+◌}
use Rattle.rad_lane.specs.declared.counts.Counts.{Counts}

abbrev pub AddUp : Counts → Type 0
AddUp counts = counts.accepted ≡ counts.queued + counts.outstanding + counts.answered
