-- The lines about each lane, without their line feeds (own).
use Rattle.std.specs.Prelude.{ℕ, List, ◌++◌, codes, suc, zero, Bool, true, false}
use Rattle.std.specs.Fmt.{decimal}
use Rattle.rad_lane.specs.declared.counts.Counts.{Counts}
use Rattle.rad_console.specs.declared.lanes.DrainLine.{DrainLine}
use Rattle.rad_console.specs.declared.lanes.StateLine.{StateLine}

-- Whether a home server is marked up or down.
abbrev pub watch_name : Bool → List ℕ
watch_name true = codes "up"
watch_name false = codes "down"

-- Whether a lane is drained, and whether it is done, by the numbers of its queued and outstanding requests.
abbrev pub mode_name : Bool → ℕ → ℕ → List ℕ
mode_name false queued outstanding = codes "open"
mode_name true zero zero = codes "done"
mode_name true zero (suc outstanding) = codes "draining"
mode_name true (suc queued) outstanding = codes "draining"

abbrev pub drain_line : DrainLine → List ℕ
drain_line line = codes "drain: " ++ decimal line.lane ++ codes " " ++ decimal line.count

abbrev pub counts_text : Counts → List ℕ
counts_text counts =
    (codes "accepted " ++ decimal counts.accepted ++ codes " queued " ++ decimal counts.queued ++ codes " ")
    ++ (codes "outstanding " ++ decimal counts.outstanding ++ codes " answered " ++ decimal counts.answered
    ++ codes " opening " ++ decimal counts.opening)

abbrev pub state_line : StateLine → List ℕ
state_line line =
    (codes "lane " ++ decimal line.lane ++ codes " " ++ line.name.now ++ codes " ")
    ++ (watch_name line.counts.up ++ codes " " ++ mode_name line.counts.draining line.counts.queued line.counts.outstanding
    ++ codes " " ++ counts_text line.counts)
