-- How many steps a lane can still take at one moment (own). A lane that is stepped again and again at one moment is
-- idle after that many.
use Rattle.std.specs.Prelude.{◌≡◌, ℕ, ◌+◌, ◌-◌, ◌==◌, ◌&&◌, min, length, Bool, not, nat_le, if◌then◌else◌}
use Rattle.std.specs.List.{count_by}
use Rattle.rad_lane.specs.declared.stepping.Action.{Action}
use Rattle.rad_lane.specs.declared.stepping.Action.TheVariants.{Sent, Resent, Probed, WentDown, WentUp, Idle}
use Rattle.rad_lane.specs.declared.watch.Watch.{Watch}
use Rattle.rad_lane.specs.declared.watch.Watch.TheVariants.{Up as up, Down as down}
use Rattle.rad_lane.specs.Outstanding.{Outstanding, is_spent}
use Rattle.rad_lane.specs.Book.{Book, outstanding_of, outstanding_count}

-- An outstanding request is due, and it may be sent again, since it is not spent; or it is due and spent.
abbrev pub is_due_again : ℕ → Outstanding → Bool
is_due_again now entry = nat_le entry.due now && not (is_spent entry)

abbrev pub is_spent_due : ℕ → Outstanding → Bool
is_spent_due now entry = nat_le entry.due now && is_spent entry

-- How many of them there are.
abbrev pub due_again : Book → ℕ → ℕ
due_again book now = count_by (is_due_again now) (outstanding_of book)

abbrev pub spent_due : Book → ℕ → ℕ
spent_due book now = count_by (is_spent_due now) (outstanding_of book)

-- How many requests of the queue the window has room for.
abbrev pub to_be_sent : Book → ℕ
to_be_sent book = min (length book.queued) (book.setup.limits.window - outstanding_count book)

-- While the home server is marked up: each due request that may be sent again; then, if a spent one is due, going down
-- and a probe, and otherwise the part of the queue that the window has room for.
abbrev pub steps_left_up : Book → ℕ → ℕ
steps_left_up book now = due_again book now + (if spent_due book now == 0 then to_be_sent book else 2)

-- While it is marked down: if its wait is over, going up, each outstanding request, and the queue's part; otherwise a
-- probe, if one is due.
abbrev pub steps_left_down : Book → ℕ → ℕ → ℕ → ℕ
steps_left_down book now until next =
    if nat_le until now then outstanding_count book + to_be_sent book + 1 else (if nat_le next now then 1 else 0)

abbrev pub steps_left_by : Watch → Book → ℕ → ℕ
steps_left_by up book now = steps_left_up book now
steps_left_by (down until next out) book now = steps_left_down book now until next

abbrev pub steps_left : Book → ℕ → ℕ
steps_left book now = steps_left_by book.watch book now

-- The most steps that are left to a lane at a moment: one for each request of the window, and one more.
abbrev pub most_steps : Book → ℕ
most_steps book = min (outstanding_count book + length book.queued) book.setup.limits.window + 1

-- What a step leaves: an idle step finds none left and leaves none; any other leaves one less.
abbrev pub Settles : Book → ℕ → Action → Book → Type 0
Settles old now (Idle moment) new = (steps_left old now ≡ 0) × (steps_left new now ≡ 0)
Settles old now (Sent number slot) new = steps_left old now ≡ steps_left new now + 1
Settles old now (Resent number slot) new = steps_left old now ≡ steps_left new now + 1
Settles old now (Probed slot) new = steps_left old now ≡ steps_left new now + 1
Settles old now WentDown new = steps_left old now ≡ steps_left new now + 1
Settles old now WentUp new = steps_left old now ≡ steps_left new now + 1
