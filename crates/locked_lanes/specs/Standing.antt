-- The standing of a lane, by its book (own).
use Rattle.std.specs.Prelude.{◌≡◌, ◌-◌, length, slice_get, option_map}
use Rattle.rad_lane.specs.Book.{Book}
use Rattle.rad_lane.specs.Counting.{counts_of}
use Rattle.locked_lanes.specs.declared.standing.Standing.{Standing}

-- The counts, and the moments of the first request of the queue, of the first request of the book and of the last
-- answer.
abbrev pub standing_of : Book → Standing
standing_of book = record {
  counts = counts_of book;
  first_queued = option_map (λ r. r.stamp.moment) (slice_get book.queued 0);
  first_held = option_map (λ s. s.moment) (slice_get book.accepted 0);
  last_answered = option_map (λ a. a.moment) (slice_get book.answered (length book.answered - 1));
}
