-- The counts of a lane, and when a lane is done (own).
use Rattle.std.specs.Prelude.{◌≡◌, [], length, IsSome, is_some}
use Rattle.rad_lane.specs.declared.counts.Counts.{Counts}
use Rattle.rad_lane.specs.Book.{Book, next_number, outstanding_count}
use Rattle.rad_lane.specs.Watch.{is_up}

-- The counts. Accepted and answered requests are counted from the first one of the lane on.
abbrev pub counts_of : Book → Counts
counts_of book = record {
  opening = book.opening;
  accepted = next_number book;
  answered = book.served;
  queued = length book.queued;
  outstanding = outstanding_count book;
  up = is_up book.watch;
  draining = is_some book.drain;
}

-- A lane is done if it is drained, with nothing queued and nothing outstanding.
pub record IsDone (book : Book) : Type 0 where
  pub drained : IsSome book.drain
  pub sent : book.queued ≡ []
  pub answered : outstanding_count book ≡ 0
