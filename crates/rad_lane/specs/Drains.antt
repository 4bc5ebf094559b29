-- Draining (own): from then on no new request is accepted. A second drain changes nothing.
use Rattle.std.specs.Prelude.{◌≡◌, ℕ, Option, Some, None}
use Rattle.rad_lane.specs.Book.{Book, next_number}

-- how many requests had been accepted when the lane was drained, or so far if it is not drained
abbrev pub drained_at : Book → Option ℕ → ℕ
drained_at book None = next_number book
drained_at book (Some count) = count

pub record Drains (old : Book) (count : ℕ) (new : Book) : Type 0 where
  pub count_is : count ≡ drained_at old old.drain
  pub book : new ≡ record old { drain = Some count }
