-- The moment that an idle step names (own).
use Rattle.std.specs.Prelude.{◌≡◌, ℕ, ◌-◌, ◌^◌, ◌<◌, ◌≤◌, Option, Some, None}
use Rattle.rad_lane.specs.Book.{Book}
use Rattle.rad_progress.specs.StepsLeft.{steps_left}

-- The first moment at which the lane has a step left, if nothing comes.
pub record IsNextMoment (book : Book) (moment : ℕ) : Type 0 where
  pub some : 1 ≤ steps_left book moment
  pub none_before : (earlier : ℕ) → earlier < moment → steps_left book earlier ≡ 0

-- An idle step names the first moment at which the lane has a step left. If it names none, the lane has none left at
-- any moment. Moments from 2 ^ 62 - 1 on are named as that moment.
abbrev pub Names : Book → Option ℕ → Type 0
Names book (Some moment) = moment < 2 ^ 62 - 1 → IsNextMoment book moment
Names book None = (later : ℕ) → steps_left book later ≡ 0
