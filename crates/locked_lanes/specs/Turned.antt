-- What a turn through a lock states (own): it is a turn of a lawful book.
use Rattle.std.specs.Prelude.{ℕ, Result}
use Rattle.rad_lane.specs.declared.turning.Volume.{Volume}
use Rattle.rad_lane.specs.declared.turning.TurnFault.{TurnFault}
use Rattle.rad_lane.specs.Book.{Book}
use Rattle.rad_lane.specs.Lawful.{IsLawful}
use Rattle.rad_lane.specs.Volumes.{Turns}

pub record IsLawfulTurn (moment : ℕ) (result : Result Volume TurnFault) : Type 0 where
  pub old : Book
  pub new : Book
  pub lawful : IsLawful old
  pub turns : Turns old moment result new
