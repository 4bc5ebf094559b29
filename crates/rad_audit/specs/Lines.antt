-- Lines of a ledger that were cut short (own).
use Rattle.std.specs.Prelude.{◌≡◌, ◌<◌, ℕ, List, ◌++◌, length}

-- Octets are the front of longer ones.
pub record IsFront (front whole : List ℕ) : Type 0 where
  pub rest : List ℕ
  pub more : 0 < length rest
  pub split : whole ≡ front ++ rest
