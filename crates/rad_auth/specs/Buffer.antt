-- A buffer (own): its octets, and the number of octets that it has room for.
use Rattle.std.specs.Prelude.{ℕ, List}

pub record Filled : Type 0 where
  pub octets : List ℕ
  pub room : ℕ
