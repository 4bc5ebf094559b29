-- The datagram that is passed to a call (own).
use Rattle.std.specs.Prelude.{ℕ, List}

-- The packet in the datagram before the call and after it.
pub record Datagrams : Type 0 where
  pub before : List ℕ
  pub after : List ℕ
