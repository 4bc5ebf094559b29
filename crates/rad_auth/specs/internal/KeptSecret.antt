-- A secret as it is kept (own): n octets, followed by zeros up to 128 octets. No public clause cites this module, but
-- the model of a secret does.
use Rattle.std.specs.Prelude.{◌≡◌, ℕ, ◌-◌, ◌<◌, ◌≤◌, List, ◌++◌, length, take, replicate}

pub record IsFilled (octets : List ℕ) (n : ℕ) : Type 0 where
  pub least : 0 < n
  pub most : n ≤ 128
  pub room : length octets ≡ 128
  pub zeros : octets ≡ take n octets ++ replicate (128 - n) 0
