-- What a lane is that a test did not find to be the right one.
use Rattle.std.proofs.Common.{◌≡◌, ◌↔◌, Bool, true, false, IsTrue}

pub another : (P : Type 0) (has : Bool) → IsTrue has ↔ P → has ≡ false → P → ⊥
another P has is other p = let yes : has ≡ true = is.1 p in absurd cc
