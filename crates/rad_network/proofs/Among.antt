-- What stands in a list, with the latest item first.
use Rattle.std.proofs.Common.{◌≡◌, zero, suc, List, [], ◌∷◌, ◌++◌, refl, inl, inr, arith}
use Rattle.std.specs.Prelude.{◌⊎◌}
use Rattle.std.specs.List.{Contains}

pub latest : {X : Type 0} (x : X) (xs : List X) → Contains (x ∷ xs) x
latest x xs = (0, omega arith, refl)

pub earlier : {X : Type 0} (x : X) (xs : List X) (y : X) → Contains xs y → Contains (x ∷ xs) y
earlier x xs y (k, within, is) = (suc k, omega (arith, within), is)

pub parted : {X : Type 0} (x : X) (xs : List X) (y : X) → Contains (x ∷ xs) y → (x ≡ y) ⊎ Contains xs y
parted x xs y (zero, within, is) = inl is
parted x xs y (suc k, within, is) = inr (k, omega (arith, within), is)

pub none_there : {X : Type 0} (y : X) → Contains [] y → ⊥
none_there y (k, within, is) = absurd (omega (arith, within))

-- after some more
pub later_on : {X : Type 0} (more xs : List X) (y : X) → Contains xs y → Contains (more ++ xs) y
later_on [] xs y h = h
later_on (x ∷ more) xs y h = earlier x (more ++ xs) y (later_on more xs y h)
