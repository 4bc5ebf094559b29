-- The Value of the first attribute of a Type, attribute by attribute; proofs of the crates above cite it too.
use Rattle.std.proofs.Common.{◌≡◌, ℕ, ◌==◌, true, false, List, ◌∷◌, Option, Some, option_map, refl}
use Rattle.std.specs.Prelude.{find}
use Rattle.rad_packet.specs.Attribute.{Attribute}

-- the Value of the first attribute of a Type
abbrev pub first_value : ℕ → List Attribute → Option (List ℕ)
first_value kind attributes = option_map (λ a. a.value) (find (λ a. a.kind == kind) attributes)

pub first_here : (kind : ℕ) (a : Attribute) (rest : List Attribute) → (a.kind == kind) ≡ true → first_value kind (a ∷ rest) ≡ Some a.value
first_here kind a rest same = rw same refl

pub first_later : (kind : ℕ) (a : Attribute) (rest : List Attribute) → (a.kind == kind) ≡ false → first_value kind (a ∷ rest) ≡ first_value kind rest
first_later kind a rest other = rw other refl
