-- What a look-up at a place of a list gives.
use Rattle.std.proofs.Common.{◌≡◌, ℕ, Bool, false, List, length, Option, Some, None, option_map, unwrap_or, refl, sym, ap, ◌∙◌, Bor}
use Rattle.std.specs.Prelude.{slice_get}
use Rattle.std.specs.Option.{option_copied}
use Rattle.std.specs.Slice.{IsItemAt}
use Rattle.std.proofs.lemmas.Option.{slice_get_past, slice_get_read}
use Rattle.rad_realms.specs.Realm.{is_at}

pub copied_item : {X : Type 0} (xs : List X) (i : ℕ) (r : Option (Bor X)) → IsItemAt xs i r → option_copied r ≡ slice_get xs i
copied_item xs i None look = sym (slice_get_past xs i look.3)
copied_item xs i (Some x) look = sym (slice_get_read xs (length xs) i x.now refl look.3.0 look.1)

-- the test of the item at a place
pub tested_at : {X : Type 0} (passes : X → Bool) (xs : List X) (place : Option ℕ) (i : ℕ) (r : Option (Bor X)) → place ≡ Some i → IsItemAt xs i r → is_at passes xs place ≡ unwrap_or (option_map passes (option_copied r)) false
tested_at passes xs place i r is look =
    ap (λ at. is_at passes xs at) is ∙ ap (λ o. unwrap_or (option_map passes o) false) (sym (copied_item xs i r look))
