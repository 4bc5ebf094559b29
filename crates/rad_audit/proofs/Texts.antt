-- Whether a value is a text.
use Rattle.std.proofs.Common.{◌≡◌, ◌∙◌, ℕ, List, Bool, true, false, Option, Some, codes, refl, sym, ap}
use Rattle.std.proofs.lemmas.Str.{IsUtf8-from_is_utf8, is_utf8-from_IsUtf8}
use Rattle.std.specs.Prelude.{IsUtf8, bytes_eq}
use Rattle.std.specs.List.{flat_map}
use Rattle.std.specs.Str.{is_utf8}
use Rattle.rad_audit.specs.Cells.{octets_cell, octet_cell, text_cell, value_cell}

not_true : (b : Bool) → ¬ (b ≡ true) → b ≡ false
not_true true n = absurd (n refl)
not_true false n = refl

octets_are_text : (octets : List ℕ) → IsUtf8 octets → octets_cell octets ≡ text_cell octets
octets_are_text octets u = rw (is_utf8-from_IsUtf8 octets u) refl

octets_are_none : (octets : List ℕ) → ¬ IsUtf8 octets → octets_cell octets ≡ flat_map octet_cell octets
octets_are_none octets n = rw (not_true (is_utf8 octets) (λ u. n (IsUtf8-from_is_utf8 octets u))) refl

no_hyphen : (value : Option (List ℕ)) (octets : List ℕ) → value ≡ Some octets → bytes_eq octets (codes "-") ≡ false → value_cell value ≡ octets_cell octets
no_hyphen value octets is other = rw is (rw other refl)

pub cell_of_text : (value : Option (List ℕ)) (octets text : List ℕ) → value ≡ Some octets → bytes_eq octets (codes "-") ≡ false → text ≡ octets → IsUtf8 octets → text_cell text ≡ value_cell value
cell_of_text value octets text is other same u = ap text_cell same ∙ sym (no_hyphen value octets is other ∙ octets_are_text octets u)

pub cell_of_octets : (value : Option (List ℕ)) (octets : List ℕ) → value ≡ Some octets → bytes_eq octets (codes "-") ≡ false → ¬ IsUtf8 octets → flat_map octet_cell octets ≡ value_cell value
cell_of_octets value octets is other n = sym (no_hyphen value octets is other ∙ octets_are_none octets n)
