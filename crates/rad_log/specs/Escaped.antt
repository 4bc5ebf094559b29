-- Texts in a line of the log (own).
use Rattle.std.specs.Prelude.{ℕ, ◌/◌, ◌%◌, Bool, false, true, not, ◌&&◌, ◌==◌, nat_le, if◌then◌else◌, List, [], ◌∷◌, ◌++◌, codes, Option, Some, None}
use Rattle.std.specs.Fmt.{digits}
use Rattle.std.specs.List.{flat_map}

-- An octet is not the one that is escaped too, if there is such a one.
abbrev pub is_other_than : Option ℕ → ℕ → Bool
is_other_than None o = true
is_other_than (Some also) o = not (o == also)

-- An octet that is printed as it is: from `!` to `~`, except `%`, `"`, `=` and the one that is escaped too.
abbrev pub is_plain : Option ℕ → ℕ → Bool
is_plain also o = (nat_le 33 o && nat_le o 126) && (((not (o == 37) && not (o == 34)) && not (o == 61)) && is_other_than also o)

-- Any other octet is printed as `%` and two hexadecimal digits.
abbrev pub octet_text : Option ℕ → ℕ → List ℕ
octet_text also o = if is_plain also o then o ∷ [] else codes "%" ++ digits 16 false (o / 16) ++ digits 16 false (o % 16)

-- A text, octet by octet.
abbrev pub escaped : Option ℕ → List ℕ → List ℕ
escaped also text = flat_map (octet_text also) text
