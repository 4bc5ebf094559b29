-- Which texts of a configuration are told (own). A secret may stand in a wrong place: as an address, as a name, as a key.
use Rattle.std.specs.Prelude.{ℕ, nat_eq, nat_le, Bool, ◌||◌, ◌==◌, List, length}
use Rattle.std.specs.Char.{is_ascii_digit}
use Rattle.std.specs.List.{list_all, list_any}
use Rattle.strsim.specs.Edits.{levenshtein_row}

-- A value is told if it has digits, `.`, `:` and `/` alone.
abbrev pub is_told_octet : ℕ → Bool
is_told_octet o = is_ascii_digit o || (o == 46 || (o == 58 || o == 47))

abbrev pub is_told : List ℕ → Bool
is_told text = list_all is_told_octet text

-- The least number of octets that are put in, left out or replaced to make one name of another: their Levenshtein distance.
abbrev pub distance : List ℕ → List ℕ → ℕ
distance known name = levenshtein_row nat_eq known name (length name)

-- A name is near a known one if at most two such edits make it.
abbrev pub is_near : List ℕ → List ℕ → Bool
is_near known name = nat_le (distance known name) 2

-- It is near one of them.
abbrev pub is_near_one_of : List (List ℕ) → List ℕ → Bool
is_near_one_of names name = list_any (λ known. is_near known name) names
