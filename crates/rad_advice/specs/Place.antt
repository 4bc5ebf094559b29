-- The place of an octet in a text (own): its line, and its column in characters, both counted from 1. A line ends with
-- a line feed. A character begins with each octet that does not continue one in UTF-8 (RFC 3629 section 3).
use Rattle.std.specs.Prelude.{ℕ, ◌+◌, Bool, not, ◌&&◌, ◌==◌, nat_le, nat_lt, if◌then◌else◌, List, [], ◌∷◌, take, Option, Some, None, unwrap_or}
use Rattle.std.specs.List.{count_by}
use Rattle.rad_realms.specs.Realm.{or_else}
use Rattle.rad_advice.specs.declared.place.TextPlace.{TextPlace}

abbrev pub is_line_feed : ℕ → Bool
is_line_feed octet = octet == 10

abbrev pub begins_character : ℕ → Bool
begins_character octet = not (nat_le 0x80 octet && nat_lt octet 0xC0)

-- The octets after the last line feed, if there is one.
unfoldable pub line_behind : List ℕ → Option (List ℕ)
line_behind [] = None
line_behind (o ∷ os) = or_else (line_behind os) (if is_line_feed o then Some os else None)

-- The last line.
abbrev pub last_line : List ℕ → List ℕ
last_line text = unwrap_or (line_behind text) text

-- The line and the column of the octet after these octets.
abbrev pub line_after : List ℕ → ℕ
line_after before = count_by is_line_feed before + 1

abbrev pub column_after : List ℕ → ℕ
column_after before = count_by begins_character (last_line before) + 1

-- The place of the octet at an offset.
unfoldable pub place_at : ℕ → List ℕ → TextPlace
place_at offset text = record { line = line_after (take offset text); column = column_after (take offset text) }
