-- The words of a row (own): values and numbers, so that no word has a tab or a line end in it, and a value is told from none.
use Rattle.std.specs.Prelude.{ℕ, Bool, not, ◌&&◌, ◌==◌, nat_le, if◌then◌else◌, List, [], ◌∷◌, chars, codes, bytes_eq, Option, Some, None}
use Rattle.std.specs.Fmt.{decimal}
use Rattle.std.specs.List.{flat_map, list_all}
use Rattle.std.specs.Str.{is_utf8}
use Rattle.rad_config.specs.Printed.{address_text}
use Rattle.rad_audit.specs.Shown.{character_text, octet_text}
use Rattle.rad_audit.specs.declared.shown.Within.TheVariants.{Row}

-- An octet that is printed as it is, also where the value is no text: from space to `~`, except `%` and `\`.
abbrev pub is_plain : ℕ → Bool
is_plain o = (nat_le 32 o && nat_le o 126) && (not (o == 37) && not (o == 92))

-- An octet of a value that is not UTF-8.
abbrev pub octet_cell : ℕ → List ℕ
octet_cell o = if is_plain o then o ∷ [] else octet_text o

-- A text: where all octets are plain, none of its characters is printed otherwise.
abbrev pub text_cell : List ℕ → List ℕ
text_cell text = if list_all is_plain text then text else flat_map (character_text Row) (chars text)

abbrev pub octets_cell : List ℕ → List ℕ
octets_cell octets = if is_utf8 octets then text_cell octets else flat_map octet_cell octets

-- A value, or `-` where there is none. A value that is `-` itself is told from that.
abbrev pub value_cell : Option (List ℕ) → List ℕ
value_cell None = codes "-"
value_cell (Some octets) = if bytes_eq octets (codes "-") then codes "%2d" else octets_cell octets

-- A number, or `-` where there is none.
abbrev pub number_cell : Option ℕ → List ℕ
number_cell None = codes "-"
number_cell (Some n) = decimal n

-- A client's address.
unfoldable pub client_cell : List ℕ → List ℕ
client_cell address = address_text address
