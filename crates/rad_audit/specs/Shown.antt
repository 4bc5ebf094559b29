-- Words as they are printed (own).
use Rattle.std.specs.Prelude.{ℕ, ◌/◌, ◌%◌, nat_le, Bool, false, ◌&&◌, ◌||◌, ◌==◌, List, [], ◌∷◌, ◌++◌, chars, codes, if◌then◌else◌}
use Rattle.std.specs.Char.{encode_utf8, is_control}
use Rattle.std.specs.Fmt.{digits}
use Rattle.std.specs.List.{flat_map, list_any}
use Rattle.rad_audit.specs.declared.shown.Within.{Within}
use Rattle.rad_audit.specs.declared.shown.Within.TheVariants.{Line, Row}

-- An octet, as `%` and two hexadecimal digits.
abbrev pub octet_text : ℕ → List ℕ
octet_text o = codes "%" ++ digits 16 false (o / 16) ++ digits 16 false (o % 16)

-- Characters that are not seen, or change how those beside them are: the first and the last of each run of Unicode's format
-- characters (Cf), such as the marks of a direction, and of its separators of lines and paragraphs (Zl, Zp).
abbrev pub format_runs : List (ℕ × ℕ)
format_runs =
    (0xAD, 0xAD)
    ∷ (0x600, 0x605)
    ∷ (0x61C, 0x61C)
    ∷ (0x6DD, 0x6DD)
    ∷ (0x70F, 0x70F)
    ∷ (0x890, 0x891)
    ∷ (0x8E2, 0x8E2)
    ∷ (0x180E, 0x180E)
    ∷ (0x200B, 0x200F)
    ∷ (0x2028, 0x202E)
    ∷ (0x2060, 0x206F)
    ∷ (0xFEFF, 0xFEFF)
    ∷ (0xFFF9, 0xFFFB)
    ∷ (0x110BD, 0x110BD)
    ∷ (0x110CD, 0x110CD)
    ∷ (0x13430, 0x1343F)
    ∷ (0x1BCA0, 0x1BCA3)
    ∷ (0x1D173, 0x1D17A)
    ∷ (0xE0001, 0xE0001)
    ∷ (0xE0020, 0xE007F)
    ∷ []

abbrev pub is_format : ℕ → Bool
is_format c = list_any (λ run. nat_le run.0 c && nat_le c run.1) format_runs

-- A character that is not seen: one of these, or a control character.
abbrev pub is_hidden : ℕ → Bool
is_hidden c = is_control c || is_format c

-- A character that is printed by its octets: a hidden one, and in a row `%` or `\` too.
abbrev pub is_escaped : Within → ℕ → Bool
is_escaped Line c = is_hidden c
is_escaped Row c = is_hidden c || (c == 37 || c == 92)

-- A character: its octets in UTF-8, each printed like this if it is printed by them, and otherwise unchanged.
abbrev pub character_text : Within → ℕ → List ℕ
character_text within c = if is_escaped within c then flat_map octet_text (encode_utf8 c) else encode_utf8 c

abbrev pub word_text : List ℕ → List ℕ
word_text text = flat_map (character_text Line) (chars text)
