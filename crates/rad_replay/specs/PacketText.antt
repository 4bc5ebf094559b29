-- A packet as it is printed: Code, Identifier, Length and attributes, with one space between each two.
use Rattle.std.specs.Prelude.{ℕ, ◌/◌, ◌%◌, List, [], ◌∷◌, ◌++◌, length, drop, slice_index, codes, false, Option, Some, None}
use Rattle.std.specs.List.{flat_map}
use Rattle.std.specs.Fmt.{decimal, digits}

-- An octet in hexadecimal: two digits, in lower case.
abbrev pub octet_text : ℕ → List ℕ
octet_text octet = digits 16 false (octet / 16) ++ digits 16 false (octet % 16)

-- Attributes in hexadecimal, `-` for none.
abbrev pub attributes_text : List ℕ → List ℕ
attributes_text [] = codes "-"
attributes_text (octet ∷ octets) = flat_map octet_text (octet ∷ octets)

-- A packet's Code, Identifier and Length.
abbrev pub head_text : List ℕ → List ℕ
head_text octets =
    decimal (slice_index octets 0) ++ codes " " ++ decimal (slice_index octets 1) ++ codes " " ++ decimal (length octets)

-- The same with its attributes.
abbrev pub packet_text : List ℕ → List ℕ
packet_text octets = head_text octets ++ codes " " ++ attributes_text (drop 20 octets)

-- An Identifier, followed by a dot and the source port if that is printed.
abbrev pub identifier_text : Option ℕ → ℕ → List ℕ
identifier_text None identifier = decimal identifier
identifier_text (Some port) identifier = decimal identifier ++ codes "." ++ decimal port

-- The Code, Identifier and Length of a packet that is sent from a source port.
abbrev pub sent_head_text : Option ℕ → List ℕ → List ℕ
sent_head_text port octets =
    decimal (slice_index octets 0) ++ codes " " ++ identifier_text port (slice_index octets 1) ++ codes " " ++ decimal (length octets)

-- The same with its attributes.
abbrev pub sent_text : Option ℕ → List ℕ → List ℕ
sent_text port octets = sent_head_text port octets ++ codes " " ++ attributes_text (drop 20 octets)
