-- Packets (RFC 2866 section 3, RFC 2865 section 3). The greatest Length, 4096, is RFC 2865's; RFC 2866
-- has 4095.
use Rattle.std.specs.Prelude.{◌≡◌, ℕ, ◌+◌, ◌*◌, ◌/◌, ◌%◌, ◌<◌, ◌≤◌, List, ◌∷◌, ◌++◌, length, take, drop, slice_index}
use Rattle.rad_packet.specs.Attribute.{Attribute, AreAttributes, attributes_of}

-- The parts of a packet's text: Code, Identifier, Length (two octets, the most significant first),
-- Authenticator (sixteen octets), and the attributes.
abbrev pub code_of : List ℕ → ℕ
code_of text = slice_index text 0

abbrev pub identifier_of : List ℕ → ℕ
identifier_of text = slice_index text 1

abbrev pub length_of : List ℕ → ℕ
length_of text = 256 * slice_index text 2 + slice_index text 3

abbrev pub authenticator_of : List ℕ → List ℕ
authenticator_of text = take 16 (drop 4 text)

abbrev pub attribute_octets : List ℕ → List ℕ
attribute_octets text = drop 20 text

-- The attributes of a packet's text.
abbrev pub packet_attributes : List ℕ → List Attribute
packet_attributes text = attributes_of (drop 20 text)

-- Each item of the list is an octet.
abbrev pub AreOctets : List ℕ → Type 0
AreOctets text = (place : ℕ) → slice_index text place < 256

-- A packet's text: 20 to 4096 octets, all of which Length counts. The octets after the Authenticator are texts of
-- attributes, joined.
pub record IsPacketText (text : List ℕ) : Type 0 where
  pub octets : AreOctets text
  pub counted : length_of text ≡ length text
  pub least : 20 ≤ length text
  pub most : length text ≤ 4096
  pub attributes : AreAttributes (drop 20 text)

-- The text of a packet with these parts.
abbrev pub packet_text : ℕ → ℕ → List ℕ → List ℕ → List ℕ
packet_text code identifier authenticator attributes =
    code ∷ identifier ∷ ((20 + length attributes) / 256) ∷ ((20 + length attributes) % 256) ∷ (authenticator ++ attributes)

-- The packet's text with the texts of these attributes appended. Its Length counts them too.
abbrev pub with_attributes : List ℕ → List ℕ → List ℕ
with_attributes text more =
    packet_text (code_of text) (identifier_of text) (authenticator_of text) (attribute_octets text ++ more)
