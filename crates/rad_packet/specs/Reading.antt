-- How a datagram is read (RFC 2866 section 3): as the packet at its front, if there is one. Octets after the packet's
-- Length are padding. Otherwise the datagram is refused, with the first of these faults that applies.
use Rattle.std.specs.Prelude.{◌≡◌, ◌≢◌, ℕ, ◌<◌, ◌≤◌, ◌⊎◌, List, ◌++◌, ◌+◌, length, drop, slice_range}
use Rattle.rad_packet.specs.Attribute.{Attribute, IsAttribute, attribute_text, AreAttributes}
use Rattle.rad_packet.specs.Packet.{IsPacketText, length_of}
use Rattle.rad_packet.specs.declared.faults.ReadFault.{ReadFault}
use Rattle.rad_packet.specs.declared.faults.ReadFault.TheVariants.{Short, BadLength, Truncated, BadAttribute}

-- The datagram is this packet's text, followed by padding.
pub record ReadsAs (datagram packet : List ℕ) : Type 0 where
  pub is_packet : IsPacketText packet
  pub padding : List ℕ
  pub whole : datagram ≡ packet ++ padding

-- These octets do not begin with the text of an attribute.
abbrev pub BeginsNoAttribute : List ℕ → Type 0
BeginsNoAttribute octets = (a : Attribute) (rest : List ℕ) → IsAttribute a → octets ≢ attribute_text a ++ rest

-- These octets begin with the text of an attribute, and this text has `len` octets.
pub record BeginsAttribute (octets : List ℕ) (len : ℕ) : Type 0 where
  pub attribute : Attribute
  pub rest : List ℕ
  pub valid : IsAttribute attribute
  pub whole : octets ≡ attribute_text attribute ++ rest
  pub counted : len ≡ length attribute.value + 2

-- The datagram's Length is 20 to 4096, and the datagram has at least that many octets.
pub record IsWhole (datagram : List ℕ) : Type 0 where
  pub least : 20 ≤ length_of datagram
  pub most : length_of datagram ≤ 4096
  pub here : length_of datagram ≤ length datagram

-- The octets from place 20 up to this place are texts of attributes, joined. Those from this place up to the packet's
-- Length do not begin with the text of an attribute.
pub record IsInvalidAt (datagram : List ℕ) (place : ℕ) : Type 0 where
  pub from : 20 ≤ place
  pub within : place < length_of datagram
  pub before : AreAttributes (slice_range datagram 20 place)
  pub none : BeginsNoAttribute (slice_range datagram place (length_of datagram))

-- The first invalid attribute in the octets of a packet begins at this place.
pub record IsFirstInvalid (octets : List ℕ) (place : ℕ) : Type 0 where
  pub from : 20 ≤ place
  pub within : place < length octets
  pub before : AreAttributes (slice_range octets 20 place)
  pub none : BeginsNoAttribute (drop place octets)

-- The datagram is refused with this fault.
abbrev pub Refuses : List ℕ → ReadFault → Type 0
Refuses datagram Short = length datagram < 20
Refuses datagram BadLength = (20 ≤ length datagram) × ((length_of datagram < 20) ⊎ (4096 < length_of datagram))
Refuses datagram Truncated =
    (20 ≤ length_of datagram) × (length_of datagram ≤ 4096) × (20 ≤ length datagram) × (length datagram < length_of datagram)
Refuses datagram (BadAttribute place) = (20 ≤ length datagram) × IsWhole datagram × IsInvalidAt datagram place
