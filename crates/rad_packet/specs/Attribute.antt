-- Attributes (RFC 2866 section 5, RFC 2865 section 5). An octet is a number below 256. A text is a list of octets,
-- like the content of a datagram.
use Rattle.std.specs.Prelude.{◌≡◌, ℕ, zero, suc, ◌+◌, ◌-◌, ◌<◌, ◌≤◌, List, [], ◌∷◌, length, take, drop, filter, ◌==◌}
use Rattle.std.specs.List.{flat_map, AllByRecursion}

-- An attribute: its Type, and its Value.
pub record Attribute : Type 0 where
  pub kind : ℕ
  pub value : List ℕ

-- A valid attribute: its Type is one octet, and its Value has at most 253 octets. That the items of its Value are
-- octets is part of `IsPacketText`.
pub record IsAttribute (a : Attribute) : Type 0 where
  pub kind : a.kind < 256
  pub value : length a.value ≤ 253

-- The text of an attribute: Type, Length, which counts Type, Length and Value, and Value.
abbrev pub attribute_text : Attribute → List ℕ
attribute_text a = a.kind ∷ (length a.value + 2) ∷ a.value

-- The texts of attributes, joined.
abbrev pub joined : List Attribute → List ℕ
joined attributes = flat_map attribute_text attributes

-- These octets are the texts of these attributes, joined.
pub record IsJoined (octets : List ℕ) (attributes : List Attribute) : Type 0 where
  pub each : AllByRecursion IsAttribute attributes
  pub whole : octets ≡ joined attributes

-- These octets are texts of attributes, joined.
abbrev pub AreAttributes : List ℕ → Type 0
AreAttributes octets = (attributes : List Attribute) × IsJoined octets attributes

-- The first n attributes of octets that are texts of attributes, joined.
abbrev pub first_attributes : ℕ → List ℕ → List Attribute
first_attributes zero octets = []
first_attributes (suc n) [] = []
first_attributes (suc n) (kind ∷ []) = []
first_attributes (suc n) (kind ∷ len ∷ rest) =
    record { kind = kind; value = take (len - 2) rest } ∷ first_attributes n (drop (len - 2) rest)

-- All attributes of octets that are texts of attributes, joined. The law `attributes_of_joined` says
-- that this undoes `joined`; no text has more attributes than octets.
unfoldable pub attributes_of : List ℕ → List Attribute
attributes_of octets = first_attributes (length octets) octets

-- The attributes of one Type.
abbrev pub of_kind : ℕ → List Attribute → List Attribute
of_kind kind attributes = filter (λ a. a.kind == kind) attributes
