-- The place of an attribute in a packet's text.
use Rattle.std.specs.Prelude.{◌≡◌, ℕ, ◌+◌, List, [], ◌∷◌, ◌++◌, length}
use Rattle.rad_packet.specs.Attribute.{Attribute, joined, of_kind}
use Rattle.rad_packet.specs.Packet.{packet_attributes}

-- This attribute of the packet begins at this place and has this Length. `before` are the attributes before it, and
-- `after` those after it.
pub record StandsAt (text : List ℕ) (before : List Attribute) (a : Attribute) (after : List Attribute) (place len : ℕ) : Type 0 where
  pub split : packet_attributes text ≡ before ++ a ∷ after
  pub offset : place ≡ 20 + length (joined before)
  pub counted : len ≡ length a.value + 2

-- The first attribute of this Type begins at this place and has this Length.
pub record IsFirstAt (text : List ℕ) (kind place len : ℕ) : Type 0 where
  pub before : List Attribute
  pub attribute : Attribute
  pub after : List Attribute
  pub stands : StandsAt text before attribute after place len
  pub has_kind : attribute.kind ≡ kind
  pub first : of_kind kind before ≡ []

-- The last attribute of this Type begins at this place and has this Length.
pub record IsLastAt (text : List ℕ) (kind place len : ℕ) : Type 0 where
  pub before : List Attribute
  pub attribute : Attribute
  pub after : List Attribute
  pub stands : StandsAt text before attribute after place len
  pub has_kind : attribute.kind ≡ kind
  pub last : of_kind kind after ≡ []
