-- The mark: the Proxy-State (RFC 2865 section 5.33) that the proxy adds. Its content is own: the number of the lane
-- and the number of the record, each with its most significant octet first.
use Rattle.std.specs.Prelude.{◌≡◌, ℕ, List, [], ◌∷◌, ◌++◌}
use Rattle.std.specs.Int.{w16, w64, to_be_bytes}
use Rattle.rad_packet.specs.Attribute.{Attribute}
use Rattle.rad_packet.specs.Packet.{packet_attributes}
use Rattle.rad_auth.specs.declared.mark.Mark.{Mark}

unfoldable pub mark_value : Mark → List ℕ
mark_value mark = to_be_bytes w16 mark.lane ++ to_be_bytes w64 mark.number

-- The mark as an attribute.
abbrev pub mark_attribute : Mark → Attribute
mark_attribute mark = record { kind = 33; value = mark_value mark }

-- The mark's text, of twelve octets.
unfoldable pub mark_text : Mark → List ℕ
mark_text mark = 0x21 ∷ 0x0c ∷ mark_value mark

-- The last attribute of this packet's text is this mark.
pub record EndsWithMark (mark : Mark) (text : List ℕ) : Type 0 where
  pub before : List Attribute
  pub last : packet_attributes text ≡ before ++ mark_attribute mark ∷ []
