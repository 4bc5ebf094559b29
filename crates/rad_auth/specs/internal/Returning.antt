-- The place of an attribute in a reply, and the reply without that attribute (own). No public clause cites this
-- module.
use Rattle.std.specs.Prelude.{◌≡◌, ℕ, ◌+◌, List, [], ◌++◌, drop, slice_range, Option, MatchOption}
use Rattle.rad_packet.specs.Attribute.{Attribute, of_kind}
use Rattle.rad_packet.specs.Packet.{packet_attributes}
use Rattle.rad_packet.specs.Place.{StandsAt, IsLastAt}
use Rattle.rad_packet.specs.declared.packet_ref.AttributePlace.{AttributePlace}
use Rattle.rad_auth.specs.Answers.{ReturnsMark}
use Rattle.rad_auth.specs.Mark.{mark_attribute}
use Rattle.rad_auth.specs.declared.mark.Mark.{Mark}

-- An attribute with this Length begins at this place.
pub record HasAttributeAt (text : List ℕ) (place len : ℕ) : Type 0 where
  pub before : List Attribute
  pub attribute : Attribute
  pub after : List Attribute
  pub stands : StandsAt text before attribute after place len

-- The last Proxy-State of the reply is the mark of the sending. It begins at this place and has this Length.
pub record IsReturnedAt (sending reply : List ℕ) (place len : ℕ) : Type 0 where
  pub mark : Mark
  pub before : List Attribute
  pub after : List Attribute
  pub returned : ReturnsMark sending reply mark before after
  pub stands : StandsAt reply before (mark_attribute mark) after place len

-- The last Proxy-State of the text is at this place; or there is no place, and the text has no Proxy-State.
abbrev pub IsLastOrNone : List ℕ → Option AttributePlace → Type 0
IsLastOrNone text last =
    MatchOption last (of_kind 33 (packet_attributes text) ≡ []) (λ at. IsLastAt text 33 at.place at.length)

-- The octets of the attributes without the one at this place.
unfoldable pub octets_without : List ℕ → ℕ → ℕ → List ℕ
octets_without text place len = slice_range text 20 place ++ drop (place + len) text
