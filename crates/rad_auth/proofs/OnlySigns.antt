-- The walk that finds the Message-Authenticator of a packet that has one alone.
use Rattle.std.proofs.Common.{◌≡◌, ◌≢◌, ℕ, ◌+◌, ◌≤◌, true, false, eqb, eq-eqb, List, [], ◌∷◌, length, Option, Some, None, is_some, refl, sym, ap, ◌∙◌, arith}
use Rattle.std.specs.Prelude.{MatchOption}
use Rattle.rad_packet.specs.Attribute.{Attribute, attributes_of, of_kind}
use Rattle.rad_packet.specs.Packet.{IsPacketText, attribute_octets, packet_attributes}
use Rattle.rad_packet.specs.Place.{IsLastAt}
use Rattle.rad_packet.specs.declared.packet_ref.AttributePlace.{AttributePlace}
use Rattle.rad_packet.proofs.Walk.{Seen, walked_none, seen_within, seen_this, seen_other, seen_all, last_within, count_this, count_other}

-- how many of the attributes that were seen are a Message-Authenticator
abbrev pub signs_seen : Option AttributePlace → ℕ
signs_seen None = 0
signs_seen (Some at) = 1

-- of the attributes that were seen one alone is a Message-Authenticator, at this place, or none is
pub record OnlySeen (text rest : List ℕ) (place : ℕ) (only : Option AttributePlace) : Type 0 where
  pub counted : signs_seen only + length (of_kind 80 (attributes_of rest)) ≡ length (of_kind 80 (packet_attributes text))
  pub seen : Seen 80 text rest place only

-- before the first step
pub only_none : (text rest : List ℕ) → rest ≡ attribute_octets text → OnlySeen text rest 20 None
only_none text rest e = record {
  counted = omega (arith, ap (λ octets. length (of_kind 80 (attributes_of octets))) e);
  seen = record { before = []; walked = walked_none text rest e; none = refl };
}

-- at the end
module _ (text rest : List ℕ) (place : ℕ) (p : IsPacketText text) where
  pub only_all : (only : Option AttributePlace) → OnlySeen text rest place only → attributes_of rest ≡ []
      → MatchOption only (length (of_kind 80 (packet_attributes text)) ≢ 1) (λ at. (length (of_kind 80 (packet_attributes text)) ≡ 1) × IsLastAt text 80 at.place at.length × (at.place + at.length ≤ length text))
  only_all None s e = λ one. omega (arith, one, s.counted, ap (λ xs. length (of_kind 80 xs)) e)
  only_all (Some at) s e =
      let last : IsLastAt text 80 at.place at.length = seen_all 80 text rest place (Some at) s.seen e in
      (omega (arith, s.counted, ap (λ xs. length (of_kind 80 xs)) e), last, last_within 80 text (Some at) p last)

-- one step: the next attribute is a, and rest' has the others
module _ (text rest rest' : List ℕ) (place : ℕ) (a : Attribute) (next : attributes_of rest ≡ a ∷ attributes_of rest') where
  module _ (len : ℕ) (counted : len ≡ 2 + length a.value) where
    pub only_within : (only : Option AttributePlace) → OnlySeen text rest place only → IsPacketText text → place + len ≤ length text
    only_within only s p = seen_within 80 text rest rest' place only s.seen a next len counted p

    -- a Message-Authenticator, and none was seen
    pub only_here : (only : Option AttributePlace) → OnlySeen text rest place only → is_some only ≡ false → a.kind ≡ 80 → OnlySeen text rest' (place + len) (Some (record { place = place; length = len }))
    only_here None s first same = record {
      counted = omega (arith, count_this 80 rest rest' a next (eq-eqb a.kind 80 same), s.counted);
      seen = seen_this 80 text rest rest' place None s.seen a next len counted same;
    }
    only_here (Some at) s first same = absurd cc

    -- another attribute
    pub only_on : (only : Option AttributePlace) → OnlySeen text rest place only → eqb a.kind 80 ≡ false → OnlySeen text rest' (place + len) only
    only_on only s other = record {
      counted = ap (λ n. signs_seen only + n) (sym (count_other 80 rest rest' a next other)) ∙ s.counted;
      seen = seen_other 80 text rest rest' place only s.seen a next len counted other;
    }

  -- a Message-Authenticator, and one was seen
  pub only_twice : (only : Option AttributePlace) → OnlySeen text rest place only → is_some only ≡ true → a.kind ≡ 80 → length (of_kind 80 (packet_attributes text)) ≢ 1
  only_twice None s second same = absurd cc
  only_twice (Some at) s second same = λ one.
      omega (arith, one, s.counted, count_this 80 rest rest' a next (eq-eqb a.kind 80 same))
