-- The walk that finds the last Proxy-State of a packet, where there is no Message-Authenticator.
use Rattle.std.proofs.Common.{◌≡◌, ◌≢◌, ℕ, ◌+◌, ◌≤◌, ◌==◌, true, false, List, [], ◌∷◌, length, Option, Some, None, refl, sym, ap, ◌∙◌}
use Rattle.rad_packet.specs.Attribute.{Attribute, attributes_of, of_kind}
use Rattle.rad_packet.specs.Packet.{IsPacketText, attribute_octets, packet_attributes}
use Rattle.rad_packet.specs.declared.packet_ref.AttributePlace.{AttributePlace}
use Rattle.rad_packet.proofs.Walk.{Seen, walked_none, seen_within, seen_this, seen_other, seen_all}
use Rattle.rad_auth.specs.internal.Returning.{IsLastOrNone}

-- none of the attributes that were seen is a Message-Authenticator, and this is the last Proxy-State of them
pub record StateSeen (text rest : List ℕ) (place : ℕ) (last : Option AttributePlace) : Type 0 where
  pub signs : of_kind 80 (attributes_of rest) ≡ of_kind 80 (packet_attributes text)
  pub seen : Seen 33 text rest place last

-- before the first step
pub state_none : (text rest : List ℕ) → rest ≡ attribute_octets text → StateSeen text rest 20 None
state_none text rest e = record {
  signs = ap (λ octets. of_kind 80 (attributes_of octets)) e;
  seen = record { before = []; walked = walked_none text rest e; none = refl };
}

-- at the end
pub state_all : (text rest : List ℕ) (place : ℕ) (last : Option AttributePlace) → StateSeen text rest place last → attributes_of rest ≡ [] → (of_kind 80 (packet_attributes text) ≡ []) × IsLastOrNone text last
state_all text rest place last s e = (sym s.signs ∙ ap (of_kind 80) e, seen_all 33 text rest place last s.seen e)

one_more : (a : Attribute) (rest : List Attribute) → (a.kind == 80) ≡ true → of_kind 80 (a ∷ rest) ≡ a ∷ of_kind 80 rest
one_more a rest same = rw same refl

no_more : (a : Attribute) (rest : List Attribute) → (a.kind == 80) ≡ false → of_kind 80 (a ∷ rest) ≡ of_kind 80 rest
no_more a rest other = rw other refl

not_none : (a : Attribute) (rest all : List Attribute) → a ∷ rest ≡ all → all ≢ []
not_none a rest all e h = let both : a ∷ rest ≡ [] = e ∙ h in absurd cc

-- one step: the next attribute is a, and rest' has the others
module _ (text rest rest' : List ℕ) (place : ℕ) (last : Option AttributePlace) (s : StateSeen text rest place last) (a : Attribute) (next : attributes_of rest ≡ a ∷ attributes_of rest') where
  -- a Message-Authenticator
  pub signed_here : (a.kind == 80) ≡ true → of_kind 80 (packet_attributes text) ≢ []
  signed_here same =
      not_none a (of_kind 80 (attributes_of rest')) (of_kind 80 (packet_attributes text))
      (sym (one_more a (attributes_of rest') same) ∙ ap (of_kind 80) (sym next) ∙ s.signs)

  signs_on : (a.kind == 80) ≡ false → of_kind 80 (attributes_of rest') ≡ of_kind 80 (packet_attributes text)
  signs_on other = sym (no_more a (attributes_of rest') other) ∙ ap (of_kind 80) (sym next) ∙ s.signs

  module _ (len : ℕ) (counted : len ≡ 2 + length a.value) where
    pub state_within : IsPacketText text → place + len ≤ length text
    state_within p = seen_within 33 text rest rest' place last s.seen a next len counted p

    -- a Proxy-State
    pub state_here : (a.kind == 80) ≡ false → a.kind ≡ 33 → StateSeen text rest' (place + len) (Some (record { place = place; length = len }))
    state_here other same = record { signs = signs_on other; seen = seen_this 33 text rest rest' place last s.seen a next len counted same }

    -- another attribute
    pub state_on : (a.kind == 80) ≡ false → (a.kind == 33) ≡ false → StateSeen text rest' (place + len) last
    state_on other apart = record { signs = signs_on other; seen = seen_other 33 text rest rest' place last s.seen a next len counted apart }
