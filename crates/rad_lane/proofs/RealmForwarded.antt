-- A request that is forwarded is of the realm that it was of.
use Rattle.std.proofs.Common.{◌≡◌, ℕ, List, [], ◌∷◌, ◌++◌, Option, Some, None, refl, sym, ap, ◌∙◌, subst}
use Rattle.std.specs.Prelude.{find, ◌==◌, option_map, option_and_then}
use Rattle.std.proofs.lemmas.List.Folds.{find-append}
use Rattle.std.specs.Option.{option_or}
use Rattle.rad_packet.specs.Attribute.{Attribute}
use Rattle.rad_packet.specs.Packet.{IsPacketText, packet_attributes}
use Rattle.rad_auth.specs.declared.mark.Mark.{Mark}
use Rattle.rad_auth.specs.Forwarding.{forwarded}
use Rattle.rad_auth.specs.Mark.{mark_attribute}
use Rattle.rad_auth.proofs.Forwards.{forwarded-attributes}
use Rattle.rad_realms.specs.Realm.{user_name, realm_of_packet, realm_in}
use Rattle.rad_lane.specs.Setup.{LaneSetup, LeadsHere, IsOfItsRealms}

-- a choice with none behind it
pub or_none : {X : Type 0} (o : Option X) → option_or o None ≡ o
or_none None = refl
or_none (Some x) = refl

-- the mark is no User-Name
name_before_mark : (attributes : List Attribute) (mark : Mark) → find (λ a. a.kind == 1) (attributes ++ mark_attribute mark ∷ []) ≡ find (λ a. a.kind == 1) attributes
name_before_mark attributes mark = find-append (λ a. a.kind == 1) attributes (mark_attribute mark ∷ []) ∙ or_none (find (λ a. a.kind == 1) attributes)

same_name_forwarded : (text : List ℕ) (mark : Mark) (identifier : ℕ) (secret : List ℕ) → IsPacketText text → user_name (forwarded text mark identifier secret) ≡ user_name text
unfolding user_name
same_name_forwarded text mark identifier secret p =
    ap (λ o. option_map (λ (a : Attribute). a.value) o)
    (ap (find (λ a. a.kind == 1)) (forwarded-attributes text mark identifier secret p) ∙ name_before_mark (packet_attributes text) mark)

pub realm_forwarded : (text : List ℕ) (mark : Mark) (identifier : ℕ) (secret : List ℕ) → IsPacketText text → realm_of_packet (forwarded text mark identifier secret) ≡ realm_of_packet text
unfolding realm_of_packet
realm_forwarded text mark identifier secret p = ap (option_and_then realm_in) (same_name_forwarded text mark identifier secret p)

pub leads_forwarded : (setup : LaneSetup) (text : List ℕ) (mark : Mark) (identifier : ℕ) (secret : List ℕ) → IsPacketText text → IsOfItsRealms setup text → IsOfItsRealms setup (forwarded text mark identifier secret)
leads_forwarded setup text mark identifier secret p h = subst (λ o. LeadsHere setup o) (sym (realm_forwarded text mark identifier secret p)) h
