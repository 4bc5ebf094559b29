-- When an attribute is a mark, by its parts.
use Rattle.std.proofs.Common.{◌≡◌, ℕ, List, ◌++◌, length, take, drop, refl, sym, ap, ◌∙◌}
use Rattle.std.proofs.lemmas.List.{take_at, drop_at, take-append-drop}
use Rattle.std.specs.Int.{w16, w64, to_be_bytes}
use Rattle.rad_packet.specs.Attribute.{Attribute}
use Rattle.rad_packet.specs.Item.{attribute_at}
use Rattle.rad_packet.specs.declared.attributes.AttributeRef.{AttributeRef}
use Rattle.rad_auth.specs.Mark.{mark_value, mark_attribute}
use Rattle.rad_auth.specs.declared.mark.Mark.{Mark}

abbrev with_parts : ℕ → List ℕ → Attribute
with_parts k v = record { kind = k; value = v }

pub mark_by : (a : AttributeRef) (mark : Mark) → a.kind ≡ 33 → a.value.now ≡ mark_value mark → attribute_at a ≡ mark_attribute mark
mark_by a mark k v = ap (λ (x : ℕ). with_parts x a.value.now) k ∙ ap (λ (x : List ℕ). with_parts 33 x) v

pub kind_of_mark : (a : AttributeRef) (mark : Mark) → attribute_at a ≡ mark_attribute mark → a.kind ≡ 33
kind_of_mark a mark e = ap (λ (x : Attribute). x.kind) e

pub value_of_mark : (a : AttributeRef) (mark : Mark) → attribute_at a ≡ mark_attribute mark → a.value.now ≡ mark_value mark
value_of_mark a mark e = ap (λ (x : Attribute). x.value) e

module _ (value : List ℕ) (mark : Mark) where
  pub mark_value_by : take 2 value ≡ to_be_bytes w16 mark.lane → drop 2 value ≡ to_be_bytes w64 mark.number → value ≡ mark_value mark
  unfolding mark_value
  mark_value_by l n =
      sym (take-append-drop 2 value) ∙ ap (λ (x : List ℕ). x ++ drop 2 value) l ∙ ap (λ (x : List ℕ). to_be_bytes w16 mark.lane ++ x) n

  pub length_of_value : value ≡ mark_value mark → length value ≡ 10
  unfolding mark_value
  length_of_value e = ap (λ (x : List ℕ). length x) e

  pub lane_of_value : value ≡ mark_value mark → take 2 value ≡ to_be_bytes w16 mark.lane
  unfolding mark_value
  lane_of_value e = ap (λ (x : List ℕ). take 2 x) e ∙ take_at (to_be_bytes w16 mark.lane) (to_be_bytes w64 mark.number) 2 refl

  pub number_of_value : value ≡ mark_value mark → drop 2 value ≡ to_be_bytes w64 mark.number
  unfolding mark_value
  number_of_value e = ap (λ (x : List ℕ). drop 2 x) e ∙ drop_at (to_be_bytes w16 mark.lane) (to_be_bytes w64 mark.number) 2 refl
