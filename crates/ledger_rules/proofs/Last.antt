-- The last attribute of a packet.
use Rattle.std.proofs.Common.{◌≡◌, ℕ, List, [], ◌∷◌, ◌++◌, refl, sym, ap, ◌∙◌, Option, Some, None, MatchOption, append_assoc, length, drop, arith, length-append}
use Rattle.std.proofs.lemmas.List.{same_from_push, append-nil}
use Rattle.rad_packet.specs.Attribute.{Attribute, attributes_of}
use Rattle.rad_packet.specs.Packet.{packet_attributes}
use Rattle.rad_packet.specs.Item.{attribute_at}
use Rattle.rad_packet.specs.declared.attributes.AttributeRef.{AttributeRef}
use Rattle.rad_auth.specs.Mark.{EndsWithMark, mark_attribute}
use Rattle.rad_auth.specs.declared.mark.Mark.{Mark}

-- The last one of these attributes, where there is one.
abbrev pub IsLast : List Attribute → Option AttributeRef → Type 0
IsLast attributes last = MatchOption last (attributes ≡ []) (λ a. (before : List Attribute) × (attributes ≡ before ++ attribute_at a ∷ []))

-- The attributes that were seen, and those of the rest.
pub record Seen (text rest : List ℕ) (last : Option AttributeRef) : Type 0 where
  pub seen : List Attribute
  pub split : packet_attributes text ≡ seen ++ attributes_of rest
  pub last_is : IsLast seen last

pub seen_none : (text rest : List ℕ) → rest ≡ drop 20 text → Seen text rest None
seen_none text rest e = record { seen = []; split = sym (ap attributes_of e); last_is = refl }

pub seen_more : (text rest rest' : List ℕ) (last : Option AttributeRef) (a : AttributeRef) → Seen text rest last → attributes_of rest ≡ attribute_at a ∷ attributes_of rest' → Seen text rest' (Some a)
seen_more text rest rest' last a s next = record {
  seen = s.seen ++ attribute_at a ∷ [];
  split = s.split ∙ ap (λ xs. s.seen ++ xs) next ∙ sym (append_assoc s.seen (attribute_at a ∷ []) (attributes_of rest'));
  last_is = (s.seen, refl);
}

pub seen_all : (text rest : List ℕ) (last : Option AttributeRef) → Seen text rest last → attributes_of rest ≡ [] → IsLast (packet_attributes text) last
seen_all text rest None s end = s.split ∙ ap (λ xs. s.seen ++ xs) end ∙ append-nil s.seen ∙ s.last_is
seen_all text rest (Some a) s end = (s.last_is.0, s.split ∙ ap (λ xs. s.seen ++ xs) end ∙ append-nil s.seen ∙ s.last_is.1)

module _ (text : List ℕ) (mark : Mark) where
  pub none_ends : packet_attributes text ≡ [] → ¬ EndsWithMark mark text
  none_ends e ends = omega (arith, ap length (sym e ∙ ends.last), length-append ends.before (mark_attribute mark ∷ []))

  module _ (a : Attribute) (before : List Attribute) (e : packet_attributes text ≡ before ++ a ∷ []) where
    pub same_ends : a ≡ mark_attribute mark → EndsWithMark mark text
    same_ends same = record { before = before; last = e ∙ ap (λ x. before ++ x ∷ []) same }

    pub ends_same : EndsWithMark mark text → a ≡ mark_attribute mark
    ends_same ends = (same_from_push before ends.before a (mark_attribute mark) (sym e ∙ ends.last)).1
