-- A walk over the attributes of a packet.
use Rattle.std.proofs.Common.{◌≡◌, ℕ, zero, suc, ◌+◌, ◌-◌, ◌≤◌, Bool, true, false, cond, eqb, List, [], ◌∷◌, ◌++◌, length, drop, refl, sym, ap, subst, ◌∙◌, arith, length-append, length-drop, append_assoc}
use Rattle.std.proofs.lemmas.List.{append-nil}
use Rattle.std.specs.Prelude.{filter, Option, Some, None, MatchOption, IfSome}
use Rattle.rad_packet.specs.Attribute.{Attribute, attribute_text, joined, first_attributes, attributes_of, of_kind}
use Rattle.rad_packet.specs.Packet.{IsPacketText, packet_attributes}
use Rattle.rad_packet.specs.Place.{StandsAt, IsLastAt}
use Rattle.rad_packet.specs.declared.packet_ref.AttributePlace.{AttributePlace}
use Rattle.rad_packet.proofs.Joined.{attributes_of-is}

-- octets have no more attributes than octets
pub length-first_attributes : (n : ℕ) (octets : List ℕ) → length (first_attributes n octets) ≤ n
length-first_attributes zero octets = omega arith
length-first_attributes (suc n) [] = omega arith
length-first_attributes (suc n) (kind ∷ []) = omega arith
length-first_attributes (suc n) (kind ∷ len ∷ rest) = omega (arith, length-first_attributes n (drop (len - 2) rest))

pub length-attributes_of : (octets : List ℕ) → length (attributes_of octets) ≤ length octets
unfolding attributes_of
length-attributes_of octets = length-first_attributes (length octets) octets

pub length-filter-le : (p : Attribute → Bool) (xs : List Attribute) → length (filter p xs) ≤ length xs
length-filter-le p [] = omega arith
length-filter-le p (x ∷ xs) = elim (p x) as (λ b. length (cond b (x ∷ filter p xs) (filter p xs)) ≤ suc (length xs)) [ true ↦ omega (arith, length-filter-le p xs) | false ↦ omega (arith, length-filter-le p xs) ]

-- texts joined, and more texts joined
pub joined-append : (xs ys : List Attribute) → joined (xs ++ ys) ≡ joined xs ++ joined ys
joined-append [] ys = refl
joined-append (x ∷ xs) ys = ap (λ more. attribute_text x ++ more) (joined-append xs ys) ∙ sym (append_assoc (attribute_text x) (joined xs) (joined ys))

pub of_kind-append : (kind : ℕ) (xs ys : List Attribute) → of_kind kind (xs ++ ys) ≡ of_kind kind xs ++ of_kind kind ys
of_kind-append kind [] ys = refl
of_kind-append kind (x ∷ xs) ys =
    elim (eqb x.kind kind) as (λ b. cond b (x ∷ of_kind kind (xs ++ ys)) (of_kind kind (xs ++ ys)) ≡ cond b (x ∷ of_kind kind xs) (of_kind kind xs) ++ of_kind kind ys)
    [ true ↦ ap (λ more. x ∷ more) (of_kind-append kind xs ys) | false ↦ of_kind-append kind xs ys ]

-- the octets behind a packet's header are the texts of its attributes, joined
pub joined-packet_attributes : (text : List ℕ) → IsPacketText text → joined (packet_attributes text) ≡ drop 20 text
joined-packet_attributes text p = rw (attributes_of-is (drop 20 text) p.attributes.0 p.attributes.1) (sym p.attributes.1.whole)

-- these attributes of the packet were seen, rest has the others, and its first octet stands at this place
pub record Walked (text rest : List ℕ) (place : ℕ) (before : List Attribute) : Type 0 where
  pub split : packet_attributes text ≡ before ++ attributes_of rest
  pub offset : place ≡ 20 + length (joined before)

-- none of them has this Type
pub record NoneSeen (kind : ℕ) (text rest : List ℕ) (place : ℕ) : Type 0 where
  pub before : List Attribute
  pub walked : Walked text rest place before
  pub none : of_kind kind before ≡ []

-- the last attribute of this Type among those that were seen
pub record LastSeen (kind : ℕ) (text rest : List ℕ) (place at len : ℕ) : Type 0 where
  pub earlier : List Attribute
  pub attribute : Attribute
  pub later : List Attribute
  pub walked : Walked text rest place (earlier ++ attribute ∷ later)
  pub offset : at ≡ 20 + length (joined earlier)
  pub counted : len ≡ length attribute.value + 2
  pub has_kind : attribute.kind ≡ kind
  pub none : of_kind kind later ≡ []

-- before the first step nothing was seen
pub walked_none : (text rest : List ℕ) → rest ≡ drop 20 text → Walked text rest 20 []
walked_none text rest e = record { split = ap attributes_of (sym e); offset = refl }

-- at the end all were seen
pub walked_all : (text rest : List ℕ) (place : ℕ) (before : List Attribute) → Walked text rest place before → attributes_of rest ≡ [] → packet_attributes text ≡ before
walked_all text rest place before w e = w.split ∙ ap (λ xs. before ++ xs) e ∙ append-nil before

length-joined_push : (before : List Attribute) (a : Attribute) → length (joined (before ++ a ∷ [])) ≡ length (joined before) + (2 + length a.value)
length-joined_push before a =
    ap length (joined-append before (a ∷ [])) ∙ (length-append (joined before) (joined (a ∷ []))
    ∙ ap (λ n. length (joined before) + n) (ap length (append-nil (attribute_text a)) ∙ omega arith))

-- an attribute of a packet stands within it
pub stands_within : (text : List ℕ) (before : List Attribute) (a : Attribute) (after : List Attribute) (place len : ℕ) → IsPacketText text → StandsAt text before a after place len → place + len ≤ length text
stands_within text before a after place len p s =
    let octets : length (drop 20 text) ≡ length (joined (before ++ a ∷ after)) =
    ap length (sym (joined-packet_attributes text p) ∙ ap joined s.split) in
    let parts : length (joined (before ++ a ∷ after)) ≡ length (joined before) + length (joined (a ∷ after)) =
    ap length (joined-append before (a ∷ after)) ∙ length-append (joined before) (joined (a ∷ after)) in
    omega (arith, s.offset, s.counted, octets, parts, p.least, length-drop 20 text, length-append (attribute_text a) (joined after))

-- one step: the next attribute is a, and rest' has the others
module _ (text rest rest' : List ℕ) (place : ℕ) (before : List Attribute) (a : Attribute) (w : Walked text rest place before) (next : attributes_of rest ≡ a ∷ attributes_of rest') where
  pub walked_split : packet_attributes text ≡ before ++ a ∷ attributes_of rest'
  walked_split = w.split ∙ ap (λ xs. before ++ xs) next

  pub walked_more : (len : ℕ) → len ≡ 2 + length a.value → Walked text rest' (place + len) (before ++ a ∷ [])
  walked_more len e = record {
    split = walked_split ∙ sym (append_assoc before (a ∷ []) (attributes_of rest'));
    offset = omega (arith, w.offset, e, length-joined_push before a);
  }

  pub walked_stands : (len : ℕ) → len ≡ 2 + length a.value → StandsAt text before a (attributes_of rest') place len
  walked_stands len e = record { split = walked_split; offset = w.offset; counted = omega (arith, e) }

  pub walked_within : IsPacketText text → (len : ℕ) → len ≡ 2 + length a.value → place + len ≤ length text
  walked_within p len e = stands_within text before a (attributes_of rest') place len p (walked_stands len e)

  pub none_more : (kind : ℕ) → of_kind kind before ≡ [] → eqb a.kind kind ≡ false → of_kind kind (before ++ a ∷ []) ≡ []
  none_more kind none other =
      of_kind-append kind before (a ∷ []) ∙ ap (λ xs. xs ++ of_kind kind (a ∷ [])) none ∙ rw other refl

-- what the last attribute of this Type was among those that were seen, if there was one
abbrev pub Seen : ℕ → List ℕ → List ℕ → ℕ → Option AttributePlace → Type 0
Seen kind text rest place last =
    MatchOption last (NoneSeen kind text rest place) (λ found. LastSeen kind text rest place found.place found.length)

seen_walked : (kind : ℕ) (text rest : List ℕ) (place : ℕ) (last : Option AttributePlace) → Seen kind text rest place last → (before : List Attribute) × Walked text rest place before
seen_walked kind text rest place None s = (s.before, s.walked)
seen_walked kind text rest place (Some found) s = (s.earlier ++ s.attribute ∷ s.later, s.walked)

module _ (kind : ℕ) (text rest rest' : List ℕ) (place : ℕ) (last : Option AttributePlace) (s : Seen kind text rest place last) (a : Attribute) (next : attributes_of rest ≡ a ∷ attributes_of rest') (len : ℕ) (e : len ≡ 2 + length a.value) where
  pub seen_within : IsPacketText text → place + len ≤ length text
  seen_within p =
      let w = seen_walked kind text rest place last s in
      walked_within text rest rest' place w.0 a w.1 next p len e

  -- the next attribute has this Type
  pub seen_this : a.kind ≡ kind → LastSeen kind text rest' (place + len) place len
  seen_this k =
      let w = seen_walked kind text rest place last s in
      record {
        earlier = w.0;
        attribute = a;
        later = [];
        walked = walked_more text rest rest' place w.0 a w.1 next len e;
        offset = w.1.offset;
        counted = omega (arith, e);
        has_kind = k;
        none = refl;
      }

-- the next attribute has another Type
pub seen_other : (kind : ℕ) (text rest rest' : List ℕ) (place : ℕ) (last : Option AttributePlace) (s : Seen kind text rest place last) (a : Attribute) (next : attributes_of rest ≡ a ∷ attributes_of rest') (len : ℕ) (e : len ≡ 2 + length a.value) → eqb a.kind kind ≡ false → Seen kind text rest' (place + len) last
seen_other kind text rest rest' place None s a next len e k = record {
  before = s.before ++ a ∷ [];
  walked = walked_more text rest rest' place s.before a s.walked next len e;
  none = none_more text rest rest' place s.before a s.walked next kind s.none k;
}
seen_other kind text rest rest' place (Some found) s a next len e k =
    let w = walked_more text rest rest' place (s.earlier ++ s.attribute ∷ s.later) a s.walked next len e in
    let same : (s.earlier ++ s.attribute ∷ s.later) ++ a ∷ [] ≡ s.earlier ++ s.attribute ∷ (s.later ++ a ∷ []) =
    append_assoc s.earlier (s.attribute ∷ s.later) (a ∷ []) in
    record {
      earlier = s.earlier;
      attribute = s.attribute;
      later = s.later ++ a ∷ [];
      walked = subst (Walked text rest' (place + len)) same w;
      offset = s.offset;
      counted = s.counted;
      has_kind = s.has_kind;
      none = of_kind-append kind s.later (a ∷ []) ∙ ap (λ xs. xs ++ of_kind kind (a ∷ [])) s.none ∙ rw k refl;
    }

-- at the end the last one that was seen is the last one
pub seen_all : (kind : ℕ) (text rest : List ℕ) (place : ℕ) (last : Option AttributePlace) → Seen kind text rest place last → attributes_of rest ≡ [] → MatchOption last (of_kind kind (packet_attributes text) ≡ []) (λ found. IsLastAt text kind found.place found.length)
seen_all kind text rest place None s e = ap (of_kind kind) (walked_all text rest place s.before s.walked e) ∙ s.none
seen_all kind text rest place (Some found) s e = record {
  before = s.earlier;
  attribute = s.attribute;
  after = s.later;
  stands = record { split = walked_all text rest place (s.earlier ++ s.attribute ∷ s.later) s.walked e; offset = s.offset; counted = s.counted };
  has_kind = s.has_kind;
  last = s.none;
}

pub last_within : (kind : ℕ) (text : List ℕ) (last : Option AttributePlace) → IsPacketText text → MatchOption last (of_kind kind (packet_attributes text) ≡ []) (λ found. IsLastAt text kind found.place found.length) → IfSome last (λ found. found.place + found.length ≤ length text)
last_within kind text None p m = tt
last_within kind text (Some found) p m = stands_within text m.before m.attribute m.after found.place found.length p m.stands

-- the count of those of this Type, one attribute on
module _ (kind : ℕ) (rest rest' : List ℕ) (a : Attribute) (next : attributes_of rest ≡ a ∷ attributes_of rest') where
  pub count_this : eqb a.kind kind ≡ true → length (of_kind kind (attributes_of rest)) ≡ suc (length (of_kind kind (attributes_of rest')))
  count_this k = rw (next, k) refl

  pub count_other : eqb a.kind kind ≡ false → length (of_kind kind (attributes_of rest)) ≡ length (of_kind kind (attributes_of rest'))
  count_other k = rw (next, k) refl

pub count_small : (kind : ℕ) (octets : List ℕ) → length (of_kind kind (attributes_of octets)) ≤ length octets
count_small kind octets = omega (arith, length-filter-le (λ a. eqb a.kind kind) (attributes_of octets), length-attributes_of octets)
