-- Lemmas on texts of attributes, joined.
use Rattle.std.proofs.Common.{◌≡◌, ℕ, zero, suc, ◌+◌, ◌-◌, ◌<◌, ◌≤◌, List, [], ◌∷◌, ◌++◌, length, get_or, take, drop, refl, ap, ◌∙◌, arith, length-append}
use Rattle.std.specs.List.{AllByRecursion}
use Rattle.std.proofs.lemmas.List.{take_at, drop_at}
use Rattle.rad_packet.specs.Attribute.{Attribute, IsAttribute, joined, IsJoined, AreAttributes, first_attributes, attributes_of}

-- an attribute by its parts
attribute_of_parts : (a : Attribute) (value : List ℕ) → value ≡ a.value → record { kind = a.kind; value = value } ≡ a
attribute_of_parts a value e = ap (λ v. record { kind = a.kind; value = v }) e

-- the first attributes of joined texts, as many as the octets at least, are all
pub first_attributes-joined : (n : ℕ) (xs : List Attribute) → length (joined xs) ≤ n → first_attributes n (joined xs) ≡ xs
first_attributes-joined zero [] h = refl
first_attributes-joined (suc n) [] h = refl
first_attributes-joined zero (a ∷ xs) h = absurd (omega arith)
first_attributes-joined (suc n) (a ∷ xs) h =
    let e : length a.value + 2 - 2 ≡ length a.value = omega arith in
    let t : take (length a.value + 2 - 2) (a.value ++ joined xs) ≡ a.value = rw e (take_at a.value (joined xs) (length a.value) refl) in
    let d : drop (length a.value + 2 - 2) (a.value ++ joined xs) ≡ joined xs = rw e (drop_at a.value (joined xs) (length a.value) refl) in
    let fits : length (joined xs) ≤ n = omega (arith, length-append a.value (joined xs)) in
    let rest : first_attributes n (drop (length a.value + 2 - 2) (a.value ++ joined xs)) ≡ xs = rw d (first_attributes-joined n xs fits) in
    ap (λ v. record { kind = a.kind; value = v } ∷ first_attributes n (drop (length a.value + 2 - 2) (a.value ++ joined xs))) t ∙ ap (λ ys. a ∷ ys) rest

pub attributes_of-joined : (xs : List Attribute) → attributes_of (joined xs) ≡ xs
unfolding attributes_of
attributes_of-joined xs = first_attributes-joined (length (joined xs)) xs (omega arith)

-- octets that are texts of attributes, joined, are those of their attributes
pub attributes_of-is : (octets : List ℕ) (xs : List Attribute) → IsJoined octets xs → attributes_of octets ≡ xs
attributes_of-is octets xs j = rw j.whole (attributes_of-joined xs)

-- the first attribute and the others
pub record Begins (octets : List ℕ) : Type 0 where
  pub attribute : Attribute
  pub others : List Attribute
  pub valid : IsAttribute attribute
  pub each : AllByRecursion IsAttribute others
  pub whole : octets ≡ joined (attribute ∷ others)

pub begins : (octets : List ℕ) (xs : List Attribute) → IsJoined octets xs → 0 < length octets → Begins octets
begins octets [] j h = absurd (omega (arith, ap length j.whole))
begins octets (a ∷ xs) j h = record { attribute = a; others = xs; valid = j.each.0; each = j.each.1; whole = j.whole }

-- What a reader of the first attribute sees: its Type, its Length, and the octets from its Value on.
module _ (rest : List ℕ) (b : Begins rest) where
  pub Begins-kind : get_or rest 0 0 ≡ b.attribute.kind
  Begins-kind = ap (λ xs. get_or xs 0 0) b.whole

  pub Begins-len : get_or rest 1 0 ≡ length b.attribute.value + 2
  Begins-len = ap (λ xs. get_or xs 1 0) b.whole

  pub Begins-tail : drop 2 rest ≡ b.attribute.value ++ joined b.others
  Begins-tail = ap (λ xs. drop 2 xs) b.whole

  pub Begins-attributes_of : attributes_of rest ≡ b.attribute ∷ b.others
  Begins-attributes_of = attributes_of-is rest (b.attribute ∷ b.others) (record { each = (b.valid, b.each); whole = b.whole })

  -- its Value and what follows it, where tail is what follows its Length
  pub Begins-value : (tail : List ℕ) (n : ℕ) → tail ≡ drop 2 rest → n ≡ get_or rest 1 0 → take (n - 2) tail ≡ b.attribute.value
  Begins-value tail n t e =
      let m : n - 2 ≡ length b.attribute.value = omega (arith, Begins-len) in
      rw (t, Begins-tail, m) (take_at b.attribute.value (joined b.others) (length b.attribute.value) refl)

  pub Begins-after : (tail : List ℕ) (n : ℕ) → tail ≡ drop 2 rest → n ≡ get_or rest 1 0 → drop (n - 2) tail ≡ joined b.others
  Begins-after tail n t e =
      let m : n - 2 ≡ length b.attribute.value = omega (arith, Begins-len) in
      rw (t, Begins-tail, m) (drop_at b.attribute.value (joined b.others) (length b.attribute.value) refl)

  pub Begins-fits : (tail : List ℕ) (n : ℕ) → tail ≡ drop 2 rest → n ≡ get_or rest 1 0 → n - 2 ≤ length tail
  Begins-fits tail n t e =
      omega (arith, Begins-len, ap length (t ∙ Begins-tail), length-append b.attribute.value (joined b.others))

-- octets with no room for an attribute are none
pub none_below_two : (octets : List ℕ) → AreAttributes octets → length octets < 2 → attributes_of octets ≡ []
none_below_two octets ([], j) h = attributes_of-is octets [] j
none_below_two octets (a ∷ xs, j) h = absurd (omega (arith, ap length j.whole))

-- The same, of octets that are texts of attributes, joined: n is the first one's Length, and tail what follows it.
module _ (rest tail : List ℕ) (n : ℕ) (all : AreAttributes rest) (some : 2 ≤ length rest) (t : tail ≡ drop 2 rest) (e : n ≡ get_or rest 1 0) where
  first : Begins rest
  first = let more : 0 < length rest = omega arith in begins rest all.0 all.1 more

  pub split_least : 2 ≤ n
  split_least = omega (arith, Begins-len rest first)

  pub split_fits : n - 2 ≤ length tail
  split_fits = Begins-fits rest first tail n t e

  pub split_rest : AreAttributes (drop (n - 2) tail)
  split_rest = (first.others, record { each = first.each; whole = Begins-after rest first tail n t e })

  pub split_attributes : attributes_of rest ≡ record { kind = get_or rest 0 0; value = take (n - 2) tail } ∷ attributes_of (drop (n - 2) tail)
  split_attributes =
      rw (Begins-attributes_of rest first, Begins-kind rest first, Begins-value rest first tail n t e, Begins-after rest first tail n t e, attributes_of-joined first.others) refl
