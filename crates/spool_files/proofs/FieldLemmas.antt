-- A field that is read is the field that was written, and what was written is read again.
use Rattle.std.proofs.Common.{◌≡◌, ℕ, zero, suc, ◌+◌, ◌^◌, ◌<◌, ◌≤◌, Bool, true, false, cond, ltb, List, [], ◌∷◌, ◌++◌, length, get_or, take, drop, Option, Some, None, refl, sym, ap, subst, ◌∙◌, append_assoc, arith, inl, inr}
use Rattle.std.specs.Int.{Width, w16, w32, w64, byte_len, from_be_bytes, to_be_bytes}
use Rattle.std.proofs.lemmas.Bool.{cases_lt, ltb-false, le-ltb}
use Rattle.std.proofs.lemmas.List.{take_at, drop_at, take-append-drop, length-append, length-take, get_or-drop, get_or-take, get_or_past}
use Rattle.std.proofs.lemmas.Nat.{be_bytes_2, be_bytes_4, be_bytes_8, from_be_bytes-to_be_bytes_2, from_be_bytes-to_be_bytes_4, from_be_bytes-to_be_bytes_8}
use Rattle.spool_files.specs.internal.Fields.{Reading, bind, first_at, octets_at, number_at, both_at, as_at}

abbrev pub AreOctets : List ℕ → Type 0
AreOctets octets = (i : ℕ) → get_or octets i 0 < 256

pub AreOctets-drop : (n : ℕ) (octets : List ℕ) → AreOctets octets → AreOctets (drop n octets)
AreOctets-drop n octets are i = rw get_or-drop (are (n + i))

AreOctets-take : (n : ℕ) (octets : List ℕ) → AreOctets octets → AreOctets (take n octets)
AreOctets-take n octets are i =
    elim (cases_lt i n) [
      | inl lt ↦ rw (get_or-take n octets i 0 lt) (are i)
      | inr le ↦ rw (get_or_past (take n octets) i 0 (omega (arith, length-take n octets))) (omega arith)
    ]

pub bind_some : {A B : Type 0} (o : Option A) (f : A → Option B) (y : B) → bind o f ≡ Some y → (x : A) × (o ≡ Some x) × (f x ≡ Some y)
bind_some (Some x) f y e = (x, refl, e)
bind_some None f y e = absurd cc

abbrev given : {A : Type 0} → A → Option A
given x = Some x

pub some_is : {A : Type 0} (x y : A) → given x ≡ given y → x ≡ y
some_is x y e = cc

-- a test that let its value through
pub passed : {A : Type 0} (b : Bool) (x y : A) → cond b None (Some x) ≡ Some y → (b ≡ false) × (x ≡ y)
passed true x y e = absurd cc
passed false x y e = (refl, cc)

-- what a reader took from the front
pub record Takes (octets text rest : List ℕ) : Type 0 where
  pub parts : octets ≡ text ++ rest
  pub are : AreOctets rest

pub Takes-then : (a x b y c : List ℕ) → Takes a x b → Takes b y c → Takes a (x ++ y) c
Takes-then a x b y c p q = record { parts = p.parts ∙ ap (λ (t : List ℕ). x ++ t) q.parts ∙ sym (append_assoc x y c); are = q.are }

-- what is read is spelled so, and what is spelled so is read
pub record IsField {A : Type 0} (at : Reading A) (text : A → List ℕ) (Fits : A → Type 0) : Type 0 where
  pub takes : (octets : List ℕ) (a : A) (rest : List ℕ) → AreOctets octets → at octets ≡ Some (a, rest) → Takes octets (text a) rest × Fits a
  pub again : (a : A) (rest : List ℕ) → Fits a → at (text a ++ rest) ≡ Some (a, rest)

pub both : {A B : Type 0} (first : Reading A) (text : A → List ℕ) (Fits : A → Type 0) (second : Reading B) (text' : B → List ℕ) (Fits' : B → Type 0)
    → IsField first text Fits → IsField second text' Fits' → IsField (both_at first second) (λ (p : A × B). text p.0 ++ text' p.1) (λ (p : A × B). Fits p.0 × Fits' p.1)
both {A} {B} first text Fits second text' Fits' one two = record {
  takes = λ octets p rest are e.
      let a = bind_some (first octets) (λ a. bind (second a.1) (λ b. Some ((a.0, b.0), b.1))) (p, rest) e in
      let b = bind_some (second a.0.1) (λ b. Some ((a.0.0, b.0), b.1)) (p, rest) a.2 in
      let t = one.takes octets a.0.0 a.0.1 are a.1 in
      let t' = two.takes a.0.1 b.0.0 b.0.1 t.0.are b.1 in
      subst (λ (x : (A × B) × List ℕ). Takes octets (text x.0.0 ++ text' x.0.1) x.1 × (Fits x.0.0 × Fits' x.0.1)) (some_is ((a.0.0, b.0.0), b.0.1) (p, rest) b.2)
      (Takes-then octets (text a.0.0) a.0.1 (text' b.0.0) b.0.1 t.0 t'.0, (t.1, t'.1));
  again = λ p rest fits.
      ap (both_at first second) (append_assoc (text p.0) (text' p.1) rest) ∙ rw (one.again p.0 (text' p.1 ++ rest) fits.0, two.again p.1 rest fits.1) refl;
}

pub as_other : {A B : Type 0} (at : Reading A) (text : A → List ℕ) (Fits : A → Type 0) (made : A → B) (parts : B → A)
    → ((a : A) → parts (made a) ≡ a) → ((b : B) → made (parts b) ≡ b) → IsField at text Fits → IsField (as_at made at) (λ (b : B). text (parts b)) (λ (b : B). Fits (parts b))
as_other {A} {B} at text Fits made parts there back one = record {
  takes = λ octets b rest are e.
      let a = bind_some (at octets) (λ a. Some (made a.0, a.1)) (b, rest) e in
      let t = one.takes octets a.0.0 a.0.1 are a.1 in
      subst (λ (x : B × List ℕ). Takes octets (text (parts x.0)) x.1 × Fits (parts x.0)) (some_is (made a.0.0, a.0.1) (b, rest) a.2)
      (subst (λ (y : A). Takes octets (text y) a.0.1 × Fits y) (sym (there a.0.0)) t);
  again = λ b rest fits. rw (one.again (parts b) rest fits) (ap (λ (x : B). given (x, rest)) (back b));
}

-- ---- octets

pub octets_field : (count : ℕ) → IsField (octets_at count) (λ (text : List ℕ). text) (λ (text : List ℕ). length text ≡ count)
unfolding octets_at
octets_field count = record {
  takes = λ octets text rest are e.
      let g = passed (ltb (length octets) count) (take count octets, drop count octets) (text, rest) e in
      let long : count ≤ length octets = ltb-false _ _ g.0 in
      subst (λ (x : List ℕ × List ℕ). Takes octets x.0 x.1 × (length x.0 ≡ count)) g.1
      (record { parts = sym (take-append-drop count octets); are = AreOctets-drop count octets are }, omega (arith, length-take count octets));
  again = λ text rest fits.
      let long : ltb (length (text ++ rest)) count ≡ false = le-ltb _ _ (omega (arith, length-append text rest)) in
      rw (long, take_at text rest count fits, drop_at text rest count fits) refl;
}

AreOctets-rest : (octet : ℕ) (octets : List ℕ) → AreOctets (octet ∷ octets) → AreOctets octets
AreOctets-rest octet octets are i = are (suc i)

first_takes : (octets : List ℕ) (octet : ℕ) (rest : List ℕ) → AreOctets octets → first_at octets ≡ Some (octet, rest) → Takes octets (octet ∷ []) rest × (octet < 2 ^ 8)
first_takes [] octet rest are e = absurd cc
first_takes (first ∷ others) octet rest are e =
    subst (λ (x : ℕ × List ℕ). Takes (first ∷ others) (x.0 ∷ []) x.1 × (x.0 < 2 ^ 8)) (some_is (first, others) (octet, rest) e)
    (record { parts = refl; are = AreOctets-rest first others are }, are 0)

pub first_field : IsField first_at (λ (octet : ℕ). octet ∷ []) (λ (octet : ℕ). octet < 2 ^ 8)
first_field = record { takes = first_takes; again = λ octet rest fits. refl }

-- ---- numbers

record IsWide (w : Width) (limit : ℕ) : Type 0 where
  pub len : (n : ℕ) → length (to_be_bytes w n) ≡ byte_len w
  pub back : (octets : List ℕ) → length octets ≡ byte_len w → AreOctets octets → to_be_bytes w (from_be_bytes w octets) ≡ octets
  pub again : (n : ℕ) → n < limit → from_be_bytes w (to_be_bytes w n) ≡ n
  pub below : (octets : List ℕ) → AreOctets octets → from_be_bytes w octets < limit

wide16 : IsWide w16 (2 ^ 16)
wide16 = record {
  len = λ n. refl;
  back = λ octets len are. be_bytes_2 octets _ len are refl;
  again = λ n lt. from_be_bytes-to_be_bytes_2 n lt;
  below = λ octets are. omega (arith, are 0, are 1);
}

wide32 : IsWide w32 (2 ^ 32)
wide32 = record {
  len = λ n. refl;
  back = λ octets len are. be_bytes_4 octets _ len are refl;
  again = λ n lt. from_be_bytes-to_be_bytes_4 n lt;
  below = λ octets are. omega (arith, are 0, are 1, are 2, are 3);
}

wide64 : IsWide w64 (2 ^ 64)
wide64 = record {
  len = λ n. refl;
  back = λ octets len are. be_bytes_8 octets _ len are refl;
  again = λ n lt. from_be_bytes-to_be_bytes_8 n lt;
  below = λ octets are. omega (arith, are 0, are 1, are 2, are 3, are 4, are 5, are 6, are 7);
}

number_field : (w : Width) (limit : ℕ) → IsWide w limit → IsField (number_at w) (to_be_bytes w) (λ (n : ℕ). n < limit)
unfolding number_at
number_field w limit wide = record {
  takes = λ octets n rest are e.
      let g = passed (ltb (length octets) (byte_len w)) (from_be_bytes w (take (byte_len w) octets), drop (byte_len w) octets) (n, rest) e in
      let long : byte_len w ≤ length octets = ltb-false _ _ g.0 in
      let front = take (byte_len w) octets in
      let front_are : AreOctets front = AreOctets-take (byte_len w) octets are in
      let back : to_be_bytes w (from_be_bytes w front) ≡ front = wide.back front (omega (arith, length-take (byte_len w) octets)) front_are in
      subst (λ (x : ℕ × List ℕ). Takes octets (to_be_bytes w x.0) x.1 × (x.0 < limit)) g.1
      (record { parts = rw back (sym (take-append-drop (byte_len w) octets)); are = AreOctets-drop (byte_len w) octets are }, wide.below front front_are);
  again = λ n rest lt.
      let len = wide.len n in
      let long : ltb (length (to_be_bytes w n ++ rest)) (byte_len w) ≡ false = le-ltb _ _ (omega (arith, length-append (to_be_bytes w n) rest)) in
      rw (long, take_at (to_be_bytes w n) rest (byte_len w) len, drop_at (to_be_bytes w n) rest (byte_len w) len, wide.again n lt) refl;
}

pub field16 : IsField (number_at w16) (to_be_bytes w16) (λ (n : ℕ). n < 2 ^ 16)
field16 = number_field w16 (2 ^ 16) wide16

pub field32 : IsField (number_at w32) (to_be_bytes w32) (λ (n : ℕ). n < 2 ^ 32)
field32 = number_field w32 (2 ^ 32) wide32

pub field64 : IsField (number_at w64) (to_be_bytes w64) (λ (n : ℕ). n < 2 ^ 64)
field64 = number_field w64 (2 ^ 64) wide64

-- ---- elements

-- so many elements from one on
abbrev pub from_on : ℕ → ℕ → List ℕ → List ℕ
from_on zero i l = []
from_on (suc n) i l = get_or l i 0 ∷ from_on n (suc i) l

behind_one : (n i x : ℕ) (xs : List ℕ) → from_on n (suc i) (x ∷ xs) ≡ from_on n i xs
behind_one zero i x xs = refl
behind_one (suc n) i x xs = ap (λ (l : List ℕ). get_or xs i 0 ∷ l) (behind_one n (suc i) x xs)

-- a list is its elements
pub whole : (n : ℕ) (l : List ℕ) → length l ≡ n → from_on n 0 l ≡ l
whole zero [] e = refl
whole zero (x ∷ xs) e = absurd (omega (arith, e))
whole (suc n) [] e = absurd (omega (arith, e))
whole (suc n) (x ∷ xs) e = ap (λ (l : List ℕ). x ∷ l) (behind_one n 0 x xs ∙ whole n xs (omega (arith, e)))
