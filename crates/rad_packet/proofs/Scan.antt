-- The look for an attribute that is invalid.
use Rattle.std.proofs.Common.{◌≡◌, ℕ, ◌+◌, ◌-◌, ◌<◌, ◌≤◌, List, ◌++◌, length, take, drop, refl, sym, ap, subst, ◌∙◌, arith, length-append, length-drop, length-take, get_or-take, slice_range, ◌⊎◌, inl, inr}
use Rattle.std.proofs.Math.Seq.{take-add}
use Rattle.std.proofs.lemmas.List.{take_at, drop-drop, take_rest, drop-take, take-take}
use Rattle.rad_packet.specs.Attribute.{attribute_text, AreAttributes}
use Rattle.rad_packet.specs.Packet.{AreOctets, IsPacketText, length_of}
use Rattle.rad_packet.specs.Reading.{BeginsNoAttribute, BeginsAttribute, IsFirstInvalid, IsInvalidAt}
use Rattle.rad_packet.proofs.Parts.{AreAttributes-append, AreAttributes-one, AreAttributes-nil, AreOctets-take}

-- up to this place of a packet's octets each attribute is valid
pub record IsValidUpTo (octets : List ℕ) (place : ℕ) : Type 0 where
  pub from : 20 ≤ place
  pub within : place ≤ length octets
  pub before : AreAttributes (slice_range octets 20 place)

-- no attribute stands before the first
pub valid_none : (octets : List ℕ) → 20 ≤ length octets → IsValidUpTo octets 20
valid_none octets h = record { from = omega arith; within = h; before = AreAttributes-nil }

-- one attribute on
pub valid_more : (octets seen : List ℕ) (place len : ℕ) → seen ≡ drop place octets → IsValidUpTo octets place → BeginsAttribute seen len → IsValidUpTo octets (place + len)
valid_more octets seen place len e v b =
    let a = b.attribute in
    let split : drop place octets ≡ attribute_text a ++ b.rest = sym e ∙ b.whole in
    let n : place + len - 20 ≡ (place - 20) + len = omega (arith, v.from) in
    let there : drop (place - 20) (drop 20 octets) ≡ drop place octets =
    let k : 20 + (place - 20) ≡ place = omega (arith, v.from) in drop-drop (place - 20) 20 octets ∙ ap (λ m. drop m octets) k in
    let front : take len (drop (place - 20) (drop 20 octets)) ≡ attribute_text a =
    ap (take len) (there ∙ split) ∙ take_at (attribute_text a) b.rest len (omega (arith, b.counted)) in
    let whole : slice_range octets 20 (place + len) ≡ slice_range octets 20 place ++ attribute_text a =
    ap (λ m. take m (drop 20 octets)) n ∙ (take-add (place - 20) len (drop 20 octets) ∙ ap (λ ys. take (place - 20) (drop 20 octets) ++ ys) front) in
    let room : length (drop place octets) ≡ length (attribute_text a) + length b.rest = ap length split ∙ length-append (attribute_text a) b.rest in
    record {
      from = omega (arith, v.from);
      within = omega (arith, room, length-drop place octets, v.within, b.counted);
      before = subst AreAttributes (sym whole) (AreAttributes-append (slice_range octets 20 place) (attribute_text a) v.before (AreAttributes-one a b.valid));
    }

-- at the end all attributes are valid
pub valid_all : (octets : List ℕ) (place : ℕ) → IsValidUpTo octets place → length octets ≤ place → AreAttributes (drop 20 octets)
valid_all octets place v h =
    let e : place ≡ length octets = omega (arith, v.within) in
    subst AreAttributes (ap (λ n. take (n - 20) (drop 20 octets)) e ∙ take_rest octets 20) v.before

pub invalid_here : (octets seen : List ℕ) (place : ℕ) → seen ≡ drop place octets → IsValidUpTo octets place → place < length octets → BeginsNoAttribute seen → IsFirstInvalid octets place
invalid_here octets seen place e v h none = record {
  from = v.from;
  within = h;
  before = v.before;
  none = subst BeginsNoAttribute e none;
}

-- a Length that is out of range
pub out_of_range : (n m : ℕ) → n ≡ m → (n < 20) ⊎ ((20 ≤ n) × (4096 < n)) → (m < 20) ⊎ (4096 < m)
out_of_range n m e (inl h) = inl (omega arith)
out_of_range n m e (inr h) = inr (omega (arith, h.1))

-- the octets that Length counts, of a datagram that has them
module _ (datagram : List ℕ) (n : ℕ) (e : n ≡ length_of datagram) (least : 20 ≤ n) (here : n ≤ length datagram) where
  length_of-take : length_of (take n datagram) ≡ length_of datagram
  length_of-take =
      let high : 2 < n = omega arith in
      let low : 3 < n = omega arith in
      rw (get_or-take n datagram 2 0 high, get_or-take n datagram 3 0 low) refl

  pub packet_here : n ≤ 4096 → AreOctets datagram → AreAttributes (drop 20 (take n datagram)) → IsPacketText (take n datagram)
  packet_here most octets valid = record {
    octets = AreOctets-take n datagram octets;
    counted = omega (arith, length_of-take, e, length-take n datagram);
    least = omega (arith, length-take n datagram);
    most = omega (arith, length-take n datagram);
    attributes = valid;
  }

  pub invalid_at : (place : ℕ) → IsFirstInvalid (take n datagram) place → IsInvalidAt datagram place
  invalid_at place i =
      let size : length (take n datagram) ≡ n = omega (arith, length-take n datagram) in
      let below : place < n = omega (arith, size, i.within) in
      let m : 20 + (n - 20) ≡ n = omega arith in
      let front : slice_range (take n datagram) 20 place ≡ slice_range datagram 20 place =
      ap (λ k. take (place - 20) (drop 20 (take k datagram))) (sym m)
      ∙ (ap (take (place - 20)) (drop-take 20 (n - 20) datagram)
      ∙ take-take (place - 20) (n - 20) (drop 20 datagram) (omega arith)) in
      let p : place + (n - place) ≡ n = omega arith in
      let back : drop place (take n datagram) ≡ slice_range datagram place (length_of datagram) =
      ap (λ k. drop place (take k datagram)) (sym p)
      ∙ (drop-take place (n - place) datagram ∙ ap (λ k. take (k - place) (drop place datagram)) e) in
      record {
        from = i.from;
        within = omega (arith, e, below);
        before = subst AreAttributes front i.before;
        none = subst BeginsNoAttribute back i.none;
      }
