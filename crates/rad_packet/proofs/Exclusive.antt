-- A datagram that reads as a packet is not refused, and no two faults refuse one. Proofs of the crates above
-- cite these.
use Rattle.std.proofs.Common.{◌≡◌, ℕ, ◌+◌, ◌-◌, ◌<◌, ◌≤◌, List, [], ◌∷◌, ◌++◌, length, get_or, take, drop, refl, sym, ap, subst, ◌∙◌, ⊎_elim, arith, length-append, length-drop, length-take, append_assoc, slice_range}
use Rattle.std.specs.List.{AllByRecursion}
use Rattle.std.proofs.lemmas.List.{take_at, drop_at, take-append-drop, drop-append-le, take-append-le, drop-drop, take-take, drop-take}
use Rattle.std.proofs.lemmas.Bool.{cases_lt}
use Rattle.rad_packet.specs.Attribute.{Attribute, IsAttribute, attribute_text, joined, AreAttributes}
use Rattle.rad_packet.specs.Packet.{length_of}
use Rattle.rad_packet.specs.Reading.{ReadsAs, Refuses, BeginsNoAttribute, IsInvalidAt}
use Rattle.std.proofs.Math.Seq.{take-add}
use Rattle.rad_packet.proofs.OneReading.{read_length}
use Rattle.rad_packet.specs.declared.faults.ReadFault.{ReadFault}
use Rattle.rad_packet.specs.declared.faults.ReadFault.TheVariants.{Short, BadLength, Truncated, BadAttribute}

-- an attribute begins what follows attributes at the front of attributes
begins_rest : (xs ys : List Attribute) (rest : List ℕ) → AllByRecursion IsAttribute xs → joined xs ≡ joined ys ++ rest → 0 < length rest → BeginsNoAttribute rest → ⊥
begins_rest [] [] rest v e some none = omega (arith, ap length e)
begins_rest (x ∷ xs) [] rest v e some none = none x (joined xs) v.0 (sym e)
begins_rest [] (y ∷ ys) rest v e some none = omega (arith, ap length e)
begins_rest (x ∷ xs) (y ∷ ys) rest v e some none =
    let len : length x.value + 2 ≡ length y.value + 2 = ap (λ t. get_or t 1 0) e in
    let n : length x.value ≡ length y.value = omega (arith, len) in
    let tail : x.value ++ joined xs ≡ (y.value ++ joined ys) ++ rest = ap (drop 2) e in
    let tail' : x.value ++ joined xs ≡ y.value ++ (joined ys ++ rest) = tail ∙ append_assoc y.value (joined ys) rest in
    let next : joined xs ≡ joined ys ++ rest =
    sym (drop_at x.value (joined xs) (length x.value) refl)
    ∙ (ap (drop (length x.value)) tail' ∙ drop_at y.value (joined ys ++ rest) (length x.value) (sym n)) in
    begins_rest xs ys rest v.1 next some none

-- no place among attributes is one where no attribute begins, if attributes stand before it
none_among : (octets : List ℕ) (n : ℕ) → AreAttributes octets → AreAttributes (take n octets) → n < length octets → BeginsNoAttribute (drop n octets) → ⊥
none_among octets n (xs, i) (ys, j) h none =
    begins_rest xs ys (drop n octets) i.each
    (sym i.whole ∙ (sym (take-append-drop n octets) ∙ ap (λ t. t ++ drop n octets) j.whole))
    (omega (arith, length-drop n octets)) none

read_longer : (datagram packet : List ℕ) → ReadsAs datagram packet → length packet ≤ length datagram
read_longer datagram packet r = omega (arith, ap length r.whole, length-append packet r.padding)

pub read_or_refused : (datagram packet : List ℕ) (fault : ReadFault) → ReadsAs datagram packet → Refuses datagram fault → ⊥
read_or_refused datagram packet Short r f = omega (arith, read_longer datagram packet r, r.is_packet.least)
read_or_refused datagram packet BadLength r f =
    ⊎_elim (λ h. omega (arith, read_length datagram packet r, r.is_packet.least)) (λ h. omega (arith, read_length datagram packet r, r.is_packet.most)) f.1
read_or_refused datagram packet Truncated r f = omega (arith, read_length datagram packet r, read_longer datagram packet r, f.3)
read_or_refused datagram packet (BadAttribute place) r f =
    let i : IsInvalidAt datagram place = f.2 in
    let n : length_of datagram ≡ length packet = read_length datagram packet r in
    let below : place < length packet = omega (arith, n, i.within) in
    let at20 : drop 20 datagram ≡ drop 20 packet ++ r.padding = ap (drop 20) r.whole ∙ drop-append-le 20 packet r.padding r.is_packet.least in
    let front : slice_range datagram 20 place ≡ take (place - 20) (drop 20 packet) =
    ap (take (place - 20)) at20 ∙ take-append-le (place - 20) (drop 20 packet) r.padding (omega (arith, length-drop 20 packet, i.from)) in
    let at : drop place datagram ≡ drop place packet ++ r.padding = ap (drop place) r.whole ∙ drop-append-le place packet r.padding (omega arith) in
    let back : slice_range datagram place (length_of datagram) ≡ drop place packet =
    ap (take (length_of datagram - place)) at ∙ take_at (drop place packet) r.padding (length_of datagram - place) (omega (arith, length-drop place packet, n)) in
    let k : 20 + (place - 20) ≡ place = omega (arith, i.from) in
    let there : drop (place - 20) (drop 20 packet) ≡ drop place packet = drop-drop (place - 20) 20 packet ∙ ap (λ m. drop m packet) k in
    none_among (drop 20 packet) (place - 20) r.is_packet.attributes (subst AreAttributes front i.before)
    (omega (arith, length-drop 20 packet, i.from))
    (subst BeginsNoAttribute (back ∙ sym there) i.none)

-- where no attribute begins octets, none begins a front of them
BeginsNoAttribute-front : (xs ys : List ℕ) → BeginsNoAttribute (xs ++ ys) → BeginsNoAttribute xs
BeginsNoAttribute-front xs ys none a rest v e =
    none a (rest ++ ys) v (ap (λ t. t ++ ys) e ∙ append_assoc (attribute_text a) rest ys)

-- of two places the later one is not the first invalid one
not_below : (datagram : List ℕ) (p q : ℕ) → length_of datagram ≤ length datagram → IsInvalidAt datagram p → IsInvalidAt datagram q → p < q → ⊥
not_below datagram p q here i j h =
    let n = length_of datagram in
    let attributes = slice_range datagram 20 q in
    let m : q - 20 ≡ (p - 20) + (q - p) = omega (arith, i.from) in
    let k : 20 + (p - 20) ≡ p = omega (arith, i.from) in
    let there : drop (p - 20) (drop 20 datagram) ≡ drop p datagram = drop-drop (p - 20) 20 datagram ∙ ap (λ x. drop x datagram) k in
    let front : take (p - 20) attributes ≡ slice_range datagram 20 p = take-take (p - 20) (q - 20) (drop 20 datagram) (omega arith) in
    let back : drop (p - 20) attributes ≡ take (q - p) (drop p datagram) =
    ap (λ x. drop (p - 20) (take x (drop 20 datagram))) m ∙ (drop-take (p - 20) (q - p) (drop 20 datagram) ∙ ap (take (q - p)) there) in
    let w : n - p ≡ (q - p) + (n - q) = omega (arith, j.within) in
    let longer : slice_range datagram p n ≡ take (q - p) (drop p datagram) ++ take (n - q) (drop (q - p) (drop p datagram)) =
    ap (λ x. take x (drop p datagram)) w ∙ take-add (q - p) (n - q) (drop p datagram) in
    let none : BeginsNoAttribute (take (q - p) (drop p datagram)) =
    BeginsNoAttribute-front _ (take (n - q) (drop (q - p) (drop p datagram))) (subst BeginsNoAttribute longer i.none) in
    let shorter : p - 20 < length attributes =
    omega (arith, ap length back, length-drop (p - 20) attributes, length-take (q - p) (drop p datagram), length-drop p datagram) in
    none_among attributes (p - 20) j.before (subst AreAttributes (sym front) i.before) shorter (subst BeginsNoAttribute (sym back) none)

pub one_fault : (datagram : List ℕ) (e f : ReadFault) → Refuses datagram e → Refuses datagram f → e ≡ f
one_fault datagram Short Short a b = refl
one_fault datagram Short BadLength a b = absurd (omega arith)
one_fault datagram Short Truncated a b = absurd (omega arith)
one_fault datagram Short (BadAttribute place) a b = absurd (omega arith)
one_fault datagram BadLength Short a b = absurd (omega arith)
one_fault datagram BadLength BadLength a b = refl
one_fault datagram BadLength Truncated a b = ⊎_elim (λ h. absurd (omega arith)) (λ h. absurd (omega arith)) a.1
one_fault datagram BadLength (BadAttribute place) a b = ⊎_elim (λ h. absurd (omega (arith, b.1.least))) (λ h. absurd (omega (arith, b.1.most))) a.1
one_fault datagram Truncated Short a b = absurd (omega arith)
one_fault datagram Truncated BadLength a b = ⊎_elim (λ h. absurd (omega arith)) (λ h. absurd (omega arith)) b.1
one_fault datagram Truncated Truncated a b = refl
one_fault datagram Truncated (BadAttribute place) a b = absurd (omega (arith, b.1.here))
one_fault datagram (BadAttribute place) Short a b = absurd (omega arith)
one_fault datagram (BadAttribute place) BadLength a b = ⊎_elim (λ h. absurd (omega (arith, a.1.least))) (λ h. absurd (omega (arith, a.1.most))) b.1
one_fault datagram (BadAttribute place) Truncated a b = absurd (omega (arith, a.1.here))
one_fault datagram (BadAttribute p) (BadAttribute q) a b =
    ⊎_elim (λ h. absurd (not_below datagram p q a.1.here a.2 b.2 h))
    (λ h. ⊎_elim (λ g. absurd (not_below datagram q p b.1.here b.2 a.2 g)) (λ g. ap BadAttribute (omega arith)) (cases_lt q p))
    (cases_lt p q)
