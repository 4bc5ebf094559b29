-- Parcels, and their octets in the buffer.
use Rattle.std.proofs.Common.{◌≡◌, ℕ, ◌+◌, ◌≤◌, List, [], ◌∷◌, ◌++◌, length, take, sym, ap, ◌∙◌, append_assoc, append-nil, arith, length-append}
use Rattle.std.proofs.lemmas.List.{take_at}
use mathlib.Core.List.{IsPrefix}
use Rattle.ledger_writer.specs.Parcels.{AreCounted, FitsBy, all_octets, octets_by, octets_of}
use Rattle.ledger_writer.specs.declared.parcel.ParcelKind.{ParcelKind}
use Rattle.ledger_writer.specs.declared.parcel.ParcelKind.TheVariants.{Count, Left, Response}
use Rattle.ledger_writer.specs.declared.parcel.ParcelHead.{ParcelHead}

-- The packets have as many octets as the head counts.
pub counted_sum : (its : ParcelKind) (a b c : List ℕ) → AreCounted its a b c → octets_by its ≡ length a + length b + length c
counted_sum (Response serial x y z) a b c is = omega (arith, is.0, is.1, is.2)
counted_sum (Left state is_kept x) a b c is = omega (arith, is.0, ap length is.1, ap length is.2)
counted_sum (Count kind x) a b c is = omega (arith, ap length is.0, ap length is.1, ap length is.2)

pub joined_length : (a b c : List ℕ) → length (a ++ (b ++ c)) ≡ length a + length b + length c
joined_length a b c = omega (arith, length-append a (b ++ c), length-append b c)

-- One more head.
pub all_with_one : (heads : List ParcelHead) (head : ParcelHead) → all_octets (heads ++ head ∷ []) ≡ all_octets heads + octets_of head
all_with_one [] head = omega arith
all_with_one (first ∷ rest) head = omega (arith, all_with_one rest head)

-- Octets that are as many as all heads count, and one more head with its octets.
pub whole_with_one : (octets more : List ℕ) (heads : List ParcelHead) (head : ParcelHead) → length octets ≡ all_octets heads → length more ≡ octets_of head → length (octets ++ more) ≡ all_octets (heads ++ head ∷ [])
whole_with_one octets more heads head whole one = omega (arith, length-append octets more, all_with_one heads head, whole, one)

-- The packets of one head fit in the room.
pub fits_within : (its : ParcelKind) → FitsBy its → octets_by its ≤ 12288
fits_within (Response serial x y z) fits = omega (arith, fits.0, fits.1, fits.2)
fits_within (Left state is_kept x) fits = omega (arith, fits)
fits_within (Count kind x) fits = omega arith

-- Three parts at the front of a list.
pub three_at_front : (octets a b c rest : List ℕ) (count : ℕ) → octets ≡ a ++ (b ++ (c ++ rest)) → count ≡ length a + length b + length c → a ++ (b ++ c) ≡ take count octets
three_at_front octets a b c rest count is long =
    let joined : octets ≡ (a ++ (b ++ c)) ++ rest = is ∙ (simp append_assoc) in
    sym (ap (take count) joined ∙ take_at (a ++ (b ++ c)) rest count (joined_length a b c ∙ sym long))

pub one_at_front : (octets a rest : List ℕ) (count : ℕ) → octets ≡ a ++ rest → count ≡ length a → a ++ ([] ++ []) ≡ take count octets
one_at_front octets a rest count is long = append-nil a ∙ sym (ap (take count) is ∙ take_at a rest count (sym long))

-- The packets of one more parcel, put behind the octets one by one.
pub given_whole : (octets a b c : List ℕ) (heads : List ParcelHead) (head : ParcelHead) → AreCounted head.its a b c → length octets ≡ all_octets heads → length (((octets ++ a) ++ b) ++ c) ≡ all_octets (heads ++ head ∷ [])
given_whole octets a b c heads head counted whole =
    omega (arith, length-append ((octets ++ a) ++ b) c, length-append (octets ++ a) b, length-append octets a, all_with_one heads head, counted_sum head.its a b c counted, whole)

-- What is first in a ring is what is taken from it next.
pub same_first : (first next : ParcelHead) (known after : List ParcelHead) → IsPrefix (first ∷ []) known → known ≡ next ∷ after → first ≡ next
same_first first next known after prefix is = let joined : first ∷ prefix.0 ≡ next ∷ after = prefix.1 ∙ is in cc
