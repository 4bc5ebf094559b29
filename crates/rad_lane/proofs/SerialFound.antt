-- An answer is found by its serial, as the serials rise.
use Rattle.std.proofs.Common.{◌≡◌, ℕ, zero, suc, ◌+◌, ◌<◌, Bool, true, false, cond, eqb, List, [], ◌∷◌, length, get_or, Option, Some, None, Result, Ok, Err, inl, inr, refl, sym, ap, ◌∙◌, arith}
use Rattle.std.specs.Prelude.{map as each, All, AllPairs, slice_get, option_map, ◌==◌}
use Rattle.std.specs.Result.{result_ok}
use Rattle.std.specs.Ordering.{is_lt, nat_cmp}
use Rattle.std.specs.declared.cmp.Ordering.TheVariants.{Less, Equal, Greater}
use Rattle.std.specs.List.Sorted.{IsStrictlyIncreasing, IsSortedBy, IsSearchInRange, IsBinarySearchResult}
use Rattle.std.proofs.lemmas.Bool.{ne_eqb, eq-eqb}
use Rattle.std.proofs.lemmas.Bool.Decides.{leb_tells}
use Rattle.std.proofs.lemmas.Cmp.{ranked, nat_cmp_total}
use Rattle.std.proofs.lemmas.List.Sorted.{searchable_from_sorted}
use Rattle.rad_lane.specs.declared.answered.AnswerIndex.{AnswerIndex}
use Rattle.rad_lane.specs.Outstanding.{AnswerKept}
use Rattle.rad_lane.specs.Repeat.{answer_to}
use Rattle.rad_lane.specs.internal.Invariant.{at_place, answer_of, answer_index_of, answer_index_to}
use Rattle.rad_lane.proofs.ListLemmas.{AllPairs-right, found_holds, pairs_rise}
use Rattle.rad_lane.proofs.NumberLemmas.{test_since}

abbrev Rise : List AnswerKept → Type 0
Rise answers = AllPairs (λ a b. a.serial < b.serial) answers

this_by : (b : Bool) (a : AnswerKept) (rest : Option AnswerKept) → b ≡ true → cond b (Some a) rest ≡ Some a
this_by true a rest h = refl
this_by false a rest h = cc

other_by : (b : Bool) (a : AnswerKept) (rest : Option AnswerKept) → b ≡ false → cond b (Some a) rest ≡ rest
other_by true a rest h = cc
other_by false a rest h = refl

behind_rise : (a : AnswerKept) (answers : List AnswerKept) → Rise (a ∷ answers) → Rise answers
behind_rise a answers rise = AllPairs-right (a ∷ []) answers (λ a b. a.serial < b.serial) rise

first_below : (a : AnswerKept) (answers : List AnswerKept) → Rise (a ∷ answers) → All (λ b. a.serial < b.serial) answers
first_below a answers rise k d within = rise 0 (suc k) d (omega arith) (omega (arith, within))

-- what stands at a place is what is found by its serial
found_here : (answers : List AnswerKept) (place serial : ℕ) → Rise answers → place < length answers → ((d : AnswerKept) → (get_or answers place d).serial ≡ serial) → slice_get answers place ≡ answer_of serial answers
found_here [] place serial rise within is = absurd (omega arith)
found_here (a ∷ answers) zero serial rise within is = sym (this_by (eqb a.serial serial) a (answer_of serial answers) (eq-eqb a.serial serial (is a)))
found_here (a ∷ answers) (suc place) serial rise within is =
    let below = first_below a answers rise place a (omega arith) in
    let same = is a in
    found_here answers place serial (behind_rise a answers rise) (omega arith) is
    ∙ sym (other_by (eqb a.serial serial) a (answer_of serial answers) (ne_eqb a.serial serial (λ e. absurd (omega (arith, below, same, e)))))

none_found : (answers : List AnswerKept) (serial : ℕ) → ((k : ℕ) (d : AnswerKept) → k < length answers → (get_or answers k d).serial ≡ serial → ⊥) → None ≡ answer_of serial answers
none_found [] serial h = refl
none_found (a ∷ answers) serial h =
    none_found answers serial (λ k d within. h (suc k) d (omega arith))
    ∙ sym (other_by (eqb a.serial serial) a (answer_of serial answers) (ne_eqb a.serial serial (h 0 a (omega arith))))

not_less_by : (a b : Bool) → a ≡ false → is_lt (cond a Less (cond b Equal Greater)) ≡ false
not_less_by true b h = cc
not_less_by false true h = refl
not_less_by false false h = refl

sorted_by_serial : (answers : List AnswerKept) → Rise answers → IsSortedBy (λ a b. is_lt (nat_cmp a.serial b.serial)) answers
sorted_by_serial answers rise k d least within =
    let above = rise k (k + 1) d (omega arith) within in
    not_less_by _ _ (test_since (get_or answers (k + 1) d).serial (get_or answers k d).serial (omega (arith, above)))

pub searched : (answers : List AnswerKept) (serial : ℕ) (r : Result ℕ ℕ) → IsStrictlyIncreasing (each (λ a. a.serial) answers) → IsSearchInRange r (length answers) → IsBinarySearchResult (λ a. nat_cmp a.serial serial) answers r → at_place answers (result_ok r) ≡ answer_of serial answers
searched answers serial (Ok place) rises within equal =
    found_here answers place serial (pairs_rise (λ (a : AnswerKept). a.serial) answers rises) within (λ d. ranked _ serial _ (sym (equal d)))
searched answers serial (Err place) rises within parted =
    let rise : Rise answers = pairs_rise (λ (a : AnswerKept). a.serial) answers rises in
    let parts = parted (searchable_from_sorted nat_cmp_total (λ (a : AnswerKept). a.serial) answers serial (sorted_by_serial answers rise)) in
    none_found answers serial
    (λ k d inside same. elim (leb_tells (suc k) place) [
      | inl before ↦
          let less : (get_or answers k d).serial < serial = ranked _ serial _ (sym (parts.0 k d (omega arith) (omega (arith, before.1)))) in
          omega (arith, less, same)
      | inr behind ↦
          let greater : serial < (get_or answers k d).serial = ranked _ serial _ (sym (parts.1 k d (omega (arith, behind.1)) inside)) in
          omega (arith, greater, same)
    ])

-- the answer to a request is found by its serial
found_by : (b : Bool) (number : ℕ) (a : AnswerKept) (answers : List AnswerKept) (found : AnswerKept) → Rise (a ∷ answers) → (answer_to number answers ≡ Some found → answer_of found.serial answers ≡ Some found) → cond b (Some a) (answer_to number answers) ≡ Some found → answer_of found.serial (a ∷ answers) ≡ Some found
found_by true number a answers found rise behind is =
    let same : a ≡ found = cc in
    this_by (eqb a.serial found.serial) a (answer_of found.serial answers) (eq-eqb a.serial found.serial (ap (λ (b : AnswerKept). b.serial) same)) ∙ is
found_by false number a answers found rise behind is =
    let below = (found_holds (λ (b : AnswerKept). b.stamp.number == number) (λ (b : AnswerKept). a.serial < b.serial) answers found (first_below a answers rise) is).0 in
    other_by (eqb a.serial found.serial) a (answer_of found.serial answers) (ne_eqb a.serial found.serial (λ e. absurd (omega (arith, below, e)))) ∙ behind is

found_again : (number : ℕ) (answers : List AnswerKept) (found : AnswerKept) → Rise answers → answer_to number answers ≡ Some found → answer_of found.serial answers ≡ Some found
found_again number [] found rise is = cc
found_again number (a ∷ answers) found rise is =
    found_by (eqb a.stamp.number number) number a answers found rise (found_again number answers found (behind_rise a answers rise)) is

by_answer : (number : ℕ) (answer_index : AnswerIndex) (answers : List AnswerKept) (answer : Option AnswerKept) → answer ≡ answer_to number answers → Rise answers → Some answer_index ≡ option_map answer_index_of answer → answer_of answer_index.serial answers ≡ answer_to number answers
by_answer number answer_index answers None is rise h = cc
by_answer number answer_index answers (Some found) is rise h =
    let noted : answer_index ≡ answer_index_of found = cc in
    let same : answer_index.serial ≡ found.serial = ap (λ (r : AnswerIndex). r.serial) noted in
    ap (λ n. answer_of n answers) same ∙ found_again number answers found rise (sym is) ∙ is

by_none : (answer : Option AnswerKept) → None ≡ option_map answer_index_of answer → None ≡ answer
by_none None h = refl
by_none (Some found) h = cc

pub none_placed : (number : ℕ) (answers : List AnswerKept) → None ≡ answer_index_to number answers → None ≡ answer_to number answers
none_placed number answers h = by_none (answer_to number answers) h

pub answer_placed : (number : ℕ) (answer_index : AnswerIndex) (answers : List AnswerKept) (place : Option ℕ) → IsStrictlyIncreasing (each (λ a. a.serial) answers) → Some answer_index ≡ answer_index_to number answers → at_place answers place ≡ answer_of answer_index.serial answers → at_place answers place ≡ answer_to number answers
answer_placed number answer_index answers place rises has placed =
    placed ∙ by_answer number answer_index answers _ refl (pairs_rise (λ (a : AnswerKept). a.serial) answers rises) has
