-- In a lawful book with nothing outstanding each request that was sent is answered once.
use Rattle.std.proofs.Common.{◌≡◌, ℕ, zero, suc, ◌+◌, ◌<◌, ◌≤◌, cond, List, [], ◌∷◌, ◌++◌, length, get_or, refl, sym, ap, ◌∙◌, subst, inl, inr, arith}
use Rattle.std.specs.Prelude.{map as each, ◌==◌}
use Rattle.std.specs.List.{sum_by, count_by, Contains, range_with_len}
use Rattle.std.specs.List.Sorted.{IsPermutation}
use Rattle.std.proofs.Math.Seq.{get_or-append_seam}
use Rattle.std.proofs.lemmas.Bool.{eq-eqb, ne_eqb, cases_eq}
use Rattle.std.proofs.lemmas.List.{get_or_append_left}
use Rattle.std.proofs.lemmas.List.Sums.{sum_by-cons, sum_by-append, get_or-le-sum_by}
use Rattle.std.proofs.lemmas.List.Sorted.{Contains-permutation, sum_by-IsPermutation}
use Rattle.rad_lane.specs.declared.stamp.Stamp.{Stamp}
use Rattle.rad_lane.specs.Outstanding.{Outstanding, AnswerKept}
use Rattle.rad_lane.specs.Book.{Book, outstanding_of, outstanding_count}
use Rattle.rad_lane.specs.Lawful.{IsLawful}
use Rattle.rad_progress.specs.Rounds.{IsAnsweredOnce}

-- what a mapped list has comes from an item
contains_from : {X Y : Type 0} (f : X → Y) (xs : List X) (y : Y) → Contains (each f xs) y → (x : X) × Contains xs x × (f x ≡ y)
contains_from f [] y (k, within, is) = absurd (omega (arith, within))
contains_from f (x ∷ xs) y (zero, within, is) = (x, (0, omega arith, refl), is)
contains_from f (x ∷ xs) y (suc k, within, is) =
    let rest = contains_from f xs y (k, omega (arith, within), is) in
    (rest.0, (suc rest.1.0, omega (arith, rest.1.1), rest.1.2), rest.2)

-- a sum over a mapped list
sum_each : {X Y : Type 0} (f : X → Y) (g : Y → ℕ) (xs : List X) → sum_by g (each f xs) ≡ sum_by (λ x. g (f x)) xs
sum_each f g [] = refl
sum_each f g (x ∷ xs) = sum_by-cons g (f x) (each f xs) ∙ ap (λ n. g (f x) + n) (sum_each f g xs) ∙ sym (sum_by-cons (λ y. g (f y)) x xs)

-- a number stands in a range once at most
abbrev is_it : ℕ → ℕ → ℕ
is_it number other = cond (other == number) 1 0

none_above : (number from count : ℕ) → number < from → sum_by (is_it number) (range_with_len from count) ≡ 0
none_above number from zero h = refl
none_above number from (suc count) h =
    let rest = none_above number (from + 1) count (omega arith) in
    let first = sum_by-cons (is_it number) from (range_with_len (from + 1) count) in
    let here : is_it number from ≡ 0 = ap (λ b. cond b 1 0) (ne_eqb from number (λ e. absurd (omega arith))) in
    omega (arith, rest, first, here)

one_at_most : (number from count : ℕ) → sum_by (is_it number) (range_with_len from count) ≤ 1
one_at_most number from zero = omega arith
one_at_most number from (suc count) =
    let first = sum_by-cons (is_it number) from (range_with_len (from + 1) count) in
    elim (cases_eq from number) [
      | inl same ↦
          let rest = none_above number (from + 1) count (omega (arith, same)) in
          let here : is_it number from ≡ 1 = ap (λ b. cond b 1 0) (eq-eqb from number same) in
          omega (arith, rest, first, here)
      | inr other ↦
          let rest = one_at_most number (from + 1) count in
          let here : is_it number from ≡ 0 = ap (λ b. cond b 1 0) (ne_eqb from number other) in
          omega (arith, rest, first, here)
    ]

nothing : {X : Type 0} (xs : List X) → length xs ≡ 0 → xs ≡ []
nothing [] is = refl
nothing (x ∷ xs) is = absurd (omega (arith, is))

module _ (book : Book) (lawful : IsLawful book) (none : outstanding_count book ≡ 0) (front : List Stamp) (stamp : Stamp) (rest : List Stamp) (accepted : book.accepted ≡ front ++ stamp ∷ rest) (sent : length front < length book.sent) where
  queued : List Stamp
  queued = each (λ r. r.stamp) book.queued

  abbrev stamps : List Stamp
  stamps = each (λ a. a.stamp) book.answered

  sent_here : Contains book.sent stamp
  unfolding queued
  sent_here = (
    length front,
    sent,
    sym (get_or_append_left book.sent queued stamp (length front) sent)
        ∙ ap (λ (xs : List Stamp). get_or xs (length front) stamp) (sym lawful.in_order ∙ accepted)
        ∙ get_or-append_seam front stamp rest stamp,
  )

  moved : IsPermutation book.sent stamps
  moved =
      subst (λ (es : List Outstanding). IsPermutation book.sent (each (λ e. e.request.stamp) es ++ stamps)) (nothing (outstanding_of book) none) lawful.placed_once

  its : (answer : AnswerKept) × Contains book.answered answer × (answer.stamp ≡ stamp)
  its = contains_from (λ a. a.stamp) book.answered stamp (Contains-permutation book.sent stamps stamp moved sent_here)

  abbrev of_number : Stamp → ℕ
  of_number s = is_it stamp.number s.number

  at_most : sum_by of_number book.sent ≤ 1
  unfolding queued
  at_most =
      let all = sum_each (λ (s : Stamp). s.number) (is_it stamp.number) book.accepted in
      let range = ap (λ (ns : List ℕ). sum_by (is_it stamp.number) ns) lawful.numbered in
      let once = one_at_most stamp.number book.opening (length book.accepted) in
      let parts = ap (λ (ss : List Stamp). sum_by of_number ss) lawful.in_order ∙ sum_by-append of_number book.sent queued in
      omega (arith, all, range, once, parts)

  once : count_by (λ a. a.stamp.number == stamp.number) book.answered ≡ 1
  once =
      let of_stamps = sum_each (λ (a : AnswerKept). a.stamp) of_number book.answered in
      let same = sum_by-IsPermutation of_number book.sent stamps moved in
      let here = get_or-le-sum_by (λ (a : AnswerKept). of_number a.stamp) book.answered its.1.0 its.0 its.1.1 in
      let one : of_number (get_or book.answered its.1.0 its.0).stamp ≡ 1 =
      ap (λ (a : AnswerKept). of_number a.stamp) its.1.2 ∙ ap of_number its.2 ∙ ap (λ b. cond b 1 0) (eq-eqb stamp.number stamp.number refl) in
      let most = at_most in
      omega (arith, of_stamps, same, here, one, most)

  pub answered_once : IsAnsweredOnce book stamp
  answered_once = record { answer = its.0; kept = its.1; its = its.2; once = once }
