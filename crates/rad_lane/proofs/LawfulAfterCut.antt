-- A lane whose book is cut is lawful still, and finds the same repeats.
use Rattle.std.proofs.Common.{◌≡◌, ℕ, suc, ◌+◌, ◌<◌, ◌≤◌, Bool, true, false, cond, eqb, List, [], ◌∷◌, ◌++◌, length, get_or, take, drop, Option, Some, None, ◌⊎◌, inl, inr, refl, sym, ap, ◌∙◌, subst, arith, length-append}
use Rattle.std.specs.Prelude.{map as each, All, AllPairs, IfSome, filter, not, nat_lt, ◌==◌}
use Rattle.std.specs.List.{AllByRecursion, IsDistinct, range_with_len}
use Rattle.std.specs.List.Sorted.{IsPermutation}
use Rattle.std.proofs.lemmas.Bool.Decides.{eqb_tells, leb_tells}
use Rattle.std.proofs.lemmas.List.{append-nil, length-map, map-append, get_or-map, take_at, drop_at, take-append-le, drop-append-le, take-append-drop}
use Rattle.std.proofs.lemmas.List.FromFn.{length-range_with_len, get_or-range_with_len}
use Rattle.std.proofs.lemmas.List.Filters.{length-filter_both}
use Rattle.std.proofs.lemmas.List.Elements.{All-append, All-filter, All-from_recursion, All-weaker, filter-append}
use Rattle.std.proofs.lemmas.List.Sorted.{IsPermutation-map, length_permutation, All-permutation}
use Rattle.std.proofs.lemmas.Map.Keys.{IsDistinct-IsPermutation}
use Rattle.rad_tables.specs.declared.duplicates.Key.{Key}
use Rattle.rad_lane.specs.declared.stamp.Stamp.{Stamp}
use Rattle.rad_lane.specs.Setup.{IsOfItsRealms}
use Rattle.rad_lane.specs.Outstanding.{AnswerKept}
use Rattle.rad_lane.specs.Book.{Book, next_number, outstanding_of}
use Rattle.rad_lane.specs.Repeat.{fresh, again, repeats, repeats_last, repeats_answered, of_key, last_of, answer_to}
use Rattle.rad_lane.specs.Lawful.{IsLawful, IsVerified, NoRepeatWithinSpan}
use Rattle.rad_lane.specs.Volumes.{IsOver, IsCut, is_below, answers_below, answers_since, without_cut}
use Rattle.rad_lane.proofs.ListLemmas.{IsPermutation-filter, filter_none, filter_all, find-filter, filter-map, range-append, parts_same, found_holds, All-unmap, All-left, All-right, AllPairs-right, rises-filter}
use Rattle.rad_lane.proofs.NumberLemmas.{test_since, test_below}
use Rattle.rad_lane.proofs.LawfulAfterAnswer.{eqb_flips, distinct_range}
use Rattle.rad_lane.proofs.VerifiedLater.{passed_later, verified_later}

abbrev numbers : List Stamp → List ℕ
numbers stamps = each (λ s. s.number) stamps

abbrev stamps_of : List AnswerKept → List Stamp
stamps_of answered = each (λ a. a.stamp) answered

-- the stamps are numbered from this number on
abbrev AreNumbered : ℕ → List Stamp → Type 0
AreNumbered from stamps = numbers stamps ≡ range_with_len from (length stamps)

pub numbered_at : (stamps : List Stamp) (from : ℕ) → AreNumbered from stamps → (k : ℕ) (d : Stamp) → k < length stamps → (get_or stamps k d).number ≡ from + k
numbered_at stamps from h k d within =
    sym (get_or-map (λ (s : Stamp). s.number) stamps k d 0 within)
    ∙ ap (λ ns. get_or ns k 0) h
    ∙ get_or-range_with_len from (length stamps) k 0 within

numbered_parts : (all front rest : List Stamp) (from : ℕ) → AreNumbered from all → all ≡ front ++ rest → AreNumbered from front × AreNumbered (from + length front) rest
numbered_parts all front rest from h parts =
    parts_same (numbers front) (numbers rest) (range_with_len from (length front)) (range_with_len (from + length front) (length rest))
    (length-map front (λ s. s.number) ∙ sym (length-range_with_len from (length front)))
    (
    sym (map-append (λ (s : Stamp). s.number) front rest)
    ∙ ap numbers (sym parts)
    ∙ h
    ∙ ap (λ (stamps : List Stamp). range_with_len from (length stamps)) parts
    ∙ ap (λ n. range_with_len from n) (length-append front rest)
    ∙ range-append from (length front) (length rest)
    )

pub numbered_below : (stamps : List Stamp) (from : ℕ) → AreNumbered from stamps → All (λ s. s.number < from + length stamps) stamps
numbered_below stamps from h k d within = let at = numbered_at stamps from h k d within in omega (arith, at, within)

numbered_since : (stamps : List Stamp) (from : ℕ) → AreNumbered from stamps → All (λ s. from ≤ s.number) stamps
numbered_since stamps from h k d within = let at = numbered_at stamps from h k d within in omega (arith, at)

as_long : (stamps : List Stamp) (from count : ℕ) → AreNumbered from stamps → All (λ s. s.number < from + count) stamps → length stamps ≤ count
as_long [] from count h below = omega arith
as_long (s ∷ stamps) from count h below = elim (leb_tells (suc count) (length (s ∷ stamps))) [
  | inl longer ↦
      let at : (get_or (s ∷ stamps) count s).number ≡ from + count = numbered_at (s ∷ stamps) from h count s (omega (arith, longer.1)) in
      let low : (get_or (s ∷ stamps) count s).number < from + count = below count s (omega (arith, longer.1)) in
      absurd (omega (arith, at, low))
  | inr within ↦ omega (arith, within.1)
]

-- of distinct numbers, those in the front are answered by none of the answers behind it
no_answer_by : (b : Bool) (a : AnswerKept) (rest : Option AnswerKept) → b ≡ false → rest ≡ None → cond b (Some a) rest ≡ None
no_answer_by true a rest e h = cc
no_answer_by false a rest e h = h

no_answer : (number : ℕ) (answered : List AnswerKept) → AllByRecursion (λ y. eqb number y ≡ false) (numbers (stamps_of answered)) → answer_to number answered ≡ None
no_answer number [] h = refl
no_answer number (a ∷ answered) h = no_answer_by (eqb a.stamp.number number) a (answer_to number answered) (eqb_flips a.stamp.number number ∙ h.0) (no_answer number answered h.1)

no_answer_behind : (number : ℕ) (front : List Stamp) (answered : List AnswerKept) → AllByRecursion (λ y. eqb number y ≡ false) (numbers (front ++ stamps_of answered)) → answer_to number answered ≡ None
no_answer_behind number [] answered h = no_answer number answered h
no_answer_behind number (s ∷ front) answered h = no_answer_behind number front answered h.1

none_answered : (front : List Stamp) (answered : List AnswerKept) → IsDistinct eqb (numbers (front ++ stamps_of answered)) → AllByRecursion (λ s. answer_to s.number answered ≡ None) front
unfolding IsDistinct
none_answered [] answered h = tt
none_answered (s ∷ front) answered h = (no_answer_behind s.number front answered h.0, none_answered front answered h.1)

drained_same : (drain : Option ℕ) (next after : ℕ) → after ≡ next → IfSome drain (λ count. next ≡ count) → IfSome drain (λ count. after ≡ count)
drained_same drain next after same h = subst (λ n. IfSome drain (λ count. n ≡ count)) (sym same) h

-- the last of two lists
pub last_behind : (front : List Stamp) (stamp : Stamp) (later : List Stamp) → last_of (front ++ stamp ∷ later) ≡ last_of (stamp ∷ later)
last_behind [] stamp later = refl
last_behind (s ∷ []) stamp later = refl
last_behind (s ∷ t ∷ front) stamp later = last_behind (t ∷ front) stamp later

module _ (book : Book) (l : IsLawful book) (now : ℕ) (later : book.last ≤ now) (cut kept : List Stamp) (is : IsCut book now cut kept) where
  abbrev bound : ℕ
  bound = book.opening + length cut

  abbrev after : Book
  after = without_cut book now cut kept

  abbrev queue : List Stamp
  queue = each (λ r. r.stamp) book.queued

  abbrev unsent : List Stamp
  unsent = each (λ e. e.request.stamp) (outstanding_of book)

  -- what was sent behind the cut
  abbrev rest : List Stamp
  rest = drop (length cut) book.sent

  both_numbered : AreNumbered book.opening cut × AreNumbered bound kept
  both_numbered = numbered_parts book.accepted cut kept book.opening l.numbered is.parts

  sent_numbered : AreNumbered book.opening book.sent
  sent_numbered = (numbered_parts book.accepted book.sent queue book.opening l.numbered l.in_order).0

  pub cut_numbered : AreNumbered book.opening cut
  cut_numbered = both_numbered.0

  pub cut_below : All (λ s. s.number < bound) cut
  cut_below = numbered_below cut book.opening both_numbered.0

  pub kept_since : All (λ s. bound ≤ s.number) kept
  kept_since = numbered_since kept bound both_numbered.1

  -- each answer is one to a request that was sent
  sent_answers : All (λ a. a.stamp.number < book.opening + length book.sent) book.answered
  sent_answers =
      All-unmap (λ (s : Stamp). s.number < book.opening + length book.sent) (λ (a : AnswerKept). a.stamp) book.answered
      (All-right unsent (stamps_of book.answered) (λ s. s.number < book.opening + length book.sent)
      (All-permutation (λ s. s.number < book.opening + length book.sent) book.sent (unsent ++ stamps_of book.answered) l.placed_once
      (numbered_below book.sent book.opening sent_numbered)))

  over_sent : (s : Stamp) → IsOver book now s → s.number < book.opening + length book.sent
  over_sent s over =
      let found = found_holds (λ (a : AnswerKept). a.stamp.number == s.number) (λ (a : AnswerKept). a.stamp.number < book.opening + length book.sent) book.answered over.0 sent_answers over.1 in
      elim (eqb_tells (over.0).stamp.number s.number) [
        | inl same ↦ omega (arith, found.0, same.1)
        | inr apart ↦ let told = found.1 in let other = apart.0 in cc
      ]

  pub cut_sent : length cut ≤ length book.sent
  cut_sent = as_long cut book.opening (length book.sent) both_numbered.0 (All-weaker (IsOver book now) (λ s. s.number < book.opening + length book.sent) over_sent cut is.over)

  kept_in_order : kept ≡ rest ++ queue
  kept_in_order =
      sym (drop_at cut kept (length cut) refl)
      ∙ ap (λ (xs : List Stamp). drop (length cut) xs) (sym is.parts ∙ l.in_order)
      ∙ drop-append-le (length cut) book.sent queue cut_sent

  front_is_cut : take (length cut) book.sent ≡ cut
  front_is_cut =
      sym (take-append-le (length cut) book.sent queue cut_sent)
      ∙ ap (λ (xs : List Stamp). take (length cut) xs) (sym l.in_order ∙ is.parts)
      ∙ take_at cut kept (length cut) refl

  sent_parts : book.sent ≡ cut ++ rest
  sent_parts = sym (take-append-drop (length cut) book.sent) ∙ ap (λ xs. xs ++ rest) front_is_cut

  rest_since : All (λ s. bound ≤ s.number) rest
  rest_since = All-left rest queue (λ s. bound ≤ s.number) (subst (λ (xs : List Stamp). All (λ s. bound ≤ s.number) xs) kept_in_order kept_since)

  -- what is outstanding is behind the cut
  numbers_distinct : IsDistinct eqb (numbers (unsent ++ stamps_of book.answered))
  numbers_distinct =
      IsDistinct-IsPermutation eqb eqb_flips (numbers book.sent) (numbers (unsent ++ stamps_of book.answered))
      (IsPermutation-map (λ (s : Stamp). s.number) _ _ l.placed_once)
      (subst (λ ns. IsDistinct eqb ns) (sym sent_numbered) (distinct_range book.opening (length book.sent)))

  unanswered : All (λ s. answer_to s.number book.answered ≡ None) unsent
  unanswered = All-from_recursion (λ s. answer_to s.number book.answered ≡ None) unsent (none_answered unsent book.answered numbers_distinct)

  abbrev IsAnsweredOrBehind : Stamp → Type 0
  IsAnsweredOrBehind s = (bound ≤ s.number) ⊎ ((a : AnswerKept) × (answer_to s.number book.answered ≡ Some a))

  all_answered_or_behind : All IsAnsweredOrBehind unsent
  all_answered_or_behind =
      All-left unsent (stamps_of book.answered) IsAnsweredOrBehind
      (All-permutation IsAnsweredOrBehind book.sent (unsent ++ stamps_of book.answered) l.placed_once
      (subst (λ (xs : List Stamp). All IsAnsweredOrBehind xs) (sym sent_parts)
      (All-append IsAnsweredOrBehind cut rest
      (All-weaker (IsOver book now) IsAnsweredOrBehind (λ s over. inr (over.0, over.1)) cut is.over)
      (All-weaker (λ s. bound ≤ s.number) IsAnsweredOrBehind (λ s since. inl since) rest rest_since))))

  unsent_since : All (λ s. bound ≤ s.number) unsent
  unsent_since k d within = elim (all_answered_or_behind k d within) [
    | inl since ↦ since
    | inr found ↦ let none = unanswered k d within in let some = found.1 in cc
  ]

  abbrev goes : Stamp → Bool
  goes s = nat_lt s.number bound

  abbrev stays : Stamp → Bool
  stays s = not (nat_lt s.number bound)

  goes_here : (xs : List Stamp) → All (λ s. s.number < bound) xs → All (λ s. goes s ≡ true) xs
  goes_here xs h = All-weaker (λ s. s.number < bound) (λ s. goes s ≡ true) (λ s below. test_below s.number bound below) xs h

  stays_not : (xs : List Stamp) → All (λ s. s.number < bound) xs → All (λ s. stays s ≡ false) xs
  stays_not xs h = All-weaker (λ s. s.number < bound) (λ s. stays s ≡ false) (λ s below. ap not (test_below s.number bound below)) xs h

  goes_not : (xs : List Stamp) → All (λ s. bound ≤ s.number) xs → All (λ s. goes s ≡ false) xs
  goes_not xs h = All-weaker (λ s. bound ≤ s.number) (λ s. goes s ≡ false) (λ s since. test_since s.number bound since) xs h

  stays_here : (xs : List Stamp) → All (λ s. bound ≤ s.number) xs → All (λ s. stays s ≡ true) xs
  stays_here xs h = All-weaker (λ s. bound ≤ s.number) (λ s. stays s ≡ true) (λ s since. ap not (test_since s.number bound since)) xs h

  -- each request of the cut is answered once in the volume, and nothing else is
  pub cut_answered : IsPermutation cut (stamps_of (answers_below bound book.answered))
  cut_answered =
      let here : filter goes book.sent ≡ cut =
      ap (λ (xs : List Stamp). filter goes xs) sent_parts ∙ filter-append goes cut rest
      ∙ ap (λ (xs : List Stamp). xs ++ filter goes rest) (filter_all goes cut (goes_here cut cut_below))
      ∙ ap (λ (xs : List Stamp). cut ++ xs) (filter_none goes rest (goes_not rest rest_since))
      ∙ append-nil cut
      in
      let there : filter goes (unsent ++ stamps_of book.answered) ≡ stamps_of (answers_below bound book.answered) =
      filter-append goes unsent (stamps_of book.answered)
      ∙ ap (λ (xs : List Stamp). xs ++ filter goes (stamps_of book.answered)) (filter_none goes unsent (goes_not unsent unsent_since))
      ∙ filter-map goes (λ (a : AnswerKept). a.stamp) book.answered
      in
      subst (λ (xs : List Stamp). IsPermutation xs (stamps_of (answers_below bound book.answered))) here
      (subst (λ (xs : List Stamp). IsPermutation (filter goes book.sent) xs) there (IsPermutation-filter goes book.sent (unsent ++ stamps_of book.answered) l.placed_once))

  placed_still : IsPermutation rest (unsent ++ stamps_of (answers_since bound book.answered))
  placed_still =
      let here : filter stays book.sent ≡ rest =
      ap (λ (xs : List Stamp). filter stays xs) sent_parts ∙ filter-append stays cut rest
      ∙ ap (λ (xs : List Stamp). xs ++ filter stays rest) (filter_none stays cut (stays_not cut cut_below))
      ∙ filter_all stays rest (stays_here rest rest_since)
      in
      let there : filter stays (unsent ++ stamps_of book.answered) ≡ unsent ++ stamps_of (answers_since bound book.answered) =
      filter-append stays unsent (stamps_of book.answered)
      ∙ ap (λ (xs : List Stamp). xs ++ filter stays (stamps_of book.answered)) (filter_all stays unsent (stays_here unsent unsent_since))
      ∙ ap (λ (xs : List Stamp). unsent ++ xs) (filter-map stays (λ (a : AnswerKept). a.stamp) book.answered)
      in
      subst (λ (xs : List Stamp). IsPermutation xs (unsent ++ stamps_of (answers_since bound book.answered))) here
      (subst (λ (xs : List Stamp). IsPermutation (filter stays book.sent) xs) there (IsPermutation-filter stays book.sent (unsent ++ stamps_of book.answered) l.placed_once))

  pub answers_counted : length (answers_below bound book.answered) ≡ length cut
  answers_counted = sym (length-map (answers_below bound book.answered) (λ a. a.stamp)) ∙ length_permutation _ _ cut_answered

  served_still : book.served ≡ bound + length (answers_since bound book.answered)
  served_still =
      let both = length-filter_both (is_below bound) (λ answer. not (is_below bound answer)) (λ answer. refl) book.answered in
      omega (arith, both, answers_counted, l.served_count)

  -- the answer to a request behind the cut is found as before
  since_passes : (number : ℕ) → bound ≤ number → (a : AnswerKept) → (a.stamp.number == number) ≡ true → not (is_below bound a) ≡ true
  since_passes number since a told = elim (eqb_tells a.stamp.number number) [
    | inl same ↦ ap not (test_since a.stamp.number bound (omega (arith, same.1, since)))
    | inr apart ↦ let other = apart.0 in cc
  ]

  pub found_still : (number : ℕ) → bound ≤ number → answer_to number (answers_since bound book.answered) ≡ answer_to number book.answered
  found_still number since = find-filter (λ answer. not (is_below bound answer)) (λ a. a.stamp.number == number) (since_passes number since) book.answered

  no_repeat_still : AllPairs (NoRepeatWithinSpan after) kept
  no_repeat_still i j d before within same =
      let pairs = AllPairs-right cut kept (NoRepeatWithinSpan book) (subst (λ (xs : List Stamp). AllPairs (NoRepeatWithinSpan book) xs) is.parts l.no_repeat) in
      let answer = pairs i j d before within same in
      (answer.0, found_still (get_or kept i d).number (kept_since i d (omega (arith, before, within))) ∙ answer.1, answer.2)

  pub accepted_count : length book.accepted ≡ length cut + length kept
  accepted_count = ap length is.parts ∙ length-append cut kept

  pub next_same : bound + length kept ≡ next_number book
  next_same = omega (arith, accepted_count)

  pub lawful_after_cut : IsLawful after
  lawful_after_cut = record {
    in_order = kept_in_order;
    numbered = both_numbered.1;
    timed = AllPairs-right cut kept (λ s t. s.moment ≤ t.moment) (subst (λ (xs : List Stamp). AllPairs (λ s t. s.moment ≤ t.moment) xs) is.parts l.timed);
    passed = passed_later kept book.last now later (All-right cut kept (λ s. s.moment ≤ book.last) (subst (λ (xs : List Stamp). All (λ s. s.moment ≤ book.last) xs) is.parts l.passed));
    no_repeat = no_repeat_still;
    placed_once = placed_still;
    of_its_realms = l.of_its_realms;
    outstanding_realms = l.outstanding_realms;
    answered_realms = All-filter (λ answer. not (is_below bound answer)) (λ a. IsOfItsRealms book.setup a.reply.sending) book.answered l.answered_realms;
    forwards_its_record = l.forwards_its_record;
    probe_apart = l.probe_apart;
    queued_bounded = l.queued_bounded;
    outstanding_bounded = l.outstanding_bounded;
    accepted_bounded = omega (arith, accepted_count, l.accepted_bounded);
    holds_its_own = l.holds_its_own;
    allotted_in_range = l.allotted_in_range;
    ports_least = l.ports_least;
    ports_most = l.ports_most;
    answers_verified = verified_later book.setup book.last now book.served (answers_since bound book.answered) later (All-filter (λ answer. not (is_below bound answer)) (IsVerified book.setup book.last book.served) book.answered l.answers_verified);
    serials_rise = rises-filter (λ (a : AnswerKept). a.serial) (λ answer. not (is_below bound answer)) book.answered l.serials_rise;
    served_count = served_still;
    drained_count = drained_same book.drain (next_number book) (bound + length kept) next_same l.drained_count;
  }

  -- what a key repeats from now on
  module _ (moment : ℕ) (from : now ≤ moment) where
    fresh_by : (number : ℕ) (a : AnswerKept) (b : Bool) → b ≡ false → cond b (again number a.reply.response) fresh ≡ fresh
    fresh_by number a true h = cc
    fresh_by number a false h = refl

    over_is_fresh : (s : Stamp) → IsOver book now s → repeats_answered book moment s.number (answer_to s.number book.answered) ≡ fresh
    over_is_fresh s over =
        ap (λ answer. repeats_answered book moment s.number answer) over.1
        ∙ fresh_by s.number over.0 (nat_lt moment ((over.0).moment + book.setup.limits.span)) (test_since moment ((over.0).moment + book.setup.limits.span) (omega (arith, over.2, from)))

    all_over_is_fresh : (stamps : List Stamp) → All (IsOver book now) stamps → repeats_last book moment (last_of stamps) ≡ fresh
    all_over_is_fresh [] h = refl
    all_over_is_fresh (s ∷ []) h = over_is_fresh s (h 0 s (omega arith))
    all_over_is_fresh (s ∷ t ∷ stamps) h = all_over_is_fresh (t ∷ stamps) (All-right (s ∷ []) (t ∷ stamps) (IsOver book now) h)

    behind_same : (stamps : List Stamp) → All (λ s. bound ≤ s.number) stamps → repeats_last after moment (last_of stamps) ≡ repeats_last book moment (last_of stamps)
    behind_same [] h = refl
    behind_same (s ∷ []) h = ap (λ answer. repeats_answered book moment s.number answer) (found_still s.number (h 0 s (omega arith)))
    behind_same (s ∷ t ∷ stamps) h = behind_same (t ∷ stamps) (All-right (s ∷ []) (t ∷ stamps) (λ s. bound ≤ s.number) h)

    last_same : (gone left : List Stamp) → All (IsOver book now) gone → All (λ s. bound ≤ s.number) left → repeats_last after moment (last_of left) ≡ repeats_last book moment (last_of (gone ++ left))
    last_same gone [] over since = sym (all_over_is_fresh gone over) ∙ ap (λ (xs : List Stamp). repeats_last book moment (last_of xs)) (sym (append-nil gone))
    last_same gone (s ∷ left) over since = behind_same (s ∷ left) since ∙ ap (λ last. repeats_last book moment last) (sym (last_behind gone s left))

  pub repeats_same : (key : Key) (moment : ℕ) → now ≤ moment → repeats after key moment ≡ repeats book key moment
  unfolding repeats
  repeats_same key moment from =
      last_same moment from (of_key key cut) (of_key key kept)
      (All-filter _ (IsOver book now) cut is.over) (All-filter _ (λ s. bound ≤ s.number) kept kept_since)
      ∙ ap (λ (xs : List Stamp). repeats_last book moment (last_of xs)) (sym (filter-append _ cut kept))
      ∙ ap (λ (xs : List Stamp). repeats_last book moment (last_of (of_key key xs))) (sym is.parts)
