-- What a lane keeps beside its book is in step with the book after a cut, and tells what is cut.
use Rattle.std.proofs.Common.{◌≡◌, ℕ, zero, suc, ◌+◌, ◌-◌, ◌<◌, ◌≤◌, true, false, cond, List, [], ◌∷◌, ◌++◌, length, get_or, take, drop, Option, Some, None, refl, sym, ap, ◌∙◌, subst, arith, Fits, w64}
use Rattle.std.specs.Prelude.{All, option_map, slice_get, nat_lt}
use Rattle.std.specs.Option.{option_flatten}
use Rattle.std.specs.Ordering.{is_eq}
use Rattle.std.specs.FinMap as map
use Rattle.std.proofs.lemmas.List.{append-nil, length-drop, length-take-le, drop-take, take-append-drop, get_or-take, get_or-drop}
use Rattle.std.proofs.lemmas.List.Elements.{All-filter, filter-append}
use Rattle.rad_tables.specs.declared.duplicates.Key.{Key}
use Rattle.rad_tables.specs.Keys.{key_cmp}
use Rattle.rad_tables.specs.Pairs.{Table}
use Rattle.rad_lane.specs.declared.stamp.Stamp.{Stamp}
use Rattle.rad_lane.specs.declared.answered.AnswerIndex.{AnswerIndex}
use Rattle.rad_lane.specs.declared.entry.Entry.{Entry}
use Rattle.rad_lane.specs.declared.watch.Watch.{Watch}
use Rattle.rad_lane.specs.declared.turning.Volume.{Volume}
use Rattle.rad_lane.specs.Stamp.{Kept, key_of}
use Rattle.rad_lane.specs.Setup.{LaneSetup}
use Rattle.rad_lane.specs.Outstanding.{AnswerKept}
use Rattle.rad_lane.specs.Book.{Book, next_number}
use Rattle.rad_lane.specs.Repeat.{of_key, last_of, answer_to}
use Rattle.rad_lane.specs.internal.Invariant.{IsConsistent, book_of, last_number, answer_index_in, answer_index_of, answer_index_to}
use Rattle.rad_lane.specs.Volumes.{IsOver, BeginsUnended, IsCut, answers_below, answers_since, volume_of, without_cut}
use Rattle.rad_lane.specs.internal.Cutting.{IsOverBy}
use Rattle.rad_lane.specs.internal.Keys.{number_since, IsBelow, merged}
use Rattle.rad_lane.proofs.KeysByAge.{recent_below}
use Rattle.rad_lane.proofs.ListLemmas.{All-right}
use Rattle.rad_lane.proofs.NumberLemmas.{test_since, test_below}
use Rattle.rad_lane.proofs.LawfulAfterCut.{numbered_at, numbered_below, last_behind, cut_below, kept_since, cut_sent, found_still, accepted_count, next_same, answers_counted, lawful_after_cut}

get_drop : {X : Type 0} (n : ℕ) (xs : List X) (k : ℕ) → slice_get (drop n xs) k ≡ slice_get xs (n + k)
get_drop zero xs k = let same : k ≡ 0 + k = omega arith in ap (λ i. slice_get xs i) same
get_drop (suc n) [] k = refl
get_drop (suc n) (x ∷ xs) k = let same : suc (n + k) ≡ suc n + k = omega arith in get_drop n xs k ∙ ap (λ i. slice_get (x ∷ xs) i) same

get_is : {X : Type 0} (xs : List X) (k : ℕ) (d : X) → k < length xs → slice_get xs k ≡ Some (get_or xs k d)
get_is [] k d within = absurd (omega arith)
get_is (x ∷ xs) zero d within = refl
get_is (x ∷ xs) (suc k) d within = get_is xs k d (omega arith)

-- the last stamp has what all have
last_has : (P : Stamp → Type 0) (stamps : List Stamp) (number : ℕ) → All P stamps → option_map (λ (s : Stamp). s.number) (last_of stamps) ≡ Some number → (s : Stamp) × P s × (s.number ≡ number)
last_has P [] number all h = cc
last_has P (s ∷ []) number all h = let same : s.number ≡ number = cc in (s, all 0 s (omega arith), same)
last_has P (s ∷ t ∷ stamps) number all h = last_has P (t ∷ stamps) number (All-right (s ∷ []) (t ∷ stamps) P all) h

-- the last number of a key behind the cut, whose numbers are below the next opening
module _ (next : ℕ) where
  abbrev IsCutOff : Stamp → Type 0
  IsCutOff t = nat_lt t.number next ≡ true

  abbrev IsLeft : Stamp → Type 0
  IsLeft t = nat_lt t.number next ≡ false

  none_left : (gone : List Stamp) → All IsCutOff gone → number_since next (option_map (λ (s : Stamp). s.number) (last_of gone)) ≡ None
  none_left [] h = refl
  none_left (s ∷ []) h = ap (λ b. cond b None (Some s.number)) (h 0 s (omega arith))
  none_left (s ∷ t ∷ gone) h = none_left (t ∷ gone) (All-right (s ∷ []) (t ∷ gone) IsCutOff h)

  left_same : (left : List Stamp) → All IsLeft left → number_since next (option_map (λ (s : Stamp). s.number) (last_of left)) ≡ option_map (λ (s : Stamp). s.number) (last_of left)
  left_same [] h = refl
  left_same (s ∷ []) h = ap (λ b. cond b None (Some s.number)) (h 0 s (omega arith))
  left_same (s ∷ t ∷ left) h = left_same (t ∷ left) (All-right (s ∷ []) (t ∷ left) IsLeft h)

  last_left : (gone left : List Stamp) → All IsCutOff gone → All IsLeft left → number_since next (option_map (λ (s : Stamp). s.number) (last_of (gone ++ left))) ≡ option_map (λ (s : Stamp). s.number) (last_of left)
  last_left gone [] off here = ap (λ (xs : List Stamp). number_since next (option_map (λ (s : Stamp). s.number) (last_of xs))) (append-nil gone) ∙ none_left gone off
  last_left gone (s ∷ left) off here = ap (λ last. number_since next (option_map (λ (s : Stamp). s.number) last)) (last_behind gone s left) ∙ left_same (s ∷ left) here

module _ (book : Book) (kept_records : List Kept) (ports : ℕ) (numbers : map.FinMap key_cmp ℕ) (cells : List (Option AnswerIndex)) (count : ℕ) (s : IsConsistent book kept_records ports numbers cells count) where
  module _ (now : ℕ) (later : book.last ≤ now) (cut kept : List Stamp) (is : IsCut book now cut kept) where
    abbrev after : Book
    after = without_cut book now cut kept

    all_gone : All (IsCutOff (book.opening + length cut)) cut
    all_gone k d within = test_below (get_or cut k d).number (book.opening + length cut) (cut_below book s.lawful now later cut kept is k d within)

    all_left : All (IsLeft (book.opening + length cut)) kept
    all_left k d within = test_since (get_or kept k d).number (book.opening + length cut) (kept_since book s.lawful now later cut kept is k d within)

    module _ (forgotten : map.FinMap key_cmp ℕ) (forgets : (key : Key) → map.get forgotten key ≡ number_since (book.opening + length cut) (map.get numbers key)) where
      last_numbers_still : (key : Key) → map.get forgotten key ≡ last_number key kept
      last_numbers_still key =
          let next = book.opening + length cut in
          forgets key
          ∙ ap (λ o. number_since next o) (s.last_numbers key)
          ∙ ap (λ (xs : List Stamp). number_since next (last_number key xs)) is.parts
          ∙ ap (λ (xs : List Stamp). number_since next (option_map (λ (t : Stamp). t.number) (last_of xs))) (filter-append (λ t. is_eq (key_cmp (key_of t) key)) cut kept)
          ∙ last_left next (of_key key cut) (of_key key kept) (All-filter (λ t. is_eq (key_cmp (key_of t) key)) (IsCutOff next) cut all_gone) (All-filter (λ t. is_eq (key_cmp (key_of t) key)) (IsLeft next) kept all_left)

      since_still : (key : Key) (number : ℕ) → map.get forgotten key ≡ Some number → book.opening + length cut ≤ number
      since_still key number h =
          let found = last_has (λ t. book.opening + length cut ≤ t.number) (of_key key kept) number
          (All-filter (λ t. is_eq (key_cmp (key_of t) key)) (λ t. book.opening + length cut ≤ t.number) kept (kept_since book s.lawful now later cut kept is))
          (sym (last_numbers_still key) ∙ h)
          in
          omega (arith, found.1, found.2)

      answer_indices_still : (number : ℕ) → book.opening + length cut ≤ number → answer_index_in (drop (length cut) cells) (book.opening + length cut) number ≡ answer_index_to number after.answered
      answer_indices_still number since =
          let place : length cut + (number - (book.opening + length cut)) ≡ number - book.opening = omega arith in
          ap (λ o. option_flatten o) (get_drop (length cut) cells (number - (book.opening + length cut)) ∙ ap (λ k. slice_get cells k) place)
          ∙ s.indices number (omega arith)
          ∙ ap (λ o. option_map answer_index_of o) (sym (found_still book s.lawful now later cut kept is number since))

      stands_without : IsConsistent after kept_records ports forgotten (drop (length cut) cells) count
      stands_without = record {
        lawful = lawful_after_cut book s.lawful now later cut kept is;
        rooms = s.rooms;
        ports_are = s.ports_are;
        counted = s.counted;
        last_numbers = last_numbers_still;
        since_opening = since_still;
        cells_are = let fewer = length-drop (length cut) cells in let all = accepted_count book s.lawful now later cut kept is in let before = s.cells_are in omega (arith, fewer, all, before);
        indices = answer_indices_still;
        numbers_fit = let next = next_same book s.lawful now later cut kept is in let before = s.numbers_fit in omega (arith, next, before);
      }

  -- the last numbers are those of requests of the book
  pub numbers_below : IsBelow (next_number book) numbers
  numbers_below key number h =
      let found = last_has (λ t. t.number < next_number book) (of_key key book.accepted) number
      (All-filter (λ t. is_eq (key_cmp (key_of t) key)) (λ t. t.number < next_number book) book.accepted (numbered_below book.accepted book.opening s.lawful.numbered))
      (sym (s.last_numbers key) ∙ h)
      in
      omega (arith, found.1, found.2)

  -- the answer indices tell what is over
  answer_index_at : (k : ℕ) (d : Stamp) → k < length book.accepted → get_or cells k None ≡ answer_index_to (get_or book.accepted k d).number book.answered
  answer_index_at k d within =
      let number = numbered_at book.accepted book.opening s.lawful.numbered k d within in
      let place : (get_or book.accepted k d).number - book.opening ≡ k = omega (arith, number) in
      let inside : k < length cells = let same = s.cells_are in omega (arith, same, within) in
      ap (λ o. option_flatten o) (sym (get_is cells k None inside) ∙ ap (λ i. slice_get cells i) (sym place))
      ∙ s.indices (get_or book.accepted k d).number (omega (arith, number))

  over_by : (now : ℕ) (answer : Option AnswerKept) → IsOverBy book.setup.limits.span now (option_map answer_index_of answer) → (a : AnswerKept) × (answer ≡ Some a) × (a.moment + book.setup.limits.span ≤ now)
  over_by now None h = absurd h
  over_by now (Some a) h = (a, refl, h)

  unended_by : (now : ℕ) (rest : List Stamp) → ((d : Stamp) → 0 < length rest → ¬ IsOver book now (get_or rest 0 d)) → BeginsUnended book now rest
  unended_by now [] h = tt
  unended_by now (next ∷ later) h = h next (omega arith)

  module _ (now n : ℕ) (within : n ≤ length cells) (over : All (IsOverBy book.setup.limits.span now) (take n cells)) (longest : (d : Option AnswerIndex) → n < length cells → ¬ IsOverBy book.setup.limits.span now (get_or cells n d)) where
    over_here : (k : ℕ) (d : Stamp) → k < length (take n book.accepted) → IsOver book now (get_or (take n book.accepted) k d)
    over_here k d inside =
        let same = s.cells_are in
        let counted = length-take-le n book.accepted (omega (arith, same, within)) in
        let counted_cells = length-take-le n cells within in
        let below : k < n = omega (arith, counted, inside) in
        let told : IsOverBy book.setup.limits.span now (get_or cells k None) =
        subst (IsOverBy book.setup.limits.span now) (get_or-take n cells k None below) (over k None (omega (arith, counted_cells, below))) in
        subst (λ (t : Stamp). IsOver book now t) (sym (get_or-take n book.accepted k d below))
        (over_by now (answer_to (get_or book.accepted k d).number book.answered)
        (subst (IsOverBy book.setup.limits.span now) (answer_index_at k d (omega (arith, same, within, below))) told))

    not_over_here : (d : Stamp) → n < length book.accepted → ¬ IsOver book now (get_or book.accepted n d)
    not_over_here d inside is =
        let same = s.cells_are in
        longest None (omega (arith, same, inside))
        (subst (IsOverBy book.setup.limits.span now) (sym (answer_index_at n d inside ∙ ap (λ o. option_map answer_index_of o) is.1)) is.2)

    pub cut_found : IsCut book now (take n book.accepted) (drop n book.accepted)
    cut_found = record {
      parts = sym (take-append-drop n book.accepted);
      over = over_here;
      longest = unended_by now (drop n book.accepted)
          (λ d some.
          let left = length-drop n book.accepted in
          let first : get_or (drop n book.accepted) 0 d ≡ get_or book.accepted n d = get_or-drop n book.accepted 0 d ∙ ap (λ k. get_or book.accepted k d) (let same : n + 0 ≡ n = omega arith in same) in
          subst (λ (t : Stamp). ¬ IsOver book now t) (sym first) (not_over_here d (omega (arith, left, some))));
    }

-- the same of the book as it is seen
module _ (book value : Book) (same : book ≡ value) (kept_records : List Kept) (ports : ℕ) (numbers : map.FinMap key_cmp ℕ) (cells : List (Option AnswerIndex)) (count : ℕ) (s : IsConsistent book kept_records ports numbers cells count) where
  module _ (seen : List (Option AnswerIndex)) (are : seen ≡ cells) (span : ℕ) (is_span : span ≡ book.setup.limits.span) (now n : ℕ) (within : n ≤ length seen) (over : All (IsOverBy span now) (take n seen)) (longest : (d : Option AnswerIndex) → n < length seen → ¬ IsOverBy span now (get_or seen n d)) where
    pub cut_within : n ≤ length value.accepted
    cut_within = subst (λ (b : Book). n ≤ length b.accepted) same (let as_many = ap length are in let all = s.cells_are in omega (arith, within, as_many, all))

    pub cut_is : IsCut value now (take n value.accepted) (drop n value.accepted)
    cut_is =
        subst (λ (b : Book). IsCut b now (take n b.accepted) (drop n b.accepted)) same
        (cut_found book kept_records ports numbers cells count s now n
        (subst (λ xs. n ≤ length xs) are within)
        (subst (λ xs. All (IsOverBy book.setup.limits.span now) (take n xs)) are (subst (λ m. All (IsOverBy m now) (take n seen)) is_span over))
        (subst (λ xs. (d : Option AnswerIndex) → n < length xs → ¬ IsOverBy book.setup.limits.span now (get_or xs n d)) are
        (subst (λ m. (d : Option AnswerIndex) → n < length seen → ¬ IsOverBy m now (get_or seen n d)) is_span longest)))

    pub cut_some : (n ≡ 0 → ⊥) → 1 ≤ length (take n value.accepted)
    cut_some some = let few = length-take-le n value.accepted cut_within in omega (arith, few, some)

    -- where nothing is cut off
    pub none_over : n ≡ 0 → BeginsUnended value now value.accepted
    none_over none = subst (λ m. BeginsUnended value now (drop m value.accepted)) none cut_is.longest

-- the fields of a lane after a cut
module _ (setup : LaneSetup) (opening : ℕ) (accepted : List Stamp) (kept : List Kept) (answered : List AnswerKept) (served : ℕ) (slots : Table Entry) (drain : Option ℕ) (watch : Watch) (last : ℕ) where
  abbrev before : Book
  before = book_of setup opening accepted kept answered served slots drain watch last

  module _ (value : Book) (same : before ≡ value) (now n : ℕ) (later : value.last ≤ now) (cuts : IsCut value now (take n value.accepted) (drop n value.accepted)) (within : n ≤ length value.accepted) (ports : ℕ) (numbers : map.FinMap key_cmp ℕ) (cells : List (Option AnswerIndex)) (count : ℕ) (s : IsConsistent before kept ports numbers cells count) where
    later_here : before.last ≤ now
    later_here = subst (λ (b : Book). b.last ≤ now) (sym same) later

    cut_here : IsCut before now (take n accepted) (drop n accepted)
    cut_here = subst (λ (b : Book). IsCut b now (take n b.accepted) (drop n b.accepted)) (sym same) cuts

    pub within_here : n ≤ length accepted
    within_here = subst (λ (b : Book). n ≤ length b.accepted) (sym same) within

    pub counted : length (take n accepted) ≡ n
    counted = length-take-le n accepted within_here

    pub cells_within : n ≤ length cells
    cells_within = let same = s.cells_are in let within = within_here in omega (arith, same, within)

    -- the opening after the cut is a number that a request may have
    pub opening_fits : Fits w64 (opening + n)
    opening_fits = let fits = s.numbers_fit in let within = within_here in omega (arith, fits, within)

    -- as many answers are cut off as requests
    pub below_counted : length (answers_below (opening + n) answered) ≡ n
    below_counted =
        ap (λ m. length (answers_below (opening + m) answered)) (sym counted)
        ∙ answers_counted before s.lawful now later_here (take n accepted) (drop n accepted) cut_here
        ∙ counted

    -- each recent number is below that of the next request
    pub recent_fits : (recent earlier : map.FinMap key_cmp ℕ) → numbers ≡ merged opening recent earlier → IsBelow (next_number value) recent
    recent_fits recent earlier is =
        subst (λ (b : Book). IsBelow (next_number b) recent) same
        (recent_below opening (opening + length accepted) recent earlier (omega arith)
        (subst (λ m. IsBelow (opening + length accepted) m) is (numbers_below before kept ports numbers cells count s)))

    abbrev cut_by : ℕ → Book
    cut_by m = record before {
      opening = opening + m;
      accepted = drop n accepted;
      sent = drop m before.sent;
      answered = answers_since (opening + m) answered;
      last = now;
    }

    abbrev cut_book : Book
    cut_book = book_of setup (opening + n) (drop n accepted) kept (answers_since (opening + n) answered) served slots drain watch now

    sent_left : take (length (drop n accepted) - length kept) (drop n accepted) ≡ drop n (take (length accepted - length kept) accepted)
    sent_left =
        let sent = cut_sent before s.lawful now later_here (take n accepted) (drop n accepted) cut_here in
        let few = length-take-sent in
        let left = length-drop n accepted in
        let all : n + (length accepted - length kept - n) ≡ length accepted - length kept = omega (arith, sent, counted, few) in
        let rest : length (drop n accepted) - length kept ≡ length accepted - length kept - n = omega (arith, left) in
        ap (λ m. take m (drop n accepted)) rest ∙ sym (drop-take n (length accepted - length kept - n) accepted) ∙ ap (λ m. drop n (take m accepted)) all
      where
        length-take-sent : length (take (length accepted - length kept) accepted) ≡ length accepted - length kept
        length-take-sent = length-take-le (length accepted - length kept) accepted (omega arith)

    as_cut : cut_book ≡ without_cut before now (take n accepted) (drop n accepted)
    as_cut =
        ap (λ (xs : List Stamp). let b : Book = record before { opening = opening + n; accepted = drop n accepted; sent = xs; answered = answers_since (opening + n) answered; last = now } in b) sent_left
        ∙ ap (λ m. cut_by m) (sym counted)

    pub stands_cut : (forgotten : map.FinMap key_cmp ℕ) → ((key : Key) → map.get forgotten key ≡ number_since (opening + n) (map.get numbers key)) → IsConsistent cut_book kept ports forgotten (drop n cells) count
    stands_cut forgotten forgets =
        subst (λ (b : Book). IsConsistent b kept ports forgotten (drop n cells) count) (sym as_cut)
        (subst (λ m. IsConsistent (without_cut before now (take n accepted) (drop n accepted)) kept ports forgotten (drop m cells) count) counted
        (stands_without before kept ports numbers cells count s now later_here (take n accepted) (drop n accepted) cut_here forgotten
        (λ key. forgets key ∙ ap (λ m. number_since (opening + m) (map.get numbers key)) (sym counted))))

    abbrev the_volume : ℕ → Volume
    the_volume m = record { opening = opening; stamps = take n accepted; answered = answers_below (opening + m) answered; cleared = tt }

    pub cut_seen : (volume : Volume) (new : Book) → volume ≡ the_volume n → new ≡ cut_book → (volume ≡ volume_of value (take n value.accepted)) × (new ≡ without_cut value now (take n value.accepted) (drop n value.accepted))
    cut_seen volume new is becomes =
        subst (λ (b : Book). (volume ≡ volume_of b (take n b.accepted)) × (new ≡ without_cut b now (take n b.accepted) (drop n b.accepted))) same
        (is ∙ ap (λ m. the_volume m) (sym counted), becomes ∙ as_cut)

    -- the same of lists that are read from the fields
    module _ (left : List Stamp) (left_is : left ≡ drop n accepted) (others : List AnswerKept) (others_are : others ≡ answers_since (opening + n) answered) where
      abbrev left_book : Book
      left_book = book_of setup (opening + n) left kept others served slots drain watch now

      left_book_is : left_book ≡ cut_book
      left_book_is =
          ap (λ (xs : List Stamp). book_of setup (opening + n) xs kept others served slots drain watch now) left_is
          ∙ ap (λ (xs : List AnswerKept). book_of setup (opening + n) (drop n accepted) kept xs served slots drain watch now) others_are

      pub stands_left : (left_cells : List (Option AnswerIndex)) → left_cells ≡ drop n cells → (forgotten : map.FinMap key_cmp ℕ) → ((key : Key) → map.get forgotten key ≡ number_since (opening + n) (map.get numbers key)) → IsConsistent left_book kept ports forgotten left_cells count
      stands_left left_cells cells_are forgotten forgets =
          subst (λ (b : Book). IsConsistent b kept ports forgotten left_cells count) (sym left_book_is)
          (subst (λ (xs : List (Option AnswerIndex)). IsConsistent cut_book kept ports forgotten xs count) (sym cells_are)
          (stands_cut forgotten forgets))

      pub left_seen : (gone : List Stamp) → gone ≡ take n accepted → (below : List AnswerKept) → below ≡ answers_below (opening + n) answered
          → ((let volume : Volume = record { opening = opening; stamps = gone; answered = below; cleared = tt } in volume) ≡ volume_of value (take n value.accepted)) × (left_book ≡ without_cut value now (take n value.accepted) (drop n value.accepted))
      left_seen gone gone_are below below_are =
          cut_seen _ _
          (ap (λ (xs : List Stamp). let volume : Volume = record { opening = opening; stamps = xs; answered = below; cleared = tt } in volume) gone_are
          ∙ ap (λ (xs : List AnswerKept). let volume : Volume = record { opening = opening; stamps = take n accepted; answered = xs; cleared = tt } in volume) below_are)
          left_book_is
