-- A lane that accepted a request is lawful still.
use Rattle.std.proofs.Common.{◌≡◌, ℕ, ◌+◌, ◌-◌, ◌^◌, ◌≤◌, List, [], ◌∷◌, ◌++◌, length, get_or, take, Bool, true, false, cond, Option, Some, None, inl, inr, refl, sym, ap, ◌∙◌, subst, arith, length-append}
use Rattle.std.specs.Prelude.{map as each, option_map, IsNone, IfSome}
use Rattle.std.specs.Ordering.{is_eq, eq_by_cmp}
use Rattle.std.specs.Cmp.{eq_by_cmp_equiv}
use Rattle.std.specs.FinMap as map
use Rattle.std.proofs.lemmas.List.{length-map, map-append, append-nil}
use Rattle.std.proofs.Common.{append_assoc}
use Rattle.std.proofs.lemmas.List.Elements.{All-push, All-get_or, filter-append}
use Rattle.std.proofs.lemmas.List.Quantifiers.{all_pairs_push}
use Rattle.std.proofs.lemmas.Bool.Decides.{leb_tells}
use Rattle.rad_tables.specs.declared.duplicates.Key.{Key}
use Rattle.rad_tables.specs.Keys.{key_cmp}
use Rattle.rad_lane.proofs.KeysByAge.{since_more}
use Rattle.rad_tables.specs.Pairs.{Table}
use Rattle.rad_tables.proofs.KeyLemmas.{keys_total}
use Rattle.rad_realms.specs.Checking.{Request}
use Rattle.rad_lane.specs.declared.answered.AnswerIndex.{AnswerIndex}
use Rattle.rad_lane.specs.declared.stamp.Stamp.{Stamp}
use Rattle.rad_lane.specs.declared.entry.Entry.{Entry}
use Rattle.rad_lane.specs.declared.watch.Watch.{Watch}
use Rattle.rad_lane.specs.declared.accepting.Refusal.TheVariants.{OutOfMemory}
use Rattle.rad_lane.specs.Stamp.{Recorded, Kept, IsRecord, key_of}
use Rattle.rad_lane.specs.Setup.{LaneSetup, IsOfItsRealms}
use Rattle.rad_lane.specs.Outstanding.{AnswerKept}
use Rattle.rad_lane.specs.Book.{Book, next_number}
use Rattle.rad_lane.specs.Repeat.{fresh, repeats, of_key, last_of}
use Rattle.rad_lane.specs.Accepts.{IsTaken, IsRefused, request_key, stamp_of, record_of, with_request}
use Rattle.rad_lane.specs.Lawful.{IsLawful, NoRepeatWithinSpan}
use Rattle.rad_lane.specs.internal.Invariant.{IsConsistent, HasRoom, book_of, last_number}
use Rattle.rad_lane.proofs.NumberLemmas.{numbered_more, front_same, none_more}
use Rattle.rad_lane.proofs.VerifiedLater.{passed_later, verified_later}
use Rattle.rad_lane.proofs.NoRepeatOfFresh.{unrepeated}

not_full : (n bound : ℕ) → ¬ (bound ≤ n) → n + 1 ≤ bound
not_full n bound h = elim (leb_tells bound n) [ inl above ↦ absurd (h above.1) | inr below ↦ omega (arith, below.1) ]

not_drained : (book : Book) (drain : Option ℕ) (count : ℕ) → IsNone drain → IfSome drain (λ n. count ≡ n)
not_drained book None count h = tt
not_drained book (Some n) count h = cc

numbers_below : (opening n : ℕ) → ¬ (2 ^ 62 ≤ opening + n) → opening + (n + 1) ≤ 2 ^ 62
numbers_below opening n h = elim (leb_tells (2 ^ 62) (opening + n)) [ inl above ↦ absurd (h above.1) | inr below ↦ omega (arith, below.1) ]

in_order_more : (accepted sent : List Stamp) (queued : List Recorded) (r : Recorded) → accepted ≡ sent ++ each (λ q. q.stamp) queued → accepted ++ r.stamp ∷ [] ≡ sent ++ each (λ q. q.stamp) (queued ++ r ∷ [])
in_order_more accepted sent queued r h =
    ap (λ xs. xs ++ r.stamp ∷ []) h ∙ append_assoc sent (each (λ q. q.stamp) queued) (r.stamp ∷ [])
    ∙ ap (λ xs. sent ++ xs) (sym (map-append (λ (q : Recorded). q.stamp) queued (r ∷ [])))

-- the last number of a key, where one stamp more has this one
last_pushed : (b : Bool) (stamps : List Stamp) (stamp : Stamp) → option_map (λ (s : Stamp). s.number) (last_of (stamps ++ cond b (stamp ∷ []) [])) ≡ cond b (Some stamp.number) (option_map (λ (s : Stamp). s.number) (last_of stamps))
last_pushed true [] stamp = refl
last_pushed true (s ∷ []) stamp = refl
last_pushed true (s ∷ t ∷ stamps) stamp = last_pushed true (t ∷ stamps) stamp
last_pushed false stamps stamp = ap (λ (xs : List Stamp). option_map (λ (s : Stamp). s.number) (last_of xs)) (append-nil stamps)

last_number_more : (key : Key) (stamps : List Stamp) (stamp : Stamp) → last_number key (stamps ++ stamp ∷ []) ≡ cond (is_eq (key_cmp (key_of stamp) key)) (Some stamp.number) (last_number key stamps)
last_number_more key stamps stamp =
    ap (λ (xs : List Stamp). option_map (λ (s : Stamp). s.number) (last_of xs)) (filter-append (λ s. is_eq (key_cmp (key_of s) key)) stamps (stamp ∷ []))
    ∙ last_pushed (is_eq (key_cmp (key_of stamp) key)) (of_key key stamps) stamp

numbers_more : (numbers : map.FinMap key_cmp ℕ) (stamps : List Stamp) (stamp : Stamp) → ((key : Key) → map.get numbers key ≡ last_number key stamps) → (key : Key) → map.get (map.insert numbers (key_of stamp) stamp.number) key ≡ last_number key (stamps ++ stamp ∷ [])
numbers_more numbers stamps stamp h key =
    map.get-insert keys_total numbers (key_of stamp) stamp.number key
    ∙ ap (λ o. cond (eq_by_cmp key_cmp key (key_of stamp)) (Some stamp.number) o) (h key)
    ∙ ap (λ b. cond b (Some stamp.number) (last_number key stamps)) ((eq_by_cmp_equiv keys_total).symm key (key_of stamp))
    ∙ sym (last_number_more key stamps stamp)

module _ (book : Book) (request : Request) (now : ℕ) (later : book.last ≤ now) (taken : IsTaken book request) (new : repeats book (request_key request) now ≡ fresh) (free : IsRefused book request OutOfMemory) (is_record : IsRecord (record_of (next_number book) request now)) where
  accepted_lawful : IsLawful book → IsLawful (with_request book request now)
  accepted_lawful l = record {
    in_order = in_order_more book.accepted book.sent book.queued (record_of (next_number book) request now) l.in_order;
    numbered = numbered_more (λ s. s.number) book.opening book.accepted (stamp_of (next_number book) request now) l.numbered refl;
    timed = all_pairs_push (λ s t. s.moment ≤ t.moment) book.accepted (stamp_of (next_number book) request now) l.timed
        (λ k d within. let passed : (get_or book.accepted k d).moment ≤ book.last = All-get_or (λ s. s.moment ≤ book.last) book.accepted k d within l.passed in omega (arith, passed));
    passed = All-push (λ s. s.moment ≤ now) book.accepted (stamp_of (next_number book) request now) (passed_later book.accepted book.last now later l.passed) (omega arith);
    no_repeat = all_pairs_push (NoRepeatWithinSpan book) book.accepted (stamp_of (next_number book) request now) l.no_repeat
        (unrepeated book l now later (stamp_of (next_number book) request now) refl new);
    placed_once = l.placed_once;
    of_its_realms = All-push (λ r. IsRecord r × IsOfItsRealms book.setup r.text) book.queued (record_of (next_number book) request now) l.of_its_realms (is_record, taken.realm);
    outstanding_realms = l.outstanding_realms;
    answered_realms = l.answered_realms;
    forwards_its_record = l.forwards_its_record;
    probe_apart = l.probe_apart;
    holds_its_own = l.holds_its_own;
    allotted_in_range = l.allotted_in_range;
    ports_least = l.ports_least;
    ports_most = l.ports_most;
    queued_bounded = rw (length-append book.queued (record_of (next_number book) request now ∷ [])) (not_full (length book.queued) book.setup.limits.queue free.2);
    outstanding_bounded = l.outstanding_bounded;
    accepted_bounded = rw (length-append book.accepted (stamp_of (next_number book) request now ∷ [])) (not_full (length book.accepted) book.setup.limits.book (λ full. free.1 (inl full)));
    answers_verified = verified_later book.setup book.last now book.served book.answered later l.answers_verified;
    serials_rise = l.serials_rise;
    served_count = l.served_count;
    drained_count = not_drained book book.drain _ free.0;
  }

  stands_with_request : (kept : List Kept) (k : Kept) (ports : ℕ) (numbers : map.FinMap key_cmp ℕ) (cells : List (Option AnswerIndex)) (outstanding : ℕ) → HasRoom k → IsConsistent book kept ports numbers cells outstanding → IsConsistent (with_request book request now) (kept ++ k ∷ []) ports (map.insert numbers (request_key request) (next_number book)) (cells ++ None ∷ []) outstanding
  stands_with_request kept k ports numbers cells outstanding room s = record {
    lawful = accepted_lawful s.lawful;
    rooms = All-push HasRoom kept k s.rooms room;
    ports_are = s.ports_are;
    counted = s.counted;
    last_numbers = numbers_more numbers book.accepted (stamp_of (next_number book) request now) s.last_numbers;
    since_opening = since_more numbers book.opening (request_key request) (next_number book) (omega arith) s.since_opening;
    cells_are = length-append cells (None ∷ []) ∙ ap (λ n. n + 1) s.cells_are ∙ sym (length-append book.accepted (stamp_of (next_number book) request now ∷ []));
    indices = λ number h. none_more cells (number - book.opening) ∙ s.indices number h;
    numbers_fit = rw (length-append book.accepted (stamp_of (next_number book) request now ∷ [])) (numbers_below book.opening (length book.accepted) (λ full. free.1 (inr full)));
  }

-- the fields of a lane after it accepted a request
module _ (setup : LaneSetup) (opening : ℕ) (accepted : List Stamp) (kept : List Kept) (answered : List AnswerKept) (served : ℕ) (slots : Table Entry) (drain : Option ℕ) (watch : Watch) (last : ℕ) where
  abbrev before : Book
  before = book_of setup opening accepted kept answered served slots drain watch last

  pub kept_fits : IsLawful before → length kept ≤ length accepted
  kept_fits l =
      let whole = ap length l.in_order in
      let joined = length-append (take (length accepted - length kept) accepted) (each (λ q. q.stamp) (each (λ k. k.recorded) kept)) in
      let queued : length (each (λ q. q.stamp) (each (λ k. k.recorded) kept)) ≡ length kept = length-map (each (λ (k : Kept). k.recorded) kept) (λ q. q.stamp) ∙ length-map kept (λ k. k.recorded) in
      omega (arith, whole, joined, queued)

  as_request : (request : Request) (now : ℕ) (k : Kept) → IsLawful before → k.recorded ≡ record_of (opening + length accepted) request now → book_of setup opening (accepted ++ k.recorded.stamp ∷ []) (kept ++ k ∷ []) answered served slots drain watch now ≡ with_request before request now
  as_request request now k l is =
      let sent = front_same accepted k.recorded.stamp kept k (kept_fits l) in
      let queued : each (λ (q : Kept). q.recorded) (kept ++ k ∷ []) ≡ each (λ (q : Kept). q.recorded) kept ++ k.recorded ∷ [] = map-append (λ (q : Kept). q.recorded) kept (k ∷ []) in
      ap (λ (xs : List Stamp). let b : Book = record before { accepted = accepted ++ k.recorded.stamp ∷ []; sent = xs; queued = each (λ q. q.recorded) (kept ++ k ∷ []); last = now } in b) sent
      ∙ ap (λ (xs : List Recorded). let b : Book = record before { accepted = accepted ++ k.recorded.stamp ∷ []; queued = xs; last = now } in b) queued
      ∙ ap (λ (q : Recorded). let b : Book = record before { accepted = accepted ++ q.stamp ∷ []; queued = each (λ q. q.recorded) kept ++ q ∷ []; last = now } in b) is

  module _ (value : Book) (same : before ≡ value) (ports : ℕ) (numbers : map.FinMap key_cmp ℕ) (cells : List (Option AnswerIndex)) (outstanding : ℕ) (request : Request) (now number : ℕ) (k : Kept) where
    pub stands_accepted : IsConsistent before kept ports numbers cells outstanding → value.last ≤ now → IsTaken value request → repeats value (request_key request) now ≡ fresh → IsRefused value request OutOfMemory → number ≡ next_number value → k.recorded ≡ record_of number request now → IsRecord k.recorded → HasRoom k → IsConsistent (book_of setup opening (accepted ++ k.recorded.stamp ∷ []) (kept ++ k ∷ []) answered served slots drain watch now) (kept ++ k ∷ []) ports (map.insert numbers (request_key request) number) (cells ++ None ∷ []) outstanding
    stands_accepted s later taken new free count is is_record room =
        let count_here : number ≡ opening + length accepted = count ∙ ap (λ (b : Book). next_number b) (sym same) in
        let is_here : k.recorded ≡ record_of (opening + length accepted) request now = is ∙ ap (λ n. record_of n request now) count_here in
        let record_here : IsRecord (record_of (opening + length accepted) request now) = subst IsRecord is_here is_record in
        let later_here : before.last ≤ now = subst (λ (b : Book). b.last ≤ now) (sym same) later in
        let taken_here : IsTaken before request = subst (λ (b : Book). IsTaken b request) (sym same) taken in
        let new_here : repeats before (request_key request) now ≡ fresh = ap (λ (b : Book). repeats b (request_key request) now) same ∙ new in
        let free_here : IsRefused before request OutOfMemory = subst (λ (b : Book). IsRefused b request OutOfMemory) (sym same) free in
        subst (λ (b : Book). IsConsistent b (kept ++ k ∷ []) ports (map.insert numbers (request_key request) number) (cells ++ None ∷ []) outstanding) (sym (as_request request now k s.lawful is_here))
        (subst (λ n. IsConsistent (with_request before request now) (kept ++ k ∷ []) ports (map.insert numbers (request_key request) n) (cells ++ None ∷ []) outstanding) (sym count_here)
        (stands_with_request before request now later_here taken_here new_here free_here record_here kept k ports numbers cells outstanding room s))

    pub seen_accepted : IsConsistent before kept ports numbers cells outstanding → number ≡ next_number value → k.recorded ≡ record_of number request now → book_of setup opening (accepted ++ k.recorded.stamp ∷ []) (kept ++ k ∷ []) answered served slots drain watch now ≡ with_request value request now
    seen_accepted s count is =
        as_request request now k s.lawful (is ∙ ap (λ n. record_of n request now) (count ∙ ap (λ (b : Book). next_number b) (sym same)))
        ∙ ap (λ (b : Book). with_request b request now) same

    -- the same of fields that are read after the changes
    module _ (all : List Stamp) (all_are : all ≡ accepted ++ k.recorded.stamp ∷ []) (queue : List Kept) (queue_is : queue ≡ kept ++ k ∷ []) where
      abbrev taken_book : Book
      taken_book = book_of setup opening all queue answered served slots drain watch now

      taken_book_is : taken_book ≡ book_of setup opening (accepted ++ k.recorded.stamp ∷ []) (kept ++ k ∷ []) answered served slots drain watch now
      taken_book_is =
          ap (λ (xs : List Stamp). book_of setup opening xs queue answered served slots drain watch now) all_are
          ∙ ap (λ (xs : List Kept). book_of setup opening (accepted ++ k.recorded.stamp ∷ []) xs answered served slots drain watch now) queue_is

      pub stands_taken : (key : Key) → key ≡ request_key request → (replaced : map.FinMap key_cmp ℕ) → replaced ≡ map.insert numbers key number → (more : List (Option AnswerIndex)) → more ≡ cells ++ None ∷ []
          → IsConsistent before kept ports numbers cells outstanding → value.last ≤ now → IsTaken value request → repeats value (request_key request) now ≡ fresh → IsRefused value request OutOfMemory → number ≡ next_number value → k.recorded ≡ record_of number request now → IsRecord k.recorded → HasRoom k
          → IsConsistent taken_book queue ports replaced more outstanding
      stands_taken key key_is replaced replaced_is more more_is s later taken new free count is is_record room =
          let numbers_are : replaced ≡ map.insert numbers (request_key request) number = replaced_is ∙ ap (λ q. map.insert numbers q number) key_is in
          subst (λ (b : Book). IsConsistent b queue ports replaced more outstanding) (sym taken_book_is)
          (subst (λ (xs : List Kept). IsConsistent (book_of setup opening (accepted ++ k.recorded.stamp ∷ []) (kept ++ k ∷ []) answered served slots drain watch now) xs ports replaced more outstanding) (sym queue_is)
          (subst (λ m. IsConsistent (book_of setup opening (accepted ++ k.recorded.stamp ∷ []) (kept ++ k ∷ []) answered served slots drain watch now) (kept ++ k ∷ []) ports m more outstanding) (sym numbers_are)
          (subst (λ (xs : List (Option AnswerIndex)). IsConsistent (book_of setup opening (accepted ++ k.recorded.stamp ∷ []) (kept ++ k ∷ []) answered served slots drain watch now) (kept ++ k ∷ []) ports (map.insert numbers (request_key request) number) xs outstanding) (sym more_is)
          (stands_accepted s later taken new free count is is_record room))))

      pub seen_taken : (at : ℕ) → now ≡ at → IsConsistent before kept ports numbers cells outstanding → number ≡ next_number value → k.recorded ≡ record_of number request now → taken_book ≡ with_request value request at
      seen_taken at at_is s count is = taken_book_is ∙ seen_accepted s count is ∙ ap (λ n. with_request value request n) at_is

  -- fields that are as they were
  module _ (all : List Stamp) (all_are : all ≡ accepted) (queue : List Kept) (queue_is : queue ≡ kept) where
    same_book : book_of setup opening all queue answered served slots drain watch last ≡ before
    same_book =
        ap (λ (xs : List Stamp). book_of setup opening xs queue answered served slots drain watch last) all_are
        ∙ ap (λ (xs : List Kept). book_of setup opening accepted xs answered served slots drain watch last) queue_is

    pub seen_still : (value : Book) → before ≡ value → book_of setup opening all queue answered served slots drain watch last ≡ value
    seen_still value same = same_book ∙ same

    pub stands_still : (ports : ℕ) (numbers : map.FinMap key_cmp ℕ) (cells : List (Option AnswerIndex)) (outstanding : ℕ) → IsConsistent before kept ports numbers cells outstanding → (restored : map.FinMap key_cmp ℕ) → restored ≡ numbers → (again : List (Option AnswerIndex)) → again ≡ cells
        → IsConsistent (book_of setup opening all queue answered served slots drain watch last) queue ports restored again outstanding
    stands_still ports numbers cells outstanding s restored restored_is again again_are =
        subst (λ (b : Book). IsConsistent b queue ports restored again outstanding) (sym same_book)
        (subst (λ (xs : List Kept). IsConsistent before xs ports restored again outstanding) (sym queue_is)
        (subst (λ m. IsConsistent before kept ports m again outstanding) (sym restored_is)
        (subst (λ (xs : List (Option AnswerIndex)). IsConsistent before kept ports numbers xs outstanding) (sym again_are) s)))
