-- A lane that keeps an answer is lawful still.
use Rattle.std.proofs.Common.{◌≡◌, ℕ, zero, suc, ◌+◌, ◌-◌, ◌<◌, ◌≤◌, Bool, true, false, cond, eqb, List, [], ◌∷◌, ◌++◌, length, get_or, set, Option, Some, None, inl, inr, refl, sym, ap, ◌∙◌, subst, arith, append_assoc, length-append}
use Rattle.std.specs.Prelude.{map as each, All, ◌==◌, slice_get, option_map}
use Rattle.std.specs.Option.{option_flatten, option_or}
use Rattle.std.specs.List.{AllByRecursion, IsDistinct, range_with_len, Contains}
use Rattle.std.specs.Ordering.{eq_by_cmp}
use Rattle.std.specs.FinMap as map
use Rattle.std.specs.List.Sorted.{IsPermutation, IsStrictlyIncreasing}
use Rattle.std.proofs.lemmas.Bool.{ne_eqb, eq-eqb}
use Rattle.std.proofs.lemmas.Bool.Decides.{eqb_tells, leb_tells}
use Rattle.std.proofs.Math.Seq.{get_or-append_seam}
use Rattle.std.proofs.lemmas.List.FromFn.{get_or-range_with_len}
use Rattle.std.proofs.lemmas.List.{length-map, map-append, length-set, get_or-map, get_or_append_left}
use Rattle.std.proofs.lemmas.List.Elements.{All-push, All-contains}
use Rattle.std.proofs.lemmas.List.Folds.{find-append}
use Rattle.std.proofs.lemmas.List.Sorted.{IsPermutation-sym, IsPermutation-trans, IsPermutation-map, IsPermutation-append_left, IsPermutation-to_front, length_permutation, Contains-permutation}
use Rattle.std.proofs.lemmas.Map.Keys.{IsDistinct-IsPermutation, IsDistinct-head}
use Rattle.rad_tables.specs.declared.slots.Slot.{Slot}
use Rattle.rad_tables.specs.Keys.{key_cmp}
use Rattle.rad_tables.specs.Pairs.{slot_cmp}
use Rattle.rad_tables.proofs.SlotLemmas.{slots_total, tied}
use Rattle.rad_lane.specs.declared.answered.AnswerIndex.{AnswerIndex}
use Rattle.rad_lane.specs.declared.stamp.Stamp.{Stamp}
use Rattle.rad_lane.specs.declared.entry.Entry.{Entry}
use Rattle.rad_lane.specs.declared.entry.Entry.TheVariants.{Sending as sending, Probe as probe}
use Rattle.rad_lane.specs.declared.watch.Watch.{Watch}
use Rattle.rad_lane.specs.declared.watch.Watch.TheVariants.{Up as up, Down as down}
use Rattle.rad_lane.specs.Stamp.{Recorded, Kept, IsRecord}
use Rattle.rad_lane.specs.Outstanding.{Outstanding, AnswerKept, answered_record, octets_of}
use Rattle.rad_lane.specs.Setup.{IsOfItsRealms}
use Rattle.rad_lane.specs.Entries.{sendings_in}
use Rattle.rad_lane.specs.Book.{Book, next_number, outstanding_at}
use Rattle.rad_lane.specs.Repeat.{answer_to}
use Rattle.rad_lane.specs.Hears.{KeepsAnswer, with_answer}
use Rattle.rad_lane.specs.Lawful.{IsLawful, IsVerified, ProbeStands}
use Rattle.rad_lane.specs.internal.Invariant.{IsConsistent, answer_index_of, answer_index_in, answer_index_to}
use Rattle.rad_packet.specs.Packet.{identifier_of}
use Rattle.rad_auth.specs.Forwarding.{forwarded}
use Rattle.rad_auth.specs.Refusing.{RefusesReply}
use Rattle.rad_auth.specs.declared.responding.ReplyFault.TheVariants as reply
use Rattle.rad_auth.proofs.Forwards.{forwarded-identifier}
use Rattle.rad_lane.proofs.HeldLemmas.{stamps_in, sending_leaves}
use Rattle.rad_lane.proofs.RealmForwarded.{or_none}
use Rattle.rad_lane.proofs.VerifiedLater.{passed_later, verified_more}

pub eqb_flips : (a b : ℕ) → eqb a b ≡ eqb b a
eqb_flips a b = elim (eqb_tells a b) [
  | inl same ↦ same.0 ∙ sym (eq-eqb b a (sym same.1))
  | inr apart ↦ apart.0 ∙ sym (ne_eqb b a (λ e. apart.1 (sym e)))
]

-- numbers that follow one another differ
apart_below : (x b n : ℕ) → x < b → AllByRecursion (λ y. eqb x y ≡ false) (range_with_len b n)
apart_below x b zero h = tt
apart_below x b (suc n) h = (ne_eqb x b (λ e. absurd (omega (arith, h, e))), apart_below x (b + 1) n (omega arith))

pub distinct_range : (a n : ℕ) → IsDistinct eqb (range_with_len a n)
unfolding IsDistinct
distinct_range a zero = tt
distinct_range a (suc n) = (apart_below a (a + 1) n (omega arith), distinct_range (a + 1) n)

-- what is found in a list of cells
get_set_same : {X : Type 0} (xs : List X) (i : ℕ) (x : X) → i < length xs → slice_get (set xs i x) i ≡ Some x
get_set_same [] i x h = absurd (omega arith)
get_set_same (y ∷ xs) zero x h = refl
get_set_same (y ∷ xs) (suc i) x h = get_set_same xs i x (omega arith)

get_set_other : {X : Type 0} (xs : List X) (i j : ℕ) (x : X) → (j ≡ i → ⊥) → slice_get (set xs i x) j ≡ slice_get xs j
get_set_other [] i j x h = refl
get_set_other (y ∷ xs) zero zero x h = absurd (h refl)
get_set_other (y ∷ xs) zero (suc j) x h = refl
get_set_other (y ∷ xs) (suc i) zero x h = refl
get_set_other (y ∷ xs) (suc i) (suc j) x h = get_set_other xs i j x (λ e. h (ap suc e))

-- an item more that is above all rises
rises : (numbers : List ℕ) (next : ℕ) → IsStrictlyIncreasing numbers → All (λ n. n < next) numbers → IsStrictlyIncreasing (numbers ++ next ∷ [])
rises numbers next h below k within =
    let counted = length-append numbers (next ∷ []) in
    elim (leb_tells (k + 2) (length numbers)) [
      | inl inside ↦
          let low : get_or (numbers ++ next ∷ []) k 0 ≡ get_or numbers k 0 = get_or_append_left numbers (next ∷ []) 0 k (omega (arith, inside.1)) in
          let high : get_or (numbers ++ next ∷ []) (k + 1) 0 ≡ get_or numbers (k + 1) 0 = get_or_append_left numbers (next ∷ []) 0 (k + 1) (omega (arith, inside.1)) in
          let rise = h k (omega (arith, inside.1)) in
          rw (low, high) rise
      | inr last ↦
          let at : k + 1 ≡ length numbers = omega (arith, last.1, within, counted) in
          let low : get_or (numbers ++ next ∷ []) k 0 ≡ get_or numbers k 0 = get_or_append_left numbers (next ∷ []) 0 k (omega (arith, at)) in
          let high : get_or (numbers ++ next ∷ []) (k + 1) 0 ≡ next = ap (λ n. get_or (numbers ++ next ∷ []) n 0) at ∙ get_or-append_seam numbers next [] 0 in
          rw (low, high) (below k 0 (omega (arith, at)))
    ]

module _ (book : Book) (l : IsLawful book) (slot : Slot) (entry : Outstanding) (there : outstanding_at book slot entry) where
  abbrev stamp : Stamp
  stamp = entry.request.stamp

  abbrev left : map.FinMap slot_cmp Entry
  left = map.remove book.held slot

  abbrev answers : List Stamp
  answers = each (λ a. a.stamp) book.answered

  abbrev queue : List Stamp
  queue = each (λ r. r.stamp) book.queued

  -- the requests accepted are this one and the others
  all_accepted : IsPermutation book.accepted (stamp ∷ ((stamps_in left ++ answers) ++ queue))
  all_accepted =
      let sent : IsPermutation book.sent (stamp ∷ (stamps_in left ++ answers)) = IsPermutation-trans _ _ _ l.placed_once (IsPermutation-append_left answers (stamps_in book.held) (stamp ∷ stamps_in left) (sending_leaves book.held slot entry there)) in
      subst (λ (xs : List Stamp). IsPermutation xs (stamp ∷ ((stamps_in left ++ answers) ++ queue))) (sym l.in_order)
      (IsPermutation-append_left queue book.sent (stamp ∷ (stamps_in left ++ answers)) sent)

  is_accepted : Contains book.accepted stamp
  is_accepted = Contains-permutation (stamp ∷ ((stamps_in left ++ answers) ++ queue)) book.accepted stamp (IsPermutation-sym _ _ all_accepted) (0, omega arith, refl)

  pub has_passed : stamp.moment ≤ book.last
  has_passed = All-contains (λ s. s.moment ≤ book.last) book.accepted stamp l.passed is_accepted

  number_is : stamp.number ≡ book.opening + is_accepted.0
  number_is =
      ap (λ (s : Stamp). s.number) (sym is_accepted.2)
      ∙ sym (get_or-map (λ (s : Stamp). s.number) book.accepted is_accepted.0 stamp 0 is_accepted.1)
      ∙ ap (λ ns. get_or ns is_accepted.0 0) l.numbered
      ∙ get_or-range_with_len book.opening (length book.accepted) is_accepted.0 0 is_accepted.1

  pub number_since : book.opening ≤ stamp.number
  number_since = omega (arith, number_is)

  pub number_within : stamp.number - book.opening < length book.accepted
  number_within = omega (arith, number_is, is_accepted.1)

  numbers_apart : AllByRecursion (λ y. eqb stamp.number y ≡ false) (each (λ s. s.number) ((stamps_in left ++ answers) ++ queue))
  numbers_apart =
      IsDistinct-head eqb stamp.number (each (λ s. s.number) ((stamps_in left ++ answers) ++ queue)) (IsDistinct-IsPermutation eqb eqb_flips (each (λ s. s.number) book.accepted) (each (λ s. s.number) (stamp ∷ ((stamps_in left ++ answers) ++ queue)))
      (IsPermutation-map (λ s. s.number) _ _ all_accepted)
      (subst (λ ns. IsDistinct eqb ns) (sym l.numbered) (distinct_range book.opening (length book.accepted))))

  found_by : (b : Bool) (a : AnswerKept) (rest : Option AnswerKept) → b ≡ false → rest ≡ None → cond b (Some a) rest ≡ None
  found_by true a rest e h = cc
  found_by false a rest e h = h

  none_found : (number : ℕ) (answered : List AnswerKept) (behind : List Stamp) → AllByRecursion (λ y. eqb number y ≡ false) (each (λ s. s.number) (each (λ a. a.stamp) answered ++ behind)) → answer_to number answered ≡ None
  none_found number [] behind h = refl
  none_found number (a ∷ answered) behind h = found_by _ a _ (eqb_flips a.stamp.number number ∙ h.0) (none_found number answered behind h.1)

  skipped : (number : ℕ) (front : List Stamp) (answered : List AnswerKept) (behind : List Stamp) → AllByRecursion (λ y. eqb number y ≡ false) (each (λ s. s.number) ((front ++ each (λ a. a.stamp) answered) ++ behind)) → answer_to number answered ≡ None
  skipped number [] answered behind h = none_found number answered behind h
  skipped number (s ∷ front) answered behind h = skipped number front answered behind h.1

  -- it is not answered yet
  pub not_answered : answer_to stamp.number book.answered ≡ None
  not_answered = skipped stamp.number (stamps_in left) book.answered queue numbers_apart

  left_by : (b : Bool) (old : Option Entry) (x : Entry) → cond b None old ≡ Some x → old ≡ Some x
  left_by true old x h = cc
  left_by false old x h = h

  -- what is left was there
  was_there : (at : Slot) (x : Entry) → map.get left at ≡ Some x → map.get book.held at ≡ Some x
  was_there at x is = left_by (eq_by_cmp slot_cmp at slot) (map.get book.held at) x (sym (map.get-remove slots_total book.held slot at) ∙ is)

  stays_by : (b : Bool) (at : Slot) (old : Option Entry) (octets : List ℕ) → (b ≡ true → old ≡ Some (sending entry)) → old ≡ Some (probe octets) → cond b None old ≡ Some (probe octets)
  stays_by true at old octets same is = let other : Some (sending entry) ≡ Some (probe octets) = sym (same refl) ∙ is in cc
  stays_by false at old octets same is = is

  -- a probe stays where it is
  probe_stays : (at : Slot) (octets : List ℕ) → map.get book.held at ≡ Some (probe octets) → map.get left at ≡ Some (probe octets)
  probe_stays at octets is =
      map.get-remove slots_total book.held slot at
      ∙ stays_by (eq_by_cmp slot_cmp at slot) at (map.get book.held at) octets (λ e. ap (map.get book.held) (tied at slot e) ∙ there) is

  -- as many sendings are left as there were but one
  pub one_less : length (sendings_in book.held) ≡ length (sendings_in left) + 1
  one_less =
      let stamps = length_permutation _ _ (sending_leaves book.held slot entry there) in
      omega (arith, stamps, length-map (sendings_in book.held) (λ e. e.request.stamp), length-map (sendings_in left) (λ e. e.request.stamp))

  module _ (now : ℕ) (later : book.last ≤ now) (packet : List ℕ) (answer : AnswerKept) (keeps : KeepsAnswer book.setup.home_secret now book.served entry packet answer) where
    abbrev after : Book
    after = with_answer book now slot answer

    -- the answers found before are found still
    pub found_still : (number : ℕ) (a : AnswerKept) → answer_to number book.answered ≡ Some a → answer_to number after.answered ≡ Some a
    found_still number a is =
        find-append (λ b. b.stamp.number == number) book.answered (answer ∷ [])
        ∙ ap (λ o. option_or o (answer_to number (answer ∷ []))) is

    probe_apart_still : (watch : Watch) → ProbeStands book watch → ProbeStands after watch
    probe_apart_still up h = λ at octets is. h at octets (was_there at _ is)
    probe_apart_still (down until next None) h = λ at octets is. h at octets (was_there at _ is)
    probe_apart_still (down until next (Some out)) h = ((h.0.0, probe_stays out h.0.0 h.0.1), λ at octets is. h.1 at octets (was_there at _ is))

    is_verified : IsVerified book.setup now (book.served + 1) answer
    is_verified =
        let forwards = l.forwards_its_record slot entry there in
        let record_is : answered_record answer entry.request.text ≡ entry.request = ap (λ (s : Stamp). let r : Recorded = record { stamp = s; text = entry.request.text; client_secret = answer.reply.client } in r) keeps.stamp
        ∙ ap (λ c. let r : Recorded = record { stamp = stamp; text = entry.request.text; client_secret = c } in r) keeps.client in
        record {
          answered = record {
            head_identifier = keeps.head_identifier ∙ ap (λ (s : Stamp). s.identifier) (sym keeps.stamp);
            head_authenticator = keeps.head_authenticator ∙ ap (λ (s : Stamp). s.authenticator) (sym keeps.stamp);
            answers = rw (keeps.sending, keeps.reply, keeps.client, keeps.home) keeps.answers;
            text = entry.request.text;
            is_record = subst (λ (r : Recorded). IsRecord r) (sym record_is) forwards.is_record;
            lane = book.setup.lane;
            identifier = slot.identifier;
            sending =
                keeps.sending ∙ forwards.octets ∙ ap (λ (r : Recorded). octets_of book.setup r slot.identifier) (sym record_is)
                ∙ ap (λ home. forwarded entry.request.text (record { lane = book.setup.lane; number = answer.stamp.number }) slot.identifier home) (sym keeps.home);
            since = let moment = ap (λ (s : Stamp). s.moment) keeps.stamp in omega (arith, moment, keeps.moment, has_passed, later);
          };
          lane = refl;
          home = keeps.home;
          until = omega (arith, keeps.moment);
          before = omega (arith, keeps.serial);
        }

    placed_still : IsPermutation book.sent (stamps_in left ++ each (λ a. a.stamp) after.answered)
    placed_still =
        let sent : IsPermutation book.sent (stamp ∷ (stamps_in left ++ answers)) = IsPermutation-trans _ _ _ l.placed_once (IsPermutation-append_left answers (stamps_in book.held) (stamp ∷ stamps_in left) (sending_leaves book.held slot entry there)) in
        let back : IsPermutation book.sent ((stamps_in left ++ answers) ++ stamp ∷ []) = IsPermutation-trans _ _ _ sent (IsPermutation-sym _ _ (IsPermutation-to_front (stamps_in left ++ answers) stamp)) in
        let joined : (stamps_in left ++ answers) ++ stamp ∷ [] ≡ stamps_in left ++ each (λ a. a.stamp) after.answered =
        append_assoc (stamps_in left) answers (stamp ∷ [])
        ∙ ap (λ (s : Stamp). stamps_in left ++ (answers ++ s ∷ [])) (sym keeps.stamp)
        ∙ ap (λ (xs : List Stamp). stamps_in left ++ xs) (sym (map-append (λ (a : AnswerKept). a.stamp) book.answered (answer ∷ []))) in
        subst (λ (xs : List Stamp). IsPermutation book.sent xs) joined back

    serials_still : IsStrictlyIncreasing (each (λ a. a.serial) after.answered)
    serials_still =
        let before : All (λ n. n < book.served) (each (λ a. a.serial) book.answered) = serials_before book.answered l.answers_verified in
        subst (λ ns. IsStrictlyIncreasing ns) (sym (map-append (λ (a : AnswerKept). a.serial) book.answered (answer ∷ [])))
        (subst (λ n. IsStrictlyIncreasing (each (λ a. a.serial) book.answered ++ n ∷ [])) (sym keeps.serial) (rises (each (λ a. a.serial) book.answered) book.served l.serials_rise before))
      where
        serials_before : (answered : List AnswerKept) → All (IsVerified book.setup book.last book.served) answered → All (λ n. n < book.served) (each (λ a. a.serial) answered)
        serials_before answered h k d within =
            let counted = length-map answered (λ a. a.serial) in
            let is = get_or-map (λ (a : AnswerKept). a.serial) answered k answer d (omega (arith, within, counted)) in
            let verified = h k answer (omega (arith, within, counted)) in
            omega (arith, is, verified.before)

    answered_lawful : IsLawful after
    answered_lawful = record {
      in_order = l.in_order;
      numbered = l.numbered;
      timed = l.timed;
      passed = passed_later book.accepted book.last now later l.passed;
      no_repeat = λ i j d less within same. let over = l.no_repeat i j d less within same in (over.0, found_still _ over.0 over.1, over.2);
      placed_once = placed_still;
      of_its_realms = l.of_its_realms;
      outstanding_realms = λ at e is. l.outstanding_realms at e (was_there at _ is);
      answered_realms = All-push (λ a. IsOfItsRealms book.setup a.reply.sending) book.answered answer l.answered_realms (subst (λ (text : List ℕ). IsOfItsRealms book.setup text) (sym keeps.sending) (l.outstanding_realms slot entry there));
      forwards_its_record = λ at e is. l.forwards_its_record at e (was_there at _ is);
      probe_apart = probe_apart_still book.watch l.probe_apart;
      holds_its_own = λ at x is. l.holds_its_own at x (was_there at x is);
      allotted_in_range = l.allotted_in_range;
      ports_least = l.ports_least;
      ports_most = l.ports_most;
      queued_bounded = l.queued_bounded;
      outstanding_bounded = let bounded = l.outstanding_bounded in omega (arith, one_less, bounded);
      accepted_bounded = l.accepted_bounded;
      answers_verified = All-push (IsVerified book.setup now (book.served + 1)) book.answered answer (verified_more book.setup book.last now book.served (book.served + 1) book.answered later (omega arith) l.answers_verified) is_verified;
      serials_rise = serials_still;
      served_count = let counted = length-append book.answered (answer ∷ []) in let before = l.served_count in omega (arith, counted, before);
      drained_count = l.drained_count;
    }

    module _ (cells : List (Option AnswerIndex)) (as_many : length cells ≡ length book.accepted) (indices : (number : ℕ) → book.opening ≤ number → answer_index_in cells book.opening number ≡ answer_index_to number book.answered) where
      abbrev answer_index : AnswerIndex
      answer_index = record { serial = book.served; moment = now }

      abbrev noted : List (Option AnswerIndex)
      noted = set cells (stamp.number - book.opening) (Some answer_index)

      answer_index_is : answer_index ≡ answer_index_of answer
      answer_index_is =
          ap (λ n. let r : AnswerIndex = record { serial = n; moment = now } in r) (sym keeps.serial)
          ∙ ap (λ n. let r : AnswerIndex = record { serial = answer.serial; moment = n } in r) (sym keeps.moment)

      -- no other request gets this answer
      other_number : (number : ℕ) → (number ≡ stamp.number → ⊥) → answer_to number after.answered ≡ answer_to number book.answered
      other_number number apart =
          find-append (λ b. b.stamp.number == number) book.answered (answer ∷ [])
          ∙ ap (λ o. option_or (answer_to number book.answered) o) (found_by _ answer None (ne_eqb answer.stamp.number number (λ e. apart (sym e ∙ ap (λ (s : Stamp). s.number) keeps.stamp))) refl)
          ∙ or_none (answer_to number book.answered)

      this_by : (b : Bool) → b ≡ true → cond b (Some answer) None ≡ Some answer
      this_by true h = refl
      this_by false h = cc

      this_number : answer_to stamp.number after.answered ≡ Some answer
      this_number =
          find-append (λ b. b.stamp.number == stamp.number) book.answered (answer ∷ [])
          ∙ ap (λ o. option_or o (answer_to stamp.number (answer ∷ []))) not_answered
          ∙ this_by _ (eq-eqb answer.stamp.number stamp.number (ap (λ (s : Stamp). s.number) keeps.stamp))

      answer_indices_kept : (number : ℕ) → book.opening ≤ number → answer_index_in noted book.opening number ≡ answer_index_to number after.answered
      answer_indices_kept number since = elim (eqb_tells number stamp.number) [
        | inl same ↦
            let here : slice_get noted (number - book.opening) ≡ Some (Some answer_index) = ap (λ n. slice_get noted (n - book.opening)) same.1 ∙ get_set_same cells (stamp.number - book.opening) (Some answer_index) (omega (arith, as_many, number_within)) in
            ap (λ o. option_flatten o) here
            ∙ ap (λ (r : AnswerIndex). Some r) answer_index_is
            ∙ ap (λ o. option_map answer_index_of o) (sym this_number)
            ∙ ap (λ n. answer_index_to n after.answered) (sym same.1)
        | inr other ↦
            let elsewhere : number - book.opening ≡ stamp.number - book.opening → ⊥ = λ e. other.1 (omega (arith, e, since, number_since)) in
            ap (λ o. option_flatten o) (get_set_other cells (stamp.number - book.opening) (number - book.opening) (Some answer_index) elsewhere)
            ∙ indices number since
            ∙ ap (λ o. option_map answer_index_of o) (sym (other_number number other.1))
      ]

      pub stands_answered : (kept : List Kept) (ports : ℕ) (numbers : map.FinMap key_cmp ℕ) (count : ℕ) → IsConsistent book kept ports numbers cells count → IsConsistent after kept ports numbers noted (count - 1)
      stands_answered kept ports numbers count s = record {
        lawful = answered_lawful;
        rooms = s.rooms;
        ports_are = s.ports_are;
        counted = let before = s.counted in omega (arith, one_less, before);
        last_numbers = s.last_numbers;
        since_opening = s.since_opening;
        cells_are = length-set cells (stamp.number - book.opening) (Some answer_index) ∙ s.cells_are;
        indices = answer_indices_kept;
        numbers_fit = s.numbers_fit;
      }

-- there are no more answers than requests
pub served_within : (book : Book) → IsLawful book → book.served ≤ next_number book
served_within book l =
    let placed = length_permutation _ _ l.placed_once in
    let both = length-append (stamps_in book.held) (each (λ a. a.stamp) book.answered) in
    let answers = length-map book.answered (λ a. a.stamp) in
    let whole = ap length l.in_order ∙ length-append book.sent (each (λ r. r.stamp) book.queued) in
    let served = l.served_count in
    omega (arith, placed, both, answers, whole, served)

-- a reply that was verified may still find no memory
pub remembers : (secret : List ℕ) (now count : ℕ) (entry : Outstanding) (packet : List ℕ) (answer : AnswerKept) → KeepsAnswer secret now count entry packet answer → RefusesReply entry.octets packet secret reply.OutOfMemory
remembers secret now count entry packet answer keeps =
    let a = keeps.answers in
    (a.verified, a.no_message_authenticator, (a.mark, a.before, a.after, a.returned))

-- the identifier of a sending is that of its pair
pub identifier_is : (book : Book) (slot : Slot) (entry : Outstanding) → IsLawful book → outstanding_at book slot entry → identifier_of entry.octets ≡ slot.identifier
identifier_is book slot entry l there = ap identifier_of (l.forwards_its_record slot entry there).octets ∙ forwarded-identifier _ _ slot.identifier _

pub there_by : (o : Option Entry) (x : Entry) (entry : Outstanding) → Some x ≡ o → x ≡ sending entry → o ≡ Some (sending entry)
there_by o x entry found is = sym found ∙ ap (λ y. Some y) is
