-- Books, written out, at which the bounds are reached.
use Rattle.std.proofs.Common.{◌≡◌, ◌≢◌, ℕ, suc, ◌<◌, ◌≤◌, Bool, true, false, cond, List, [], ◌∷◌, ◌++◌, length, get_or, zero, Option, Some, None, refl, sym, ap, ◌∙◌, subst, arith}
use Rattle.std.specs.Prelude.{map as each, All, AllPairs}
use Rattle.std.specs.Ordering.{eq_by_cmp}
use Rattle.std.specs.FinMap as map
use Rattle.std.specs.List.{filter_map}
use Rattle.std.specs.List.Sorted.{IsPermutation}
use Rattle.std.proofs.lemmas.List.{append-nil}
use Rattle.std.proofs.lemmas.List.Elements.{All-nil, All-cons}
use Rattle.std.proofs.lemmas.List.Quantifiers.{all_pairs_push}
use Rattle.std.proofs.lemmas.List.Sorted.{IsPermutation-refl, IsPermutation-sym, IsPermutation-map, length_permutation}
use Rattle.rad_tables.specs.declared.slots.Slot.{Slot}
use Rattle.rad_tables.specs.Pairs.{slot_cmp, first_slot, IsInRange as IsSlotInRange}
use Rattle.rad_tables.proofs.SlotLemmas.{exact_slots, slots_total, tied}
use Rattle.rad_tables.proofs.MapLemmas.{given-insert_absent}
use Rattle.rad_lane.specs.declared.stamp.Stamp.{Stamp}
use Rattle.rad_lane.specs.declared.entry.Entry.{Entry}
use Rattle.rad_lane.specs.declared.entry.Entry.TheVariants.{Sending as sending, Probe as probe}
use Rattle.rad_lane.specs.declared.watch.Watch.TheVariants.{Down as down}
use Rattle.rad_lane.specs.Setup.{LaneSetup, IsOfItsRealms}
use Rattle.rad_lane.specs.Stamp.{Recorded, IsRecord, key_of}
use Rattle.rad_lane.specs.Outstanding.{Outstanding, first_sending}
use Rattle.rad_lane.specs.Entries.{request_in, sendings_in}
use Rattle.rad_lane.specs.Book.{Book, outstanding_count}
use Rattle.rad_lane.specs.Lawful.{IsLawful, NoRepeatWithinSpan, ForwardsItsRecord, IsTheLanes}
use Rattle.rad_progress.specs.StepsLeft.{steps_left, most_steps}
use Rattle.rad_progress.specs.Rounds.{Rounds}
use Rattle.rad_progress.specs.Examples.{Fits, IsInRange, waiting, behind}
use Rattle.rad_progress.proofs.Held.{Held}
use Rattle.rad_progress.proofs.OneLess.{while_down, over}
use Rattle.rad_progress.proofs.ServedInRounds.{full}

-- the most steps are left to a lane whose wait is over
pub wait_over : (book : Book) (now until next : ℕ) (out : Option Slot) → IsLawful book → book.watch ≡ down until next out → until ≤ now → steps_left book now ≡ most_steps book
wait_over book now until next out lawful is h =
    let bounded = lawful.outstanding_bounded in
    while_down book now until next out is ∙ over book now until next h ∙ omega (arith, bounded)

no_items : {X : Type 0} (xs : List X) → length xs ≡ 0 → xs ≡ []
no_items [] e = refl
no_items (x ∷ xs) e = absurd (omega (arith, e))

no_entries : map.entries (map.empty {X = Entry} {R = slot_cmp}) ≡ []
no_entries = no_items _ (sym (map.len-entries _) ∙ map.len-empty slot_cmp Entry)

nothing_at : (slot : Slot) (entry : Entry) → map.get (map.empty {X = Entry} {R = slot_cmp}) slot ≡ Some entry → ⊥
nothing_at slot entry h = let none : map.get (map.empty {X = Entry} {R = slot_cmp}) slot ≡ None = map.get-empty slot_cmp slot in cc

-- a list of one, and of two
one_is : {X : Type 0} (P : X → Type 0) (x : X) → P x → All P (x ∷ [])
one_is P x h = All-cons P x [] h (All-nil P)

no_pair : {X : Type 0} (R : X → X → Type 0) (x : X) → AllPairs R (x ∷ [])
no_pair R x i j d less within = absurd (omega (arith, less, within))

one_pair : {X : Type 0} (R : X → X → Type 0) (x y : X) → R x y → AllPairs R (x ∷ y ∷ [])
one_pair R x y h = all_pairs_push R (x ∷ []) y (no_pair R x) (λ k d within. first k d within)
  where
    first : (k : ℕ) (d : _) → k < 1 → R (get_or (x ∷ []) k d) y
    first zero d within = h
    first (suc k) d within = absurd (omega (arith, within))

module _ (setup : LaneSetup) (range : IsInRange setup) (r : Recorded) (fits : Fits setup 0 r) where
  none_there : outstanding_count (waiting setup r) ≡ 0
  none_there = ap (λ (es : List (Slot × Entry)). length (filter_map request_in (each (λ e. e.1) es))) no_entries

  pub waiting_lawful : IsLawful (waiting setup r)
  waiting_lawful = record {
    in_order = refl;
    numbered = ap (λ n. n ∷ []) fits.numbered;
    timed = no_pair (λ (s t : Stamp). s.moment ≤ t.moment) r.stamp;
    passed = one_is (λ (s : Stamp). s.moment ≤ r.stamp.moment) r.stamp (omega arith);
    no_repeat = no_pair (NoRepeatWithinSpan (waiting setup r)) r.stamp;
    placed_once = rw no_entries (IsPermutation-refl []);
    of_its_realms = one_is (λ (q : Recorded). IsRecord q × IsOfItsRealms setup q.text) r (fits.is_record, fits.realm);
    outstanding_realms = λ slot entry h. absurd (nothing_at slot _ h);
    answered_realms = All-nil _;
    forwards_its_record = λ slot entry h. absurd (nothing_at slot _ h);
    probe_apart = λ slot octets h. nothing_at slot _ h;
    holds_its_own = λ slot entry h. absurd (nothing_at slot _ h);
    allotted_in_range = tt;
    ports_least = omega (arith, range.ports, range.limits.ports.0);
    ports_most = omega (arith, range.ports, range.limits.ports.1);
    queued_bounded = range.limits.queue.0;
    outstanding_bounded = omega (arith, none_there);
    accepted_bounded = range.limits.book.0;
    answers_verified = All-nil _;
    serials_rise = λ k within. absurd (omega (arith, within));
    served_count = refl;
    drained_count = tt;
  }

  pub waiting_steps : steps_left (waiting setup r) r.stamp.moment ≡ 2
  waiting_steps =
      let all = wait_over (waiting setup r) r.stamp.moment r.stamp.moment r.stamp.moment None waiting_lawful refl (omega arith) in
      let none = none_there in
      let wide = range.limits.window.0 in
      omega (arith, all, none, wide)

-- one request is outstanding, and one waits behind it
module _ (setup : LaneSetup) (range : IsInRange setup) (r q : Recorded) (fits : Fits setup 0 r) (fits_next : Fits setup 1 q) (later : r.stamp.moment ≤ q.stamp.moment) (other : key_of r.stamp ≢ key_of q.stamp) (roomy : 2 ≤ setup.limits.book) where
  abbrev entry : Outstanding
  entry = first_sending setup r.stamp.moment r 0

  abbrev held : Held
  held = map.insert map.empty first_slot (sending entry)

  abbrev IsOwn : Slot → Entry → Type 0
  IsOwn slot x = IsSlotInRange setup.ports slot × IsTheLanes setup slot x

  -- nothing else is outstanding
  only_by : (b : Bool) (at : Slot) (x : Entry) → (b ≡ true → at ≡ first_slot) → cond b (Some (sending entry)) (map.get (map.empty {X = Entry} {R = slot_cmp}) at) ≡ Some x → (at ≡ first_slot) × (sending entry ≡ x)
  only_by true at x same is = (same refl, cc)
  only_by false at x same is = absurd (nothing_at at x is)

  only : (at : Slot) (x : Entry) → map.get held at ≡ Some x → (at ≡ first_slot) × (sending entry ≡ x)
  only at x is = only_by (eq_by_cmp slot_cmp at first_slot) at x (λ h. tied at first_slot h) (sym (map.get-insert slots_total map.empty first_slot (sending entry) at) ∙ is)

  one_entry : (e : Outstanding) → sending entry ≡ sending e → entry ≡ e
  one_entry e is = cc

  not_probe : (octets : List ℕ) → sending entry ≡ probe octets → ⊥
  not_probe octets is = cc

  none_before : sendings_in (map.empty {X = Entry} {R = slot_cmp}) ≡ []
  none_before = ap (λ (es : List (Slot × Entry)). filter_map request_in (each (λ e. e.1) es)) no_entries

  held_is : IsPermutation (sendings_in held) (entry ∷ [])
  held_is =
      subst (λ (es : List Outstanding). IsPermutation (sendings_in held) (entry ∷ es)) none_before
      (given-insert_absent slot_cmp request_in slots_total exact_slots map.empty first_slot (sending entry) (map.get-empty slot_cmp first_slot))

  one_out : outstanding_count (behind setup r q) ≡ 1
  one_out = let h = length_permutation _ _ held_is in omega (arith, h)

  stamps_are : IsPermutation (r.stamp ∷ []) (each (λ e. e.request.stamp) (sendings_in held) ++ [])
  stamps_are =
      subst (λ (ss : List Stamp). IsPermutation (r.stamp ∷ []) ss) (sym (append-nil (each (λ e. e.request.stamp) (sendings_in held))))
      (IsPermutation-sym _ _ (IsPermutation-map (λ (e : Outstanding). e.request.stamp) (sendings_in held) (entry ∷ []) held_is))

  pub behind_lawful : IsLawful (behind setup r q)
  behind_lawful = record {
    in_order = refl;
    numbered = ap (λ n. n ∷ q.stamp.number ∷ []) fits.numbered ∙ ap (λ n. 0 ∷ n ∷ []) fits_next.numbered;
    timed = one_pair (λ (s t : Stamp). s.moment ≤ t.moment) r.stamp q.stamp later;
    passed = All-cons (λ (s : Stamp). s.moment ≤ q.stamp.moment) r.stamp (q.stamp ∷ []) later (one_is (λ (s : Stamp). s.moment ≤ q.stamp.moment) q.stamp (omega arith));
    no_repeat = one_pair (NoRepeatWithinSpan (behind setup r q)) r.stamp q.stamp (λ same. absurd (other same));
    placed_once = stamps_are;
    of_its_realms = one_is (λ (x : Recorded). IsRecord x × IsOfItsRealms setup x.text) q (fits_next.is_record, fits_next.realm);
    outstanding_realms = λ slot e h. subst (λ (o : Outstanding). IsOfItsRealms setup o.octets) (one_entry e (only slot (sending e) h).1) fits.realm_sent;
    answered_realms = All-nil _;
    forwards_its_record = λ slot e h.
        let is = only slot (sending e) h in
        subst (λ (o : Outstanding). ForwardsItsRecord setup slot o) (one_entry e is.1)
        (subst (λ (s : Slot). ForwardsItsRecord setup s entry) (sym is.0) (record { is_record = fits.is_record; octets = refl }));
    probe_apart = λ slot octets h. not_probe octets (only slot (probe octets) h).1;
    holds_its_own = λ slot x h.
        let is = only slot x h in
        subst (λ (y : Entry). IsOwn slot y) is.1 (subst (λ (s : Slot). IsOwn s (sending entry)) (sym is.0) ((omega (arith, range.ports, range.limits.ports.0), omega arith), (refl, refl)));
    allotted_in_range = (omega (arith, range.ports, range.limits.ports.0), omega arith);
    ports_least = omega (arith, range.ports, range.limits.ports.0);
    ports_most = omega (arith, range.ports, range.limits.ports.1);
    queued_bounded = range.limits.queue.0;
    outstanding_bounded = let wide = range.limits.window.0 in omega (arith, one_out, wide);
    accepted_bounded = roomy;
    answers_verified = All-nil _;
    serials_rise = λ k within. absurd (omega (arith, within));
    served_count = refl;
    drained_count = tt;
  }

  pub not_in_one : setup.limits.window ≡ 1 → (new : Book) → Rounds 1 (behind setup r q) new → length new.queued ≡ 1
  not_in_one narrow new rounds =
      let one = one_out in
      full (behind setup r q) behind_lawful.probe_apart range.limits 0 new (omega (arith, one, narrow)) rounds ∙ omega arith
