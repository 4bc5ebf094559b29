-- A lane that sent a request for the first time is lawful still.
use Rattle.std.proofs.Common.{◌≡◌, ℕ, ◌+◌, ◌-◌, ◌<◌, ◌≤◌, Bool, true, false, cond, List, [], ◌∷◌, ◌++◌, length, take, Option, Some, None, refl, sym, ap, ◌∙◌, subst, arith, append_assoc, length-append}
use Rattle.std.specs.Prelude.{map as each, All}
use Rattle.std.specs.Ordering.{eq_by_cmp}
use Rattle.std.specs.FinMap as map
use Rattle.std.specs.List.Sorted.{IsPermutation}
use Rattle.std.proofs.lemmas.List.{length-map, take-append-le, length-take-le, take_all}
use Rattle.std.proofs.lemmas.List.Elements.{All-tail, All-head}
use Rattle.std.proofs.lemmas.List.Sorted.{IsPermutation-sym, IsPermutation-cons, IsPermutation-trans, IsPermutation-append_left, IsPermutation-to_front}
use Rattle.rad_tables.specs.declared.slots.Slot.{Slot}
use Rattle.rad_tables.specs.Keys.{key_cmp}
use Rattle.rad_tables.specs.Pairs.{slot_cmp, Table, IsFirstFree, IsInRange}
use Rattle.rad_tables.proofs.SlotLemmas.{slots_total, tied}
use Rattle.rad_lane.specs.declared.answered.AnswerIndex.{AnswerIndex}
use Rattle.rad_lane.specs.declared.stamp.Stamp.{Stamp}
use Rattle.rad_lane.specs.declared.entry.Entry.{Entry}
use Rattle.rad_lane.specs.declared.entry.Entry.TheVariants.{Sending as sending, Probe as probe}
use Rattle.rad_lane.specs.declared.watch.Watch.{Watch}
use Rattle.rad_lane.specs.declared.watch.Watch.TheVariants.{Up as up}
use Rattle.rad_lane.specs.Stamp.{Recorded, Kept, IsRecord}
use Rattle.rad_lane.specs.Outstanding.{Outstanding, AnswerKept, first_sending, octets_of}
use Rattle.rad_lane.specs.Setup.{LaneSetup, IsOfItsRealms}
use Rattle.rad_lane.specs.Book.{Book, outstanding_at, outstanding_count, table_of}
use Rattle.rad_lane.specs.Dues.{NoneDue}
use Rattle.rad_lane.specs.Lawful.{IsLawful, ForwardsItsRecord, ProbeStands, IsTheLanes}
use Rattle.rad_lane.specs.internal.Invariant.{IsConsistent, HasRoom, book_of}
use Rattle.rad_lane.specs.declared.stepping.Action.TheVariants.{Sent}
use Rattle.rad_lane.specs.Steps.{StepsWhileUp, with_sending}
use Rattle.rad_lane.proofs.HeldLemmas.{stamps_in, sending_comes, one_more, every_put}
use Rattle.rad_lane.proofs.VerifiedLater.{passed_later, verified_later}
use Rattle.rad_lane.proofs.RealmForwarded.{leads_forwarded}
use Rattle.rad_lane.proofs.NextDueFound.{no_probe}

module _ (book : Book) (now : ℕ) (r : Recorded) (rest : List Recorded) (slot : Slot) (later : book.last ≤ now) (is_up : book.watch ≡ up) (queue : book.queued ≡ r ∷ rest) (free : map.get book.held slot ≡ None) (in_range : IsInRange book.setup.ports slot) (room : outstanding_count book < book.setup.limits.window) where
  abbrev entry : Outstanding
  entry = first_sending book.setup now r slot.identifier

  abbrev held : map.FinMap slot_cmp Entry
  held = map.insert book.held slot (sending entry)

  -- what holds of the sending and of each that was outstanding, holds of each that is
  module _ (P : Slot → Outstanding → Type 0) (here : P slot entry) (others : (at : Slot) (e : Outstanding) → outstanding_at book at e → P at e) where
    of_each_by : (b : Bool) (at : Slot) (e : Outstanding) → (b ≡ true → at ≡ slot) → cond b (Some (sending entry)) (map.get book.held at) ≡ Some (sending e) → P at e
    of_each_by true at e same is =
        let one : entry ≡ e = cc in
        subst (λ (o : Outstanding). P at o) one (subst (λ s. P s entry) (sym (same refl)) here)
    of_each_by false at e same is = others at e is

    of_each : (at : Slot) (e : Outstanding) → map.get held at ≡ Some (sending e) → P at e
    of_each at e is = of_each_by (eq_by_cmp slot_cmp at slot) at e (λ h. tied at slot h) (sym (map.get-insert slots_total book.held slot (sending entry) at) ∙ is)

  no_probe_by : (b : Bool) (old : Option Entry) (octets : List ℕ) → (old ≡ Some (probe octets) → ⊥) → cond b (Some (sending entry)) old ≡ Some (probe octets) → ⊥
  no_probe_by true old octets none is = cc
  no_probe_by false old octets none is = none is

  no_probe_still : ProbeStands book book.watch → (at : Slot) (octets : List ℕ) → map.get held at ≡ Some (probe octets) → ⊥
  no_probe_still apart at octets is = no_probe_by (eq_by_cmp slot_cmp at slot) (map.get book.held at) octets (no_probe book is_up apart at octets) (sym (map.get-insert slots_total book.held slot (sending entry) at) ∙ is)

  sent_once : (answered : List Stamp) → IsPermutation book.sent (stamps_in book.held ++ answered) → IsPermutation (book.sent ++ r.stamp ∷ []) (stamps_in held ++ answered)
  sent_once answered p =
      IsPermutation-trans _ _ _ (IsPermutation-to_front book.sent r.stamp)
      (IsPermutation-trans _ _ _ (IsPermutation-cons r.stamp book.sent (stamps_in book.held ++ answered) p)
      (IsPermutation-append_left answered (r.stamp ∷ stamps_in book.held) (stamps_in held) (IsPermutation-sym _ _ (sending_comes book.held slot entry free))))

  abbrev after : Book
  after = with_sending book now r rest slot

  abbrev IsOfThem : Recorded → Type 0
  IsOfThem q = IsRecord q × IsOfItsRealms book.setup q.text

  sent_lawful : IsLawful book → IsLawful after
  sent_lawful l =
      let queued : All IsOfThem (r ∷ rest) = subst (λ (qs : List Recorded). All IsOfThem qs) queue l.of_its_realms in
      let first : IsOfThem r = All-head IsOfThem r rest queued in
      record {
        in_order = l.in_order ∙ ap (λ (qs : List Recorded). book.sent ++ each (λ q. q.stamp) qs) queue ∙ sym (append_assoc book.sent (r.stamp ∷ []) (each (λ q. q.stamp) rest));
        numbered = l.numbered;
        timed = l.timed;
        passed = passed_later book.accepted book.last now later l.passed;
        no_repeat = l.no_repeat;
        placed_once = sent_once (each (λ a. a.stamp) book.answered) l.placed_once;
        of_its_realms = All-tail IsOfThem r rest queued;
        outstanding_realms = of_each (λ at e. IsOfItsRealms book.setup e.octets) (leads_forwarded book.setup r.text _ _ _ first.0.packet first.1) l.outstanding_realms;
        answered_realms = l.answered_realms;
        forwards_its_record = of_each (λ at e. ForwardsItsRecord book.setup at e) (record { is_record = first.0; octets = refl }) l.forwards_its_record;
        probe_apart = subst (λ w. ProbeStands after w) (sym is_up) (no_probe_still l.probe_apart);
        holds_its_own = every_put (λ at x. IsInRange book.setup.ports at × IsTheLanes book.setup at x) book.held l.holds_its_own slot (sending entry) (in_range, (refl, refl));
        allotted_in_range = in_range;
        ports_least = l.ports_least;
        ports_most = l.ports_most;
        queued_bounded = let q = ap length queue in omega (arith, q, l.queued_bounded);
        outstanding_bounded = let n = one_more book.held slot entry free in omega (arith, n, room);
        accepted_bounded = l.accepted_bounded;
        answers_verified = verified_later book.setup book.last now book.served book.answered later l.answers_verified;
        serials_rise = l.serials_rise;
        served_count = l.served_count;
        drained_count = l.drained_count;
      }

  stands_after : (k : Kept) (kept : List Kept) (ports : ℕ) (numbers : map.FinMap key_cmp ℕ) (cells : List (Option AnswerIndex)) (count : ℕ) → IsConsistent book (k ∷ kept) ports numbers cells count → IsConsistent after kept ports numbers cells (count + 1)
  stands_after k kept ports numbers cells count s = record {
    lawful = sent_lawful s.lawful;
    rooms = All-tail HasRoom k kept s.rooms;
    ports_are = s.ports_are;
    counted = ap (λ n. n + 1) s.counted ∙ sym (one_more book.held slot entry free);
    last_numbers = s.last_numbers;
    since_opening = s.since_opening;
    cells_are = s.cells_are;
    indices = s.indices;
    numbers_fit = s.numbers_fit;
  }

-- with one item less behind it, the front has that item more
front_more : {X : Type 0} (items : List X) (n : ℕ) (item : X) (behind : List X) → n ≤ length items → items ≡ take n items ++ item ∷ behind → take (n + 1) items ≡ take n items ++ item ∷ []
front_more items n item behind fits is =
    let front : length (take n items ++ item ∷ []) ≡ n + 1 = length-append (take n items) (item ∷ []) ∙ ap (λ m. m + 1) (length-take-le n items fits) in
    ap (take (n + 1)) (is ∙ sym (append_assoc (take n items) (item ∷ []) behind))
    ∙ ap (λ m. take m ((take n items ++ item ∷ []) ++ behind)) (sym front)
    ∙ take-append-le (length (take n items ++ item ∷ [])) (take n items ++ item ∷ []) behind (omega arith)
    ∙ take_all (length (take n items ++ item ∷ [])) (take n items ++ item ∷ []) (omega arith)

-- the fields of a lane after it sent a request for the first time
module _ (setup : LaneSetup) (opening : ℕ) (accepted : List Stamp) (k : Kept) (kept : List Kept) (answered : List AnswerKept) (served : ℕ) (slots : Table Entry) (drain : Option ℕ) (watch : Watch) (last : ℕ) where
  abbrev before : Book
  before = book_of setup opening accepted (k ∷ kept) answered served slots drain watch last

  module _ (now : ℕ) (slot : Slot) where
    abbrev after_it : Book
    after_it = with_sending before now k.recorded (each (λ q. q.recorded) kept) slot

    as_sent : IsLawful before → book_of setup opening accepted kept answered served (record { ports = slots.ports; entries = after_it.held; allotted = Some slot }) drain watch now ≡ after_it
    as_sent l =
        let behind : List Stamp = each (λ q. q.stamp) (each (λ q. q.recorded) kept) in
        let whole : accepted ≡ take (length accepted - length (k ∷ kept)) accepted ++ k.recorded.stamp ∷ behind = l.in_order in
        let joined = length-append (take (length accepted - length (k ∷ kept)) accepted) (k.recorded.stamp ∷ behind) in
        let counted = ap length whole in
        let queued : length behind ≡ length kept = length-map (each (λ (q : Kept). q.recorded) kept) (λ q. q.stamp) ∙ length-map kept (λ q. q.recorded) in
        let n : length accepted - length kept ≡ (length accepted - length (k ∷ kept)) + 1 = omega (arith, counted, joined, queued) in
        let front : take (length accepted - length kept) accepted ≡ before.sent ++ k.recorded.stamp ∷ [] =
        ap (λ m. take m accepted) n ∙ front_more accepted (length accepted - length (k ∷ kept)) k.recorded.stamp behind (omega arith) whole in
        ap (λ (xs : List Stamp). let b : Book = record after_it { sent = xs } in b) front

    module _ (value : Book) (same : before ≡ value) where
      -- the step of a lane that sends a request for the first time
      pub sends : IsLawful before → NoneDue value now false → NoneDue value now true → outstanding_count value < value.setup.limits.window → slots.ports ≡ setup.ports → IsFirstFree slots slot → (octets : List ℕ) → StepsWhileUp value now (Sent k.recorded.stamp.number slot) (record { before = octets; after = octets_of setup k.recorded slot.identifier }) (book_of setup opening accepted kept answered served (record { ports = slots.ports; entries = after_it.held; allotted = Some slot }) drain watch now)
      sends l fresh spent room ports free octets =
          let queue : value.queued ≡ k.recorded ∷ each (λ q. q.recorded) kept = ap (λ (b : Book). b.queued) (sym same) in
          let first : IsFirstFree (table_of before) slot = subst (λ n. IsFirstFree (record { ports = n; entries = slots.entries; allotted = slots.allotted }) slot) ports free in
          let first_there : IsFirstFree (table_of value) slot = subst (λ (b : Book). IsFirstFree (table_of b) slot) same first in
          let sent : octets_of setup k.recorded slot.identifier ≡ octets_of value.setup k.recorded slot.identifier = ap (λ (b : Book). octets_of b.setup k.recorded slot.identifier) same in
          let book = as_sent l ∙ ap (λ (b : Book). with_sending b now k.recorded (each (λ q. q.recorded) kept) slot) same in
          (fresh, spent, room, k.recorded, each (λ q. q.recorded) kept, queue, refl, first_there, sent, book)

      pub stands_sent : (later : value.last ≤ now) (is_up : value.watch ≡ up) (free : map.get value.held slot ≡ None) (room : outstanding_count value < value.setup.limits.window) (ports : ℕ) (in_range : IsInRange ports slot) (numbers : map.FinMap key_cmp ℕ) (cells : List (Option AnswerIndex)) (count : ℕ) → IsConsistent before (k ∷ kept) ports numbers cells count → IsConsistent (book_of setup opening accepted kept answered served (record { ports = slots.ports; entries = after_it.held; allotted = Some slot }) drain watch now) kept ports numbers cells (count + 1)
      stands_sent later is_up free room ports in_range numbers cells count s =
          let later_here : before.last ≤ now = subst (λ (b : Book). b.last ≤ now) (sym same) later in
          let up_here : before.watch ≡ up = subst (λ (b : Book). b.watch ≡ up) (sym same) is_up in
          let free_here : map.get before.held slot ≡ None = subst (λ (b : Book). map.get b.held slot ≡ None) (sym same) free in
          let room_here : outstanding_count before < before.setup.limits.window = subst (λ (b : Book). outstanding_count b < b.setup.limits.window) (sym same) room in
          subst (λ (b : Book). IsConsistent b kept ports numbers cells (count + 1)) (sym (as_sent s.lawful))
          (stands_after before now k.recorded (each (λ q. q.recorded) kept) slot later_here up_here refl free_here (subst (λ n. IsInRange n slot) s.ports_are in_range) room_here k kept ports numbers cells count s)
