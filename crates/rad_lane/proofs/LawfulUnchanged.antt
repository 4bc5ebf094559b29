-- A lane stays lawful where the same requests are outstanding under the same pairs as before.
use Rattle.std.proofs.Common.{◌≡◌, ℕ, ◌≤◌, Bool, true, false, cond, List, Option, Some, None, refl, sym, ap, ◌∙◌, subst}
use Rattle.std.specs.Prelude.{map as each, option_map, IfSome}
use Rattle.std.specs.Ordering.{eq_by_cmp}
use Rattle.std.specs.FinMap as map
use Rattle.std.specs.List.Sorted.{IsPermutation}
use Rattle.std.proofs.lemmas.List.Sorted.{IsPermutation-refl, IsPermutation-trans, IsPermutation-append_left}
use Rattle.rad_tables.specs.declared.slots.Slot.{Slot}
use Rattle.rad_tables.specs.Keys.{key_cmp}
use Rattle.rad_tables.specs.Pairs.{slot_cmp, Table, IsInRange}
use Rattle.rad_tables.proofs.SlotLemmas.{slots_total, tied, itself}
use Rattle.rad_lane.specs.declared.answered.AnswerIndex.{AnswerIndex}
use Rattle.rad_lane.specs.declared.entry.Entry.{Entry}
use Rattle.rad_lane.specs.declared.entry.Entry.TheVariants.{Sending as sending, Probe as probe}
use Rattle.rad_lane.specs.declared.watch.Watch.{Watch}
use Rattle.rad_lane.specs.declared.watch.Watch.TheVariants.{Up as up, Down as down}
use Rattle.rad_lane.specs.Stamp.{Recorded, Kept, IsRecord}
use Rattle.rad_lane.specs.Outstanding.{Outstanding, AnswerKept, octets_of, renewed}
use Rattle.rad_lane.specs.Setup.{LaneSetup, IsOfItsRealms}
use Rattle.rad_lane.specs.Book.{Book}
use Rattle.rad_lane.specs.Lawful.{IsLawful, ProbeStands, HoldsItsOwn}
use Rattle.rad_lane.specs.internal.Invariant.{IsConsistent, book_of}
use Rattle.rad_lane.specs.declared.stamp.Stamp.{Stamp}
use Rattle.rad_lane.specs.Entries.{renewed_in}
use Rattle.rad_lane.proofs.HeldLemmas.{stamps_in, as_many, probe_comes, probe_leaves, sending_stays, all_anew}
use Rattle.rad_lane.proofs.VerifiedLater.{passed_later, verified_later}

-- what stood under a pair was a sending of the same request and octets
pub record WasTheSame (old : Option Entry) (entry : Outstanding) : Type 0 where
  pub before : Outstanding
  pub there : old ≡ Some (sending before)
  pub request : entry.request ≡ before.request
  pub octets : entry.octets ≡ before.octets

-- the same requests are outstanding under the same pairs
pub record AreTheSame (old new : map.FinMap slot_cmp Entry) : Type 0 where
  pub each_one : (slot : Slot) (entry : Outstanding) → map.get new slot ≡ Some (sending entry) → WasTheSame (map.get old slot) entry
  pub stamps : IsPermutation (stamps_in old) (stamps_in new)

pub unchanged : (held : map.FinMap slot_cmp Entry) → AreTheSame held held
unchanged held = record {
  each_one = λ slot entry there. record { before = entry; there = there; request = refl; octets = refl };
  stamps = IsPermutation-refl _;
}

was_the_same_before : (old : Option Entry) (next : Option Entry) (entry : Outstanding) → ((e : Outstanding) → next ≡ Some (sending e) → WasTheSame old e) → WasTheSame next entry → WasTheSame old entry
was_the_same_before old next entry earlier w =
    let v = earlier w.before w.there in
    record {
      before = v.before;
      there = v.there;
      request = w.request ∙ v.request;
      octets = w.octets ∙ v.octets;
    }

pub the_same_after : (old next new : map.FinMap slot_cmp Entry) → AreTheSame old next → AreTheSame next new → AreTheSame old new
the_same_after old next new a b = record {
  each_one = λ slot entry there. was_the_same_before (map.get old slot) (map.get next slot) entry (λ e h. a.each_one slot e h) (b.each_one slot entry there);
  stamps = IsPermutation-trans _ _ _ a.stamps b.stamps;
}

module _ (held : map.FinMap slot_cmp Entry) (slot : Slot) where
  pub put_there : (x : Entry) → map.get (map.insert held slot x) slot ≡ Some x
  put_there x = map.get-insert slots_total held slot x slot ∙ ap (λ b. cond b (Some x) (map.get held slot)) (itself slot slot refl)

  -- a sending of the same request in the place of another
  module _ (entry other : Outstanding) (there : map.get held slot ≡ Some (sending entry)) (request : other.request ≡ entry.request) (octets : other.octets ≡ entry.octets) where
    was_by : (b : Bool) (at : Slot) (e : Outstanding) → (b ≡ true → at ≡ slot) → cond b (Some (sending other)) (map.get held at) ≡ Some (sending e) → WasTheSame (map.get held at) e
    was_by true at e here is =
        let same : other ≡ e = cc in
        subst (λ (o : Outstanding). WasTheSame (map.get held at) o) same
        (record { before = entry; there = ap (λ s. map.get held s) (here refl) ∙ there; request = request; octets = octets })
    was_by false at e here is = record { before = e; there = is; request = refl; octets = refl }

    pub resent_same : AreTheSame held (map.insert held slot (sending other))
    resent_same = record {
      each_one = λ at e is. was_by (eq_by_cmp slot_cmp at slot) at e (λ h. tied at slot h) (sym (map.get-insert slots_total held slot (sending other) at) ∙ is);
      stamps = sending_stays held slot entry other there request;
    }

  -- a probe under a free pair
  module _ (octets : List ℕ) (free : map.get held slot ≡ None) where
    was_beside : (b : Bool) (old : Option Entry) (e : Outstanding) → cond b (Some (probe octets)) old ≡ Some (sending e) → WasTheSame old e
    was_beside true old e is = cc
    was_beside false old e is = record { before = e; there = is; request = refl; octets = refl }

    pub probed_same : AreTheSame held (map.insert held slot (probe octets))
    probed_same = record {
      each_one = λ at e is. was_beside (eq_by_cmp slot_cmp at slot) (map.get held at) e (sym (map.get-insert slots_total held slot (probe octets) at) ∙ is);
      stamps = probe_comes held slot octets free;
    }

  -- a probe that is freed
  module _ (octets : List ℕ) (there : map.get held slot ≡ Some (probe octets)) where
    was_left : (b : Bool) (old : Option Entry) (e : Outstanding) → cond b None old ≡ Some (sending e) → WasTheSame old e
    was_left true old e is = cc
    was_left false old e is = record { before = e; there = is; request = refl; octets = refl }

    pub freed_same : AreTheSame held (map.remove held slot)
    freed_same = record {
      each_one = λ at e is. was_left (eq_by_cmp slot_cmp at slot) (map.get held at) e (sym (map.get-remove slots_total held slot at) ∙ is);
      stamps = probe_leaves held slot octets there;
    }

-- each round begins anew
was_anew : (now : ℕ) (old : Option Entry) (e : Outstanding) → option_map (renewed_in now) old ≡ Some (sending e) → WasTheSame old e
was_anew now None e is = cc
was_anew now (Some (probe octets)) e is = cc
was_anew now (Some (sending before)) e is =
    let same : renewed now before ≡ e = cc in
    subst (λ (o : Outstanding). WasTheSame (Some (sending before)) o) same
    (record { before = before; there = refl; request = refl; octets = refl })

pub anew_same : (now : ℕ) (held other : map.FinMap slot_cmp Entry) → ((slot : Slot) → map.get other slot ≡ option_map (renewed_in now) (map.get held slot)) → AreTheSame held other
anew_same now held other h = record {
  each_one = λ slot e is. was_anew now (map.get held slot) e (sym (h slot) ∙ is);
  stamps = all_anew now held other h;
}

-- the book with something else under the pairs
abbrev pub rested : Book → map.FinMap slot_cmp Entry → Option Slot → Watch → ℕ → Book
rested book held allotted watch now = record book { held = held; allotted = allotted; watch = watch; last = now }

module _ (book : Book) (held : map.FinMap slot_cmp Entry) (allotted : Option Slot) (watch : Watch) (now : ℕ) (later : book.last ≤ now) (same : AreTheSame book.held held) (own : HoldsItsOwn book.setup held) (in_range : IfSome allotted (IsInRange book.setup.ports)) where
  abbrev after : Book
  after = rested book held allotted watch now

  rested_lawful : ProbeStands after watch → IsLawful book → IsLawful after
  rested_lawful apart l = record {
    in_order = l.in_order;
    numbered = l.numbered;
    timed = l.timed;
    passed = passed_later book.accepted book.last now later l.passed;
    no_repeat = l.no_repeat;
    placed_once = IsPermutation-trans _ _ _ l.placed_once (IsPermutation-append_left (each (λ a. a.stamp) book.answered) (stamps_in book.held) (stamps_in held) same.stamps);
    of_its_realms = l.of_its_realms;
    outstanding_realms = λ slot entry there.
        let was = same.each_one slot entry there in
        subst (λ (text : List ℕ). IsOfItsRealms book.setup text) (sym was.octets) (l.outstanding_realms slot was.before was.there);
    answered_realms = l.answered_realms;
    forwards_its_record = λ slot entry there.
        let was = same.each_one slot entry there in
        let forwards = l.forwards_its_record slot was.before was.there in
        record {
          is_record = subst (λ (r : Recorded). IsRecord r) (sym was.request) forwards.is_record;
          octets = was.octets ∙ forwards.octets ∙ ap (λ (r : Recorded). octets_of book.setup r slot.identifier) (sym was.request);
        };
    probe_apart = apart;
    holds_its_own = own;
    allotted_in_range = in_range;
    ports_least = l.ports_least;
    ports_most = l.ports_most;
    queued_bounded = l.queued_bounded;
    outstanding_bounded = subst (λ n. n ≤ book.setup.limits.window) (sym (as_many book.held held same.stamps)) l.outstanding_bounded;
    accepted_bounded = l.accepted_bounded;
    answers_verified = verified_later book.setup book.last now book.served book.answered later l.answers_verified;
    serials_rise = l.serials_rise;
    served_count = l.served_count;
    drained_count = l.drained_count;
  }

  pub stands_rested : (kept : List Kept) (ports : ℕ) (numbers : map.FinMap key_cmp ℕ) (cells : List (Option AnswerIndex)) (count : ℕ) → ProbeStands after watch → IsConsistent book kept ports numbers cells count → IsConsistent after kept ports numbers cells count
  stands_rested kept ports numbers cells count apart s = record {
    lawful = rested_lawful apart s.lawful;
    rooms = s.rooms;
    ports_are = s.ports_are;
    counted = s.counted ∙ sym (as_many book.held held same.stamps);
    last_numbers = s.last_numbers;
    since_opening = s.since_opening;
    cells_are = s.cells_are;
    indices = s.indices;
    numbers_fit = s.numbers_fit;
  }

-- at a later moment the probe stands where it stood
apart_later : (book : Book) (w : Watch) (now : ℕ) (watch : Watch) → ProbeStands book watch → ProbeStands (rested book book.held book.allotted w now) watch
apart_later book w now up apart = apart
apart_later book w now (down until next None) apart = apart
apart_later book w now (down until next (Some out)) apart = apart

-- the fields of a lane in which the same requests are outstanding
module _ (setup : LaneSetup) (opening : ℕ) (accepted : List Stamp) (kept : List Kept) (answered : List AnswerKept) (served : ℕ) (slots : Table Entry) (drain : Option ℕ) (watch : Watch) (last : ℕ) where
  abbrev before : Book
  before = book_of setup opening accepted kept answered served slots drain watch last

  module _ (value : Book) (is : before ≡ value) (now : ℕ) (later : value.last ≤ now) (ports : ℕ) (numbers : map.FinMap key_cmp ℕ) (cells : List (Option AnswerIndex)) (count : ℕ) (s : IsConsistent before kept ports numbers cells count) where
    pub stands_as : (other : Table Entry) (w : Watch) → AreTheSame slots.entries other.entries → HoldsItsOwn setup other.entries → IfSome other.allotted (IsInRange setup.ports) → ProbeStands (rested before other.entries other.allotted w now) w → IsConsistent (book_of setup opening accepted kept answered served other drain w now) kept ports numbers cells count
    stands_as other w same own in_range apart =
        let later_here : before.last ≤ now = subst (λ (b : Book). b.last ≤ now) (sym is) later in
        stands_rested before other.entries other.allotted w now later_here same own in_range kept ports numbers cells count apart s

    -- at a later moment nothing else is another
    pub stands_later : IsConsistent (book_of setup opening accepted kept answered served slots drain watch now) kept ports numbers cells count
    stands_later = stands_as slots watch (unchanged slots.entries) s.lawful.holds_its_own s.lawful.allotted_in_range (apart_later before watch now watch s.lawful.probe_apart)
