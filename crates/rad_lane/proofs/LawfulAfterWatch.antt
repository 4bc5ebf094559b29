-- A lane that goes up or down, or probes, is lawful still.
use Rattle.std.proofs.Common.{◌≡◌, ℕ, ◌<◌, ◌≤◌, inl, inr, arith, Bool, true, false, cond, List, length, Option, Some, None, refl, sym, ap, ◌∙◌, subst}
use Rattle.std.specs.Prelude.{option_map, IfSome}
use Rattle.std.specs.Ordering.{eq_by_cmp}
use Rattle.std.specs.FinMap as map
use Rattle.std.proofs.lemmas.Bool.Decides.{leb_tells}
use Rattle.std.specs.List.Sorted.{IsPermutation}
use Rattle.rad_tables.specs.declared.slots.Slot.{Slot}
use Rattle.rad_tables.specs.Keys.{key_cmp}
use Rattle.rad_tables.specs.Pairs.{slot_cmp, Table, IsInRange}
use Rattle.rad_tables.proofs.SlotLemmas.{slots_total, tied, itself}
use Rattle.rad_auth.specs.Status.{status_server}
use Rattle.rad_lane.specs.declared.answered.AnswerIndex.{AnswerIndex}
use Rattle.rad_lane.specs.declared.entry.Entry.{Entry}
use Rattle.rad_lane.specs.declared.entry.Entry.TheVariants.{Sending as sending, Probe as probe}
use Rattle.rad_lane.specs.declared.watch.Watch.{Watch}
use Rattle.rad_lane.specs.declared.watch.Watch.TheVariants.{Up as up, Down as down}
use Rattle.rad_lane.specs.declared.stamp.Stamp.{Stamp}
use Rattle.rad_lane.specs.Stamp.{Kept}
use Rattle.rad_lane.specs.Setup.{LaneSetup}
use Rattle.rad_lane.specs.Outstanding.{Outstanding, AnswerKept, is_spent, sent_again}
use Rattle.rad_lane.specs.Book.{Book, outstanding_count}
use Rattle.rad_lane.specs.Watch.{probe_of, GoesUp}
use Rattle.rad_lane.specs.Lawful.{ProbeStands, HoldsItsOwn, IsTheLanes, IsProbe}
use Rattle.rad_lane.specs.internal.Invariant.{IsConsistent, book_of}
use Rattle.rad_lane.specs.Steps.{freed}
use Rattle.rad_lane.specs.Closes.{Left, Leaves, left_of}
use Rattle.rad_lane.specs.Entries.{but_a_probe, renewed_in, IfSending}
use Rattle.rad_lane.proofs.HeldLemmas.{stamps_in, as_many, all_sendings, every_put, every_left, every_changed}
use Rattle.rad_lane.proofs.LawfulUnchanged.{AreTheSame, unchanged, the_same_after, resent_same, freed_same, probed_same, anew_same, put_there, rested, stands_as}

abbrev HasNone : map.FinMap slot_cmp Entry → Type 0
HasNone held = (slot : Slot) (octets : List ℕ) → map.get held slot ≡ Some (probe octets) → ⊥

-- what a lane holds is its own still
abbrev IsOwn : LaneSetup → Slot → Entry → Type 0
IsOwn setup slot entry = IsInRange setup.ports slot × IsTheLanes setup slot entry

own_freed : (setup : LaneSetup) (held : map.FinMap slot_cmp Entry) (out : Option Slot) → HoldsItsOwn setup held → HoldsItsOwn setup (freed held out)
own_freed setup held None own = own
own_freed setup held (Some slot) own = every_left (IsOwn setup) held own slot

own_renewed : (setup : LaneSetup) (now : ℕ) (slot : Slot) (entry : Entry) → IsOwn setup slot entry → IsOwn setup slot (renewed_in now entry)
own_renewed setup now slot (sending entry) own = own
own_renewed setup now slot (probe octets) own = own

-- a Status-Server that was made with these octets is a probe
pub is_probe : (setup : LaneSetup) (slot : Slot) (octets datagram random home : List ℕ) → length random ≡ 16 → octets ≡ datagram → datagram ≡ status_server slot.identifier random home → home ≡ setup.home_secret → IsProbe setup slot octets
is_probe setup slot octets datagram random home sixteen kept made is = record {
  random = random;
  sixteen = sixteen;
  made = kept ∙ made ∙ ap (λ secret. status_server slot.identifier random secret) is;
}

module _ (book : Book) where
  free_same : (watch : Watch) → ProbeStands book watch → AreTheSame book.held (freed book.held (probe_of watch))
  free_same up apart = unchanged book.held
  free_same (down until next None) apart = unchanged book.held
  free_same (down until next (Some out)) apart = freed_same book.held out apart.0.0 apart.0.1

  none_by : (b : Bool) (old : Option Entry) (octets : List ℕ) → (old ≡ Some (probe octets) → b ≡ true) → cond b None old ≡ Some (probe octets) → ⊥
  none_by true old octets h is = cc
  none_by false old octets h is = let other = h is in cc

  -- with the probe's pair free there is no probe
  none_left : (watch : Watch) → ProbeStands book watch → HasNone (freed book.held (probe_of watch))
  none_left up apart = apart
  none_left (down until next None) apart = apart
  none_left (down until next (Some out)) apart = λ slot octets is.
      none_by (eq_by_cmp slot_cmp slot out) (map.get book.held slot) octets (λ there. itself slot out (apart.1 slot octets there)) (sym (map.get-remove slots_total book.held out slot) ∙ is)

  -- how many pairs are in use then
  few_left : (watch : Watch) → ProbeStands book watch → map.len (freed book.held (probe_of watch)) ≡ outstanding_count book
  few_left watch apart =
      sym (all_sendings (freed book.held (probe_of watch)) (none_left watch apart)) ∙ as_many book.held (freed book.held (probe_of watch)) (free_same watch apart).stamps

  left_none : (o : Option Entry) → ((octets : List ℕ) → o ≡ Some (probe octets) → ⊥) → o ≡ but_a_probe o
  left_none None h = refl
  left_none (Some (sending entry)) h = refl
  left_none (Some (probe octets)) h = absurd (h octets refl)

  left_by : (b : Bool) (old : Option Entry) (octets : List ℕ) → (b ≡ true → old ≡ Some (probe octets)) → ((other : List ℕ) → old ≡ Some (probe other) → b ≡ true) → cond b None old ≡ but_a_probe old
  left_by true old octets here h = ap but_a_probe (sym (here refl))
  left_by false old octets here h = left_none old (λ other is. let at = h other is in cc)

  -- what stands under each pair, once the probe's is free
  left_freed : (watch : Watch) → ProbeStands book watch → (slot : Slot) → map.get (freed book.held (probe_of watch)) slot ≡ but_a_probe (map.get book.held slot)
  left_freed up apart slot = left_none (map.get book.held slot) (apart slot)
  left_freed (down until next None) apart slot = left_none (map.get book.held slot) (apart slot)
  left_freed (down until next (Some out)) apart slot =
      map.get-remove slots_total book.held out slot
      ∙ left_by (eq_by_cmp slot_cmp slot out) (map.get book.held slot) apart.0.0
      (λ h. ap (map.get book.held) (tied slot out h) ∙ apart.0.1)
      (λ other there. itself slot out (apart.1 slot other there))

  module _ (now : ℕ) where
    module _ (watch : Watch) (apart : ProbeStands book watch) (held : map.FinMap slot_cmp Entry) (changed : (slot : Slot) → map.get held slot ≡ option_map (renewed_in now) (map.get (freed book.held (probe_of watch)) slot)) where
      pub up_same : AreTheSame book.held held
      up_same = the_same_after _ _ _ (free_same watch apart) (anew_same now (freed book.held (probe_of watch)) held changed)

      pub up_renews : (slot : Slot) → map.get held slot ≡ option_map (renewed_in now) (but_a_probe (map.get book.held slot))
      up_renews slot = changed slot ∙ ap (option_map (renewed_in now)) (left_freed watch apart slot)

      pub up_own : HoldsItsOwn book.setup book.held → HoldsItsOwn book.setup held
      up_own own = every_changed (IsOwn book.setup) (freed book.held (probe_of watch)) (own_freed book.setup book.held (probe_of watch) own) (renewed_in now) (own_renewed book.setup now) held changed

      no_probe_anew : (o : Option Entry) (octets : List ℕ) → ((other : List ℕ) → o ≡ Some (probe other) → ⊥) → option_map (renewed_in now) o ≡ Some (probe octets) → ⊥
      no_probe_anew None octets h is = cc
      no_probe_anew (Some (sending entry)) octets h is = cc
      no_probe_anew (Some (probe other)) octets h is = h other refl

      pub up_apart : HasNone held
      up_apart slot octets is = no_probe_anew (map.get (freed book.held (probe_of watch)) slot) octets (none_left watch apart slot) (sym (changed slot) ∙ is)

  module _ (watch : Watch) (apart : ProbeStands book watch) (slot : Slot) (octets : List ℕ) (free : map.get (freed book.held (probe_of watch)) slot ≡ None) where
    abbrev probed : map.FinMap slot_cmp Entry
    probed = map.insert (freed book.held (probe_of watch)) slot (probe octets)

    pub probe_same : AreTheSame book.held probed
    probe_same = the_same_after _ _ _ (free_same watch apart) (probed_same (freed book.held (probe_of watch)) slot octets free)

    pub probe_own : HoldsItsOwn book.setup book.held → IsInRange book.setup.ports slot → IsProbe book.setup slot octets → HoldsItsOwn book.setup probed
    probe_own own in_range made = every_put (IsOwn book.setup) (freed book.held (probe_of watch)) (own_freed book.setup book.held (probe_of watch) own) slot (probe octets) (in_range, made)

    at_its_pair : (b : Bool) (at : Slot) (old : Option Entry) (other : List ℕ) → (b ≡ true → at ≡ slot) → (old ≡ Some (probe other) → ⊥) → cond b (Some (probe octets)) old ≡ Some (probe other) → at ≡ slot
    at_its_pair true at old other same none is = same refl
    at_its_pair false at old other same none is = absurd (none is)

    pub probe_stands : ((found : List ℕ) × (map.get probed slot ≡ Some (probe found))) × ((at : Slot) (other : List ℕ) → map.get probed at ≡ Some (probe other) → at ≡ slot)
    probe_stands = (
      (octets, put_there (freed book.held (probe_of watch)) slot (probe octets)),
      λ at other is. at_its_pair (eq_by_cmp slot_cmp at slot) at (map.get (freed book.held (probe_of watch)) at) other (λ h. tied at slot h) (none_left watch apart at other) (sym (map.get-insert slots_total (freed book.held (probe_of watch)) slot (probe octets) at) ∙ is),
    )

-- a sending in the place of another leaves a lane without a probe
pub no_probe_beside : (held : map.FinMap slot_cmp Entry) (slot : Slot) (entry : _) → HasNone held → HasNone (map.insert held slot (sending entry))
no_probe_beside held slot entry none at octets is =
    by_place (eq_by_cmp slot_cmp at slot) (map.get held at) (none at octets) (sym (map.get-insert slots_total held slot (sending entry) at) ∙ is)
  where
    by_place : (b : Bool) (old : Option Entry) → (old ≡ Some (probe octets) → ⊥) → cond b (Some (sending entry)) old ≡ Some (probe octets) → ⊥
    by_place true old h is = cc
    by_place false old h is = h is

-- the fields of a lane that goes up or down, probes or sends again
module _ (setup : LaneSetup) (opening : ℕ) (accepted : List Stamp) (kept : List Kept) (answered : List AnswerKept) (served : ℕ) (slots : Table Entry) (drain : Option ℕ) (watch : Watch) (last : ℕ) where
  abbrev before : Book
  before = book_of setup opening accepted kept answered served slots drain watch last

  module _ (value : Book) (is : before ≡ value) (now : ℕ) (later : value.last ≤ now) (numbers : map.FinMap key_cmp ℕ) (cells : List (Option AnswerIndex)) (count : ℕ) (s : IsConsistent before kept slots.ports numbers cells count) where
    -- the slots once the probe's pair is free and each round begins anew
    module _ (out : Option Slot) (its : out ≡ probe_of watch) (free new : Table Entry) (free_is : free ≡ record slots { entries = freed slots.entries out }) (changed : (slot : Slot) → map.get new.entries slot ≡ option_map (renewed_in now) (map.get free.entries slot)) (new_is : new ≡ record free { entries = new.entries }) where
      changed_here : (slot : Slot) → map.get new.entries slot ≡ option_map (renewed_in now) (map.get (freed slots.entries (probe_of watch)) slot)
      changed_here slot =
          changed slot ∙ ap (λ (t : Table Entry). option_map (renewed_in now) (map.get t.entries slot)) free_is
          ∙ ap (λ o. option_map (renewed_in now) (map.get (freed slots.entries o) slot)) its

      same_table : new ≡ record slots { entries = new.entries }
      same_table = new_is ∙ ap (λ (t : Table Entry). let u : Table Entry = record t { entries = new.entries } in u) free_is

      pub stands_up : IsConsistent (book_of setup opening accepted kept answered served new drain up now) kept new.ports numbers cells count
      stands_up =
          let ports : slots.ports ≡ new.ports = ap (λ (t : Table Entry). t.ports) (sym same_table) in
          subst (λ p. IsConsistent (book_of setup opening accepted kept answered served new drain up now) kept p numbers cells count) ports
          (stands_as setup opening accepted kept answered served slots drain watch last value is now later slots.ports numbers cells count s new up
          (up_same before now watch s.lawful.probe_apart new.entries changed_here)
          (up_own before now watch s.lawful.probe_apart new.entries changed_here s.lawful.holds_its_own)
          (subst (λ (t : Table Entry). IfSome t.allotted (IsInRange setup.ports)) (sym same_table) s.lawful.allotted_in_range)
          (up_apart before now watch s.lawful.probe_apart new.entries changed_here))

      pub goes_up : GoesUp now (record value { last = now }) (book_of setup opening accepted kept answered served new drain up now)
      goes_up =
          let here : GoesUp now (record before { last = now }) (book_of setup opening accepted kept answered served new drain up now) = record {
            held = new.entries;
            renews = up_renews before now watch s.lawful.probe_apart new.entries changed_here;
            others = ap (λ (t : Table Entry). book_of setup opening accepted kept answered served t drain up now) same_table;
          } in
          subst (λ (b : Book). GoesUp now (record b { last = now }) (book_of setup opening accepted kept answered served new drain up now)) is here

    -- the slots once the probe's pair is free, and with a probe under another
    module _ (until next : ℕ) (out : Option Slot) (is_down : value.watch ≡ down until next out) where
      down_here : watch ≡ down until next out
      down_here = ap (λ (b : Book). b.watch) is ∙ is_down

      apart_here : ProbeStands before (down until next out)
      apart_here = subst (λ w. ProbeStands before w) down_here s.lawful.probe_apart

      pub few_free : map.len (freed slots.entries out) ≤ setup.limits.window
      few_free = subst (λ n. n ≤ setup.limits.window) (sym (few_left before (down until next out) apart_here)) s.lawful.outstanding_bounded

      pub stands_probed : (slot : Slot) (octets : List ℕ) (later_until later_next : ℕ) → map.get (freed slots.entries out) slot ≡ None → IsInRange slots.ports slot → IsProbe setup slot octets → IsConsistent (book_of setup opening accepted kept answered served (record { ports = slots.ports; entries = map.insert (freed slots.entries out) slot (probe octets); allotted = Some slot }) drain (down later_until later_next (Some slot)) now) kept slots.ports numbers cells count
      stands_probed slot octets later_until later_next free in_range made =
          let here : IsInRange setup.ports slot = subst (λ n. IsInRange n slot) s.ports_are in_range in
          stands_as setup opening accepted kept answered served slots drain watch last value is now later slots.ports numbers cells count s
          (record { ports = slots.ports; entries = map.insert (freed slots.entries out) slot (probe octets); allotted = Some slot }) (down later_until later_next (Some slot))
          (probe_same before (down until next out) apart_here slot octets free)
          (probe_own before (down until next out) apart_here slot octets free s.lawful.holds_its_own here made)
          here
          (probe_stands before (down until next out) apart_here slot octets free)

    pub few_up : value.watch ≡ up → map.len slots.entries ≤ setup.limits.window
    few_up is_up =
        let up_here : watch ≡ up = ap (λ (b : Book). b.watch) is ∙ is_up in
        subst (λ n. n ≤ setup.limits.window) (sym (few_left before up (subst (λ w. ProbeStands before w) up_here s.lawful.probe_apart))) s.lawful.outstanding_bounded

    -- the same slots, and the lane down
    pub stands_down : value.watch ≡ up → (until next : ℕ) → IsConsistent (book_of setup opening accepted kept answered served slots drain (down until next None) now) kept slots.ports numbers cells count
    stands_down is_up until next =
        let up_here : watch ≡ up = ap (λ (b : Book). b.watch) is ∙ is_up in
        let none : HasNone slots.entries = subst (λ w. ProbeStands before w) up_here s.lawful.probe_apart in
        stands_as setup opening accepted kept answered served slots drain watch last value is now later slots.ports numbers cells count s
        slots (down until next None) (unchanged slots.entries) s.lawful.holds_its_own s.lawful.allotted_in_range none

    -- the slots with a sending once more in its place
    module _ (is_up : value.watch ≡ up) (slot : Slot) (entry : Outstanding) (there : map.get slots.entries slot ≡ Some (sending entry)) where
      pub stands_resent : (x : Entry) (first : ℕ) → x ≡ sending (sent_again first now entry) → IsConsistent (book_of setup opening accepted kept answered served (record slots { entries = map.insert slots.entries slot x }) drain watch now) kept slots.ports numbers cells count
      stands_resent x first same =
          let up_here : watch ≡ up = ap (λ (b : Book). b.watch) is ∙ is_up in
          let none : HasNone slots.entries = subst (λ w. ProbeStands before w) up_here s.lawful.probe_apart in
          rw same (
          stands_as setup opening accepted kept answered served slots drain watch last value is now later slots.ports numbers cells count s
          (record slots { entries = map.insert slots.entries slot (sending (sent_again first now entry)) }) watch
          (resent_same slots.entries slot entry (sent_again first now entry) there refl refl)
          (every_put (IsOwn setup) slots.entries s.lawful.holds_its_own slot (sending (sent_again first now entry)) (s.lawful.holds_its_own slot (sending entry) there))
          s.lawful.allotted_in_range
          (subst (λ w. ProbeStands (rested before (map.insert slots.entries slot (sending (sent_again first now entry))) slots.allotted watch now) w) (sym up_here) (no_probe_beside slots.entries slot (sent_again first now entry) none))
          )

  -- what is left once the probe's pair is free
  module _ (value : Book) (is : before ≡ value) (ports : ℕ) (numbers : map.FinMap key_cmp ℕ) (cells : List (Option AnswerIndex)) (count : ℕ) (s : IsConsistent before kept ports numbers cells count) where
    pub leaves_freed : (its : slots.ports ≡ ports) (out : Option Slot) → out ≡ probe_of watch → (free : Table Entry) → free ≡ record slots { entries = freed slots.entries out } → (lane : ℕ) → lane ≡ setup.lane → (left : Left) → left ≡ left_of lane opening accepted kept answered free → Leaves value left
    leaves_freed its out out_is free free_is lane lane_is left left_is =
        let here : Leaves before left = record {
          lane = ap (λ (l : Left). l.lane) left_is ∙ lane_is;
          opening = ap (λ (l : Left). l.opening) left_is;
          accepted = ap (λ (l : Left). l.accepted) left_is;
          sent = ap (λ (l : Left). l.sent) left_is;
          queued = ap (λ (l : Left). l.queued) left_is;
          answered = ap (λ (l : Left). l.answered) left_is;
          outstanding = λ slot.
              ap (λ (l : Left). map.get l.outstanding.entries slot) left_is
              ∙ ap (λ (t : Table Entry). map.get t.entries slot) free_is
              ∙ ap (λ o. map.get (freed slots.entries o) slot) out_is
              ∙ left_freed before watch s.lawful.probe_apart slot;
          count =
              ap (λ (l : Left). map.len l.outstanding.entries) left_is
              ∙ ap (λ (t : Table Entry). map.len t.entries) free_is
              ∙ ap (λ o. map.len (freed slots.entries o)) out_is
              ∙ few_left before watch s.lawful.probe_apart;
          stamps =
              let stays = (free_same before watch s.lawful.probe_apart).stamps in
              let entries : left.outstanding.entries ≡ freed slots.entries (probe_of watch) =
              ap (λ (l : Left). l.outstanding.entries) left_is
              ∙ ap (λ (t : Table Entry). t.entries) free_is
              ∙ ap (λ o. freed slots.entries o) out_is in
              subst (λ (m : map.FinMap slot_cmp Entry). IsPermutation (stamps_in slots.entries) (stamps_in m)) (sym entries) stays;
          ports =
              ap (λ (l : Left). l.outstanding.ports) left_is
              ∙ ap (λ (t : Table Entry). t.ports) free_is ∙ its ∙ s.ports_are;
          allotted =
              ap (λ (l : Left). l.outstanding.allotted) left_is
              ∙ ap (λ (t : Table Entry). t.allotted) free_is;
        } in
        subst (λ (b : Book). Leaves b left) is here

-- a sending that is not spent was sent less than ten times in its round
fresh_few : (entry : Outstanding) (tries : ℕ) → is_spent entry ≡ false → entry.tries ≡ tries → tries ≤ 10 → entry.sendings < 10
fresh_few entry tries fresh is most = elim (leb_tells entry.tries entry.sendings) [
  | inl above ↦ let spent = above.0 in cc
  | inr below ↦ omega (arith, below.1, is)
]

pub few_sendings : (x : Entry) (entry : Outstanding) (tries : ℕ) → Some x ≡ Some (sending entry) → is_spent entry ≡ false → entry.tries ≡ tries → tries ≤ 10 → IfSending x (λ e. e.sendings < 10)
few_sendings (sending e) entry tries same fresh is most = let one : e ≡ entry = cc in subst (λ (o : Outstanding). o.sendings < 10) (sym one) (fresh_few entry tries fresh is most)
few_sendings (probe octets) entry tries same fresh is most = cc

pub again_is : (x new : Entry) (entry : Outstanding) (now first : ℕ) → Some x ≡ Some (sending entry) → IfSending x (λ e. new ≡ sending (sent_again first now e)) → new ≡ sending (sent_again first now entry)
again_is (sending e) new entry now first same h = let one : e ≡ entry = cc in h ∙ ap (λ (o : Outstanding). sending (sent_again first now o)) one
again_is (probe octets) new entry now first same h = absurd h
