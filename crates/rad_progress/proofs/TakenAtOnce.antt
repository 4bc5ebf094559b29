-- The steps that a lane takes at one moment are those that were left to it.
use Rattle.std.proofs.Common.{◌≡◌, ℕ, ◌+◌, Bool, true, false, cond, List, [], ◌∷◌, Option, Some, None, refl, sym, ap, ◌∙◌, subst, arith}
use Rattle.std.specs.Prelude.{option_map}
use Rattle.std.specs.List.{AllByRecursion}
use Rattle.std.specs.Ordering.{eq_by_cmp}
use Rattle.std.specs.FinMap as map
use Rattle.rad_config.specs.Limits.{AreInRange}
use Rattle.rad_tables.specs.declared.slots.Slot.{Slot}
use Rattle.rad_tables.specs.Pairs.{slot_cmp}
use Rattle.rad_tables.proofs.SlotLemmas.{slots_total}
use Rattle.rad_lane.specs.declared.entry.Entry.{Entry}
use Rattle.rad_lane.specs.declared.entry.Entry.TheVariants.{Sending as sending, Probe as probe}
use Rattle.rad_lane.specs.declared.watch.Watch.{Watch}
use Rattle.rad_lane.specs.declared.watch.Watch.TheVariants.{Up as up, Down as down}
use Rattle.rad_lane.specs.declared.stepping.Action.{Action}
use Rattle.rad_lane.specs.declared.stepping.Action.TheVariants.{Sent, Resent, Probed, WentDown, WentUp, Idle}
use Rattle.rad_lane.specs.declared.running.Event.{Event}
use Rattle.rad_lane.specs.declared.running.Event.TheVariants.{Step as step}
use Rattle.rad_lane.specs.declared.running.GivenAnswer.{GivenAnswer}
use Rattle.rad_lane.specs.declared.running.GivenAnswer.TheVariants.{Accept as accepted, Step as stepped, Hear as heard, Drain as drained, Turn as turned}
use Rattle.rad_lane.specs.declared.running.Given.{Given}
use Rattle.rad_lane.specs.Outstanding.{Outstanding, renewed, first_sending, sent_again}
use Rattle.rad_lane.specs.Entries.{but_a_probe, renewed_in}
use Rattle.rad_lane.specs.Datagrams.{Datagrams}
use Rattle.rad_lane.specs.Book.{Book, moment_in, outstanding_at}
use Rattle.rad_lane.specs.Lawful.{ProbeStands}
use Rattle.rad_lane.specs.Steps.{StepsBy, freed}
use Rattle.rad_lane.specs.Runs.{Gives, Runs}
use Rattle.rad_progress.specs.Calls.{IsStepAt, IsIdle, EndsIdle, taken_by, steps_taken}
use Rattle.rad_progress.specs.StepsLeft.{steps_left, Settles}
use Rattle.rad_progress.proofs.Held.{Held, left_freed}
use Rattle.rad_progress.proofs.OneLess.{HaveItsTries, settles_so}
use Rattle.rad_progress.proofs.StaysOutstanding.{Apart, call_keeps}
use Rattle.rad_progress.proofs.AfterCalls.{call_setup}

-- the tries of what a step leaves
put_by : (b : Bool) (first : Outstanding) (o : Option Entry) (entry : Outstanding) (tries : ℕ) → first.tries ≡ tries → (o ≡ Some (sending entry) → entry.tries ≡ tries) → cond b (Some (sending first)) o ≡ Some (sending entry) → entry.tries ≡ tries
put_by true first o entry tries is others there =
    let one : first ≡ entry = cc in
    subst (λ (e : Outstanding). e.tries ≡ tries) one is
put_by false first o entry tries is others there = others there

put_probe_by : (b : Bool) (octets : List ℕ) (o : Option Entry) (entry : Outstanding) → cond b (Some (probe octets)) o ≡ Some (sending entry) → o ≡ Some (sending entry)
put_probe_by true octets o entry there = cc
put_probe_by false octets o entry there = there

not_a_probe : (o : Option Entry) (entry : Outstanding) → but_a_probe o ≡ Some (sending entry) → o ≡ Some (sending entry)
not_a_probe None entry is = cc
not_a_probe (Some (sending e)) entry is = is
not_a_probe (Some (probe octets)) entry is = cc

was_renewed : (now : ℕ) (o : Option Entry) (entry : Outstanding) → option_map (renewed_in now) (but_a_probe o) ≡ Some (sending entry) → (was : Outstanding) × (o ≡ Some (sending was)) × (entry.tries ≡ was.tries)
was_renewed now None entry is = cc
was_renewed now (Some (sending was)) entry is =
    let one : renewed now was ≡ entry = cc in
    (was, refl, ap (λ (e : Outstanding). e.tries) (sym one))
was_renewed now (Some (probe octets)) entry is = cc

module _ (old : Book) (apart : Apart old) (its : HaveItsTries old) where
  -- the tries stay, and the moment of the step is the last one
  abbrev After : ℕ → Book → Type 0
  After now new = ((slot : Slot) (entry : Outstanding) → outstanding_at new slot entry → entry.tries ≡ old.setup.limits.tries) × (new.last ≡ now)

  same : (now : ℕ) (new : Book) → new.held ≡ old.held → new.last ≡ now → After now new
  same now new held last = (λ slot entry there. its slot entry (ap (λ (m : Held). map.get m slot) (sym held) ∙ there), last)

  put : (now : ℕ) (new : Book) (slot : Slot) (first : Outstanding) → new.held ≡ map.insert old.held slot (sending first) → first.tries ≡ old.setup.limits.tries → new.last ≡ now → After now new
  put now new slot first held is last = (
    λ at entry there.
        put_by (eq_by_cmp slot_cmp at slot) first (map.get old.held at) entry old.setup.limits.tries is (its at entry)
        (sym (map.get-insert slots_total old.held slot (sending first) at) ∙ (ap (λ (m : Held). map.get m at) (sym held) ∙ there)),
    last,
  )

  after_by : (now : ℕ) (random : List ℕ) (d : Datagrams) (new : Book) (w : Watch) → old.watch ≡ w → (action : Action) → StepsBy w old now random action d new → After now new
  after_by now random d new up is (Sent number slot) h = put now new slot (first_sending old.setup now h.3 slot.identifier) (ap (λ (b : Book). b.held) h.9) refl (ap (λ (b : Book). b.last) h.9)
  after_by now random d new up is (Resent number slot) h = put now new slot (sent_again old.setup.limits.first_wait now h.0) (ap (λ (b : Book). b.held) h.4) (its slot h.0 h.1.there) (ap (λ (b : Book). b.last) h.4)
  after_by now random d new up is (Probed slot) h = absurd h
  after_by now random d new up is WentDown h = same now new (ap (λ (b : Book). b.held) h.3) (ap (λ (b : Book). b.last) h.3)
  after_by now random d new up is WentUp h = absurd h
  after_by now random d new up is (Idle None) h = same now new (ap (λ (b : Book). b.held) h.3) (ap (λ (b : Book). b.last) h.3)
  after_by now random d new up is (Idle (Some moment)) h = same now new (ap (λ (b : Book). b.held) h.7) (ap (λ (b : Book). b.last) h.7)
  after_by now random d new (down until next out) is (Sent number slot) h = absurd h
  after_by now random d new (down until next out) is (Resent number slot) h = absurd h
  after_by now random d new (down until next out) is (Probed slot) h =
      let stands : ProbeStands old (down until next out) = subst (λ w. ProbeStands old w) is apart in (
        λ at entry there.
            let free = put_probe_by (eq_by_cmp slot_cmp at slot) d.after (map.get (freed old.held out) at) entry
            (sym (map.get-insert slots_total (freed old.held out) slot (probe d.after) at) ∙ (ap (λ (b : Book). map.get b.held at) (sym h.2.2) ∙ there)) in
            its at entry (not_a_probe (map.get old.held at) entry (sym (left_freed old (down until next out) stands at) ∙ free)),
        ap (λ (b : Book). b.last) h.2.2,
      )
  after_by now random d new (down until next out) is WentDown h = absurd h
  after_by now random d new (down until next out) is WentUp h = (
    λ at entry there.
        let was = was_renewed now (map.get old.held at) entry (sym (h.2.renews at) ∙ (ap (λ (b : Book). map.get b.held at) (sym h.2.others) ∙ there)) in
        was.2 ∙ its at was.0 was.1,
    ap (λ (b : Book). b.last) h.2.others,
  )
  after_by now random d new (down until next out) is (Idle None) h = absurd h
  after_by now random d new (down until next out) is (Idle (Some moment)) h = same now new (ap (λ (b : Book). b.held) h.4) (ap (λ (b : Book). b.last) h.4)

-- one step: those taken and those left are those that were left
one_taken : (old : Book) (now : ℕ) (action : Action) (new : Book) → Settles old now action new → taken_by (stepped action) + steps_left new now ≡ steps_left old now
one_taken old now (Sent number slot) new h = omega (arith, h)
one_taken old now (Resent number slot) new h = omega (arith, h)
one_taken old now (Probed slot) new h = omega (arith, h)
one_taken old now WentDown new h = omega (arith, h)
one_taken old now WentUp new h = omega (arith, h)
one_taken old now (Idle moment) new h = omega (arith, h.0, h.1)

none_after_idle : (old : Book) (now : ℕ) (action : Action) (new : Book) → Settles old now action new → IsIdle (stepped action) → steps_left new now ≡ 0
none_after_idle old now (Sent number slot) new h idle = absurd idle
none_after_idle old now (Resent number slot) new h idle = absurd idle
none_after_idle old now (Probed slot) new h idle = absurd idle
none_after_idle old now WentDown new h idle = absurd idle
none_after_idle old now WentUp new h idle = absurd idle
none_after_idle old now (Idle moment) new h idle = h.1

module _ (moment now : ℕ) where
  record IsStepping (book : Book) : Type 0 where
    pub apart : Apart book
    pub its : HaveItsTries book
    pub range : AreInRange book.setup.limits
    pub at : moment_in book moment ≡ now

  module _ (old : Book) (s : IsStepping old) where
    one_step : (event : Event) (answer : GivenAnswer) (d : Datagrams) (new : Book) → Gives old event answer d new → IsStepAt moment event → IsStepping new × (taken_by answer + steps_left new now ≡ steps_left old now) × (IsIdle answer → steps_left new now ≡ 0)
    one_step (step its_moment random) (stepped action) d new g is =
        let at : moment_in old its_moment ≡ now = ap (λ n. moment_in old n) is ∙ s.at in
        let after = after_by old s.apart s.its now random d new old.watch refl action (subst (λ n. StepsBy old.watch old n random action d new) at g.0) in
        let setup = call_setup old (step its_moment random) (stepped action) d new g in
        let settled : Settles old now action new = subst (λ n. Settles old n action new) at (settles_so old its_moment random action d new s.apart s.its s.range g.0) in
        let last = after.1 in (
          record {
            apart = (call_keeps old s.apart (step its_moment random) (stepped action) d new g).0;
            its = λ slot entry there. after.0 slot entry there ∙ ap (λ x. x.limits.tries) (sym setup);
            range = subst (λ x. AreInRange x.limits) (sym setup) s.range;
            at = let was = s.at in omega (arith, last, was);
          },
          one_taken old now action new settled,
          none_after_idle old now action new settled,
        )
    one_step (step its_moment random) (accepted result) d new g is = absurd g
    one_step (step its_moment random) (heard result) d new g is = absurd g
    one_step (step its_moment random) (drained count) d new g is = absurd g
    one_step (step its_moment random) (turned result) d new g is = absurd g
    one_step event answer d new g is = absurd is

  taken : (old : Book) (before : List ℕ) (events : List Event) (gives : List Given) (new : Book) → IsStepping old → Runs old before events gives new → AllByRecursion (IsStepAt moment) events → steps_taken gives + steps_left new now ≡ steps_left old now
  taken old before [] [] new s h at = let same = ap (λ (b : Book). steps_left b now) h in omega (arith, same)
  taken old before (event ∷ events) (given ∷ gives) new s h at =
      let first = one_step old s event given.answer _ h.0 h.1 at.0 in
      let rest = taken h.0 given.datagram events gives new first.0 h.2 at.1 in
      let here = first.1 in
      omega (arith, here, rest)
  taken old before [] (given ∷ gives) new s h at = absurd h
  taken old before (event ∷ events) [] new s h at = absurd h

  idle_left : (old : Book) (before : List ℕ) (events : List Event) (gives : List Given) (new : Book) → IsStepping old → Runs old before events gives new → AllByRecursion (IsStepAt moment) events → EndsIdle gives → steps_left new now ≡ 0
  idle_left old before [] [] new s h at ends = absurd ends
  idle_left old before (event ∷ []) (given ∷ []) new s h at ends =
      subst (λ (b : Book). steps_left b now ≡ 0) (sym h.2) ((one_step old s event given.answer _ h.0 h.1 at.0).2 ends)
  idle_left old before (event ∷ other ∷ events) (given ∷ []) new s h at ends = absurd h.2
  idle_left old before (event ∷ events) (given ∷ next ∷ gives) new s h at ends =
      idle_left h.0 given.datagram events (next ∷ gives) new (one_step old s event given.answer _ h.0 h.1 at.0).0 h.2 at.1 ends
  idle_left old before [] (given ∷ gives) new s h at ends = absurd h
  idle_left old before (event ∷ events) [] new s h at ends = absurd h

module _ (old new : Book) (moment : ℕ) (apart : Apart old) (its : HaveItsTries old) (range : AreInRange old.setup.limits) (before : List ℕ) (events : List Event) (gives : List Given) (h : Runs old before events gives new) (at : AllByRecursion (IsStepAt moment) events) where
  stepping : IsStepping moment (moment_in old moment) old
  stepping = record { apart = apart; its = its; range = range; at = refl }

  pub taken_at_once : steps_taken gives + steps_left new (moment_in old moment) ≡ steps_left old (moment_in old moment)
  taken_at_once = taken moment (moment_in old moment) old before events gives new stepping h at

  pub taken_until_idle : EndsIdle gives → steps_taken gives ≡ steps_left old (moment_in old moment)
  taken_until_idle ends =
      let none = idle_left moment (moment_in old moment) old before events gives new stepping h at ends in
      let all = taken_at_once in
      omega (arith, none, all)
