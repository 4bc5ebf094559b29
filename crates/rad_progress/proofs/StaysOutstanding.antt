-- What is outstanding stays so until it is answered, and the probe stands under its own pair.
use Rattle.std.proofs.Common.{◌≡◌, ℕ, ◌+◌, Bool, true, false, cond, List, [], ◌∷◌, Option, Some, None, Result, Ok, Err, refl, sym, ap, ◌∙◌, subst, inl, inr}
use Rattle.std.specs.Prelude.{◌⊎◌, option_map}
use Rattle.std.specs.Ordering.{eq_by_cmp}
use Rattle.std.specs.Cmp.{eq_by_cmp_equiv}
use Rattle.std.specs.FinMap as map
use Rattle.rad_realms.specs.Checking.{Request}
use Rattle.rad_tables.specs.declared.slots.Slot.{Slot}
use Rattle.rad_tables.specs.Pairs.{slot_cmp}
use Rattle.rad_tables.proofs.SlotLemmas.{slots_total, tied}
use Rattle.rad_lane.specs.declared.entry.Entry.{Entry}
use Rattle.rad_lane.specs.declared.entry.Entry.TheVariants.{Sending as sending, Probe as probe}
use Rattle.rad_lane.specs.declared.watch.Watch.{Watch}
use Rattle.rad_lane.specs.declared.watch.Watch.TheVariants.{Up as up, Down as down}
use Rattle.rad_lane.specs.declared.accepting.Taken.{Taken}
use Rattle.rad_lane.specs.declared.accepting.Taken.TheVariants.{New, Waiting, Again}
use Rattle.rad_lane.specs.declared.accepting.Refusal.{Refusal}
use Rattle.rad_lane.specs.declared.hearing.Heard.{Heard}
use Rattle.rad_lane.specs.declared.hearing.Heard.TheVariants.{Answer, ProbeAnswered}
use Rattle.rad_lane.specs.declared.hearing.HearFault.{HearFault}
use Rattle.rad_lane.specs.declared.stepping.Action.{Action}
use Rattle.rad_lane.specs.declared.stepping.Action.TheVariants.{Sent, Resent, Probed, WentDown, WentUp, Idle}
use Rattle.rad_lane.specs.declared.turning.Volume.{Volume}
use Rattle.rad_lane.specs.declared.turning.TurnFault.{TurnFault}
use Rattle.rad_lane.specs.declared.turning.TurnFault.TheVariants.{NothingToTurn, OutOfMemory}
use Rattle.rad_lane.specs.declared.running.Event.{Event}
use Rattle.rad_lane.specs.declared.running.Event.TheVariants.{Accept as accept, Step as step, Hear as hear, Drain as drain, Turn as turn}
use Rattle.rad_lane.specs.declared.running.GivenAnswer.{GivenAnswer}
use Rattle.rad_lane.specs.declared.running.GivenAnswer.TheVariants.{Accept as accepted, Step as stepped, Hear as heard, Drain as drained, Turn as turned}
use Rattle.rad_lane.specs.declared.running.Given.{Given}
use Rattle.rad_lane.specs.Outstanding.{Outstanding, renewed}
use Rattle.rad_lane.specs.Entries.{but_a_probe, renewed_in}
use Rattle.rad_lane.specs.Datagrams.{Datagrams}
use Rattle.rad_lane.specs.Book.{Book, moment_in, outstanding_at}
use Rattle.rad_lane.specs.Watch.{probe_of, GoesUp, GoesUpIfDown}
use Rattle.rad_lane.specs.Lawful.{ProbeStands}
use Rattle.rad_lane.specs.Accepts.{Accepts}
use Rattle.rad_lane.specs.Steps.{StepsBy, freed}
use Rattle.rad_lane.specs.Hears.{Hears, pair}
use Rattle.rad_lane.specs.Volumes.{Turns}
use Rattle.rad_lane.specs.Runs.{Gives, Runs}
use Rattle.rad_progress.specs.Replies.{IsStillOutstanding, AnswersIt, IsAnsweredAmong}
use Rattle.rad_progress.proofs.Held.{Held, left_freed}
use Rattle.rad_progress.proofs.RightReply.{its_answer}

abbrev pub Apart : Book → Type 0
Apart book = ProbeStands book book.watch

abbrev pub HasNone : Held → Type 0
HasNone held = (slot : Slot) (octets : List ℕ) → map.get held slot ≡ Some (probe octets) → ⊥

-- the same entries, and the same watch
stands_like : (a b : Book) (w : Watch) → a.held ≡ b.held → ProbeStands a w → ProbeStands b w
stands_like a b up e p = subst HasNone e p
stands_like a b (down until next None) e p = subst HasNone e p
stands_like a b (down until next (Some out)) e p = (
  (p.0.0, ap (λ (m : Held). map.get m out) (sym e) ∙ p.0.1),
  λ slot octets is. p.1 slot octets (ap (λ (m : Held). map.get m slot) e ∙ is),
)

pub apart_same : (old new : Book) → new.held ≡ old.held → new.watch ≡ old.watch → Apart old → Apart new
apart_same old new held watch p = subst (λ w. ProbeStands new w) (sym watch) (stands_like old new old.watch (sym held) p)

pub apart_up : (new : Book) → new.watch ≡ up → HasNone new.held → Apart new
apart_up new is none = subst (λ w. ProbeStands new w) (sym is) none

pub none_up : (old : Book) → old.watch ≡ up → Apart old → HasNone old.held
none_up old is p = subst (λ w. ProbeStands old w) is p

-- entries that come and go
by_place : (b : Bool) (x : Entry) (old : Option Entry) (octets : List ℕ) → (x ≡ probe octets → ⊥) → (old ≡ Some (probe octets) → ⊥) → cond b (Some x) old ≡ Some (probe octets) → ⊥
by_place true x old octets other none is = other (one_entry x (probe octets) is)
  where
    one_entry : (a b : Entry) → Some a ≡ Some b → a ≡ b
    one_entry a b e = cc
by_place false x old octets other none is = none is

none_with : (held : Held) (slot : Slot) (entry : Outstanding) → HasNone held → HasNone (map.insert held slot (sending entry))
none_with held slot entry none at octets is =
    by_place (eq_by_cmp slot_cmp at slot) (sending entry) (map.get held at) octets (λ e. cc) (none at octets) (sym (map.get-insert slots_total held slot (sending entry) at) ∙ is)

gone_by : (b : Bool) (old : Option Entry) (octets : List ℕ) → (old ≡ Some (probe octets) → ⊥) → cond b None old ≡ Some (probe octets) → ⊥
gone_by true old octets none is = cc
gone_by false old octets none is = none is

none_without : (held : Held) (slot : Slot) → HasNone held → HasNone (map.remove held slot)
none_without held slot none at octets is =
    gone_by (eq_by_cmp slot_cmp at slot) (map.get held at) octets (none at octets) (sym (map.get-remove slots_total held slot at) ∙ is)

never_a_probe : (o : Option Entry) (octets : List ℕ) → but_a_probe o ≡ Some (probe octets) → ⊥
never_a_probe None octets is = cc
never_a_probe (Some (sending entry)) octets is = cc
never_a_probe (Some (probe other)) octets is = cc

never_anew : (now : ℕ) (o : Option Entry) (octets : List ℕ) → option_map (renewed_in now) (but_a_probe o) ≡ Some (probe octets) → ⊥
never_anew now None octets is = cc
never_anew now (Some (sending entry)) octets is = cc
never_anew now (Some (probe other)) octets is = cc

none_freed : (book : Book) (w : Watch) → ProbeStands book w → HasNone (freed book.held (probe_of w))
none_freed book w p slot octets is = never_a_probe (map.get book.held slot) octets (sym (left_freed book w p slot) ∙ is)

none_gone_up : (now : ℕ) (old new : Book) → GoesUp now old new → HasNone new.held
none_gone_up now old new g slot octets is =
    never_anew now (map.get old.held slot) octets (sym (g.renews slot) ∙ (ap (λ (b : Book). map.get b.held slot) (sym g.others) ∙ is))

pub went_up : (now : ℕ) (old new : Book) → GoesUp now old new → new.watch ≡ up
went_up now old new g = ap (λ (b : Book). b.watch) g.others

apart_gone_up : (now : ℕ) (old new : Book) → GoesUp now old new → Apart new
apart_gone_up now old new g = apart_up new (went_up now old new g) (none_gone_up now old new g)

its_place : (held : Held) (slot : Slot) (x : Entry) → map.get (map.insert held slot x) slot ≡ Some x
its_place held slot x = map.get-insert slots_total held slot x slot ∙ ap (λ b. cond b (Some x) (map.get held slot)) ((eq_by_cmp_equiv slots_total).refl slot)

-- a request that is outstanding still
still : (book : Book) (slot : Slot) (entry kept : Outstanding) → outstanding_at book slot kept → kept.request ≡ entry.request → kept.octets ≡ entry.octets → IsStillOutstanding book slot entry
still book slot entry kept there request octets = record { kept = kept; there = there; request = request; octets = octets }

still_same : (old new : Book) (slot : Slot) (entry : Outstanding) → new.held ≡ old.held → outstanding_at old slot entry → IsStillOutstanding new slot entry
still_same old new slot entry held there = still new slot entry entry (ap (λ (m : Held). map.get m slot) held ∙ there) refl refl

still_up : (now : ℕ) (old new : Book) (slot : Slot) (entry : Outstanding) → GoesUp now old new → outstanding_at old slot entry → IsStillOutstanding new slot entry
still_up now old new slot entry g there =
    still new slot entry (renewed now entry)
    (ap (λ (b : Book). map.get b.held slot) g.others ∙ g.renews slot ∙ ap (λ o. option_map (renewed_in now) (but_a_probe o)) there) refl refl

-- behind an entry that comes under a free pair
beside_by : (b : Bool) (x : Entry) (o : Option Entry) (entry : Outstanding) → (b ≡ true → o ≡ None) → o ≡ Some (sending entry) → cond b (Some x) o ≡ Some (sending entry)
beside_by true x o entry free there = let none = free refl in cc
beside_by false x o entry free there = there

beside : (held : Held) (at slot : Slot) (x : Entry) (entry : Outstanding) → map.get held at ≡ None → map.get held slot ≡ Some (sending entry) → map.get (map.insert held at x) slot ≡ Some (sending entry)
beside held at slot x entry free there =
    map.get-insert slots_total held at x slot
    ∙ beside_by (eq_by_cmp slot_cmp slot at) x (map.get held slot) entry (λ h. ap (map.get held) (tied slot at h) ∙ free) there

-- or in the place of its own entry
instead_by : (b : Bool) (first more entry : Outstanding) (o : Option Entry) → (b ≡ true → o ≡ Some (sending first)) → more.request ≡ first.request → more.octets ≡ first.octets → o ≡ Some (sending entry) → (kept : Outstanding) × (cond b (Some (sending more)) o ≡ Some (sending kept)) × (kept.request ≡ entry.request) × (kept.octets ≡ entry.octets)
instead_by true first more entry o here request octets there =
    let one : first ≡ entry = let h = here refl in cc in
    (more, refl, request ∙ ap (λ (e : Outstanding). e.request) one, octets ∙ ap (λ (e : Outstanding). e.octets) one)
instead_by false first more entry o here request octets there = (entry, there, refl, refl)

still_instead : (held : Held) (new : Book) (at slot : Slot) (first more entry : Outstanding) → new.held ≡ map.insert held at (sending more) → map.get held at ≡ Some (sending first) → more.request ≡ first.request → more.octets ≡ first.octets → map.get held slot ≡ Some (sending entry) → IsStillOutstanding new slot entry
still_instead held new at slot first more entry is there_first request octets there =
    let h = instead_by (eq_by_cmp slot_cmp slot at) first more entry (map.get held slot) (λ e. ap (map.get held) (tied slot at e) ∙ there_first) request octets there in
    still new slot entry h.0 (ap (λ (m : Held). map.get m slot) is ∙ map.get-insert slots_total held at (sending more) slot ∙ h.1) h.2 h.3

-- or the request leaves, or stays where another left
left_by : (b : Bool) (o : Option Entry) → o ≡ cond b None o ⊎ (b ≡ true)
left_by true o = inr refl
left_by false o = inl refl

-- what a call leaves of the probe and of what is outstanding
abbrev Keeps : Book → GivenAnswer → Book → Type 0
Keeps old answer new =
    Apart new × ((slot : Slot) (entry : Outstanding) → outstanding_at old slot entry → IsStillOutstanding new slot entry ⊎ AnswersIt entry answer)

keeps_same : (old : Book) (answer : GivenAnswer) (new : Book) → new.held ≡ old.held → new.watch ≡ old.watch → Apart old → Keeps old answer new
keeps_same old answer new held watch p = (apart_same old new held watch p, λ slot entry there. inl (still_same old new slot entry held there))

module _ (old : Book) (p : Apart old) where
  accept_keeps : (request : Request) (moment : ℕ) (result : Result Taken Refusal) (d : Datagrams) (new : Book) → Accepts old request moment result d new → Keeps old (accepted result) new
  accept_keeps request moment (Ok (New number)) d new h = keeps_same old _ new (ap (λ (b : Book). b.held) h.3) (ap (λ (b : Book). b.watch) h.3) p
  accept_keeps request moment (Ok (Waiting number)) d new h = keeps_same old _ new (ap (λ (b : Book). b.held) h.1) (ap (λ (b : Book). b.watch) h.1) p
  accept_keeps request moment (Ok (Again number)) d new h = keeps_same old _ new (ap (λ (b : Book). b.held) h.1) (ap (λ (b : Book). b.watch) h.1) p
  accept_keeps request moment (Err refusal) d new h = keeps_same old _ new (ap (λ (b : Book). b.held) h.2) (ap (λ (b : Book). b.watch) h.2) p

  turn_keeps : (moment : ℕ) (result : Result Volume TurnFault) (new : Book) → Turns old moment result new → Keeps old (turned result) new
  turn_keeps moment (Ok volume) new h = keeps_same old _ new (ap (λ (b : Book). b.held) h.5) (ap (λ (b : Book). b.watch) h.5) p
  turn_keeps moment (Err NothingToTurn) new h = keeps_same old _ new (ap (λ (b : Book). b.held) h.1) (ap (λ (b : Book). b.watch) h.1) p
  turn_keeps moment (Err OutOfMemory) new h = keeps_same old _ new (ap (λ (b : Book). b.held) h.4) (ap (λ (b : Book). b.watch) h.4) p

  step_keeps : (now : ℕ) (random : List ℕ) (d : Datagrams) (new : Book) (w : Watch) → old.watch ≡ w → (action : Action) → StepsBy w old now random action d new → Keeps old (stepped action) new
  step_keeps now random d new up is (Sent number slot) h = (
    apart_up new (ap (λ (b : Book). b.watch) h.9 ∙ is) (subst HasNone (sym (ap (λ (b : Book). b.held) h.9)) (none_with old.held slot _ (none_up old is p))),
    λ at entry there. inl (still new at entry entry (ap (λ (b : Book). map.get b.held at) h.9 ∙ beside old.held slot at _ entry h.7.free there) refl refl),
  )
  step_keeps now random d new up is (Resent number slot) h = (
    apart_up new (ap (λ (b : Book). b.watch) h.4 ∙ is) (subst HasNone (sym (ap (λ (b : Book). b.held) h.4)) (none_with old.held slot _ (none_up old is p))),
    λ at entry there. inl (still_instead old.held new slot at h.0 _ entry (ap (λ (b : Book). b.held) h.4) h.1.there refl refl there),
  )
  step_keeps now random d new up is (Probed slot) h = absurd h
  step_keeps now random d new up is WentDown h = (
    subst (λ w. ProbeStands new w) (sym (ap (λ (b : Book). b.watch) h.3)) (subst HasNone (sym (ap (λ (b : Book). b.held) h.3)) (none_up old is p)),
    λ at entry there. inl (still_same old new at entry (ap (λ (b : Book). b.held) h.3) there),
  )
  step_keeps now random d new up is WentUp h = absurd h
  step_keeps now random d new up is (Idle None) h = keeps_same old _ new (ap (λ (b : Book). b.held) h.3) (ap (λ (b : Book). b.watch) h.3) p
  step_keeps now random d new up is (Idle (Some moment)) h = keeps_same old _ new (ap (λ (b : Book). b.held) h.7) (ap (λ (b : Book). b.watch) h.7) p
  step_keeps now random d new (down until next out) is (Sent number slot) h = absurd h
  step_keeps now random d new (down until next out) is (Resent number slot) h = absurd h
  step_keeps now random d new (down until next out) is (Probed slot) h =
      let stands : ProbeStands old (down until next out) = subst (λ w. ProbeStands old w) is p in
      let held : new.held ≡ map.insert (freed old.held out) slot (probe d.after) = ap (λ (b : Book). b.held) h.2.2 in
      let watch : new.watch ≡ down until (now + old.setup.limits.probe_every) (Some slot) = ap (λ (b : Book). b.watch) h.2.2 in (
        subst (λ w. ProbeStands new w) (sym watch) (
          (d.after, ap (λ (m : Held). map.get m slot) held ∙ its_place (freed old.held out) slot (probe d.after)),
          λ at octets there. alone (freed old.held out) (none_freed old (down until next out) stands) slot at d.after octets (ap (λ (m : Held). map.get m at) (sym held) ∙ there),
        ),
        λ at entry there. inl (still new at entry entry (ap (λ (m : Held). map.get m at) held ∙ beside (freed old.held out) slot at _ entry h.2.0.free (left_freed old (down until next out) stands at ∙ ap but_a_probe there)) refl refl),
      )
    where
      alone_by : (b : Bool) (at slot : Slot) (octets other : List ℕ) (o : Option Entry) → (b ≡ true → at ≡ slot) → (o ≡ Some (probe other) → ⊥) → cond b (Some (probe octets)) o ≡ Some (probe other) → at ≡ slot
      alone_by true at slot octets other o same none is = same refl
      alone_by false at slot octets other o same none is = absurd (none is)

      alone : (held : Held) → HasNone held → (slot at : Slot) (octets other : List ℕ) → map.get (map.insert held slot (probe octets)) at ≡ Some (probe other) → at ≡ slot
      alone held none slot at octets other is =
          alone_by (eq_by_cmp slot_cmp at slot) at slot octets other (map.get held at) (λ e. tied at slot e) (none at other) (sym (map.get-insert slots_total held slot (probe octets) at) ∙ is)
  step_keeps now random d new (down until next out) is WentDown h = absurd h
  step_keeps now random d new (down until next out) is WentUp h = (
    apart_gone_up now (record old { last = now }) new h.2,
    λ at entry there. inl (still_up now (record old { last = now }) new at entry h.2 there),
  )
  step_keeps now random d new (down until next out) is (Idle None) h = absurd h
  step_keeps now random d new (down until next out) is (Idle (Some moment)) h = keeps_same old _ new (ap (λ (b : Book). b.held) h.4) (ap (λ (b : Book). b.watch) h.4) p

  -- once a datagram was heard, and perhaps it went up
  up_apart : (now : ℕ) (middle new : Book) (w : Watch) → old.watch ≡ w → middle.watch ≡ old.watch → (HasNone old.held → HasNone middle.held) → GoesUpIfDown now middle new w → Apart new
  up_apart now middle new up is watch none h = apart_up new (ap (λ (b : Book). b.watch) h ∙ watch ∙ is) (subst (λ (b : Book). HasNone b.held) (sym h) (none (none_up old is p)))
  up_apart now middle new (down until next out) is watch none h = apart_gone_up now middle new h

  up_still : (now : ℕ) (middle new : Book) (w : Watch) → GoesUpIfDown now middle new w → (slot : Slot) (entry : Outstanding) → outstanding_at middle slot entry → IsStillOutstanding new slot entry
  up_still now middle new up h slot entry there = still_same middle new slot entry (ap (λ (b : Book). b.held) h) there
  up_still now middle new (down until next out) h slot entry there = still_up now middle new slot entry h there

  hear_keeps : (moment port : ℕ) (datagram : List ℕ) (result : Result Heard HearFault) (new : Book) → Hears old moment port datagram result new → Keeps old (heard result) new
  hear_keeps moment port datagram (Ok (Answer outgoing)) new h = (
    up_apart _ _ new old.watch refl refl (λ none. none_without old.held (pair port h.1.packet) none) h.1.book,
    λ slot entry there. elim (left_by (eq_by_cmp slot_cmp slot (pair port h.1.packet)) (map.get old.held slot)) [
      | inl stays ↦ inl (up_still _ _ new old.watch h.1.book slot entry (map.get-remove slots_total old.held (pair port h.1.packet) slot ∙ sym stays ∙ there))
      | inr same ↦
          let at = ap (map.get old.held) (tied slot (pair port h.1.packet) same) in
          let one : h.1.entry ≡ entry = let here = h.1.there in one_sending h.1.entry entry (sym here ∙ sym at ∙ there) in
          inr (record { outgoing = outgoing; is = refl; its = its_answer old.setup.home_secret (moment_in old moment) old.served entry h.1.entry h.1.packet h.0 outgoing one h.1.keeps h.2 })
    ],
  )
    where
      one_sending : (a b : Outstanding) → Some (sending a) ≡ Some (sending b) → a ≡ b
      one_sending a b e = cc
  hear_keeps moment port datagram (Ok ProbeAnswered) new h = (
    up_apart _ _ new old.watch refl refl (λ none. none) h.book,
    λ slot entry there. inl (up_still _ _ new old.watch h.book slot entry there),
  )
  hear_keeps moment port datagram (Err fault) new h = keeps_same old _ new (ap (λ (b : Book). b.held) h.1) (ap (λ (b : Book). b.watch) h.1) p

  pub call_keeps : (event : Event) (answer : GivenAnswer) (d : Datagrams) (new : Book) → Gives old event answer d new → Keeps old answer new
  call_keeps (accept request moment) (accepted result) d new h = accept_keeps request.now moment result d new h
  call_keeps (step moment random) (stepped action) d new h = step_keeps (moment_in old moment) random d new old.watch refl action h.0
  call_keeps (hear moment port datagram) (heard result) d new h = hear_keeps moment port datagram.now result new h.0
  call_keeps drain (drained count) d new h = keeps_same old _ new (ap (λ (b : Book). b.held) h.0.book) (ap (λ (b : Book). b.watch) h.0.book) p
  call_keeps (turn moment) (turned result) d new h = turn_keeps moment result new h.0
  call_keeps event answer d new h = absurd h

-- an answer to what is outstanding still is an answer to what it was
as_before : (book : Book) (slot : Slot) (entry : Outstanding) (s : IsStillOutstanding book slot entry) (answer : GivenAnswer) → AnswersIt s.kept answer → AnswersIt entry answer
as_before book slot entry s answer a = record {
  outgoing = a.outgoing;
  is = a.is;
  its = record {
    client = a.its.client ∙ ap (λ r. r.stamp.client) s.request;
    port = a.its.port ∙ ap (λ r. r.stamp.port) s.request;
    identifier = a.its.identifier ∙ ap (λ r. r.stamp.identifier) s.request;
    authenticator = a.its.authenticator ∙ ap (λ r. r.stamp.authenticator) s.request;
    sending = a.its.sending ∙ s.octets;
  };
}

among_before : (book : Book) (slot : Slot) (entry : Outstanding) (s : IsStillOutstanding book slot entry) (gives : List Given) → IsAnsweredAmong s.kept gives → IsAnsweredAmong entry gives
among_before book slot entry s [] a = absurd a
among_before book slot entry s (given ∷ gives) a = elim a [
  | inl here ↦ inl (as_before book slot entry s given.answer here)
  | inr later ↦ inr (among_before book slot entry s gives later)
]

still_longer : (middle new : Book) (slot : Slot) (entry : Outstanding) (s : IsStillOutstanding middle slot entry) → IsStillOutstanding new slot s.kept → IsStillOutstanding new slot entry
still_longer middle new slot entry s t = record { kept = t.kept; there = t.there; request = t.request ∙ s.request; octets = t.octets ∙ s.octets }

pub stays_in_run : (old : Book) (before : List ℕ) (events : List Event) (gives : List Given) (new : Book) → Apart old → Runs old before events gives new → (slot : Slot) (entry : Outstanding) → outstanding_at old slot entry → IsStillOutstanding new slot entry ⊎ IsAnsweredAmong entry gives
stays_in_run old before [] [] new p h slot entry there = inl (still_same old new slot entry (ap (λ (b : Book). b.held) h) there)
stays_in_run old before (event ∷ events) (given ∷ gives) new p h slot entry there =
    let first = call_keeps old p event given.answer _ h.0 h.1 in
    elim (first.1 slot entry there) [
      | inl s ↦ elim (stays_in_run h.0 given.datagram events gives new first.0 h.2 slot s.kept s.there) [
        | inl t ↦ inl (still_longer h.0 new slot entry s t)
        | inr later ↦ inr (inr (among_before h.0 slot entry s gives later))
      ]
      | inr here ↦ inr (inl here)
    ]
stays_in_run old before [] (given ∷ gives) new p h slot entry there = absurd h
stays_in_run old before (event ∷ events) [] new p h slot entry there = absurd h

pub apart_in_run : (old : Book) (before : List ℕ) (events : List Event) (gives : List Given) (new : Book) → Apart old → Runs old before events gives new → Apart new
apart_in_run old before [] [] new p h = subst Apart (sym h) p
apart_in_run old before (event ∷ events) (given ∷ gives) new p h = apart_in_run h.0 given.datagram events gives new (call_keeps old p event given.answer _ h.0 h.1).0 h.2
apart_in_run old before [] (given ∷ gives) new p h = absurd h
apart_in_run old before (event ∷ events) [] new p h = absurd h
