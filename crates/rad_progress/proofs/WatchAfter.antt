-- The watch after a call.
use Rattle.std.proofs.Common.{◌≡◌, ℕ, ◌+◌, ◌-◌, ◌^◌, ◌<◌, ◌≤◌, List, [], ◌∷◌, Option, Some, None, Result, Ok, Err, refl, sym, ap, ◌∙◌, subst, inl, inr, arith}
use Rattle.std.specs.Prelude.{◌⊎◌, min}
use Rattle.std.specs.List.{AllByRecursion}
use Rattle.rad_config.specs.Limits.{AreInRange}
use Rattle.rad_realms.specs.Checking.{Request}
use Rattle.rad_tables.specs.declared.slots.Slot.{Slot}
use Rattle.rad_lane.specs.declared.watch.Watch.{Watch}
use Rattle.rad_lane.specs.declared.watch.Watch.TheVariants.{Up as up, Down as down}
use Rattle.rad_lane.specs.declared.accepting.Taken.{Taken}
use Rattle.rad_lane.specs.declared.accepting.Taken.TheVariants.{New, Waiting, Again}
use Rattle.rad_lane.specs.declared.accepting.Refusal.{Refusal}
use Rattle.rad_lane.specs.declared.hearing.Heard.{Heard}
use Rattle.rad_lane.specs.declared.hearing.Heard.TheVariants.{Answer, ProbeAnswered}
use Rattle.rad_lane.specs.declared.hearing.HearFault.{HearFault}
use Rattle.rad_lane.specs.declared.stepping.Action.{Action}
use Rattle.rad_lane.specs.declared.stepping.Action.TheVariants.{Sent, Resent, Probed, WentDown, WentUp, Idle}
use Rattle.rad_lane.specs.declared.turning.Volume.{Volume}
use Rattle.rad_lane.specs.declared.turning.TurnFault.{TurnFault}
use Rattle.rad_lane.specs.declared.turning.TurnFault.TheVariants.{NothingToTurn, OutOfMemory}
use Rattle.rad_lane.specs.declared.running.Event.{Event}
use Rattle.rad_lane.specs.declared.running.Event.TheVariants.{Accept as accept, Step as step, Hear as hear, Drain as drain, Turn as turn}
use Rattle.rad_lane.specs.declared.running.GivenAnswer.{GivenAnswer}
use Rattle.rad_lane.specs.declared.running.GivenAnswer.TheVariants.{Accept as accepted, Step as stepped, Hear as heard, Drain as drained, Turn as turned}
use Rattle.rad_lane.specs.declared.running.Given.{Given}
use Rattle.rad_lane.specs.Datagrams.{Datagrams}
use Rattle.rad_lane.specs.Book.{Book, moment_in}
use Rattle.rad_lane.specs.Watch.{GoesUpIfDown}
use Rattle.rad_lane.specs.Accepts.{Accepts}
use Rattle.rad_lane.specs.Steps.{Steps, StepsBy}
use Rattle.rad_lane.specs.Hears.{Hears}
use Rattle.rad_lane.specs.Volumes.{Turns}
use Rattle.rad_lane.specs.Runs.{Gives, Runs}
use Rattle.rad_progress.specs.Calls.{IsStepAt}
use Rattle.rad_progress.specs.Downs.{IsUpOrDownUntil, ProbesNextAt, IsNotDown, IsNoProbe, IsNotUp, ProbesOrGoesUp}

abbrev Same : Book → Book → Type 0
Same old new = (new.watch ≡ old.watch) ⊎ (new.watch ≡ up)

pub accepts_watch : (old : Book) (request : Request) (moment : ℕ) (result : Result Taken Refusal) (d : Datagrams) (new : Book) → Accepts old request moment result d new → new.watch ≡ old.watch
accepts_watch old request moment (Ok (New number)) d new h = ap (λ (b : Book). b.watch) h.3
accepts_watch old request moment (Ok (Waiting number)) d new h = ap (λ (b : Book). b.watch) h.1
accepts_watch old request moment (Ok (Again number)) d new h = ap (λ (b : Book). b.watch) h.1
accepts_watch old request moment (Err refusal) d new h = ap (λ (b : Book). b.watch) h.2

turns_watch : (old : Book) (moment : ℕ) (result : Result Volume TurnFault) (new : Book) → Turns old moment result new → new.watch ≡ old.watch
turns_watch old moment (Ok volume) new h = ap (λ (b : Book). b.watch) h.5
turns_watch old moment (Err NothingToTurn) new h = ap (λ (b : Book). b.watch) h.1
turns_watch old moment (Err OutOfMemory) new h = ap (λ (b : Book). b.watch) h.4

-- a home server that was heard is up
pub up_if_down : (now : ℕ) (old new : Book) (w : Watch) → old.watch ≡ w → GoesUpIfDown now old new w → new.watch ≡ up
up_if_down now old new up is h = ap (λ (b : Book). b.watch) h ∙ is
up_if_down now old new (down until next out) is h = ap (λ (b : Book). b.watch) h.others

pub heard_up : (old : Book) (moment port : ℕ) (datagram : List ℕ) (what : Heard) (new : Book) → Hears old moment port datagram (Ok what) new → new.watch ≡ up
heard_up old moment port datagram (Answer outgoing) new h = up_if_down _ _ new old.watch refl h.1.book
heard_up old moment port datagram ProbeAnswered new h = up_if_down _ _ new old.watch refl h.book

hears_watch : (old : Book) (moment port : ℕ) (datagram : List ℕ) (result : Result Heard HearFault) (new : Book) → Hears old moment port datagram result new → Same old new
hears_watch old moment port datagram (Ok what) new h = inr (heard_up old moment port datagram what new h)
hears_watch old moment port datagram (Err fault) new h = inl (ap (λ (b : Book). b.watch) h.1)

steps_watch : (old : Book) (now : ℕ) (random : List ℕ) (d : Datagrams) (new : Book) (w : Watch) → old.watch ≡ w → (action : Action) → StepsBy w old now random action d new → IsNoProbe (stepped action) → Same old new
steps_watch old now random d new up is (Sent number slot) h calm = inl (ap (λ (b : Book). b.watch) h.9)
steps_watch old now random d new up is (Resent number slot) h calm = inl (ap (λ (b : Book). b.watch) h.4)
steps_watch old now random d new up is (Probed slot) h calm = absurd h
steps_watch old now random d new up is WentDown h calm = absurd calm
steps_watch old now random d new up is WentUp h calm = absurd h
steps_watch old now random d new up is (Idle None) h calm = inl (ap (λ (b : Book). b.watch) h.3)
steps_watch old now random d new up is (Idle (Some moment)) h calm = inl (ap (λ (b : Book). b.watch) h.7)
steps_watch old now random d new (down until next out) is (Sent number slot) h calm = absurd h
steps_watch old now random d new (down until next out) is (Resent number slot) h calm = absurd h
steps_watch old now random d new (down until next out) is (Probed slot) h calm = absurd calm
steps_watch old now random d new (down until next out) is WentDown h calm = absurd h
steps_watch old now random d new (down until next out) is WentUp h calm = inr (ap (λ (b : Book). b.watch) h.2.others)
steps_watch old now random d new (down until next out) is (Idle None) h calm = absurd h
steps_watch old now random d new (down until next out) is (Idle (Some moment)) h calm = inl (ap (λ (b : Book). b.watch) h.4)

-- a call that neither probes nor marks it down leaves the watch as it is, or marks it up
calm_watch : (old : Book) (event : Event) (answer : GivenAnswer) (d : Datagrams) (new : Book) → Gives old event answer d new → IsNoProbe answer → Same old new
calm_watch old (accept request moment) (accepted result) d new h calm = inl (accepts_watch old request.now moment result d new h)
calm_watch old (step moment random) (stepped action) d new h calm = steps_watch old (moment_in old moment) random d new old.watch refl action h.0 calm
calm_watch old (hear moment port datagram) (heard result) d new h calm = hears_watch old moment port datagram.now result new h.0
calm_watch old drain (drained count) d new h calm = inl (ap (λ (b : Book). b.watch) h.0.book)
calm_watch old (turn moment) (turned result) d new h calm = inl (turns_watch old moment result new h.0)
calm_watch old event answer d new h calm = absurd h

-- a call that does not mark it down is calm, or a probe
calm_or_probe : (answer : GivenAnswer) → IsNotDown answer → IsNoProbe answer ⊎ ((slot : Slot) × (answer ≡ stepped (Probed slot)))
calm_or_probe (stepped (Sent number slot)) not_down = inl tt
calm_or_probe (stepped (Resent number slot)) not_down = inl tt
calm_or_probe (stepped (Probed slot)) not_down = inr (slot, refl)
calm_or_probe (stepped WentDown) not_down = absurd not_down
calm_or_probe (stepped WentUp) not_down = inl tt
calm_or_probe (stepped (Idle moment)) not_down = inl tt
calm_or_probe (accepted result) not_down = inl tt
calm_or_probe (heard result) not_down = inl tt
calm_or_probe (drained count) not_down = inl tt
calm_or_probe (turned result) not_down = inl tt

-- what a probe leaves
record AfterProbe (old : Book) (now : ℕ) (slot : Slot) (new : Book) : Type 0 where
  pub until : ℕ
  pub next : ℕ
  pub out : Option Slot
  pub was : old.watch ≡ down until next out
  pub is : new.watch ≡ down until (now + old.setup.limits.probe_every) (Some slot)

probe_by : (old : Book) (now : ℕ) (random : List ℕ) (d : Datagrams) (new : Book) (w : Watch) → old.watch ≡ w → (slot : Slot) → StepsBy w old now random (Probed slot) d new → AfterProbe old now slot new
probe_by old now random d new up is slot h = absurd h
probe_by old now random d new (down until next out) is slot h = record { until = until; next = next; out = out; was = is; is = ap (λ (b : Book). b.watch) h.2.2 }

probe_gives : (old : Book) (event : Event) (slot : Slot) (d : Datagrams) (new : Book) → Gives old event (stepped (Probed slot)) d new → (now : ℕ) × AfterProbe old now slot new
probe_gives old (step moment random) slot d new h = (moment_in old moment, probe_by old (moment_in old moment) random d new old.watch refl slot h.0)
probe_gives old event slot d new h = absurd h

until_of : (until : ℕ) (w : Watch) (its next : ℕ) (out : Option Slot) → w ≡ down its next out → IsUpOrDownUntil until w → its ≡ until
until_of until w its next out is h = subst (λ x. IsUpOrDownUntil until x) is h

module _ (P : Watch → Type 0) (at_up : P up) where
  same_keeps : (old new : Book) → Same old new → P old.watch → P new.watch
  same_keeps old new same p = elim same [ inl is ↦ subst P (sym is) p | inr is ↦ subst P (sym is) at_up ]

until_after : (until : ℕ) (old : Book) (event : Event) (answer : GivenAnswer) (d : Datagrams) (new : Book) → Gives old event answer d new → IsNotDown answer → IsUpOrDownUntil until old.watch → IsUpOrDownUntil until new.watch
until_after until old event answer d new h not_down so = elim (calm_or_probe answer not_down) [
  | inl calm ↦ same_keeps (IsUpOrDownUntil until) tt old new (calm_watch old event answer d new h calm) so
  | inr probe ↦
      let after = (probe_gives old event probe.0 d new (subst (λ a. Gives old event a d new) probe.1 h)).1 in
      subst (IsUpOrDownUntil until) (sym after.is) (until_of until old.watch after.until after.next after.out after.was so)
]

pub until_in_run : (until : ℕ) (old : Book) (before : List ℕ) (events : List Event) (gives : List Given) (new : Book) → Runs old before events gives new → AllByRecursion (λ given. IsNotDown given.answer) gives → IsUpOrDownUntil until old.watch → IsUpOrDownUntil until new.watch
until_in_run until old before [] [] new h not_down so = subst (λ (b : Book). IsUpOrDownUntil until b.watch) (sym h) so
until_in_run until old before (event ∷ events) (given ∷ gives) new h not_down so =
    until_in_run until h.0 given.datagram events gives new h.2 not_down.1 (until_after until old event given.answer _ h.0 h.1 not_down.0 so)
until_in_run until old before [] (given ∷ gives) new h not_down so = absurd h
until_in_run until old before (event ∷ events) [] new h not_down so = absurd h

next_in_run : (moment : ℕ) (old : Book) (before : List ℕ) (events : List Event) (gives : List Given) (new : Book) → Runs old before events gives new → AllByRecursion (λ given. IsNoProbe given.answer) gives → ProbesNextAt moment old.watch → ProbesNextAt moment new.watch
next_in_run moment old before [] [] new h calm so = subst (λ (b : Book). ProbesNextAt moment b.watch) (sym h) so
next_in_run moment old before (event ∷ events) (given ∷ gives) new h calm so =
    next_in_run moment h.0 given.datagram events gives new h.2 calm.1
    (same_keeps (ProbesNextAt moment) tt old h.0 (calm_watch old event given.answer _ h.0 h.1 calm.0) so)
next_in_run moment old before [] (given ∷ gives) new h calm so = absurd h
next_in_run moment old before (event ∷ events) [] new h calm so = absurd h

-- the step that marks it down
down_by : (old : Book) (now : ℕ) (random : List ℕ) (d : Datagrams) (new : Book) (w : Watch) → StepsBy w old now random WentDown d new → (new.watch ≡ down (now + old.setup.limits.down_wait) now None) × (new.last ≡ now)
down_by old now random d new up h = (ap (λ (b : Book). b.watch) h.3, ap (λ (b : Book). b.last) h.3)
down_by old now random d new (down until next out) h = absurd h

-- a step once the wait is over
up_by : (until : ℕ) (old : Book) (now : ℕ) (random : List ℕ) (d : Datagrams) (new : Book) (w : Watch) → old.watch ≡ w → (action : Action) → StepsBy w old now random action d new → IsUpOrDownUntil until w → until ≤ now → (old.watch ≡ up) ⊎ ((action ≡ WentUp) × (new.watch ≡ up))
up_by until old now random d new up is action h so over = inl is
up_by until old now random d new (down its next out) is (Sent number slot) h so over = absurd h
up_by until old now random d new (down its next out) is (Resent number slot) h so over = absurd h
up_by until old now random d new (down its next out) is (Probed slot) h so over = absurd (omega (arith, h.0, so))
up_by until old now random d new (down its next out) is WentDown h so over = absurd h
up_by until old now random d new (down its next out) is WentUp h so over = inr (refl, ap (λ (b : Book). b.watch) h.2.others)
up_by until old now random d new (down its next out) is (Idle None) h so over = absurd h
up_by until old now random d new (down its next out) is (Idle (Some moment)) h so over = absurd (omega (arith, h.0, so))

pub comes_up : (old : Book) (moment : ℕ) (random : List ℕ) (d : Datagrams) (marked later_book : Book) (later : ℕ) (octets : List ℕ) (action : Action) (e : Datagrams) (new : Book) → Steps old moment random WentDown d marked → (before : List ℕ) (events : List Event) (gives : List Given) → Runs marked before events gives later_book → AllByRecursion (λ given. IsNotDown given.answer) gives → moment_in old moment + old.setup.limits.down_wait ≤ moment_in later_book later → Steps later_book later octets action e new → (later_book.watch ≡ up) ⊎ ((action ≡ WentUp) × (new.watch ≡ up))
comes_up old moment random d marked later_book later octets action e new went before events gives runs not_down over h =
    let until = moment_in old moment + old.setup.limits.down_wait in
    let first : IsUpOrDownUntil until marked.watch = subst (IsUpOrDownUntil until) (sym (down_by old (moment_in old moment) random d marked old.watch went).0) refl in
    let so = until_in_run until marked before events gives later_book runs not_down first in
    up_by until later_book (moment_in later_book later) octets e new later_book.watch refl action h so over

-- at the moment at which it was marked down it is not marked up
module _ (moment now until : ℕ) (waits : now < until) where
  stays_by : (old : Book) (random : List ℕ) (d : Datagrams) (new : Book) (w : Watch) → (action : Action) → (its : ℕ) → its ≡ now → StepsBy w old its random action d new → (next : ℕ) (out : Option Slot) → w ≡ down until next out → old.watch ≡ w → IsNotUp (stepped action) × (new.last ≡ now) × ((next : ℕ) × (out : Option Slot) × (new.watch ≡ down until next out))
  stays_by old random d new up action its is h next out w_is same = absurd (up_is_not_down w_is)
    where
      up_is_not_down : up ≡ down until next out → ⊥
      up_is_not_down e = cc
  stays_by old random d new (down u n o) (Sent number slot) its is h next out w_is same = absurd h
  stays_by old random d new (down u n o) (Resent number slot) its is h next out w_is same = absurd h
  stays_by old random d new (down u n o) (Probed slot) its is h next out w_is same =
      let u_is : u ≡ until = cc in
      (tt, ap (λ (b : Book). b.last) h.2.2 ∙ is, (its + old.setup.limits.probe_every, Some slot, ap (λ (b : Book). b.watch) h.2.2 ∙ ap (λ v. down v (its + old.setup.limits.probe_every) (Some slot)) u_is))
  stays_by old random d new (down u n o) WentDown its is h next out w_is same = absurd h
  stays_by old random d new (down u n o) WentUp its is h next out w_is same =
      let u_is : u ≡ until = cc in
      absurd (omega (arith, h.0, u_is, is))
  stays_by old random d new (down u n o) (Idle None) its is h next out w_is same = absurd h
  stays_by old random d new (down u n o) (Idle (Some named)) its is h next out w_is same =
      (tt, ap (λ (b : Book). b.last) h.4 ∙ is, (next, out, ap (λ (b : Book). b.watch) h.4 ∙ same ∙ w_is))

  stays_gives : (old : Book) (event : Event) (answer : GivenAnswer) (d : Datagrams) (new : Book) → Gives old event answer d new → IsStepAt moment event → moment_in old moment ≡ now → (next : ℕ) (out : Option Slot) → old.watch ≡ down until next out → IsNotUp answer × (new.last ≡ now) × ((next : ℕ) × (out : Option Slot) × (new.watch ≡ down until next out))
  stays_gives old (step its random) (stepped action) d new h at is next out so =
      stays_by old random d new old.watch action (moment_in old its) (ap (λ n. moment_in old n) at ∙ is) h.0 next out so refl
  stays_gives old (step its random) (accepted result) d new h at is next out so = absurd h
  stays_gives old (step its random) (heard result) d new h at is next out so = absurd h
  stays_gives old (step its random) (drained count) d new h at is next out so = absurd h
  stays_gives old (step its random) (turned result) d new h at is next out so = absurd h
  stays_gives old event answer d new h at is next out so = absurd at

  stays_in_run : (old : Book) (before : List ℕ) (events : List Event) (gives : List Given) (new : Book) → Runs old before events gives new → AllByRecursion (IsStepAt moment) events → moment_in old moment ≡ now → (next : ℕ) (out : Option Slot) → old.watch ≡ down until next out → AllByRecursion (λ given. IsNotUp given.answer) gives
  stays_in_run old before [] [] new h at is next out so = tt
  stays_in_run old before (event ∷ events) (given ∷ gives) new h at is next out so =
      let first = stays_gives old event given.answer _ h.0 h.1 at.0 is next out so in
      let last = first.1 in
      (first.0, stays_in_run h.0 given.datagram events gives new h.2 at.1 (omega (arith, last, is)) first.2.0 first.2.1 first.2.2)
  stays_in_run old before [] (given ∷ gives) new h at is next out so = absurd h
  stays_in_run old before (event ∷ events) [] new h at is next out so = absurd h

pub not_at_once : (old : Book) (moment : ℕ) (random : List ℕ) (d : Datagrams) (marked new : Book) → AreInRange old.setup.limits → Steps old moment random WentDown d marked → (before : List ℕ) (events : List Event) (gives : List Given) → Runs marked before events gives new → AllByRecursion (IsStepAt moment) events → AllByRecursion (λ given. IsNotUp given.answer) gives
not_at_once old moment random d marked new range went before events gives runs at =
    let now = moment_in old moment in
    let first = down_by old now random d marked old.watch went in
    let last = first.1 in
    stays_in_run moment now (now + old.setup.limits.down_wait) (omega (arith, range.down_wait.0)) marked before events gives new runs at (omega (arith, last)) now None first.0

-- a step at the moment that an idle step named, or later
module _ (probe : ℕ) where
  named_by : (book : Book) (now : ℕ) (octets : List ℕ) (e : Datagrams) (idle : Book) (w : Watch) → book.watch ≡ w → ProbesNextAt probe w → (named : ℕ) → StepsBy w book now octets (Idle (Some named)) e idle → named < 2 ^ 62 - 1 → (book.watch ≡ up) ⊎ ((named ≤ probe) × ((until : ℕ) × (next : ℕ) × (out : Option Slot) × (idle.watch ≡ down until next out) × (named ≡ min until next)))
  named_by book now octets e idle up is so named h small = inl is
  named_by book now octets e idle (down until next out) is so named h small =
      let named_is : named ≡ min until next = not_cut (min until next) (2 ^ 62 - 1) named h.2 small in
      inr (omega (arith, so, named_is), (until, next, out, ap (λ (b : Book). b.watch) h.4 ∙ is, named_is))
    where
      not_cut : (due most moment : ℕ) → moment ≡ min due most → moment < most → moment ≡ due
      not_cut due most moment is h = omega arith

acts_by : (old : Book) (now : ℕ) (random : List ℕ) (d : Datagrams) (new : Book) (w : Watch) (until next : ℕ) (out : Option Slot) → w ≡ down until next out → (named : ℕ) → named ≡ min until next → named ≤ now → (action : Action) → StepsBy w old now random action d new → ProbesOrGoesUp action
acts_by old now random d new up until next out is named named_is past action h = absurd (up_is_not_down is)
  where
    up_is_not_down : up ≡ down until next out → ⊥
    up_is_not_down e = cc
acts_by old now random d new (down u n o) until next out is named named_is past (Sent number slot) h = absurd h
acts_by old now random d new (down u n o) until next out is named named_is past (Resent number slot) h = absurd h
acts_by old now random d new (down u n o) until next out is named named_is past (Probed slot) h = tt
acts_by old now random d new (down u n o) until next out is named named_is past WentDown h = absurd h
acts_by old now random d new (down u n o) until next out is named named_is past WentUp h = tt
acts_by old now random d new (down u n o) until next out is named named_is past (Idle None) h = absurd h
acts_by old now random d new (down u n o) until next out is named named_is past (Idle (Some moment)) h =
    let u_is : u ≡ until = cc in
    let n_is : n ≡ next = cc in
    absurd (omega (arith, h.0, h.1, u_is, n_is, named_is, past))

pub probed_in_time : (old : Book) (moment : ℕ) (random : List ℕ) (slot : Slot) (d : Datagrams) (probed later_book : Book) (then : ℕ) (octets : List ℕ) (named : ℕ) (e : Datagrams) (idle : Book) (later : ℕ) (other : List ℕ) (action : Action) (f : Datagrams) (new : Book) → Steps old moment random (Probed slot) d probed → (before : List ℕ) (events : List Event) (gives : List Given) → Runs probed before events gives later_book → AllByRecursion (λ given. IsNoProbe given.answer) gives → Steps later_book then octets (Idle (Some named)) e idle → named < 2 ^ 62 - 1 → named ≤ moment_in idle later → Steps idle later other action f new → (later_book.watch ≡ up) ⊎ ((named ≤ moment_in old moment + old.setup.limits.probe_every) × ProbesOrGoesUp action)
probed_in_time old moment random slot d probed later_book then octets named e idle later other action f new went before events gives runs calm idles small past acts =
    let at = moment_in old moment + old.setup.limits.probe_every in
    let after = probe_by old (moment_in old moment) random d probed old.watch refl slot went in
    let first : ProbesNextAt at probed.watch = subst (ProbesNextAt at) (sym after.is) refl in
    let so = next_in_run at probed before events gives later_book runs calm first in
    elim (named_by at later_book (moment_in later_book then) octets e idle later_book.watch refl so named idles small) [
      | inl is_up ↦ inl is_up
      | inr its ↦ inr (its.0, acts_by idle (moment_in idle later) other f new idle.watch its.1.0 its.1.1 its.1.2 its.1.3 named its.1.4 past action acts)
    ]
