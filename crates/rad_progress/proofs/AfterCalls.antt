-- What calls leave of a lane's setup, queue and sent requests.
use Rattle.std.proofs.Common.{◌≡◌, ℕ, ◌+◌, ◌≤◌, List, [], ◌∷◌, ◌++◌, length, Option, Some, None, Result, Ok, Err, refl, sym, ap, ◌∙◌, subst, inl, inr, arith, append_assoc, length-append}
use Rattle.std.specs.Prelude.{◌⊎◌, IsSome, IsNone}
use Rattle.std.specs.List.{AllByRecursion}
use Rattle.std.specs.FinMap as map
use Rattle.std.proofs.lemmas.List.{append-nil}
use Rattle.rad_realms.specs.Checking.{Request}
use Rattle.rad_lane.specs.declared.stamp.Stamp.{Stamp}
use Rattle.rad_lane.specs.declared.entry.Entry.TheVariants.{Sending as sending, Probe as probe}
use Rattle.rad_lane.specs.declared.watch.Watch.{Watch}
use Rattle.rad_lane.specs.declared.watch.Watch.TheVariants.{Up as up, Down as down}
use Rattle.rad_lane.specs.declared.accepting.Taken.{Taken}
use Rattle.rad_lane.specs.declared.accepting.Taken.TheVariants.{New, Waiting, Again}
use Rattle.rad_lane.specs.declared.accepting.Refusal.{Refusal}
use Rattle.rad_lane.specs.declared.hearing.Heard.{Heard}
use Rattle.rad_lane.specs.declared.hearing.Heard.TheVariants.{Answer, ProbeAnswered}
use Rattle.rad_lane.specs.declared.hearing.HearFault.{HearFault}
use Rattle.rad_lane.specs.declared.stepping.Action.{Action}
use Rattle.rad_lane.specs.declared.stepping.Action.TheVariants.{Sent, Resent, Probed, WentDown, WentUp, Idle}
use Rattle.rad_lane.specs.declared.turning.Volume.{Volume}
use Rattle.rad_lane.specs.declared.turning.TurnFault.{TurnFault}
use Rattle.rad_lane.specs.declared.turning.TurnFault.TheVariants.{NothingToTurn, OutOfMemory}
use Rattle.rad_lane.specs.declared.running.Event.{Event}
use Rattle.rad_lane.specs.declared.running.Event.TheVariants.{Accept as accept, Step as step, Hear as hear, Drain as drain, Turn as turn}
use Rattle.rad_lane.specs.declared.running.GivenAnswer.{GivenAnswer}
use Rattle.rad_lane.specs.declared.running.GivenAnswer.TheVariants.{Accept as accepted, Step as stepped, Hear as heard, Drain as drained, Turn as turned}
use Rattle.rad_lane.specs.declared.running.Given.{Given}
use Rattle.rad_lane.specs.Outstanding.{Outstanding, first_sending, sent_again}
use Rattle.rad_lane.specs.Datagrams.{Datagrams}
use Rattle.rad_lane.specs.Entries.{sendings_in}
use Rattle.rad_lane.specs.Book.{Book, moment_in, next_number}
use Rattle.rad_lane.specs.Watch.{GoesUpIfDown}
use Rattle.rad_lane.specs.Lawful.{ProbeStands}
use Rattle.rad_lane.specs.Accepts.{Accepts, stamp_of, record_of}
use Rattle.rad_lane.specs.Steps.{StepsBy, freed}
use Rattle.rad_lane.specs.Hears.{Hears}
use Rattle.rad_lane.specs.Volumes.{Turns}
use Rattle.rad_lane.specs.Runs.{Gives, Runs}
use Rattle.rad_progress.specs.Calls.{IsRequest, IsStepAt}
use Rattle.rad_progress.proofs.Held.{Held, comes, changes, counted, gone_up, freed_same}
use Rattle.rad_progress.proofs.StaysOutstanding.{Apart, call_keeps}

-- so many requests were sent for the first time, and no others came
pub record Passes (old new : Book) (sends : ℕ) : Type 0 where
  pub setup : new.setup ≡ old.setup
  pub accepted : new.accepted ≡ old.accepted
  pub queue : length new.queued + sends ≡ length old.queued
  pub sent : length new.sent ≡ length old.sent + sends
  pub drain : new.drain ≡ old.drain

-- nothing of this changed
same_passes : (old new : Book) → new.setup ≡ old.setup → new.accepted ≡ old.accepted → new.queued ≡ old.queued → new.sent ≡ old.sent → new.drain ≡ old.drain → Passes old new 0
same_passes old new setup all queued sent still = record {
  setup = setup;
  accepted = all;
  queue = let n = ap length queued in omega (arith, n);
  sent = let n = ap length sent in omega (arith, n);
  drain = still;
}

-- the parts of a book that some calls leave
record Like (old new : Book) : Type 0 where
  pub setup : new.setup ≡ old.setup
  pub accepted : new.accepted ≡ old.accepted
  pub queued : new.queued ≡ old.queued
  pub sent : new.sent ≡ old.sent
  pub drain : new.drain ≡ old.drain

like_passes : (old new : Book) → Like old new → Passes old new 0
like_passes old new l = same_passes old new l.setup l.accepted l.queued l.sent l.drain

like : (old middle new : Book) → Like old middle → new ≡ middle → Like old new
like old middle new l is = subst (λ (b : Book). Like old b) (sym is) l

itself : (book : Book) → Like book book
itself book = record { setup = refl; accepted = refl; queued = refl; sent = refl; drain = refl }

pub passes_on : (old middle new : Book) (m n : ℕ) → Passes old middle m → Passes middle new n → Passes old new (m + n)
passes_on old middle new m n a b = record {
  setup = b.setup ∙ a.setup;
  accepted = b.accepted ∙ a.accepted;
  queue = omega (arith, a.queue, b.queue);
  sent = omega (arith, a.sent, b.sent);
  drain = b.drain ∙ a.drain;
}

-- hearing sends nothing
up_like : (now : ℕ) (middle new : Book) (w : Watch) → GoesUpIfDown now middle new w → Like middle new
up_like now middle new up h = like middle middle new (record { setup = refl; accepted = refl; queued = refl; sent = refl; drain = refl }) h
up_like now middle new (down until next out) h = like middle (record middle { held = h.held; watch = up }) new (record { setup = refl; accepted = refl; queued = refl; sent = refl; drain = refl }) h.others

pub hears_pass : (old : Book) (moment port : ℕ) (datagram : List ℕ) (result : Result Heard HearFault) (new : Book) → Hears old moment port datagram result new → Passes old new 0
hears_pass old moment port datagram (Ok (Answer outgoing)) new h =
    let l = up_like _ _ new old.watch h.1.book in same_passes old new l.setup l.accepted l.queued l.sent l.drain
hears_pass old moment port datagram (Ok ProbeAnswered) new h =
    let l = up_like _ _ new old.watch h.book in same_passes old new l.setup l.accepted l.queued l.sent l.drain
hears_pass old moment port datagram (Err fault) new h =
    like_passes old new (like old old new (record { setup = refl; accepted = refl; queued = refl; sent = refl; drain = refl }) h.1)

-- a step: how many it sent, 0 or 1; and how many are outstanding then. None is sent where the window is full
abbrev pub out_of : Book → ℕ
out_of book = length (sendings_in book.held)

pub record StepPasses (old new : Book) (sends : ℕ) : Type 0 where
  pub passes : Passes old new sends
  pub out : out_of new ≡ out_of old + sends
  pub room : (sends ≡ 0) ⊎ (out_of new ≤ old.setup.limits.window)

step_same : (old new : Book) → Like old new → out_of new ≡ out_of old → StepPasses old new 0
step_same old new l out = record { passes = like_passes old new l; out = omega (arith, out); room = inl refl }

abbrev Same : Book → Book → Type 0
Same old new = (sends : ℕ) × StepPasses old new sends

module _ (old : Book) (p : Apart old) where
  step_passes : (now : ℕ) (random : List ℕ) (d : Datagrams) (new : Book) (w : Watch) → old.watch ≡ w → (action : Action) → StepsBy w old now random action d new → (sends : ℕ) × StepPasses old new sends
  step_passes now random d new up is (Sent number slot) h =
      let entry : Outstanding = first_sending old.setup now h.3 slot.identifier in
      let one = comes (λ _. 1) old.held slot (sending entry) h.7.free in
      let held = ap (λ (b : Book). b.held) h.9 in
      let before = counted old.held in
      let after = counted (map.insert old.held slot (sending entry)) in
      let out : out_of new ≡ out_of old + 1 = ap (λ (m : Held). length (sendings_in m)) held ∙ omega (arith, one, before, after) in (
        1,
        record {
          passes = record {
            setup = ap (λ (b : Book). b.setup) h.9;
            accepted = ap (λ (b : Book). b.accepted) h.9;
            queue = let after_it = ap (λ (b : Book). length b.queued) h.9 in let before_it = ap length h.5 in omega (arith, after_it, before_it);
            sent = ap (λ (b : Book). length b.sent) h.9 ∙ length-append old.sent (h.3.stamp ∷ []);
            drain = ap (λ (b : Book). b.drain) h.9;
          };
          out = out;
          room = inr (omega (arith, out, h.2));
        },
      )
  step_passes now random d new up is (Resent number slot) h =
      let more : Outstanding = sent_again old.setup.limits.first_wait now h.0 in
      let one = changes (λ _. 1) old.held slot (sending h.0) (sending more) h.1.there in
      let held = ap (λ (b : Book). b.held) h.4 in
      let before = counted old.held in
      let after = counted (map.insert old.held slot (sending more)) in
      (0, step_same old new (like old _ new (record { setup = refl; accepted = refl; queued = refl; sent = refl; drain = refl }) h.4) (ap (λ (m : Held). length (sendings_in m)) held ∙ omega (arith, one, before, after)))
  step_passes now random d new up is (Probed slot) h = absurd h
  step_passes now random d new up is WentDown h =
      (0, step_same old new (like old _ new (record { setup = refl; accepted = refl; queued = refl; sent = refl; drain = refl }) h.3) (ap out_of h.3))
  step_passes now random d new up is WentUp h = absurd h
  step_passes now random d new up is (Idle None) h =
      (0, step_same old new (like old _ new (record { setup = refl; accepted = refl; queued = refl; sent = refl; drain = refl }) h.3) (ap out_of h.3))
  step_passes now random d new up is (Idle (Some moment)) h =
      (0, step_same old new (like old _ new (record { setup = refl; accepted = refl; queued = refl; sent = refl; drain = refl }) h.7) (ap out_of h.7))
  step_passes now random d new (down until next out) is (Sent number slot) h = absurd h
  step_passes now random d new (down until next out) is (Resent number slot) h = absurd h
  step_passes now random d new (down until next out) is (Probed slot) h =
      let stands : ProbeStands old (down until next out) = subst (λ w. ProbeStands old w) is p in
      let one = comes (λ _. 1) (freed old.held out) slot (probe d.after) h.2.0.free in
      let free = freed_same (λ _. 1) old (down until next out) stands in
      let held = ap (λ (b : Book). b.held) h.2.2 in
      let before = counted old.held in
      let after = counted (map.insert (freed old.held out) slot (probe d.after)) in
      (0, step_same old new (like old _ new (record { setup = refl; accepted = refl; queued = refl; sent = refl; drain = refl }) h.2.2) (ap (λ (m : Held). length (sendings_in m)) held ∙ omega (arith, one, free, before, after)))
  step_passes now random d new (down until next out) is WentDown h = absurd h
  step_passes now random d new (down until next out) is WentUp h =
      let stands : ProbeStands old (down until next out) = subst (λ w. ProbeStands old w) is p in
      let one = gone_up (λ _. 1) now old (down until next out) stands h.2.held h.2.renews in
      let held = ap (λ (b : Book). b.held) h.2.others in
      let before = counted old.held in
      let after = counted h.2.held in
      (0, step_same old new (like old _ new (record { setup = refl; accepted = refl; queued = refl; sent = refl; drain = refl }) h.2.others) (ap (λ (m : Held). length (sendings_in m)) held ∙ omega (arith, one, before, after)))
  step_passes now random d new (down until next out) is (Idle None) h = absurd h
  step_passes now random d new (down until next out) is (Idle (Some moment)) h =
      (0, step_same old new (like old _ new (record { setup = refl; accepted = refl; queued = refl; sent = refl; drain = refl }) h.4) (ap out_of h.4))

steps_on : (old middle new : Book) (m n : ℕ) → StepPasses old middle m → StepPasses middle new n → StepPasses old new (m + n)
steps_on old middle new m n a b = record {
  passes = passes_on old middle new m n a.passes b.passes;
  out = omega (arith, a.out, b.out);
  room =
      let same = ap (λ s. s.limits.window) a.passes.setup in
      elim b.room [
        | inr within ↦ inr (omega (arith, within, same))
        | inl none ↦ elim a.room [
          | inl none_before ↦ inl (omega (arith, none, none_before))
          | inr within ↦ inr (omega (arith, within, b.out, none))
        ]
      ];
}

pub steps_pass : (moment : ℕ) (old : Book) (before : List ℕ) (events : List Event) (gives : List Given) (new : Book) → Apart old → Runs old before events gives new → AllByRecursion (IsStepAt moment) events → (sends : ℕ) × StepPasses old new sends
steps_pass moment old before [] [] new p h at =
    (0, step_same old new (like old old new (record { setup = refl; accepted = refl; queued = refl; sent = refl; drain = refl }) h) (ap out_of h))
steps_pass moment old before (event ∷ events) (given ∷ gives) new p h at =
    let first = one_step event given.answer _ h.1 at.0 in
    let rest = steps_pass moment h.0 given.datagram events gives new (call_keeps old p event given.answer _ h.0 h.1).0 h.2 at.1 in
    (first.0 + rest.0, steps_on old h.0 new first.0 rest.0 first.1 rest.1)
  where
    one_step : (event : Event) (answer : GivenAnswer) (d : Datagrams) → Gives old event answer d h.0 → IsStepAt moment event → (sends : ℕ) × StepPasses old h.0 sends
    one_step (step its random) (stepped action) d g is = step_passes old p (moment_in old its) random d h.0 old.watch refl action g.0
    one_step (step its random) (accepted result) d g is = absurd g
    one_step (step its random) (heard result) d g is = absurd g
    one_step (step its random) (drained count) d g is = absurd g
    one_step (step its random) (turned result) d g is = absurd g
    one_step event answer d g is = absurd is
steps_pass moment old before [] (given ∷ gives) new p h at = absurd h
steps_pass moment old before (event ∷ events) [] new p h at = absurd h

-- after requests came: these stamps more, at the end of the queue too
pub record Grows (old new : Book) : Type 0 where
  pub more : List Stamp
  pub setup : new.setup ≡ old.setup
  pub accepted : new.accepted ≡ old.accepted ++ more
  pub queue : length new.queued ≡ length old.queued + length more
  pub sent : new.sent ≡ old.sent
  pub held : new.held ≡ old.held
  pub watch : new.watch ≡ old.watch
  pub drain : new.drain ≡ old.drain
  pub none_drained : IsSome old.drain → length more ≡ 0

grows_none : (old new : Book) → new.setup ≡ old.setup → new.accepted ≡ old.accepted → new.queued ≡ old.queued → new.sent ≡ old.sent → new.held ≡ old.held → new.watch ≡ old.watch → new.drain ≡ old.drain → Grows old new
grows_none old new setup all queued sent held watch still = record {
  more = [];
  setup = setup;
  accepted = all ∙ sym (append-nil old.accepted);
  queue = let n = ap length queued in omega (arith, n);
  sent = sent;
  held = held;
  watch = watch;
  drain = still;
  none_drained = λ _. refl;
}

accept_grows : (old : Book) (request : Request) (moment : ℕ) (result : Result Taken Refusal) (d : Datagrams) (new : Book) → Accepts old request moment result d new → Grows old new
accept_grows old request moment (Ok (New number)) d new h = record {
  more = stamp_of (next_number old) request (moment_in old moment) ∷ [];
  setup = ap (λ (b : Book). b.setup) h.3;
  accepted = ap (λ (b : Book). b.accepted) h.3;
  queue = ap (λ (b : Book). length b.queued) h.3 ∙ length-append old.queued (record_of (next_number old) request (moment_in old moment) ∷ []);
  sent = ap (λ (b : Book). b.sent) h.3;
  held = ap (λ (b : Book). b.held) h.3;
  watch = ap (λ (b : Book). b.watch) h.3;
  drain = ap (λ (b : Book). b.drain) h.3;
  none_drained = λ some. absurd (contradicts old.drain some h.1.0);
}
  where
    contradicts : (o : Option ℕ) → IsSome o → IsNone o → ⊥
    contradicts None s n = cc
    contradicts (Some a) s n = cc
accept_grows old request moment (Ok (Waiting number)) d new h = subst (λ (b : Book). Grows old b) (sym h.1) (grows_none old _ refl refl refl refl refl refl refl)
accept_grows old request moment (Ok (Again number)) d new h = subst (λ (b : Book). Grows old b) (sym h.1) (grows_none old _ refl refl refl refl refl refl refl)
accept_grows old request moment (Err refusal) d new h = subst (λ (b : Book). Grows old b) (sym h.2) (grows_none old old refl refl refl refl refl refl refl)

grows_on : (old middle new : Book) → Grows old middle → Grows middle new → Grows old new
grows_on old middle new a b = record {
  more = a.more ++ b.more;
  setup = b.setup ∙ a.setup;
  accepted = b.accepted ∙ ap (λ (xs : List Stamp). xs ++ b.more) a.accepted ∙ append_assoc old.accepted a.more b.more;
  queue = let n = length-append a.more b.more in omega (arith, a.queue, b.queue, n);
  sent = b.sent ∙ a.sent;
  held = b.held ∙ a.held;
  watch = b.watch ∙ a.watch;
  drain = b.drain ∙ a.drain;
  none_drained = λ some.
      let n = length-append a.more b.more in
      let first = a.none_drained some in
      let second = b.none_drained (subst (λ (o : Option ℕ). IsSome o) (sym a.drain) some) in
      omega (arith, n, first, second);
}

pub requests_grow : (old : Book) (before : List ℕ) (events : List Event) (gives : List Given) (new : Book) → Runs old before events gives new → AllByRecursion IsRequest events → Grows old new
requests_grow old before [] [] new h are = subst (λ (b : Book). Grows old b) (sym h) (grows_none old old refl refl refl refl refl refl refl)
requests_grow old before (event ∷ events) (given ∷ gives) new h are =
    grows_on old h.0 new (one_request event given.answer _ h.1 are.0) (requests_grow h.0 given.datagram events gives new h.2 are.1)
  where
    one_request : (event : Event) (answer : GivenAnswer) (d : Datagrams) → Gives old event answer d h.0 → IsRequest event → Grows old h.0
    one_request (accept request moment) (accepted result) d g is = accept_grows old request.now moment result d h.0 g
    one_request (accept request moment) (stepped action) d g is = absurd g
    one_request (accept request moment) (heard result) d g is = absurd g
    one_request (accept request moment) (drained count) d g is = absurd g
    one_request (accept request moment) (turned result) d g is = absurd g
    one_request event answer d g is = absurd is
requests_grow old before [] (given ∷ gives) new h are = absurd h
requests_grow old before (event ∷ events) [] new h are = absurd h

-- no call changes the setup
turn_setup : (old : Book) (moment : ℕ) (result : Result Volume TurnFault) (new : Book) → Turns old moment result new → new.setup ≡ old.setup
turn_setup old moment (Ok volume) new h = ap (λ (b : Book). b.setup) h.5
turn_setup old moment (Err NothingToTurn) new h = ap (λ (b : Book). b.setup) h.1
turn_setup old moment (Err OutOfMemory) new h = ap (λ (b : Book). b.setup) h.4

step_setup : (old : Book) (now : ℕ) (random : List ℕ) (d : Datagrams) (new : Book) (w : Watch) (action : Action) → StepsBy w old now random action d new → new.setup ≡ old.setup
step_setup old now random d new up (Sent number slot) h = ap (λ (b : Book). b.setup) h.9
step_setup old now random d new up (Resent number slot) h = ap (λ (b : Book). b.setup) h.4
step_setup old now random d new up (Probed slot) h = absurd h
step_setup old now random d new up WentDown h = ap (λ (b : Book). b.setup) h.3
step_setup old now random d new up WentUp h = absurd h
step_setup old now random d new up (Idle None) h = ap (λ (b : Book). b.setup) h.3
step_setup old now random d new up (Idle (Some moment)) h = ap (λ (b : Book). b.setup) h.7
step_setup old now random d new (down until next out) (Sent number slot) h = absurd h
step_setup old now random d new (down until next out) (Resent number slot) h = absurd h
step_setup old now random d new (down until next out) (Probed slot) h = ap (λ (b : Book). b.setup) h.2.2
step_setup old now random d new (down until next out) WentDown h = absurd h
step_setup old now random d new (down until next out) WentUp h = ap (λ (b : Book). b.setup) h.2.others
step_setup old now random d new (down until next out) (Idle None) h = absurd h
step_setup old now random d new (down until next out) (Idle (Some moment)) h = ap (λ (b : Book). b.setup) h.4

pub call_setup : (old : Book) (event : Event) (answer : GivenAnswer) (d : Datagrams) (new : Book) → Gives old event answer d new → new.setup ≡ old.setup
call_setup old (accept request moment) (accepted result) d new h = (accept_grows old request.now moment result d new h).setup
call_setup old (step moment random) (stepped action) d new h = step_setup old (moment_in old moment) random d new old.watch action h.0
call_setup old (hear moment port datagram) (heard result) d new h = (hears_pass old moment port datagram.now result new h.0).setup
call_setup old drain (drained count) d new h = ap (λ (b : Book). b.setup) h.0.book
call_setup old (turn moment) (turned result) d new h = turn_setup old moment result new h.0
call_setup old event answer d new h = absurd h

pub setup_in_run : (old : Book) (before : List ℕ) (events : List Event) (gives : List Given) (new : Book) → Runs old before events gives new → new.setup ≡ old.setup
setup_in_run old before [] [] new h = ap (λ (b : Book). b.setup) h
setup_in_run old before (event ∷ events) (given ∷ gives) new h = setup_in_run h.0 given.datagram events gives new h.2 ∙ call_setup old event given.answer _ h.0 h.1
setup_in_run old before [] (given ∷ gives) new h = absurd h
setup_in_run old before (event ∷ events) [] new h = absurd h
