-- A run, one event longer.
use Rattle.std.proofs.Common.{◌≡◌, ℕ, ◌+◌, ◌<◌, List, [], ◌∷◌, ◌++◌, length, take, get_or, Option, Some, None, refl, sym, ap, ◌∙◌, subst}
use Rattle.std.specs.Prelude.{Result, Ok, Err}
use Rattle.std.proofs.lemmas.List.{take_more}
use Rattle.std.proofs.lemmas.List.Elements.{All-get_or}
use Rattle.rad_tables.specs.declared.slots.Slot.{Slot}
use Rattle.rad_realms.specs.Checking.{Request}
use Rattle.rad_lane.specs.declared.accepting.Taken.{Taken}
use Rattle.rad_lane.specs.declared.accepting.Taken.TheVariants.{New, Waiting, Again}
use Rattle.rad_lane.specs.declared.accepting.Refusal.{Refusal}
use Rattle.rad_lane.specs.declared.stepping.Action.{Action}
use Rattle.rad_lane.specs.declared.stepping.Action.TheVariants.{Sent, Resent, Probed, WentDown, WentUp, Idle}
use Rattle.rad_lane.specs.declared.hearing.Heard.{Heard}
use Rattle.rad_lane.specs.declared.hearing.Heard.TheVariants.{Answer, ProbeAnswered}
use Rattle.rad_lane.specs.declared.hearing.HearFault.{HearFault}
use Rattle.rad_lane.specs.declared.turning.Volume.{Volume}
use Rattle.rad_lane.specs.declared.turning.TurnFault.{TurnFault}
use Rattle.rad_lane.specs.declared.turning.TurnFault.TheVariants.{NothingToTurn, OutOfMemory}
use Rattle.rad_lane.specs.declared.running.Event.{Event}
use Rattle.rad_lane.specs.declared.running.Event.TheVariants.{Accept as accept, Step as step, Hear as hear, Drain as drain, Turn as turn}
use Rattle.rad_lane.specs.declared.running.GivenAnswer.{GivenAnswer}
use Rattle.rad_lane.specs.declared.running.GivenAnswer.TheVariants.{Accept as accepted, Step as stepped, Hear as heard, Drain as drained, Turn as turned}
use Rattle.rad_lane.specs.declared.running.Given.{Given}
use Rattle.rad_lane.specs.declared.watch.Watch.{Watch}
use Rattle.rad_lane.specs.declared.watch.Watch.TheVariants.{Up as up, Down as down}
use Rattle.rad_lane.specs.Setup.{LaneSetup, IsOfItsRealms}
use Rattle.rad_lane.specs.Book.{Book, moment_in}
use Rattle.rad_lane.specs.Datagrams.{Datagrams}
use Rattle.rad_lane.specs.Accepts.{Accepts}
use Rattle.rad_lane.specs.Watch.{GoesUpIfDown}
use Rattle.rad_lane.specs.Steps.{StepsBy, StepsWhileUp, StepsWhileDown}
use Rattle.rad_lane.specs.Volumes.{Turns}
use Rattle.rad_lane.specs.Hears.{Hears}
use Rattle.rad_lane.specs.Runs.{Gives, Runs, TakesEvent, TakesEach}

-- the datagram after what was given
abbrev pub datagram_after : List ℕ → List Given → List ℕ
datagram_after before [] = before
datagram_after before (given ∷ gives) = datagram_after given.datagram gives

pub after_more : (before : List ℕ) (gives : List Given) (given : Given) → given.datagram ≡ datagram_after before (gives ++ given ∷ [])
after_more before [] given = refl
after_more before (other ∷ gives) given = after_more other.datagram gives given

pub runs_more : (old mid new : Book) (before : List ℕ) (events : List Event) (gives : List Given) (event : Event) (given : Given) → Runs old before events gives mid → Gives mid event given.answer (record { before = datagram_after before gives; after = given.datagram }) new → Runs old before (events ++ event ∷ []) (gives ++ given ∷ []) new
runs_more old mid new before [] [] event given runs more =
    (new, subst (λ (b : Book). Gives b event given.answer (record { before = before; after = given.datagram }) new) runs more, refl)
runs_more old mid new before (first ∷ events) (one ∷ gives) event given runs more =
    (runs.0, runs.1, runs_more runs.0 mid new one.datagram events gives event given runs.2 more)
runs_more old mid new before [] (one ∷ gives) event given runs more = absurd runs
runs_more old mid new before (first ∷ events) [] event given runs more = absurd runs

-- No call changes what a lane was set up with.
accept_stays : (old new : Book) (request : Request) (moment : ℕ) (result : Result Taken Refusal) (d : Datagrams) → Accepts old request moment result d new → new.setup ≡ old.setup
accept_stays old new request moment (Ok (New number)) d a = ap (λ (b : Book). b.setup) a.3
accept_stays old new request moment (Ok (Waiting number)) d a = ap (λ (b : Book). b.setup) a.1
accept_stays old new request moment (Ok (Again number)) d a = ap (λ (b : Book). b.setup) a.1
accept_stays old new request moment (Err refusal) d a = ap (λ (b : Book). b.setup) a.2

up_stays : (old new : Book) (now : ℕ) (action : Action) (d : Datagrams) → StepsWhileUp old now action d new → new.setup ≡ old.setup
up_stays old new now (Resent number slot) d s = ap (λ (b : Book). b.setup) s.4
up_stays old new now WentDown d s = ap (λ (b : Book). b.setup) s.3
up_stays old new now (Sent number slot) d s = ap (λ (b : Book). b.setup) s.9
up_stays old new now (Idle None) d s = ap (λ (b : Book). b.setup) s.3
up_stays old new now (Idle (Some next)) d s = ap (λ (b : Book). b.setup) s.7
up_stays old new now (Probed slot) d s = absurd s
up_stays old new now WentUp d s = absurd s

down_stays : (old new : Book) (now : ℕ) (random : List ℕ) (until next : ℕ) (out : Option Slot) (action : Action) (d : Datagrams) → StepsWhileDown old now random until next out action d new → new.setup ≡ old.setup
down_stays old new now random until next out WentUp d s = ap (λ (b : Book). b.setup) s.2.others
down_stays old new now random until next out (Probed slot) d s = ap (λ (b : Book). b.setup) s.2.2
down_stays old new now random until next out (Idle (Some later)) d s = ap (λ (b : Book). b.setup) s.4
down_stays old new now random until next out (Idle None) d s = absurd s
down_stays old new now random until next out (Sent number slot) d s = absurd s
down_stays old new now random until next out (Resent number slot) d s = absurd s
down_stays old new now random until next out WentDown d s = absurd s

step_stays : (watch : Watch) (old new : Book) (now : ℕ) (random : List ℕ) (action : Action) (d : Datagrams) → StepsBy watch old now random action d new → new.setup ≡ old.setup
step_stays up old new now random action d s = up_stays old new now action d s
step_stays (down until next out) old new now random action d s = down_stays old new now random until next out action d s

comes_stays : (watch : Watch) (now : ℕ) (old new : Book) → GoesUpIfDown now old new watch → new.setup ≡ old.setup
comes_stays up now old new c = ap (λ (b : Book). b.setup) c
comes_stays (down until next out) now old new c = ap (λ (b : Book). b.setup) c.others

hear_stays : (old new : Book) (moment port : ℕ) (datagram : List ℕ) (result : Result Heard HearFault) → Hears old moment port datagram result new → new.setup ≡ old.setup
hear_stays old new moment port datagram (Ok (Answer outgoing)) h = comes_stays old.watch (moment_in old moment) _ new h.1.book
hear_stays old new moment port datagram (Ok ProbeAnswered) h = comes_stays old.watch (moment_in old moment) _ new h.book
hear_stays old new moment port datagram (Err fault) h = ap (λ (b : Book). b.setup) h.1

turn_stays : (old new : Book) (moment : ℕ) (result : Result Volume TurnFault) → Turns old moment result new → new.setup ≡ old.setup
turn_stays old new moment (Ok volume) t = ap (λ (b : Book). b.setup) t.5
turn_stays old new moment (Err NothingToTurn) t = ap (λ (b : Book). b.setup) t.1
turn_stays old new moment (Err OutOfMemory) t = ap (λ (b : Book). b.setup) t.4

pub gives_stays : (old new : Book) (event : Event) (answer : GivenAnswer) (d : Datagrams) → Gives old event answer d new → new.setup ≡ old.setup
gives_stays old new (accept request moment) (accepted result) d g = accept_stays old new request.now moment result d g
gives_stays old new (step moment random) (stepped action) d g = step_stays old.watch old new (moment_in old moment) random action d g.0
gives_stays old new (hear moment port datagram) (heard result) d g = hear_stays old new moment port datagram.now result g.0
gives_stays old new drain (drained count) d g = ap (λ (b : Book). b.setup) g.0.book
gives_stays old new (turn moment) (turned result) d g = turn_stays old new moment result g.0
gives_stays old new (accept request moment) (stepped action) d g = absurd g
gives_stays old new (accept request moment) (heard result) d g = absurd g
gives_stays old new (accept request moment) (drained count) d g = absurd g
gives_stays old new (step moment random) (accepted result) d g = absurd g
gives_stays old new (step moment random) (heard result) d g = absurd g
gives_stays old new (step moment random) (drained count) d g = absurd g
gives_stays old new (hear moment port datagram) (accepted result) d g = absurd g
gives_stays old new (hear moment port datagram) (stepped action) d g = absurd g
gives_stays old new (hear moment port datagram) (drained count) d g = absurd g
gives_stays old new drain (accepted result) d g = absurd g
gives_stays old new drain (stepped action) d g = absurd g
gives_stays old new drain (heard result) d g = absurd g
gives_stays old new (accept request moment) (turned result) d g = absurd g
gives_stays old new (step moment random) (turned result) d g = absurd g
gives_stays old new (hear moment port datagram) (turned result) d g = absurd g
gives_stays old new drain (turned result) d g = absurd g
gives_stays old new (turn moment) (accepted result) d g = absurd g
gives_stays old new (turn moment) (stepped action) d g = absurd g
gives_stays old new (turn moment) (heard result) d g = absurd g
gives_stays old new (turn moment) (drained count) d g = absurd g

-- What a lane takes, it takes later too.
pub still_takes : (book later : Book) (event : Event) → later.setup ≡ book.setup → TakesEvent book event → TakesEvent later event
still_takes book later (accept request moment) same taken = record {
  lane = taken.lane ∙ ap (λ (s : LaneSetup). s.lane) (sym same);
  realm = subst (λ (s : LaneSetup). IsOfItsRealms s request.now.text) (sym same) taken.realm;
}
still_takes book later (step moment random) same taken = taken
still_takes book later (hear moment port datagram) same taken = taken
still_takes book later drain same taken = taken
still_takes book later (turn moment) same taken = taken

module _ (before : List ℕ) (events : List Event) (place : ℕ) (event : Event) (within : place < length events) (is : event ≡ get_or events place event) where
  pub takes_here : (book later : Book) → later.setup ≡ book.setup → TakesEach book events → TakesEvent later event
  takes_here book later same taken = still_takes book later event same (subst (TakesEvent book) (sym is) (All-get_or (TakesEvent book) events place event within taken))

  module _ (old mid new : Book) (gives later : List Given) (given : Given) (grown : later ≡ gives ++ given ∷ []) (gone : List ℕ) (went : gone ≡ datagram_after before gives) (come : List ℕ) (came : given.datagram ≡ come) where
    pub runs_on : Runs old before (take place events) gives mid → Gives mid event given.answer (record { before = gone; after = come }) new → Runs old before (take (place + 1) events) later new
    runs_on runs more =
        let here : Gives mid event given.answer (record { before = datagram_after before gives; after = given.datagram }) new =
        subst (λ d. Gives mid event given.answer (record { before = d; after = given.datagram }) new) went
        (subst (λ d. Gives mid event given.answer (record { before = gone; after = d }) new) (sym came) more)
        in
        rw (take_more events place event within, ← is, grown) (runs_more old mid new before (take place events) gives event given runs here)

    pub came_on : come ≡ datagram_after before later
    came_on = sym came ∙ after_more before gives given ∙ ap (datagram_after before) (sym grown)
