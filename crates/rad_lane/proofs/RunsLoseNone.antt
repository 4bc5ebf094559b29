-- A run loses no request between its volumes and its book.
use Rattle.std.proofs.Common.{◌≡◌, ℕ, List, [], ◌∷◌, ◌++◌, Option, Some, None, Ok, Err, refl, sym, ap, ◌∙◌, append_assoc}
use Rattle.std.proofs.lemmas.List.{append-nil}
use Rattle.rad_tables.specs.declared.slots.Slot.{Slot}
use Rattle.rad_lane.specs.declared.accepting.Taken.TheVariants.{New, Waiting, Again}
use Rattle.rad_lane.specs.declared.stepping.Action.{Action}
use Rattle.rad_lane.specs.declared.stepping.Action.TheVariants.{Sent, Resent, Probed, WentDown, WentUp, Idle}
use Rattle.rad_lane.specs.declared.hearing.Heard.TheVariants.{Answer, ProbeAnswered}
use Rattle.rad_lane.specs.declared.turning.Volume.{Volume}
use Rattle.rad_lane.specs.declared.turning.TurnFault.TheVariants.{NothingToTurn, OutOfMemory}
use Rattle.rad_lane.specs.declared.running.Event.{Event}
use Rattle.rad_lane.specs.declared.running.Event.TheVariants.{Accept as accept, Step as step, Hear as hear, Drain as drain, Turn as turn}
use Rattle.rad_lane.specs.declared.running.GivenAnswer.{GivenAnswer}
use Rattle.rad_lane.specs.declared.running.GivenAnswer.TheVariants.{Accept as accepted, Step as stepped, Hear as heard, Drain as drained, Turn as turned}
use Rattle.rad_lane.specs.declared.running.Given.{Given}
use Rattle.rad_lane.specs.declared.watch.Watch.{Watch}
use Rattle.rad_lane.specs.declared.watch.Watch.TheVariants.{Up as up, Down as down}
use Rattle.rad_lane.specs.Book.{Book, moment_in}
use Rattle.rad_lane.specs.Datagrams.{Datagrams}
use Rattle.rad_lane.specs.Accepts.{stamp_of}
use Rattle.rad_lane.specs.Steps.{StepsWhileUp, StepsWhileDown, StepsBy}
use Rattle.rad_lane.specs.Watch.{GoesUpIfDown}
use Rattle.rad_lane.specs.Runs.{Gives, Runs}
use Rattle.rad_lane.specs.LosesNone.{last_after, new_stamp, new_stamps, stamps_cut, volume_stamps, LosesNone}

-- The same requests are accepted, and this is the last moment.
abbrev IsAsLate : Book → ℕ → Book → Type 0
IsAsLate old last new = (new.accepted ≡ old.accepted) × (new.last ≡ last)

as_late : (old other new : Book) → new ≡ other → other.accepted ≡ old.accepted → IsAsLate old other.last new
as_late old other new is same = (ap (λ (b : Book). b.accepted) is ∙ same, ap (λ (b : Book). b.last) is)

up_late : (old new : Book) (now : ℕ) (action : Action) (d : Datagrams) → StepsWhileUp old now action d new → IsAsLate old now new
up_late old new now (Resent number slot) d s = as_late old _ new s.4 refl
up_late old new now WentDown d s = as_late old _ new s.3 refl
up_late old new now (Sent number slot) d s = as_late old _ new s.9 refl
up_late old new now (Idle None) d s = as_late old _ new s.3 refl
up_late old new now (Idle (Some next)) d s = as_late old _ new s.7 refl
up_late old new now (Probed slot) d s = absurd s
up_late old new now WentUp d s = absurd s

down_late : (old new : Book) (now : ℕ) (random : List ℕ) (until next : ℕ) (out : Option Slot) (action : Action) (d : Datagrams) → StepsWhileDown old now random until next out action d new → IsAsLate old now new
down_late old new now random until next out WentUp d s = as_late old _ new s.2.others refl
down_late old new now random until next out (Probed slot) d s = as_late old _ new s.2.2 refl
down_late old new now random until next out (Idle (Some later)) d s = as_late old _ new s.4 refl
down_late old new now random until next out (Idle None) d s = absurd s
down_late old new now random until next out (Sent number slot) d s = absurd s
down_late old new now random until next out (Resent number slot) d s = absurd s
down_late old new now random until next out WentDown d s = absurd s

step_late : (watch : Watch) (old new : Book) (now : ℕ) (random : List ℕ) (action : Action) (d : Datagrams) → StepsBy watch old now random action d new → IsAsLate old now new
step_late up old new now random action d s = up_late old new now action d s
step_late (down until next out) old new now random action d s = down_late old new now random until next out action d s

comes_late : (watch : Watch) (now : ℕ) (old new : Book) → GoesUpIfDown now old new watch → IsAsLate old old.last new
comes_late up now old new c = as_late old _ new c refl
comes_late (down until next out) now old new c = as_late old _ new c.others refl

-- What an event cuts off, followed by the requests accepted after it, is those before it followed by the new one.
pub record KeepsAll (old : Book) (event : Event) (answer : GivenAnswer) (new : Book) : Type 0 where
  pub kept : stamps_cut answer ++ new.accepted ≡ old.accepted ++ new_stamp old.last event answer
  pub last : new.last ≡ last_after old.last event answer

cuts_none : (old new : Book) (event : Event) (answer : GivenAnswer) → stamps_cut answer ≡ [] → new_stamp old.last event answer ≡ [] → IsAsLate old (last_after old.last event answer) new → KeepsAll old event answer new
cuts_none old new event answer none no_new late = record {
  kept = ap (λ xs. xs ++ new.accepted) none ∙ late.0 ∙ sym (append-nil old.accepted) ∙ ap (λ xs. old.accepted ++ xs) (sym no_new);
  last = late.1;
}

pub gives_keeps : (old new : Book) (event : Event) (answer : GivenAnswer) (d : Datagrams) → Gives old event answer d new → KeepsAll old event answer new
gives_keeps old new (accept request moment) (accepted (Ok (New number))) d a = record {
  kept = ap (λ (b : Book). b.accepted) a.3 ∙ ap (λ n. old.accepted ++ stamp_of n request.now (moment_in old moment) ∷ []) (sym a.2);
  last = ap (λ (b : Book). b.last) a.3;
}
gives_keeps old new (accept request moment) (accepted (Ok (Waiting number))) d a = cuts_none old new _ _ refl refl (as_late old _ new a.1 refl)
gives_keeps old new (accept request moment) (accepted (Ok (Again number))) d a = cuts_none old new _ _ refl refl (as_late old _ new a.1 refl)
gives_keeps old new (accept request moment) (accepted (Err refusal)) d a = cuts_none old new _ _ refl refl (as_late old _ new a.2 refl)
gives_keeps old new (step moment random) (stepped action) d s = cuts_none old new _ _ refl refl (step_late old.watch old new (moment_in old moment) random action d s.0)
gives_keeps old new (hear moment port datagram) (heard (Ok (Answer outgoing))) d h = cuts_none old new _ _ refl refl (comes_late old.watch (moment_in old moment) _ new h.0.1.book)
gives_keeps old new (hear moment port datagram) (heard (Ok ProbeAnswered)) d h = cuts_none old new _ _ refl refl (comes_late old.watch (moment_in old moment) _ new h.0.book)
gives_keeps old new (hear moment port datagram) (heard (Err fault)) d h = cuts_none old new _ _ refl refl (as_late old _ new h.0.1 refl)
gives_keeps old new drain (drained count) d g = cuts_none old new _ _ refl refl (as_late old _ new g.0.book refl)
gives_keeps old new (turn moment) (turned (Ok volume)) d t = record {
  kept =
      ap (λ (v : Volume). v.stamps ++ new.accepted) t.0.4 ∙ ap (λ (b : Book). t.0.0 ++ b.accepted) t.0.5
      ∙ sym (t.0.2).parts ∙ sym (append-nil old.accepted);
  last = ap (λ (b : Book). b.last) t.0.5;
}
gives_keeps old new (turn moment) (turned (Err NothingToTurn)) d t = cuts_none old new _ _ refl refl (as_late old _ new t.0.1 refl)
gives_keeps old new (turn moment) (turned (Err OutOfMemory)) d t = cuts_none old new _ _ refl refl (as_late old _ new t.0.4 refl)
gives_keeps old new (accept request moment) (stepped action) d g = absurd g
gives_keeps old new (accept request moment) (heard result) d g = absurd g
gives_keeps old new (accept request moment) (drained count) d g = absurd g
gives_keeps old new (accept request moment) (turned result) d g = absurd g
gives_keeps old new (step moment random) (accepted result) d g = absurd g
gives_keeps old new (step moment random) (heard result) d g = absurd g
gives_keeps old new (step moment random) (drained count) d g = absurd g
gives_keeps old new (step moment random) (turned result) d g = absurd g
gives_keeps old new (hear moment port datagram) (accepted result) d g = absurd g
gives_keeps old new (hear moment port datagram) (stepped action) d g = absurd g
gives_keeps old new (hear moment port datagram) (drained count) d g = absurd g
gives_keeps old new (hear moment port datagram) (turned result) d g = absurd g
gives_keeps old new drain (accepted result) d g = absurd g
gives_keeps old new drain (stepped action) d g = absurd g
gives_keeps old new drain (heard result) d g = absurd g
gives_keeps old new drain (turned result) d g = absurd g
gives_keeps old new (turn moment) (accepted result) d g = absurd g
gives_keeps old new (turn moment) (stepped action) d g = absurd g
gives_keeps old new (turn moment) (heard result) d g = absurd g
gives_keeps old new (turn moment) (drained count) d g = absurd g

pub runs_lose_none : (old new : Book) (before : List ℕ) (events : List Event) (gives : List Given) → Runs old before events gives new → LosesNone old events gives new
runs_lose_none old new before [] [] r = ap (λ (b : Book). b.accepted) r ∙ sym (append-nil old.accepted)
runs_lose_none old new before (event ∷ events) (given ∷ gives) r =
    let next = r.0 in
    let here = gives_keeps old next event given.answer (record { before = before; after = given.datagram }) r.1 in
    append_assoc (stamps_cut given.answer) (volume_stamps gives) new.accepted
    ∙ ap (λ xs. stamps_cut given.answer ++ xs) (runs_lose_none next new given.datagram events gives r.2)
    ∙ sym (append_assoc (stamps_cut given.answer) next.accepted (new_stamps next.last events gives))
    ∙ ap (λ xs. xs ++ new_stamps next.last events gives) here.kept
    ∙ append_assoc old.accepted (new_stamp old.last event given.answer) (new_stamps next.last events gives)
    ∙ ap (λ n. old.accepted ++ (new_stamp old.last event given.answer ++ new_stamps n events gives)) here.last
runs_lose_none old new before [] (given ∷ gives) r = absurd r
runs_lose_none old new before (event ∷ events) [] r = absurd r
