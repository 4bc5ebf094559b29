-- What each call of a lane does to its answers, and that it keeps the setup.
use Rattle.std.proofs.Common.{◌≡◌, ℕ, ◌+◌, List, [], ◌∷◌, ◌++◌, Option, Some, None, ap}
use Rattle.std.specs.Prelude.{Result, Ok, Err}
use Rattle.rad_tables.specs.declared.slots.Slot.{Slot}
use Rattle.rad_realms.specs.Checking.{Request}
use Rattle.rad_lane.specs.declared.accepting.Taken.{Taken}
use Rattle.rad_lane.specs.declared.accepting.Taken.TheVariants.{New, Waiting, Again}
use Rattle.rad_lane.specs.declared.accepting.Refusal.{Refusal}
use Rattle.rad_lane.specs.declared.stepping.Action.{Action}
use Rattle.rad_lane.specs.declared.stepping.Action.TheVariants.{Sent, Resent, Probed, WentDown, WentUp, Idle}
use Rattle.rad_lane.specs.declared.watch.Watch.{Watch}
use Rattle.rad_lane.specs.declared.watch.Watch.TheVariants.{Up as up, Down as down}
use Rattle.rad_lane.specs.Setup.{LaneSetup}
use Rattle.rad_lane.specs.Outstanding.{AnswerKept}
use Rattle.rad_lane.specs.Book.{Book, moment_in}
use Rattle.rad_lane.specs.Accepts.{Accepts}
use Rattle.rad_lane.specs.Datagrams.{Datagrams}
use Rattle.rad_lane.specs.Watch.{GoesUpIfDown}
use Rattle.rad_lane.specs.Steps.{Steps, StepsBy, StepsWhileUp, StepsWhileDown}
use Rattle.rad_lane.specs.Hears.{HearsReply, HearsProbe}

-- the answers that are kept, how many there were, and the setup
abbrev pub answers_of : Book → List AnswerKept × ℕ × LaneSetup
answers_of book = (book.answered, book.served, book.setup)

pub same_by_accept : (old new : Book) (request : Request) (moment : ℕ) (result : Result Taken Refusal) (d : Datagrams) → Accepts old request moment result d new → answers_of new ≡ answers_of old
same_by_accept old new request moment (Ok (New number)) d a = ap answers_of a.3
same_by_accept old new request moment (Ok (Waiting number)) d a = ap answers_of a.1
same_by_accept old new request moment (Ok (Again number)) d a = ap answers_of a.1
same_by_accept old new request moment (Err refusal) d a = ap answers_of a.2

same_up : (old new : Book) (now : ℕ) (action : Action) (d : Datagrams) → StepsWhileUp old now action d new → answers_of new ≡ answers_of old
same_up old new now (Resent number slot) d s = ap answers_of s.4
same_up old new now WentDown d s = ap answers_of s.3
same_up old new now (Sent number slot) d s = ap answers_of s.9
same_up old new now (Idle None) d s = ap answers_of s.3
same_up old new now (Idle (Some next)) d s = ap answers_of s.7
same_up old new now (Probed slot) d s = absurd s
same_up old new now WentUp d s = absurd s

same_down : (old new : Book) (now : ℕ) (random : List ℕ) (until next : ℕ) (out : Option Slot) (action : Action) (d : Datagrams) → StepsWhileDown old now random until next out action d new → answers_of new ≡ answers_of old
same_down old new now random until next out WentUp d s = ap answers_of s.2.others
same_down old new now random until next out (Probed slot) d s = ap answers_of s.2.2
same_down old new now random until next out (Idle (Some later)) d s = ap answers_of s.4
same_down old new now random until next out (Idle None) d s = absurd s
same_down old new now random until next out (Sent number slot) d s = absurd s
same_down old new now random until next out (Resent number slot) d s = absurd s
same_down old new now random until next out WentDown d s = absurd s

same_by : (watch : Watch) (old new : Book) (now : ℕ) (random : List ℕ) (action : Action) (d : Datagrams) → StepsBy watch old now random action d new → answers_of new ≡ answers_of old
same_by up old new now random action d s = same_up old new now action d s
same_by (down until next out) old new now random action d s = same_down old new now random until next out action d s

pub same_by_step : (old new : Book) (moment : ℕ) (random : List ℕ) (action : Action) (d : Datagrams) → Steps old moment random action d new → answers_of new ≡ answers_of old
same_by_step old new moment random action d s = same_by old.watch old new (moment_in old moment) random action d s

same_by_coming_up : (watch : Watch) (now : ℕ) (old new : Book) → GoesUpIfDown now old new watch → answers_of new ≡ answers_of old
same_by_coming_up up now old new c = ap answers_of c
same_by_coming_up (down until next out) now old new c = ap answers_of c.others

pub same_by_probe : (old new : Book) (now port : ℕ) (datagram : List ℕ) → HearsProbe old now port datagram new → answers_of new ≡ answers_of old
same_by_probe old new now port datagram h = same_by_coming_up old.watch now _ new h.book

pub one_more_by_reply : (old new : Book) (now port : ℕ) (datagram : List ℕ) (answer : AnswerKept) → HearsReply old now port datagram answer new → answers_of new ≡ (old.answered ++ answer ∷ [], old.served + 1, old.setup)
one_more_by_reply old new now port datagram answer h = same_by_coming_up old.watch now _ new h.book
