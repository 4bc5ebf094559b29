-- What goes out is what a lawful book has.
use Rattle.std.proofs.Common.{◌≡◌, ℕ, ◌+◌, List, [], ◌∷◌, Option, Some, None, Bool, true, false, ◌∙◌, refl, subst}
use Rattle.std.specs.Prelude.{⊤, length, find, All, IfSome, nat_lt, Result, Ok, Err, cond}
use Rattle.std.proofs.lemmas.List.Elements.{All-head, All-tail}
use Rattle.rad_realms.specs.Checking.{Request}
use Rattle.rad_tables.specs.declared.duplicates.Key.{Key}
use Rattle.rad_tables.specs.declared.slots.Slot.{Slot}
use Rattle.rad_lane.specs.declared.stamp.Stamp.{Stamp}
use Rattle.rad_lane.specs.declared.accepting.Taken.{Taken}
use Rattle.rad_lane.specs.declared.accepting.Taken.TheVariants.{New, Waiting, Again}
use Rattle.rad_lane.specs.declared.accepting.Refusal.{Refusal}
use Rattle.rad_lane.specs.declared.stepping.Action.{Action}
use Rattle.rad_lane.specs.declared.stepping.Action.TheVariants.{Sent, Resent, Probed, WentDown, WentUp, Idle}
use Rattle.rad_lane.specs.declared.watch.Watch.{Watch}
use Rattle.rad_lane.specs.declared.watch.Watch.TheVariants.{Up as up, Down as down}
use Rattle.rad_lane.specs.Stamp.{Recorded, IsRecord}
use Rattle.rad_lane.specs.Setup.{IsOfItsRealms}
use Rattle.rad_lane.specs.Outstanding.{AnswerKept}
use Rattle.rad_lane.specs.Book.{Book, moment_in}
use Rattle.rad_lane.specs.Repeat.{Repeats, fresh, waits, again, repeats, repeats_answered, repeats_last, of_key, last_of, answer_to}
use Rattle.rad_lane.specs.Accepts.{Accepts}
use Rattle.rad_lane.specs.Datagrams.{Datagrams}
use Rattle.rad_lane.specs.Steps.{Steps, StepsBy, StepsWhileUp, StepsWhileDown}
use Rattle.rad_lane.specs.Lawful.{IsLawful}
use Rattle.locked_lanes.specs.Departures.{Departs, IsVerifiedResponse, Returns}

-- A step that sends.
forwards_first : (old : Book) → IsLawful old → (r : Recorded) (rest : List Recorded) → old.queued ≡ r ∷ rest → IsRecord r
forwards_first old lawful r rest is =
    let Right : Recorded → Type 0 = λ r. IsRecord r × IsOfItsRealms old.setup r.text in
    (All-head Right r rest (subst (All Right) is lawful.of_its_realms)).0

departs_up : (old new : Book) (now : ℕ) (action : Action) (d : Datagrams) → IsLawful old → StepsWhileUp old now action d new → Departs action d
departs_up old new now (Resent number slot) d lawful s =
    let forwards = lawful.forwards_its_record slot s.0 s.1.there in
    record { recorded = s.0.request; is_record = forwards.is_record; lane = old.setup.lane; identifier = slot.identifier; secret = old.setup.home_secret; forwards = s.3 ∙ forwards.octets }
departs_up old new now (Sent number slot) d lawful s =
    record { recorded = s.3; is_record = forwards_first old lawful s.3 s.4 s.5; lane = old.setup.lane; identifier = slot.identifier; secret = old.setup.home_secret; forwards = s.8 }
departs_up old new now WentDown d lawful s = s.2
departs_up old new now (Idle None) d lawful s = s.2
departs_up old new now (Idle (Some next)) d lawful s = s.6
departs_up old new now (Probed slot) d lawful s = absurd s
departs_up old new now WentUp d lawful s = absurd s

departs_down : (old new : Book) (now : ℕ) (random : List ℕ) (until next : ℕ) (out : Option Slot) (action : Action) (d : Datagrams) → length random ≡ 16 → StepsWhileDown old now random until next out action d new → Departs action d
departs_down old new now random until next out (Probed slot) d sixteen s =
    record { identifier = slot.identifier; authenticator = random; sixteen = sixteen; secret = old.setup.home_secret; asks = s.2.1 }
departs_down old new now random until next out WentUp d sixteen s = s.1
departs_down old new now random until next out (Idle (Some later)) d sixteen s = s.3
departs_down old new now random until next out (Idle None) d sixteen s = absurd s
departs_down old new now random until next out (Sent number slot) d sixteen s = absurd s
departs_down old new now random until next out (Resent number slot) d sixteen s = absurd s
departs_down old new now random until next out WentDown d sixteen s = absurd s

departs_by : (watch : Watch) (old new : Book) (now : ℕ) (random : List ℕ) (action : Action) (d : Datagrams) → length random ≡ 16 → IsLawful old → StepsBy watch old now random action d new → Departs action d
departs_by up old new now random action d sixteen lawful s = departs_up old new now action d lawful s
departs_by (down until next out) old new now random action d sixteen lawful s = departs_down old new now random until next out action d sixteen s

pub departs : (old new : Book) (moment : ℕ) (random : List ℕ) (action : Action) (d : Datagrams) → length random ≡ 16 → IsLawful old → Steps old moment random action d new → Departs action d
departs old new moment random action d sixteen lawful s = departs_by old.watch old new (moment_in old moment) random action d sixteen lawful s

-- What a repeat of an answered request finds.
abbrev IsAgain : Repeats → Type 0
IsAgain fresh = ⊤
IsAgain (waits number) = ⊤
IsAgain (again number octets) = IsVerifiedResponse octets

abbrev HasResponse : AnswerKept → Type 0
HasResponse answer = IsVerifiedResponse answer.reply.response

found_if : (b : Bool) (answer : AnswerKept) (rest : Option AnswerKept) → HasResponse answer → IfSome rest HasResponse → IfSome (cond b (Some answer) rest) HasResponse
found_if true answer rest this others = this
found_if false answer rest this others = others

found : (test : AnswerKept → Bool) (answered : List AnswerKept) → All HasResponse answered → IfSome (find test answered) HasResponse
found test [] all = tt
found test (answer ∷ rest) all =
    found_if (test answer) answer (find test rest) (All-head HasResponse answer rest all) (found test rest (All-tail HasResponse answer rest all))

again_if : (b : Bool) (number : ℕ) (octets : List ℕ) → IsVerifiedResponse octets → IsAgain (cond b (again number octets) fresh)
again_if true number octets is = is
again_if false number octets is = tt

again_answered : (book : Book) (now number : ℕ) (answer : Option AnswerKept) → IfSome answer HasResponse → IsAgain (repeats_answered book now number answer)
again_answered book now number None is = tt
again_answered book now number (Some answer) is = again_if (nat_lt now (answer.moment + book.setup.limits.span)) number answer.reply.response is

again_last : (book : Book) (now : ℕ) (last : Option Stamp) → All HasResponse book.answered → IsAgain (repeats_last book now last)
again_last book now None all = tt
again_last book now (Some stamp) all = again_answered book now stamp.number (answer_to stamp.number book.answered) (found _ book.answered all)

is_again : (book : Book) (key : Key) (now : ℕ) → All HasResponse book.answered → IsAgain (repeats book key now)
unfolding repeats
is_again book key now all = again_last book now (last_of (of_key key book.accepted)) all

has_response : (book : Book) → IsLawful book → All HasResponse book.answered
has_response book lawful = λ k d within.
    let verified = lawful.answers_verified k d within in
    record { answer = _; answered = verified.answered; response = refl }

pub returns : (old new : Book) (request : Request) (moment : ℕ) (result : Result Taken Refusal) (d : Datagrams) → IsLawful old → Accepts old request moment result d new → Returns result d
returns old new request moment (Ok (New number)) d lawful a = a.4
returns old new request moment (Ok (Waiting number)) d lawful a = a.2
returns old new request moment (Ok (Again number)) d lawful a = subst IsAgain a.0 (is_again old _ _ (has_response old lawful))
returns old new request moment (Err refusal) d lawful a = a.3
