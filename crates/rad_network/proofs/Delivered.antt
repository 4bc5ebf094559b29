-- A network that delivers: its calls as a round, and its replies as right ones.
use Rattle.std.proofs.Common.{◌≡◌, ℕ, zero, suc, ◌≤◌, Bool, true, false, cond, eqb, List, [], ◌∷◌, ◌++◌, length, Some, None, Result, Ok, Err, refl, ap, ◌∙◌, subst, inl, inr}
use Rattle.std.specs.List.{AllByRecursion, Contains}
use Rattle.rad_config.specs.Limits.{AreInRange}
use Rattle.rad_packet.specs.Attribute.{Attribute, of_kind}
use Rattle.rad_packet.specs.Packet.{packet_attributes}
use Rattle.rad_packet.specs.Reading.{ReadsAs}
use Rattle.rad_auth.specs.Mark.{EndsWithMark, mark_attribute}
use Rattle.rad_auth.specs.Refusing.{ReturnsItsMark}
use Rattle.rad_auth.specs.declared.mark.Mark.{Mark}
use Rattle.rad_auth.proofs.Forwards.{EndsWithMark-forwarded}
use Rattle.rad_tables.specs.declared.slots.Slot.{Slot}
use Rattle.rad_lane.specs.declared.accepting.Taken.TheVariants.{New, Waiting, Again}
use Rattle.rad_lane.specs.declared.hearing.Heard.{Heard}
use Rattle.rad_lane.specs.declared.hearing.HearFault.{HearFault}
use Rattle.rad_lane.specs.declared.stepping.Action.{Action}
use Rattle.rad_lane.specs.declared.stepping.Action.TheVariants.{Sent, Resent, Probed, WentDown, WentUp, Idle}
use Rattle.rad_lane.specs.declared.watch.Watch.{Watch}
use Rattle.rad_lane.specs.declared.watch.Watch.TheVariants.{Up as up, Down as down}
use Rattle.rad_lane.specs.declared.running.Event.{Event}
use Rattle.rad_lane.specs.declared.running.Event.TheVariants.{Accept as accept, Step as step, Hear as hear, Drain as drain, Turn as turn}
use Rattle.rad_lane.specs.declared.running.GivenAnswer.{GivenAnswer}
use Rattle.rad_lane.specs.declared.running.GivenAnswer.TheVariants.{Accept as accepted, Step as stepped, Hear as heard, Drain as drained, Turn as turned}
use Rattle.rad_lane.specs.declared.running.Given.{Given}
use Rattle.rad_lane.specs.Setup.{LaneSetup}
use Rattle.rad_lane.specs.Outstanding.{Outstanding}
use Rattle.rad_lane.specs.Datagrams.{Datagrams}
use Rattle.rad_lane.specs.Book.{Book, outstanding_at}
use Rattle.rad_lane.specs.Lawful.{IsLawful}
use Rattle.rad_lane.specs.Steps.{StepsBy}
use Rattle.rad_lane.specs.Hears.{Hears, pair}
use Rattle.rad_lane.specs.Runs.{Gives, Runs}
use Rattle.rad_lane.proofs.LawfulAfterAnswer.{identifier_is}
use Rattle.rad_progress.specs.Calls.{Calls, IsStepAt, IsDatagram, EndsIdle}
use Rattle.rad_progress.specs.Replies.{IsRightReply, IsAnsweredBy}
use Rattle.rad_progress.specs.Rounds.{IsGranted, IsReply, HasReply, IsRound, Rounds, CanGoOn, IsServed, rounds_for}
use Rattle.rad_progress.proofs.AfterCalls.{call_setup}
use Rattle.rad_progress.proofs.RightReply.{is_heard}
use Rattle.rad_progress.proofs.ServedInRounds.{served}
use Rattle.rad_network.specs.World.{HomeReply, World}
use Rattle.rad_network.specs.Happens.{Happening, Happens, Lives, IsReplyTo}
use Rattle.rad_network.specs.Happens.Happening.{called, came, replied}
use Rattle.rad_network.specs.Delivering.{AreUnsigned, IfCallSteps, IfCallHears, EndsInIdleCall, Delivers, IsDelivered, IsDeliveredRound, DeliveredRounds}
use Rattle.rad_network.proofs.Stands.{Stands}
use Rattle.rad_network.proofs.InLife.{stands_later}
use Rattle.rad_network.proofs.Marks.{last_state}

-- attributes whose last one of a Type is this are parted at it
module _ (kind : ℕ) (a : Attribute) where
  record ArePartedAt (attributes : List Attribute) : Type 0 where
    before : List Attribute
    after : List Attribute
    split : attributes ≡ before ++ a ∷ after
    last : of_kind kind after ≡ []

  behind : (x : Attribute) (xs : List Attribute) → ArePartedAt xs → ArePartedAt (x ∷ xs)
  behind x xs p = record { before = x ∷ p.before; after = p.after; split = ap (λ ys. x ∷ ys) p.split; last = p.last }

  parted_by : (b : Bool) (x : Attribute) (xs : List Attribute) (front : List Attribute) → ((front : List Attribute) → of_kind kind xs ≡ front ++ a ∷ [] → ArePartedAt xs) → cond b (x ∷ of_kind kind xs) (of_kind kind xs) ≡ front ++ a ∷ [] → ArePartedAt (x ∷ xs)
  parted_by false x xs front rest is = behind x xs (rest front is)
  parted_by true x xs [] rest is =
      let same : x ≡ a = cc in
      let none : of_kind kind xs ≡ [] = cc in
      record { before = []; after = xs; split = ap (λ y. y ∷ xs) same; last = none }
  parted_by true x xs (y ∷ front) rest is =
      let later : of_kind kind xs ≡ front ++ a ∷ [] = cc in
      behind x xs (rest front later)

  parted_at : (xs front : List Attribute) → of_kind kind xs ≡ front ++ a ∷ [] → ArePartedAt xs
  parted_at [] [] is = cc
  parted_at [] (y ∷ front) is = cc
  parted_at (x ∷ xs) front is = parted_by (eqb x.kind kind) x xs front (parted_at xs) is

-- a reply to what is outstanding is a right reply to it
module _ (book : Book) (l : IsLawful book) (slot : Slot) (entry : Outstanding) (there : outstanding_at book slot entry) (port : ℕ) (datagram reply : List ℕ) (at_port : port ≡ slot.port) (read : ReadsAs datagram reply) (its : IsReplyTo book.setup.home_secret entry.octets reply) (unsigned : of_kind 80 (packet_attributes reply) ≡ []) where
  mark : Mark
  mark = record { lane = book.setup.lane; number = entry.request.stamp.number }

  ends : EndsWithMark mark entry.octets
  unfolding mark
  ends =
      let own = l.forwards_its_record slot entry there in
      EndsWithMark-forwarded entry.request.text (record { lane = book.setup.lane; number = entry.request.stamp.number }) slot.identifier book.setup.home_secret entry.octets own.is_record.packet own.octets

  returned : ReturnsItsMark entry.octets reply
  returned =
      let p = parted_at 33 (mark_attribute mark) (packet_attributes reply) (of_kind 33 ends.before) (its.states ∙ last_state (packet_attributes entry.octets) ends.before mark ends.last) in
      (mark, p.before, p.after, record { sent = ends; split = p.split; last = p.last })

  pub is_right_reply : IsRightReply book.setup.home_secret slot entry.octets port datagram
  is_right_reply = record {
    packet = reply;
    read = read;
    code = its.code;
    at = ap (λ p. pair p reply) at_port ∙ ap (λ i. let s : Slot = record { port = slot.port; identifier = i } in s) (its.identifier ∙ identifier_is book slot entry l there);
    right = its.right;
    unsigned = unsigned;
    returned = returned;
  }

pub reply_heard : (world : World) (slot : Slot) (entry : Outstanding) (r : HomeReply) (moment : ℕ) (datagram : List ℕ) (result : Result Heard HearFault) (next : Book) → Stands world → outstanding_at world.book slot entry → Contains world.replies r → r.asked ≡ entry.octets → of_kind 80 (packet_attributes r.reply) ≡ [] → ReadsAs datagram r.reply → Hears world.book moment slot.port datagram result next → IsAnsweredBy entry result
reply_heard world slot entry r moment datagram result next s there made asked unsigned read h =
    let its : IsReplyTo world.book.setup.home_secret entry.octets r.reply = subst (λ (o : List ℕ). IsReplyTo world.book.setup.home_secret o r.reply) asked (s.replied r made).1 in
    is_heard world.book slot entry moment slot.port datagram result next there (is_right_reply world.book s.lawful slot entry there slot.port datagram r.reply refl read its unsigned) h

-- the same call with another datagram before it: what is after it, if the call leaves it
abbrev after_with : GivenAnswer → List ℕ → List ℕ → List ℕ
after_with (accepted (Ok (Again number))) before after = after
after_with (stepped (Sent number slot)) before after = after
after_with (stepped (Resent number slot)) before after = after
after_with (stepped (Probed slot)) before after = after
after_with answer before after = before

abbrev with : GivenAnswer → List ℕ → Datagrams → Datagrams
with answer before d = record { before = before; after = after_with answer before d.after }

steps_with : (old new : Book) (now : ℕ) (random before : List ℕ) (d : Datagrams) (w : Watch) (action : Action) → StepsBy w old now random action d new → StepsBy w old now random action (with (stepped action) before d) new
steps_with old new now random before d up (Sent number slot) h = h
steps_with old new now random before d up (Resent number slot) h = h
steps_with old new now random before d up (Probed slot) h = absurd h
steps_with old new now random before d up WentDown h = (h.0, h.1, refl, h.3)
steps_with old new now random before d up WentUp h = absurd h
steps_with old new now random before d up (Idle None) h = (h.0, h.1, refl, h.3)
steps_with old new now random before d up (Idle (Some moment)) h = (h.0, h.1, h.2, h.3, h.4, h.5, refl, h.7)
steps_with old new now random before d (down until next out) (Sent number slot) h = absurd h
steps_with old new now random before d (down until next out) (Resent number slot) h = absurd h
steps_with old new now random before d (down until next out) (Probed slot) h = h
steps_with old new now random before d (down until next out) WentDown h = absurd h
steps_with old new now random before d (down until next out) WentUp h = (h.0, refl, h.2)
steps_with old new now random before d (down until next out) (Idle None) h = absurd h
steps_with old new now random before d (down until next out) (Idle (Some moment)) h = (h.0, h.1, h.2, refl, h.4)

gives_with : (old new : Book) (before : List ℕ) (d : Datagrams) (event : Event) (answer : GivenAnswer) → Gives old event answer d new → Gives old event answer (with answer before d) new
gives_with old new before d (accept request moment) (accepted (Ok (New number))) h = (h.0, h.1, h.2, h.3, refl)
gives_with old new before d (accept request moment) (accepted (Ok (Waiting number))) h = (h.0, h.1, refl)
gives_with old new before d (accept request moment) (accepted (Ok (Again number))) h = h
gives_with old new before d (accept request moment) (accepted (Err refusal)) h = (h.0, h.1, h.2, refl)
gives_with old new before d (step moment random) (stepped action) h = (steps_with old new _ random before d old.watch action h.0, h.1)
gives_with old new before d (hear moment port datagram) (heard result) h = (h.0, refl)
gives_with old new before d drain (drained count) h = (h.0, refl)
gives_with old new before d (turn moment) (turned result) h = (h.0, refl)
gives_with old new before d event answer h = absurd h

-- the calls among happenings
abbrev events_of : List Happening → List Event
events_of [] = []
events_of (called event answer d ∷ later) = event ∷ events_of later
events_of (happening ∷ later) = events_of later

abbrev gives_of : List ℕ → List Happening → List Given
gives_of before [] = []
gives_of before (called event answer d ∷ later) = record { answer = answer; datagram = after_with answer before d.after } ∷ gives_of (after_with answer before d.after) later
gives_of before (happening ∷ later) = gives_of before later

runs_of : (before : List ℕ) (old : World) (happenings : List Happening) (new : World) → Lives old happenings new → Runs old.book before (events_of happenings) (gives_of before happenings) new.book
runs_of before old [] new h = ap (λ (w : World). w.book) h
runs_of before old (called event answer d ∷ later) new h = (
  h.1.next,
  gives_with old.book h.1.next before d event answer h.1.gives,
  subst (λ (b : Book). Runs b (after_with answer before d.after) (events_of later) (gives_of (after_with answer before d.after) later) new.book) (ap (λ (w : World). w.book) h.1.world)
      (runs_of (after_with answer before d.after) h.0 later new h.2),
)
runs_of before old (came sent ∷ later) new h =
    subst (λ (b : Book). Runs b before (events_of later) (gives_of before later) new.book) (ap (λ (w : World). w.book) h.1.world) (runs_of before h.0 later new h.2)
runs_of before old (replied asked reply ∷ later) new h =
    subst (λ (b : Book). Runs b before (events_of later) (gives_of before later) new.book) (ap (λ (w : World). w.book) h.1.world) (runs_of before h.0 later new h.2)

pub calls_of : (old : World) (happenings : List Happening) (new : World) → Lives old happenings new → Stands new → Calls old.book new.book
calls_of old happenings new h s = record { before = []; events = events_of happenings; gives = gives_of [] happenings; runs = runs_of [] old happenings new h; lawful = s.lawful }

step_calls : (moment : ℕ) (happenings : List Happening) → AllByRecursion (IfCallSteps moment) happenings → AllByRecursion (IsStepAt moment) (events_of happenings)
step_calls moment [] all = tt
step_calls moment (called event answer d ∷ later) all = (all.0, step_calls moment later all.1)
step_calls moment (came sent ∷ later) all = step_calls moment later all.1
step_calls moment (replied asked reply ∷ later) all = step_calls moment later all.1

hear_calls : (happenings : List Happening) → AllByRecursion IfCallHears happenings → AllByRecursion IsDatagram (events_of happenings)
hear_calls [] all = tt
hear_calls (called event answer d ∷ later) all = (all.0.0, hear_calls later all.1)
hear_calls (came sent ∷ later) all = hear_calls later all.1
hear_calls (replied asked reply ∷ later) all = hear_calls later all.1

granted_calls : (before : List ℕ) (happenings : List Happening) → AllByRecursion IfCallHears happenings → AllByRecursion (λ given. IsGranted given.answer) (gives_of before happenings)
granted_calls before [] all = tt
granted_calls before (called event answer d ∷ later) all = (all.0.1, granted_calls (after_with answer before d.after) later all.1)
granted_calls before (came sent ∷ later) all = granted_calls before later all.1
granted_calls before (replied asked reply ∷ later) all = granted_calls before later all.1

-- the last call is idle
idle_behind : (given : Given) (gives : List Given) → EndsIdle gives → EndsIdle (given ∷ gives)
idle_behind given [] ends = absurd ends
idle_behind given (next ∷ gives) ends = ends

idle_call : (before : List ℕ) (happenings : List Happening) → EndsInIdleCall happenings → EndsIdle (gives_of before happenings)
idle_call before [] ends = absurd ends
idle_call before (called event answer d ∷ []) ends = ends
idle_call before (came sent ∷ []) ends = absurd ends
idle_call before (replied asked reply ∷ []) ends = absurd ends
idle_call before (called event answer d ∷ next ∷ later) ends = idle_behind (record { answer = answer; datagram = after_with answer before d.after }) (gives_of (after_with answer before d.after) (next ∷ later)) (idle_call (after_with answer before d.after) (next ∷ later) ends)
idle_call before (came sent ∷ next ∷ later) ends = idle_call before (next ∷ later) ends
idle_call before (replied asked reply ∷ next ∷ later) ends = idle_call before (next ∷ later) ends

-- the setup stays
one_setup : (old : World) (happening : Happening) (new : World) → Happens old happening new → new.book.setup ≡ old.book.setup
one_setup old (called event answer d) new h = ap (λ (w : World). w.book.setup) h.world ∙ call_setup old.book event answer d h.next h.gives
one_setup old (came sent) new h = ap (λ (w : World). w.book.setup) h.world
one_setup old (replied asked reply) new h = ap (λ (w : World). w.book.setup) h.world

setup_later : (old : World) (happenings : List Happening) (new : World) → Lives old happenings new → new.book.setup ≡ old.book.setup
setup_later old [] new h = ap (λ (w : World). w.book.setup) h
setup_later old (happening ∷ later) new h = setup_later h.0 later new h.2 ∙ one_setup old happening h.0 h.1

module _ (idle new : World) (s : Stands idle) (t : Stands new) (setup : new.book.setup ≡ idle.book.setup) (unsigned : AreUnsigned new) (slot : Slot) (entry : Outstanding) (there : outstanding_at idle.book slot entry) where
  one_reply : (event : Event) (answer : GivenAnswer) (d : Datagrams) → Delivers new slot entry.octets (called event answer d) → IsReply idle.book.setup.home_secret slot entry.octets event
  one_reply (hear moment port datagram) answer d h =
      is_right_reply idle.book s.lawful slot entry there port datagram.now h.1 h.0 h.2
      (subst (λ (x : LaneSetup). IsReplyTo x.home_secret entry.octets h.1) setup (t.replied _ h.3).1) (unsigned _ h.3)
  one_reply (accept request moment) answer d h = absurd h
  one_reply (step moment random) answer d h = absurd h
  one_reply drain answer d h = absurd h
  one_reply (turn moment) answer d h = absurd h

  has_reply : (happenings : List Happening) → IsDelivered new slot entry.octets happenings → HasReply idle.book.setup.home_secret slot entry.octets (events_of happenings)
  has_reply [] h = absurd h
  has_reply (called event answer d ∷ later) h = elim h [ inl here ↦ inl (one_reply event answer d here) | inr behind ↦ inr (has_reply later behind) ]
  has_reply (came sent ∷ later) h = elim h [ inl here ↦ absurd here | inr behind ↦ has_reply later behind ]
  has_reply (replied asked reply ∷ later) h = elim h [ inl here ↦ absurd here | inr behind ↦ has_reply later behind ]

pub is_round : (old new : World) → Stands old → IsDeliveredRound old new → IsRound old.book new.book × Stands new
unfolding calls_of
is_round old new s r =
    let idle = stands_later old r.steps r.idle r.stepping s in
    let last = stands_later r.idle r.hears new r.hearing idle in (
      record {
        moment = r.moment;
        idle = r.idle.book;
        steps = calls_of old r.steps r.idle r.stepping idle;
        at_once = step_calls r.moment r.steps r.at_once;
        until_idle = idle_call [] r.steps r.until_idle;
        hears = calls_of r.idle r.hears new r.hearing last;
        datagrams = hear_calls r.hears r.granted;
        granted = granted_calls [] r.hears r.granted;
        answers = λ slot entry there. has_reply r.idle new idle last (setup_later r.idle r.hears new r.hearing) r.unsigned slot entry there r.hears (r.delivered slot entry there);
      },
      last,
    )

are_rounds : (n : ℕ) (old new : World) → Stands old → DeliveredRounds n old new → Rounds n old.book new.book
are_rounds zero old new s h = ap (λ (w : World). w.book) h
are_rounds (suc n) old new s h =
    let first = is_round old h.0 s h.1 in
    (h.0.book, first.0, are_rounds n h.0 new first.1 h.2)

pub rounds_serve : (n : ℕ) (old new : World) → Stands old → AreInRange old.book.setup.limits → CanGoOn old.book → DeliveredRounds n old new → rounds_for (length old.book.queued) old.book.setup.limits.window ≤ n → IsServed new.book
rounds_serve n old new s range goes_on h enough = served old.book s.lawful.probe_apart range n new.book goes_on (are_rounds n old new s h) enough
