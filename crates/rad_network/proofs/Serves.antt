-- What each response that a lane gave, or may give again, means.
use Rattle.std.proofs.Common.{◌≡◌, ℕ, List, [], ◌∷◌, ◌++◌, Some, None, Result, Ok, Err, refl, sym, ap, ◌∙◌, subst, inl, inr}
use Rattle.std.specs.Prelude.{◌==◌, All, not}
use Rattle.std.specs.List.{Contains}
use Rattle.std.specs.FinMap as map
use Rattle.std.proofs.lemmas.List.Elements.{All-nil, All-head, All-tail, All-push, All-weaker, All-filter}
use Rattle.rad_packet.specs.Packet.{authenticator_of}
use Rattle.rad_realms.specs.Checking.{Request}
use Rattle.rad_tables.specs.declared.duplicates.Key.{Key}
use Rattle.rad_tables.specs.declared.slots.Slot.{Slot}
use Rattle.rad_lane.specs.declared.entry.Entry.TheVariants.{Sending as sending}
use Rattle.rad_lane.specs.declared.watch.Watch.{Watch}
use Rattle.rad_lane.specs.declared.watch.Watch.TheVariants.{Up as up, Down as down}
use Rattle.rad_lane.specs.declared.accepting.Taken.{Taken}
use Rattle.rad_lane.specs.declared.accepting.Taken.TheVariants.{New, Waiting, Again}
use Rattle.rad_lane.specs.declared.accepting.Refusal.{Refusal}
use Rattle.rad_lane.specs.declared.hearing.Heard.{Heard}
use Rattle.rad_lane.specs.declared.hearing.Heard.TheVariants.{Answer, ProbeAnswered}
use Rattle.rad_lane.specs.declared.hearing.HearFault.{HearFault}
use Rattle.rad_lane.specs.declared.outgoing.Outgoing.{Outgoing}
use Rattle.rad_lane.specs.declared.stepping.Action.{Action}
use Rattle.rad_lane.specs.declared.stepping.Action.TheVariants.{Sent, Resent, Probed, WentDown, WentUp, Idle}
use Rattle.rad_lane.specs.declared.turning.Volume.{Volume}
use Rattle.rad_lane.specs.declared.turning.TurnFault.{TurnFault}
use Rattle.rad_lane.specs.declared.turning.TurnFault.TheVariants.{NothingToTurn, OutOfMemory}
use Rattle.rad_lane.specs.declared.running.Event.{Event}
use Rattle.rad_lane.specs.declared.running.Event.TheVariants.{Accept as accept, Step as step, Hear as hear, Drain as drain, Turn as turn}
use Rattle.rad_lane.specs.declared.running.GivenAnswer.{GivenAnswer}
use Rattle.rad_lane.specs.declared.running.GivenAnswer.TheVariants.{Accept as accepted, Step as stepped, Hear as heard, Drain as drained, Turn as turned}
use Rattle.rad_lane.specs.Setup.{LaneSetup}
use Rattle.rad_lane.specs.Stamp.{Recorded}
use Rattle.rad_lane.specs.Outstanding.{Outstanding, AnswerKept, first_sending, octets_of, sent_again}
use Rattle.rad_lane.specs.Datagrams.{Datagrams}
use Rattle.rad_lane.specs.Book.{Book, moment_in, next_number, outstanding_at}
use Rattle.rad_lane.specs.Watch.{GoesUpIfDown}
use Rattle.rad_lane.specs.Accepts.{Accepts, record_of, request_key}
use Rattle.rad_lane.specs.Steps.{StepsBy}
use Rattle.rad_lane.specs.Hears.{Hears, pair, with_answer}
use Rattle.rad_lane.specs.Volumes.{Turns, is_below, opening_after}
use Rattle.rad_lane.specs.Runs.{Gives}
use Rattle.rad_lane.proofs.ListLemmas.{found_holds}
use Rattle.rad_progress.proofs.AfterCalls.{call_setup}
use Rattle.rad_network.specs.World.{Departed, HomeReply, Response, World, new_world}
use Rattle.rad_network.specs.Happens.{Happening, Happens, Lives, Life, IsCalled, Comes, Replies, accepts, departs, responds}
use Rattle.rad_network.specs.Happens.Happening.{called, came, replied}
use Rattle.rad_network.specs.Acknowledged.{IsValidResponse, IsAcknowledged, record_head}
use Rattle.rad_network.specs.Asking.{Asked, asked_by, WasAsked, OnlyTheNasAsks, Takes, IsReceived, HaveOneAuthenticator, UsesNoKeyTwice, AcknowledgedMeansReceived}
use Rattle.rad_network.proofs.Among.{earlier, later_on, latest, none_there, parted}
use Rattle.rad_network.proofs.Stands.{Stands, nothing_at, stands_at_first}
use Rattle.rad_auth.specs.Answers.{Answers}
use Rattle.rad_auth.specs.Replied.{Replied}
use Rattle.rad_network.proofs.AfterCall.{AllWereOut, outs_first, outs_again, outs_probe, out_of_same, out_of_up, out_on, quiet_accept, quiet_hear, quiet_turn}
use Rattle.rad_network.proofs.AnswersFound.{found_again}
use Rattle.rad_network.proofs.InLife.{stands_after, call_acknowledged}

-- what accepting a request accepts
abbrev accepts_request : Book → Request → ℕ → Result Taken Refusal → List Recorded
accepts_request book request moment (Ok (New number)) = record_of (next_number book) request (moment_in book moment) ∷ []
accepts_request book request moment result = []

-- the responses of the two calls that give some
abbrev responds_accept : Request → Result Taken Refusal → List ℕ → List Response
responds_accept request (Ok (Again number)) after = record { client = request.client; port = request.port; octets = after } ∷ []
responds_accept request result after = []

abbrev responds_heard : Result Heard HearFault → List Response
responds_heard (Ok (Answer outgoing)) = record { client = outgoing.client; port = outgoing.port; octets = outgoing.reply.response } ∷ []
responds_heard result = []

-- hearing leaves the queue, and the answers but for its own
pub heard_like : (now : ℕ) (middle next : Book) (w : Watch) → GoesUpIfDown now middle next w → (next.queued ≡ middle.queued) × (next.answered ≡ middle.answered)
heard_like now middle next up h = (ap (λ (b : Book). b.queued) h, ap (λ (b : Book). b.answered) h)
heard_like now middle next (down until other out) h = (ap (λ (b : Book). b.queued) h.others, ap (λ (b : Book). b.answered) h.others)

module _ (asked : List Asked) where
  -- a record as the NAS asked for it
  abbrev pub of_record : Recorded → Asked
  of_record r = record { client = r.stamp.client; port = r.stamp.port; secret = r.client_secret; text = r.text }

  -- a record that the NAS asked for, and that the lane accepted
  abbrev IsAskedFor : List Recorded → Recorded → Type 0
  IsAskedFor records r = Contains asked (of_record r) × Contains records r

  -- a response that the NAS can take as the answer to what it asked, and what the home server received of it
  pub record IsFor (world : World) (response : Response) : Type 0 where
    pub request : Asked
    pub there : Contains asked request
    pub takes : Takes request response
    pub received : IsReceived world request response

  abbrev pub response_of : AnswerKept → Response
  response_of answer = record { client = answer.stamp.client; port = answer.stamp.port; octets = answer.reply.response }

  pub record Serves (world : World) : Type 0 where
    pub queued : All (IsAskedFor world.accepted) world.book.queued
    pub out : (slot : Slot) (entry : Outstanding) → outstanding_at world.book slot entry → IsAskedFor world.accepted entry.request
    pub answered : All (λ a. IsFor world (response_of a)) world.book.answered
    pub given : (response : Response) → Contains world.given response → IsFor world response

  -- what the lane accepted stays accepted, and what the home server received stays received
  record Keeps (old new : World) : Type 0 where
    setup : new.book.setup ≡ old.book.setup
    accepted : (r : Recorded) → Contains old.accepted r → Contains new.accepted r
    received : (octets : List ℕ) → Contains old.received octets → Contains new.received octets
    replied : (r : HomeReply) → Contains old.replies r → Contains new.replies r

  still_for : (old new : World) → Keeps old new → (response : Response) → IsFor old response → IsFor new response
  still_for old new k response f = record {
    request = f.request;
    there = f.there;
    takes = f.takes;
    received = record {
      recorded = f.received.recorded;
      accepted = k.accepted f.received.recorded f.received.accepted;
      is_record = f.received.is_record;
      client = f.received.client;
      port = f.received.port;
      text = f.received.text;
      identifier = f.received.identifier;
      octets = f.received.octets;
      made = f.received.made ∙ ap (λ (x : LaneSetup). octets_of x f.received.recorded f.received.identifier) (sym k.setup);
      received = k.received f.received.octets f.received.received;
      reply = f.received.reply;
      replied = k.replied _ f.received.replied;
      answers = subst (λ (x : LaneSetup). Answers (record_head f.received.recorded) f.received.octets f.received.reply f.received.recorded.client_secret x.home_secret response.octets) (sym k.setup) f.received.answers;
    };
  }

  still_asked : (old new : World) → Keeps old new → (r : Recorded) → IsAskedFor old.accepted r → IsAskedFor new.accepted r
  still_asked old new k r is = (is.0, k.accepted r is.1)

  serves_still : (old new : World) → Keeps old new → new.book ≡ old.book → new.given ≡ old.given → Serves old → Serves new
  serves_still old new k book given s = record {
    queued = All-weaker _ _ (still_asked old new k) new.book.queued (subst (λ (b : Book). All (IsAskedFor old.accepted) b.queued) (sym book) s.queued);
    out = λ slot entry there. still_asked old new k entry.request (s.out slot entry (ap (λ (b : Book). map.get b.held slot) (sym book) ∙ there));
    answered = All-weaker _ _ (λ a. still_for old new k (response_of a)) new.book.answered (subst (λ (b : Book). All (λ a. IsFor old (response_of a)) b.answered) (sym book) s.answered);
    given = λ response there. still_for old new k response (s.given response (subst (λ (rs : List Response). Contains rs response) given there));
  }

  serves_after_coming : (old : World) (sent : Departed) (new : World) → Comes old sent new → Serves old → Serves new
  serves_after_coming old sent new h s =
      subst Serves (sym h.world)
      (serves_still old (record old { received = sent.octets ∷ old.received })
      (record { setup = refl; accepted = λ r there. there; received = λ octets there. earlier sent.octets old.received octets there; replied = λ r there. there }) refl refl s)

  serves_after_reply : (old : World) (its reply : List ℕ) (new : World) → Replies old its reply new → Serves old → Serves new
  serves_after_reply old its reply new h s =
      subst Serves (sym h.world)
      (serves_still old (record old { replies = record { asked = its; reply = reply } ∷ old.replies })
      (record { setup = refl; accepted = λ r there. there; received = λ octets there. there; replied = λ r there. earlier _ old.replies r there }) refl refl s)

  -- a call
  module _ (old : World) (stands : Stands old) (s : Serves old) (next : Book) (records : List Recorded) (departed : List Departed) (setup : next.setup ≡ old.book.setup) where
    abbrev after : List Response → World
    after more = record old { book = next; accepted = records ++ old.accepted; departed = departed; given = more ++ old.given }

    kept : (more : List Response) → Keeps old (after more)
    kept more = record { setup = setup; accepted = λ r there. later_on records old.accepted r there; received = λ octets there. there; replied = λ r there. there }

    -- a record that is in the book after the call
    abbrev IsKept : Recorded → Type 0
    IsKept r = IsAskedFor (records ++ old.accepted) r

    kept_still : (r : Recorded) → IsAskedFor old.accepted r → IsKept r
    kept_still r is = (is.0, later_on records old.accepted r is.1)

    out_still : AllWereOut old.book next → (slot : Slot) (entry : Outstanding) → outstanding_at next slot entry → IsKept entry.request
    out_still outs slot entry there =
        let was = outs slot entry there in
        subst IsKept (sym was.request) (kept_still was.was.request (s.out was.at was.was was.there))

    given_still : (response : Response) → Contains old.given response → IsFor (after []) response
    given_still response there = still_for old (after []) (kept []) response (s.given response there)

    one_more : (response : Response) → IsFor old response → (other : Response) → Contains (response ∷ old.given) other → IsFor (after (response ∷ [])) other
    one_more response f other there = elim (parted response old.given other there) [
      | inl is ↦ subst (λ x. IsFor (after (response ∷ [])) x) is (still_for old (after (response ∷ [])) (kept (response ∷ [])) response f)
      | inr before ↦ still_for old (after (response ∷ [])) (kept (response ∷ [])) other (s.given other before)
    ]

    -- one that gives no response, and after which the queue and the answers are these
    gives_none : All IsKept next.queued → ((slot : Slot) (entry : Outstanding) → outstanding_at next slot entry → IsKept entry.request) → All (λ a. IsFor old (response_of a)) next.answered → Serves (after [])
    gives_none queued out answered = record {
      queued = queued;
      out = out;
      answered = All-weaker _ _ (λ a. still_for old (after []) (kept []) (response_of a)) next.answered answered;
      given = given_still;
    }

    gives_one : (response : Response) → IsFor old response → All IsKept next.queued → ((slot : Slot) (entry : Outstanding) → outstanding_at next slot entry → IsKept entry.request) → All (λ a. IsFor old (response_of a)) next.answered → Serves (after (response ∷ []))
    gives_one response f queued out answered = record {
      queued = queued;
      out = out;
      answered = All-weaker _ _ (λ a. still_for old (after (response ∷ [])) (kept (response ∷ [])) (response_of a)) next.answered answered;
      given = one_more response f;
    }

    queue_still : All IsKept old.book.queued
    queue_still = All-weaker _ _ kept_still old.book.queued s.queued

    same_queue : next.queued ≡ old.book.queued → All IsKept next.queued
    same_queue same = subst (λ (qs : List Recorded). All IsKept qs) (sym same) queue_still

    same_answers : next.answered ≡ old.book.answered → All (λ a. IsFor old (response_of a)) next.answered
    same_answers same = subst (λ (answers : List AnswerKept). All (λ a. IsFor old (response_of a)) answers) (sym same) s.answered

    quietly : AllWereOut old.book next → next.queued ≡ old.book.queued → next.answered ≡ old.book.answered → Serves (after [])
    quietly outs queue answers = gives_none (same_queue queue) (out_still outs) (same_answers answers)

    accept_by : (request : Request) (moment : ℕ) (result : Result Taken Refusal) (d : Datagrams) → records ≡ accepts_request old.book request moment result → Accepts old.book request moment result d next → Contains asked (asked_by request) → Serves (after (responds_accept request result d.after))
    accept_by request moment (Ok (New number)) d these h is =
        let new : Recorded = record_of (next_number old.book) request (moment_in old.book moment) in
        gives_none
        (subst (λ (b : Book). All IsKept b.queued) (sym h.3) (All-push IsKept old.book.queued new queue_still (is, subst (λ (rs : List Recorded). Contains (rs ++ old.accepted) new) (sym these) (latest new old.accepted))))
        (out_still (quiet_accept old.book stands.lawful stands.fits request moment (Ok (New number)) d next h).out)
        (same_answers (ap (λ (b : Book). b.answered) h.3))
    accept_by request moment (Ok (Waiting number)) d these h is =
        quietly (quiet_accept old.book stands.lawful stands.fits request moment (Ok (Waiting number)) d next h).out (ap (λ (b : Book). b.queued) h.1) (ap (λ (b : Book). b.answered) h.1)
    accept_by request moment (Ok (Again number)) d these h is =
        let found = found_again old.book stands.lawful (request_key request) (moment_in old.book moment) number d.after h.0 in
        gives_one (record { client = request.client; port = request.port; octets = d.after })
        (subst (λ (x : Response). IsFor old x)
        (ap (λ (k : Key). let x : Response = record { client = k.client; port = k.port; octets = found.0.reply.response } in x) found.1.key_is
        ∙ ap (λ o. let x : Response = record { client = request.client; port = request.port; octets = o } in x) (sym found.1.response))
        (found_holds (λ (a : AnswerKept). a.stamp.number == found.1.number) (λ a. IsFor old (response_of a)) old.book.answered found.0 s.answered found.1.kept).0)
        (same_queue (ap (λ (b : Book). b.queued) h.1))
        (out_still (quiet_accept old.book stands.lawful stands.fits request moment (Ok (Again number)) d next h).out)
        (same_answers (ap (λ (b : Book). b.answered) h.1))
    accept_by request moment (Err refusal) d these h is =
        quietly (quiet_accept old.book stands.lawful stands.fits request moment (Err refusal) d next h).out (ap (λ (b : Book). b.queued) h.2) (ap (λ (b : Book). b.answered) h.2)

    step_by : (now : ℕ) (random : List ℕ) (d : Datagrams) (w : Watch) (action : Action) → StepsBy w old.book now random action d next → Serves (after [])
    step_by now random d up (Sent number slot) h =
        let queued : All IsKept (h.3 ∷ h.4) = subst (λ (qs : List Recorded). All IsKept qs) h.5 queue_still in
        let first : Outstanding = first_sending old.book.setup now h.3 slot.identifier in
        gives_none (subst (λ (b : Book). All IsKept b.queued) (sym h.9) (All-tail IsKept h.3 h.4 queued))
        (λ at entry there. elim (outs_first old.book next slot first (ap (λ (b : Book). b.held) h.9) at entry there) [
          | inl is ↦ subst (λ (e : Outstanding). IsKept e.request) is (All-head IsKept h.3 h.4 queued)
          | inr was ↦ subst IsKept (sym was.request) (kept_still was.was.request (s.out was.at was.was was.there))
        ])
        (same_answers (ap (λ (b : Book). b.answered) h.9))
    step_by now random d up (Resent number slot) h =
        quietly (outs_again old.book next slot h.0 (sent_again old.book.setup.limits.first_wait now h.0) h.1.there refl refl (ap (λ (b : Book). b.held) h.4)) (ap (λ (b : Book). b.queued) h.4) (ap (λ (b : Book). b.answered) h.4)
    step_by now random d up (Probed slot) h = absurd h
    step_by now random d up WentDown h = quietly (out_of_same old.book next (ap (λ (b : Book). b.held) h.3)) (ap (λ (b : Book). b.queued) h.3) (ap (λ (b : Book). b.answered) h.3)
    step_by now random d up WentUp h = absurd h
    step_by now random d up (Idle None) h = quietly (out_of_same old.book next (ap (λ (b : Book). b.held) h.3)) (ap (λ (b : Book). b.queued) h.3) (ap (λ (b : Book). b.answered) h.3)
    step_by now random d up (Idle (Some moment)) h = quietly (out_of_same old.book next (ap (λ (b : Book). b.held) h.7)) (ap (λ (b : Book). b.queued) h.7) (ap (λ (b : Book). b.answered) h.7)
    step_by now random d (down until other out) (Sent number slot) h = absurd h
    step_by now random d (down until other out) (Resent number slot) h = absurd h
    step_by now random d (down until other out) (Probed slot) h =
        quietly (outs_probe old.book next slot d.after out (ap (λ (b : Book). b.held) h.2.2)) (ap (λ (b : Book). b.queued) h.2.2) (ap (λ (b : Book). b.answered) h.2.2)
    step_by now random d (down until other out) WentDown h = absurd h
    step_by now random d (down until other out) WentUp h =
        let middle : Book = record old.book { last = now } in
        quietly (out_on old.book middle next (out_of_same old.book middle refl) (out_of_up now middle next h.2)) (ap (λ (b : Book). b.queued) h.2.others) (ap (λ (b : Book). b.answered) h.2.others)
    step_by now random d (down until other out) (Idle None) h = absurd h
    step_by now random d (down until other out) (Idle (Some moment)) h = quietly (out_of_same old.book next (ap (λ (b : Book). b.held) h.4)) (ap (λ (b : Book). b.queued) h.4) (ap (λ (b : Book). b.answered) h.4)

    -- the answer that a call keeps, and gives
    kept_for : (moment port : ℕ) (datagram : List ℕ) (outgoing : Outgoing) → Hears old.book moment port datagram (Ok (Answer outgoing)) next → IsAcknowledged old outgoing → IsFor old (record { client = outgoing.client; port = outgoing.port; octets = outgoing.reply.response })
    kept_for moment port datagram outgoing h a = record {
      request = of_record a.entry.request;
      there = (s.out a.slot a.entry a.there).0;
      takes = record {
        client = a.client;
        port = a.port;
        valid = subst (λ i. IsValidResponse a.entry.request.client_secret (authenticator_of a.entry.request.text) i outgoing.reply.response) (sym a.is_record.identifier)
            (subst (λ x. IsValidResponse a.entry.request.client_secret x a.entry.request.stamp.identifier outgoing.reply.response) (sym a.is_record.authenticator) a.valid);
      };
      received = record {
        recorded = a.entry.request;
        accepted = (s.out a.slot a.entry a.there).1;
        is_record = a.is_record;
        client = refl;
        port = refl;
        text = refl;
        identifier = a.slot.identifier;
        octets = a.entry.octets;
        made = a.made;
        received = a.received;
        reply = outgoing.reply.reply;
        replied = a.replied;
        answers = a.answers;
      };
    }

    hear_by : (moment port : ℕ) (datagram : List ℕ) (result : Result Heard HearFault) → Hears old.book moment port datagram result next → ((outgoing : Outgoing) → result ≡ Ok (Answer outgoing) → IsAcknowledged old outgoing) → Serves (after (responds_heard result))
    hear_by moment port datagram (Ok (Answer outgoing)) h acknowledged =
        let f = kept_for moment port datagram outgoing h (acknowledged outgoing refl) in
        let l = heard_like (moment_in old.book moment) (with_answer old.book (moment_in old.book moment) (pair port h.1.packet) h.0) next old.book.watch h.1.book in
        let answer_is : (let x : Response = record { client = outgoing.client; port = outgoing.port; octets = outgoing.reply.response } in x) ≡ response_of h.0 =
        ap (λ c. let x : Response = record { client = c; port = outgoing.port; octets = outgoing.reply.response } in x) h.2.client
        ∙ ap (λ p. let x : Response = record { client = h.0.stamp.client; port = p; octets = outgoing.reply.response } in x) h.2.port
        ∙ ap (λ (r : Replied). let x : Response = record { client = h.0.stamp.client; port = h.0.stamp.port; octets = r.response } in x) h.2.reply in
        gives_one (record { client = outgoing.client; port = outgoing.port; octets = outgoing.reply.response }) f
        (same_queue l.0)
        (out_still (quiet_hear old.book stands.lawful stands.fits moment port datagram (Ok (Answer outgoing)) next h).out)
        (subst (λ (answers : List AnswerKept). All (λ a. IsFor old (response_of a)) answers) (sym l.1)
        (All-push (λ a. IsFor old (response_of a)) old.book.answered h.0 s.answered (subst (λ (x : Response). IsFor old x) answer_is f)))
    hear_by moment port datagram (Ok ProbeAnswered) h acknowledged =
        let l = heard_like (moment_in old.book moment) (record old.book { last = moment_in old.book moment }) next old.book.watch h.book in
        quietly (quiet_hear old.book stands.lawful stands.fits moment port datagram (Ok ProbeAnswered) next h).out l.0 l.1
    hear_by moment port datagram (Err fault) h acknowledged =
        quietly (quiet_hear old.book stands.lawful stands.fits moment port datagram (Err fault) next h).out (ap (λ (b : Book). b.queued) h.1) (ap (λ (b : Book). b.answered) h.1)

    turn_by : (moment : ℕ) (result : Result Volume TurnFault) → Turns old.book moment result next → Serves (after [])
    turn_by moment (Ok volume) h = gives_none
        (same_queue (ap (λ (b : Book). b.queued) h.5))
        (out_still (quiet_turn old.book stands.lawful stands.fits moment (Ok volume) next h).out)
        (subst (λ (b : Book). All (λ a. IsFor old (response_of a)) b.answered) (sym h.5) (All-filter (λ a. not (is_below (opening_after old.book h.0) a)) (λ a. IsFor old (response_of a)) old.book.answered s.answered))
    turn_by moment (Err NothingToTurn) h = quietly (out_of_same old.book next (ap (λ (b : Book). b.held) h.1)) (ap (λ (b : Book). b.queued) h.1) (ap (λ (b : Book). b.answered) h.1)
    turn_by moment (Err OutOfMemory) h = quietly (out_of_same old.book next (ap (λ (b : Book). b.held) h.4)) (ap (λ (b : Book). b.queued) h.4) (ap (λ (b : Book). b.answered) h.4)

    call_by : (event : Event) (answer : GivenAnswer) (d : Datagrams) → records ≡ accepts old.book event answer → Gives old.book event answer d next → WasAsked asked (called event answer d) → ((outgoing : Outgoing) → answer ≡ heard (Ok (Answer outgoing)) → IsAcknowledged old outgoing) → Serves (after (responds event answer d.after))
    call_by (accept request moment) (accepted (Ok (New number))) d these h is acknowledged = accept_by request.now moment (Ok (New number)) d these h is
    call_by (accept request moment) (accepted (Ok (Waiting number))) d these h is acknowledged = accept_by request.now moment (Ok (Waiting number)) d these h is
    call_by (accept request moment) (accepted (Ok (Again number))) d these h is acknowledged = accept_by request.now moment (Ok (Again number)) d these h is
    call_by (accept request moment) (accepted (Err refusal)) d these h is acknowledged = accept_by request.now moment (Err refusal) d these h is
    call_by (step moment random) (stepped action) d these h is acknowledged = step_by (moment_in old.book moment) random d old.book.watch action h.0
    call_by (hear moment port datagram) (heard (Ok (Answer outgoing))) d these h is acknowledged = hear_by moment port datagram.now (Ok (Answer outgoing)) h.0 (λ o same. acknowledged o (ap heard same))
    call_by (hear moment port datagram) (heard (Ok ProbeAnswered)) d these h is acknowledged = hear_by moment port datagram.now (Ok ProbeAnswered) h.0 (λ o same. acknowledged o (ap heard same))
    call_by (hear moment port datagram) (heard (Err fault)) d these h is acknowledged = hear_by moment port datagram.now (Err fault) h.0 (λ o same. acknowledged o (ap heard same))
    call_by drain (drained count) d these h is acknowledged = quietly (out_of_same old.book next (ap (λ (b : Book). b.held) h.0.book)) (ap (λ (b : Book). b.queued) h.0.book) (ap (λ (b : Book). b.answered) h.0.book)
    call_by (turn moment) (turned result) d these h is acknowledged = turn_by moment result h.0
    call_by event answer d these h is acknowledged = absurd h

  serves_after_call : (old : World) (event : Event) (answer : GivenAnswer) (d : Datagrams) (new : World) → Stands old → IsCalled old event answer d new → WasAsked asked (called event answer d) → Serves old → Serves new
  serves_after_call old event answer d new stands h is s =
      subst Serves (sym h.world)
      (call_by old stands s h.next (accepts old.book event answer) (departs answer d.after ++ old.departed) (call_setup old.book event answer d h.next h.gives) event answer d refl h.gives is
      (λ outgoing same. call_acknowledged old stands event outgoing d new (subst (λ (a : GivenAnswer). IsCalled old event a d new) same h)))

  serves_after : (old : World) (happening : Happening) (new : World) → Stands old → Happens old happening new → WasAsked asked happening → Serves old → Serves new
  serves_after old (called event answer d) new stands h is s = serves_after_call old event answer d new stands h is s
  serves_after old (came sent) new stands h is s = serves_after_coming old sent new h s
  serves_after old (replied its reply) new stands h is s = serves_after_reply old its reply new h s

  serves_later : (old : World) (happenings : List Happening) (new : World) → Stands old → Lives old happenings new → OnlyTheNasAsks asked happenings → Serves old → Serves new
  serves_later old [] new stands h are s = subst Serves (sym h) s
  serves_later old (happening ∷ later) new stands h are s =
      serves_later h.0 later new (stands_after old happening h.0 h.1 stands) h.2 are.1 (serves_after old happening h.0 stands h.1 are.0 s)

  serves_at_first : (setup : LaneSetup) → Serves (new_world setup)
  serves_at_first setup = record {
    queued = All-nil _;
    out = λ slot entry h. absurd (nothing_at slot (sending entry) h);
    answered = All-nil _;
    given = λ response h. absurd (none_there response h);
  }

  pub acknowledged_received : (world : World) (life : Life world) → OnlyTheNasAsks asked life.happenings → HaveOneAuthenticator asked world → UsesNoKeyTwice asked → AcknowledgedMeansReceived asked world
  acknowledged_received world life are one no_key request response there given takes =
      let s = serves_later (new_world life.setup) life.happenings world (stands_at_first life.setup life.lawful) life.lives are (serves_at_first life.setup) in
      let f = s.given response given in
      let authenticator = one response request f.request given there f.there takes f.takes in
      let client = sym takes.client ∙ f.takes.client in
      let port = sym takes.port ∙ f.takes.port in
      let text = no_key request f.request there f.there client port (sym takes.valid.identifier_is ∙ f.takes.valid.identifier_is) authenticator in
      record {
        recorded = f.received.recorded;
        accepted = f.received.accepted;
        is_record = f.received.is_record;
        client = f.received.client ∙ sym client;
        port = f.received.port ∙ sym port;
        text = f.received.text ∙ sym text;
        identifier = f.received.identifier;
        octets = f.received.octets;
        made = f.received.made;
        received = f.received.received;
        reply = f.received.reply;
        replied = f.received.replied;
        answers = f.received.answers;
      }
