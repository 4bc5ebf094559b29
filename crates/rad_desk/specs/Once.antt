-- What the front does, as its wire sees it (RFC 2866 section 4.2, RFC 5997 section 4.2, own). It is a sequence of parts. In each
-- part one datagram came, and was dropped or handled, and what answers it was sent back; or what an inlet gave was sent. What each
-- inlet gave is sent once, in order.
use Rattle.std.specs.Prelude.{◌≡◌, ◌+◌, ◌<◌, ◌==◌, ⊤, ℕ, List, [], ◌∷◌, ◌++◌, ◌⊎◌, Bool, true, false, length, All, cond, Option, Some, None, Result, Ok, Err}
use Rattle.std.specs.List.{flat_map}
use Rattle.rad_packet.specs.Packet.{identifier_of, authenticator_of}
use Rattle.rad_auth.specs.Authenticator.{accounting_response, IsRightResponse}
use Rattle.rad_config.specs.declared.reading.address.Endpoint.{Endpoint}
use Rattle.rad_realms.specs.declared.checking.Incoming.{Incoming}
use Rattle.rad_realms.specs.declared.checking.Incoming.TheVariants as incoming
use Rattle.rad_realms.specs.Checking.{Request as Checked}
use Rattle.rad_realms.specs.Configuration.{Configuration}
use Rattle.rad_tables.specs.declared.duplicates.Key.{Key}
use Rattle.rad_realms.specs.Incoming.{Takes}
use Rattle.rad_realms.specs.Checking.{Drops}
use Rattle.rad_realms.specs.declared.checking.Dropped.{Dropped}
use Rattle.rad_lane.specs.declared.outgoing.Outgoing.{Outgoing}
use Rattle.rad_lane.specs.declared.accepting.Refusal.{Refusal}
use Rattle.rad_lane.specs.declared.accepting.Taken.TheVariants.{New, Waiting, Again}
use Rattle.rad_lane.specs.Accepts.{request_key}
use Rattle.rad_lane.specs.Datagrams.{Datagrams}
use Rattle.locked_lanes.specs.declared.inlet.Inlet.{Inlet}
use Rattle.rad_desk.specs.declared.wire.Delivery.{Delivery}
use Rattle.rad_desk.specs.declared.handling.Handled.{Handled}
use Rattle.rad_desk.specs.declared.handling.Handled.TheVariants.{Taken, Answered}
use Rattle.rad_desk.specs.Handling.{Handles, IsARequest, Outcome}
use Rattle.locked_lanes.specs.Departures.{AcceptsLawfully, IsVerifiedResponse}
use Rattle.locked_lanes.specs.Fates.{AnswersARecord, EachOnce}
use Rattle.locked_lanes.specs.Inlet.{taken, SameInlet}
use Rattle.rad_desk.specs.Traffic.{Event, arrived, departed, told, endpoint}
use Rattle.rad_desk.specs.Calls.{IsSent}

-- What the front works by: its configuration, and the response that an earlier run gave to the request of a key, as far as it is
-- remembered.
pub record Terms : Type 0 where
  pub config : Configuration
  pub remembered : Key → Option (List ℕ)

abbrev pub terms_of : Configuration → (Key → Option (List ℕ)) → Terms
terms_of config memory = record { config = config; remembered = memory }

abbrev pub nothing_remembered : Key → Option (List ℕ)
nothing_remembered key = None

-- The octets answer a request again (RFC 2866 section 4.2). A lawful book gave them as the answer to this request, a
-- repeat, at this moment. They are a response after a verified reply, have the request's Identifier, and are valid for
-- its Authenticator under the client's secret.
pub record AnswersAgain (request : Checked) (moment : ℕ) (octets : List ℕ) : Type 0 where
  pub number : ℕ
  pub before : List ℕ
  pub accepts : AcceptsLawfully request moment (Ok (Again number)) (record { before = before; after = octets })
  pub verified : IsVerifiedResponse octets
  pub identifier : identifier_of octets ≡ identifier_of request.text
  pub right : IsRightResponse request.secret (authenticator_of request.text) octets

-- The octets answer a datagram that was handled at this moment: a request that is answered again, or a Status-Server
-- (RFC 5997 section 4.2).
abbrev pub IsAnswerTo : Incoming → ℕ → List ℕ → Type 0
IsAnswerTo (incoming.Request r) moment octets = AnswersAgain r moment octets
IsAnswerTo (incoming.Status s) moment octets = octets ≡ accounting_response (identifier_of s.text) (authenticator_of s.text) [] s.secret

-- The packet has the Identifier of the request that it answers, and is valid for the request's Authenticator under the
-- client's secret. Of a Status-Server this says nothing.
abbrev pub Fits : Incoming → List ℕ → Type 0
Fits (incoming.Request r) octets =
    (identifier_of octets ≡ identifier_of r.text) × IsRightResponse r.secret (authenticator_of r.text) octets
Fits (incoming.Status s) octets = ⊤

-- An earlier run gave these octets to a request of this key, and they fit this one under the client's secret of today.
pub record IsRecalled (memory : Key → Option (List ℕ)) (request : Checked) (octets : List ℕ) : Type 0 where
  pub remembered : memory (request_key request) ≡ Some octets
  pub fits : Fits (incoming.Request request) octets

-- The same of a datagram that is a request.
pub record Recalls (memory : Key → Option (List ℕ)) (asked : Incoming) (octets : List ℕ) : Type 0 where
  pub request : Checked
  pub is : asked ≡ incoming.Request request
  pub recalled : IsRecalled memory request octets

-- The result of a datagram that is answered at once.
abbrev pub IsAnswering : Result Handled Refusal → Type 0
IsAnswering (Ok Answered) = ⊤
IsAnswering (Ok (Taken lane (New number))) = ⊥
IsAnswering (Ok (Taken lane (Waiting number))) = ⊥
IsAnswering (Ok (Taken lane (Again number))) = ⊤
IsAnswering (Err refusal) = ⊥

-- What is sent back for a datagram with this result, for which these octets were written: the octets, if they are the answer to a
-- Status-Server or answer a repeat and fit it; otherwise nothing.
abbrev pub Replies : ℕ → Endpoint → Incoming → Result Handled Refusal → List ℕ → List Event → Type 0
Replies socket from asked (Ok Answered) octets events = IsSent socket from octets events
Replies socket from asked (Ok (Taken lane (New number))) octets events = events ≡ []
Replies socket from asked (Ok (Taken lane (Waiting number))) octets events = events ≡ []
Replies socket from asked (Ok (Taken lane (Again number))) octets events =
    (Fits asked octets × IsSent socket from octets events) ⊎ ((¬ Fits asked octets) × (events ≡ []))
Replies socket from asked (Err refusal) octets events = events ≡ []

-- Nothing is sent for a datagram with this outcome: it is a request, which its lane took as new, or as a repeat of one that waits, or
-- which is refused; or it is a repeat of an answered request, and what was written for it does not fit it.
abbrev pub SendsNothing : Incoming → Result Handled Refusal → List ℕ → Type 0
SendsNothing asked (Ok Answered) octets = ⊥
SendsNothing asked (Ok (Taken lane (New number))) octets = ⊤
SendsNothing asked (Ok (Taken lane (Waiting number))) octets = ⊤
SendsNothing asked (Ok (Taken lane (Again number))) octets = ¬ Fits asked octets
SendsNothing asked (Err refusal) octets = ⊤

pub record IsSilent (outcome : Outcome) : Type 0 where
  pub lanes : ℕ
  pub datagrams : Datagrams
  pub handles : Handles outcome.asked outcome.moment lanes outcome.result datagrams
  pub nothing : SendsNothing outcome.asked outcome.result datagrams.after

-- The octets answer a datagram with this outcome.
pub record IsAnsweredWith (outcome : Outcome) (octets : List ℕ) : Type 0 where
  pub answering : IsAnswering outcome.result
  pub answers : IsAnswerTo outcome.asked outcome.moment octets

-- A part of the work:
-- `dropped`, in which a datagram was received on a socket, from this address and port, and dropped for this reason;
-- `silent`, in which such a datagram was received, the moment was read, and the datagram was handled with this outcome;
-- `back`, in which also these octets were sent back;
-- `recalled`, in which this request was received, and answered as an earlier run did, without a lane;
-- `given`, in which the response was sent that the inlet at this place gave.
pub data Part : Type 0 where
  dropped : ℕ → Endpoint → List ℕ → Dropped → Part
  silent : ℕ → Endpoint → List ℕ → Outcome → Part
  back : ℕ → Endpoint → List ℕ → Outcome → List ℕ → Delivery → Part
  recalled : ℕ → Endpoint → List ℕ → Checked → List ℕ → Delivery → Part
  given : ℕ → Outgoing → Delivery → Part

-- An answer is sent back from the socket that received the question, to the address and port that the question came
-- from. A response is sent from the first socket, to its client and port.
abbrev pub events_of : Part → List Event
events_of (dropped socket from question reason) = arrived socket from question ∷ []
events_of (silent socket from question outcome) = arrived socket from question ∷ told outcome.moment ∷ []
events_of (back socket from question outcome octets delivery) =
    arrived socket from question ∷ told outcome.moment ∷ departed socket from octets delivery ∷ []
events_of (recalled socket from question request octets delivery) =
    arrived socket from question ∷ departed socket from octets delivery ∷ []
events_of (given place outgoing delivery) =
    departed 0 (endpoint outgoing.client outgoing.port) outgoing.reply.response delivery ∷ []

-- What the datagram of a part led to, if it was handled.
abbrev pub outcomes_of : Part → List Outcome
outcomes_of (dropped socket from question reason) = []
outcomes_of (silent socket from question outcome) = outcome ∷ []
outcomes_of (back socket from question outcome octets delivery) = outcome ∷ []
outcomes_of (recalled socket from question request octets delivery) = []
outcomes_of (given place outgoing delivery) = []

-- A part in which a datagram came.
abbrev pub IsReceipt : Part → Type 0
IsReceipt (dropped socket from question reason) = ⊤
IsReceipt (silent socket from question outcome) = ⊤
IsReceipt (back socket from question outcome octets delivery) = ⊤
IsReceipt (recalled socket from question request octets delivery) = ⊤
IsReceipt (given place outgoing delivery) = ⊥

-- The inlet gave one response, which answers a record, and that was sent, and nothing else passed.
pub record HandsOne (old new : Inlet) (events : List Event) : Type 0 where
  pub outgoing : Outgoing
  pub delivery : Delivery
  pub took : taken new ≡ taken old ++ outgoing ∷ []
  pub answers : AnswersARecord outgoing
  pub is : events ≡ events_of (given 0 outgoing delivery)

abbrev pub Hands : Inlet → Inlet → List Event → Type 0
Hands old new events = SameInlet old new × (((taken new ≡ taken old) × (events ≡ [])) ⊎ HandsOne old new events)

-- What a valid part is. A datagram was dropped by the checks of this configuration, for this reason; or it passed them, as the request
-- or the Status-Server that was handled, and nothing is sent for it, or what answers it; or as a request that is answered from memory; or
-- the response is of one of the `inlets` inlets,
-- and answers a record of the client and port to which it is sent.
abbrev pub IsRight : Terms → ℕ → Part → Type 0
IsRight terms inlets (dropped socket from question reason) = Drops terms.config from.address question reason
IsRight terms inlets (silent socket from question outcome) = Takes terms.config from.address from.port question outcome.asked × IsSilent outcome
IsRight terms inlets (back socket from question outcome octets delivery) =
    Takes terms.config from.address from.port question outcome.asked × IsAnsweredWith outcome octets
IsRight terms inlets (recalled socket from question request octets delivery) =
    Takes terms.config from.address from.port question (incoming.Request request) × IsRecalled terms.remembered request octets
IsRight terms inlets (given place outgoing delivery) = (place < inlets) × AnswersARecord outgoing

-- At most one datagram came, and it is a valid part. What it led to, if it was handled, was added to the outcomes.
abbrev pub TakesIn : Terms → List Outcome → List Outcome → List Event → Type 0
TakesIn terms before after events =
    ((events ≡ []) × (after ≡ before))
    ⊎ ((part : Part) × IsReceipt part × (events ≡ events_of part) × ((inlets : ℕ) → IsRight terms inlets part)
    × (after ≡ before ++ outcomes_of part))

-- At most one datagram came: a valid request, which is not passed to its lane, since the worker is stopped.
abbrev pub IsLeftUntaken : Terms → List Event → Type 0
IsLeftUntaken terms events =
    (events ≡ [])
    ⊎ ((socket : ℕ) × (from : Endpoint) × (question : List ℕ) × (request : Checked)
    × Takes terms.config from.address from.port question (incoming.Request request) × (events ≡ arrived socket from question ∷ []))

-- What passed where the worker received: one part, or none, if it goes on.
abbrev pub TakesInOnce : Bool → Terms → List Outcome → List Outcome → List Event → Type 0
TakesInOnce true terms before after events = TakesIn terms before after events
TakesInOnce false terms before after events = IsLeftUntaken terms events × (after ≡ before)

-- A valid datagram was handled: the moment was read, the outcome was added to the outcomes, and what answers the datagram was sent back,
-- from the socket that received it, to the address and port that it came from, or nothing was sent. If the worker is stopped, it is a
-- request, and nothing of this was done.
pub record Serves (socket : ℕ) (from : Endpoint) (asked : Incoming) (before after : List Outcome) (events : List Event) : Type 0 where
  pub outcome : Outcome
  pub same : outcome.asked ≡ asked
  pub added : after ≡ before ++ outcome ∷ []
  pub later : List Event
  pub is : events ≡ told outcome.moment ∷ later
  pub sends : (IsSilent outcome × (later ≡ []))
      ⊎ ((octets : List ℕ) × IsAnsweredWith outcome octets × IsSent socket from octets later)

abbrev pub IsStopped : Incoming → List Outcome → List Outcome → List Event → Type 0
IsStopped asked before after events = IsARequest asked × (events ≡ []) × (after ≡ before)

abbrev pub ServesOnce : Bool → ℕ → Endpoint → Incoming → List Outcome → List Outcome → List Event → Type 0
ServesOnce true socket from asked before after events = Serves socket from asked before after events
ServesOnce false socket from asked before after events = IsStopped asked before after events

-- The responses that the inlet at a place gave, in order.
abbrev pub given_in : ℕ → Part → List Outgoing
given_in place (dropped socket from question reason) = []
given_in place (silent socket from question outcome) = []
given_in place (back socket from question outcome octets delivery) = []
given_in place (recalled socket from question request octets delivery) = []
given_in place (given other outgoing delivery) = cond (other == place) (outgoing ∷ []) []

abbrev pub given_by : ℕ → List Part → List Outgoing
given_by place parts = flat_map (given_in place) parts

-- Each inlet, from this place on, is still that of the same ring and lane, and took what the parts have of its place,
-- each once, in order. No two responses that it ever took answer one request.
abbrev pub EachGave : List Part → ℕ → List Inlet → List Inlet → Type 0
EachGave parts place [] [] = ⊤
EachGave parts place (a ∷ then) (b ∷ now) =
    SameInlet a b × (taken b ≡ taken a ++ given_by place parts) × EachOnce (taken b) × EachGave parts (place + 1) then now
EachGave parts place [] (b ∷ now) = ⊥
EachGave parts place (a ∷ then) [] = ⊥

-- The front works in valid parts.
pub record WorksInParts (terms : Terms) (old new : List Inlet) (events : List Event) : Type 0 where
  pub parts : List Part
  pub passed : events ≡ flat_map events_of parts
  pub right : All (IsRight terms (length old)) parts
  pub gave : EachGave parts 0 old new

-- The front does this, and at the end it may be stopped when a request has just come.
pub record UntilStopped (terms : Terms) (Does : List Event → Type 0) (events : List Event) : Type 0 where
  pub before : List Event
  pub last : List Event
  pub passed : events ≡ before ++ last
  pub does : Does before
  pub stopped : IsLeftUntaken terms last

abbrev pub WorksInFront : Terms → List Inlet → List Inlet → List Event → Type 0
WorksInFront terms old new events = UntilStopped terms (WorksInParts terms old new) events

-- The front does this, and goes on or is stopped.
abbrev pub DoesOrStops : Bool → Terms → (List Event → Type 0) → List Event → Type 0
DoesOrStops true terms Does events = Does events
DoesOrStops false terms Does events = UntilStopped terms Does events
