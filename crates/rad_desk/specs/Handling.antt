-- What a checked datagram of a NAS leads to (RFC 2866 section 2.1, Proxy). A request is passed to the lane of its
-- realm. A Status-Server (RFC 5997 section 3) is answered in place. The state of the lane is behind its lock.
use Rattle.std.specs.Prelude.{◌≡◌, ◌≤◌, ℕ, List, [], Result, Ok, Err}
use Rattle.rad_packet.specs.Packet.{identifier_of, authenticator_of}
use Rattle.rad_auth.specs.Authenticator.{accounting_response}
use Rattle.rad_realms.specs.Checking.{Request, Status}
use Rattle.rad_realms.specs.declared.checking.Incoming.{Incoming}
use Rattle.rad_realms.specs.declared.checking.Incoming.TheVariants as incoming
use Rattle.rad_lane.specs.declared.accepting.Taken.{Taken as Acceptance}
use Rattle.rad_lane.specs.declared.accepting.Refusal.{Refusal}
use Rattle.rad_lane.specs.declared.accepting.Refusal.TheVariants.{WrongLane}
use Rattle.rad_lane.specs.Datagrams.{Datagrams}
use Rattle.locked_lanes.specs.Departures.{Returns, AcceptsLawfully, UnlessWrongLane}
use Rattle.rad_desk.specs.declared.handling.Handled.{Handled}
use Rattle.rad_desk.specs.declared.handling.Handling.{Handling}
use Rattle.rad_desk.specs.declared.handling.Handled.TheVariants.{Taken, Answered}

-- The datagram is a request, and this is the outcome at its lane. If the lane's number is not below `lanes`, it is
-- `WrongLane`. An outcome other than that is the one of a lawful book to which the request leads, at this moment. Only for a
-- repeat of an answered request is something written: the response.
pub record IsGivenOn (asked : Incoming) (moment lanes : ℕ) (outcome : Result Acceptance Refusal) (d : Datagrams) : Type 0 where
  pub request : Request
  pub is : asked ≡ incoming.Request request
  pub nowhere : lanes ≤ request.lane → outcome ≡ Err WrongLane
  pub returns : Returns outcome d
  pub accepts : UnlessWrongLane outcome (AcceptsLawfully request moment outcome d)

-- The datagram is a Status-Server, and this packet answers it: an Accounting-Response without attributes, under the
-- client's secret.
pub record IsAnswered (asked : Incoming) (answer : List ℕ) : Type 0 where
  pub status : Status
  pub is : asked ≡ incoming.Status status
  pub sent : answer ≡ accounting_response (identifier_of status.text) (authenticator_of status.text) [] status.secret

pub record IsARequest (asked : Incoming) : Type 0 where
  pub request : Request
  pub is : asked ≡ incoming.Request request

-- The result of a datagram at this moment, with `lanes` lanes. So a request is never answered as a Status-Server, and a
-- Status-Server is always answered and never reaches a lane.
abbrev pub Handles : Incoming → ℕ → ℕ → Result Handled Refusal → Datagrams → Type 0
Handles asked moment lanes (Ok Answered) d = IsAnswered asked d.after
Handles asked moment lanes (Ok (Taken lane taken)) d = (given : IsGivenOn asked moment lanes (Ok taken) d) × (lane ≡ given.request.lane)
Handles asked moment lanes (Err refusal) d = IsGivenOn asked moment lanes (Err refusal) d

-- What a datagram that passed the checks led to, at this moment.
pub record Outcome : Type 0 where
  pub asked : Incoming
  pub moment : ℕ
  pub result : Result Handled Refusal

abbrev pub outcome_of : Incoming → Handling → Outcome
outcome_of asked handling = record { asked = asked; moment = handling.moment; result = handling.result }
