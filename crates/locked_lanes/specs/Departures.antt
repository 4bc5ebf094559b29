-- What is sent over a wire (RFC 2866 section 2.1, RFC 5997 section 3, own). Whatever the lane, nothing but one of these is
-- given to a socket.
use Rattle.std.specs.Prelude.{◌≡◌, ⊤, ℕ, List, length, Result, Ok, Err}
use Rattle.rad_auth.specs.Forwarding.{forwarded}
use Rattle.rad_auth.specs.Status.{status_server}
use Rattle.rad_lane.specs.declared.accepting.Taken.{Taken}
use Rattle.rad_lane.specs.declared.accepting.Taken.TheVariants.{New, Waiting, Again}
use Rattle.rad_lane.specs.declared.accepting.Refusal.{Refusal}
use Rattle.rad_lane.specs.declared.accepting.Refusal.TheVariants.{Draining, BookFull, QueueFull, TooLong, OutOfMemory, WrongLane}
use Rattle.rad_lane.specs.declared.stepping.Action.{Action}
use Rattle.rad_lane.specs.declared.stepping.Action.TheVariants.{Sent, Resent, Probed, WentDown, WentUp, Idle}
use Rattle.rad_lane.specs.Stamp.{Recorded, IsRecord}
use Rattle.rad_lane.specs.Outstanding.{AnswerKept, IsAnswered}
use Rattle.rad_lane.specs.Setup.{LaneSetup, IsOf}
use Rattle.rad_lane.specs.Book.{Book}
use Rattle.rad_lane.specs.Accepts.{IsTaken, Accepts}
use Rattle.rad_lane.specs.Steps.{Steps}
use Rattle.rad_lane.specs.Lawful.{IsLawful}
use Rattle.rad_lane.specs.Datagrams.{Datagrams}
use Rattle.rad_realms.specs.Checking.{Request}
use Rattle.rad_realms.specs.Configuration.{HomeEntry}

-- The octets are the forwarded packet of a valid record, with the mark of some lane, under some secret.
pub record ForwardsARecord (octets : List ℕ) : Type 0 where
  pub recorded : Recorded
  pub is_record : IsRecord recorded
  pub lane : ℕ
  pub identifier : ℕ
  pub secret : List ℕ
  pub forwards : octets ≡ forwarded recorded.text (record { lane = lane; number = recorded.stamp.number }) identifier secret

-- The octets are a Status-Server, with some sixteen octets as Authenticator, under some secret.
pub record IsStatusServer (octets : List ℕ) : Type 0 where
  pub identifier : ℕ
  pub authenticator : List ℕ
  pub sixteen : length authenticator ≡ 16
  pub secret : List ℕ
  pub asks : octets ≡ status_server identifier authenticator secret

-- The datagram after a step: what is to be sent to the home server if the step sends, and otherwise unchanged.
abbrev pub Departs : Action → Datagrams → Type 0
Departs (Sent number slot) d = ForwardsARecord d.after
Departs (Resent number slot) d = ForwardsARecord d.after
Departs (Probed slot) d = IsStatusServer d.after
Departs WentDown d = d.after ≡ d.before
Departs WentUp d = d.after ≡ d.before
Departs (Idle moment) d = d.after ≡ d.before

-- The octets are a response that answers the request of a valid record, after a verified reply to the forwarded packet
-- of that record.
pub record IsVerifiedResponse (octets : List ℕ) : Type 0 where
  pub answer : AnswerKept
  pub answered : IsAnswered answer
  pub response : octets ≡ answer.reply.response

-- The datagram after a request was taken: the response for the client if the request repeats an answered one, and
-- otherwise unchanged.
abbrev pub Returns : Result Taken Refusal → Datagrams → Type 0
Returns (Ok (Again number)) d = IsVerifiedResponse d.after
Returns (Ok (New number)) d = d.after ≡ d.before
Returns (Ok (Waiting number)) d = d.after ≡ d.before
Returns (Err refusal) d = d.after ≡ d.before

-- The lane has this number, and its home server has this secret and these limits.
pub record IsOfHome (setup : LaneSetup) (lane : ℕ) (home : HomeEntry) : Type 0 where
  pub is_of : IsOf setup lane home.secret
  pub limits : setup.limits ≡ home.limits

-- One step of a lawful book, with this lane's number and this home server's secret and limits, has this action and these
-- datagrams, and the book is lawful after it.
pub record StepsFor (lane : ℕ) (home : HomeEntry) (moment : ℕ) (random : List ℕ) (action : Action) (d : Datagrams) : Type 0 where
  pub old : Book
  pub new : Book
  pub lawful : IsLawful old
  pub stays : IsLawful new
  pub is_of : IsOfHome old.setup lane home
  pub steps : Steps old moment random action d new

-- Such a step, after which the book holds `held` requests.
pub record StepsHolding (lane : ℕ) (home : HomeEntry) (moment : ℕ) (random : List ℕ) (action : Action) (held : ℕ) (d : Datagrams) : Type 0 where
  pub steps : StepsFor lane home moment random action d
  pub counted : held ≡ length steps.new.accepted

-- A lawful book to which the request leads has this result and these datagrams for it, and is lawful after it.
pub record AcceptsLawfully (request : Request) (moment : ℕ) (result : Result Taken Refusal) (d : Datagrams) : Type 0 where
  pub old : Book
  pub new : Book
  pub lawful : IsLawful old
  pub stays : IsLawful new
  pub taken : IsTaken old request
  pub accepts : Accepts old request moment result d new

-- The fact holds unless the result is `WrongLane`.
abbrev pub UnlessWrongLane : Result Taken Refusal → Type 0 → Type 0
UnlessWrongLane (Ok taken) fact = fact
UnlessWrongLane (Err WrongLane) fact = ⊤
UnlessWrongLane (Err Draining) fact = fact
UnlessWrongLane (Err BookFull) fact = fact
UnlessWrongLane (Err QueueFull) fact = fact
UnlessWrongLane (Err TooLong) fact = fact
UnlessWrongLane (Err OutOfMemory) fact = fact
