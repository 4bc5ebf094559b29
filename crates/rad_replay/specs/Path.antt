-- The path of a NAS's datagram (RFC 2866 section 2.1, Proxy). A request is passed to the lane of its realm. A
-- Status-Server (RFC 5997 section 3) is answered in place. The state of the lane is behind its lock.
use Rattle.std.specs.Prelude.{◌≡◌, ℕ, Result, Ok, Err}
use Rattle.rad_realms.specs.Configuration.{Configuration}
use Rattle.rad_realms.specs.Checking.{Drops}
use Rattle.rad_realms.specs.Incoming.{Takes}
use Rattle.rad_realms.specs.declared.checking.Incoming.{Incoming}
use Rattle.rad_lane.specs.declared.accepting.Refusal.{Refusal}
use Rattle.rad_lane.specs.Datagrams.{Datagrams}
use Rattle.rad_desk.specs.Handling.{Handles}
use Rattle.rad_desk.specs.declared.handling.Handled.{Handled}
use Rattle.rad_replay.specs.declared.path.Arrival.{Arrival}
use Rattle.rad_replay.specs.declared.path.PathFault.{PathFault}
use Rattle.rad_replay.specs.declared.path.PathFault.TheVariants.{Dropped, Refused}

-- The datagram is a valid request or Status-Server, and this is its result with `lanes` lanes.
pub record IsHandled (config : Configuration) (arrival : Arrival) (lanes : ℕ) (outcome : Result Handled Refusal) (d : Datagrams) : Type 0 where
  pub incoming : Incoming
  pub taken : Takes config arrival.address arrival.port arrival.octets.now incoming
  pub handled : Handles incoming arrival.moment lanes outcome d

-- The result of a NAS's datagram. If it is dropped, nothing is written.
abbrev pub TakesIn : Configuration → Arrival → ℕ → Result Handled PathFault → Datagrams → Type 0
TakesIn config arrival lanes (Ok handled) d = IsHandled config arrival lanes (Ok handled) d
TakesIn config arrival lanes (Err (Dropped reason)) d =
    Drops config arrival.address arrival.octets.now reason × (d.after ≡ d.before)
TakesIn config arrival lanes (Err (Refused refusal)) d = IsHandled config arrival lanes (Err refusal) d
