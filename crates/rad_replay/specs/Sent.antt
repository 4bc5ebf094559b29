-- The Authenticators of the packets that each source port sent last, by Identifier (own).
use Rattle.std.specs.Prelude.{◌≡◌, ℕ, Bool, true, false, List, slice_get, slice_set, MatchOption, MatchBool, Option, Some, None}
use Rattle.rad_packet.specs.Packet.{identifier_of, authenticator_of}
use Rattle.rad_lane.specs.declared.stepping.Action.{Action}
use Rattle.rad_lane.specs.declared.stepping.Action.TheVariants.{Sent, Resent, Probed, WentDown, WentUp, Idle}

-- What a port sent last, by Identifier, after it has sent this packet.
abbrev pub with_sent : List (List ℕ) → List ℕ → List (List ℕ)
with_sent last packet = slice_set last (identifier_of packet) (authenticator_of packet)

-- Whether a step gave a packet to be sent.
abbrev pub sends : Action → Bool
sends (Sent number slot) = true
sends (Resent number slot) = true
sends (Probed slot) = true
sends WentDown = false
sends WentUp = false
sends (Idle next) = false

-- This port has sent the packet, and the others are unchanged. If there is no such port, all are unchanged.
abbrev pub KeepsAt : List (List (List ℕ)) → ℕ → List ℕ → List (List (List ℕ)) → Type 0
KeepsAt old port packet new =
    MatchOption (slice_get old port) (new ≡ old) (λ last. new ≡ slice_set old port (with_sent last packet))

-- The same if the step gave the packet to be sent; otherwise all are unchanged.
abbrev pub KeepsSent : List (List (List ℕ)) → ℕ → Action → List ℕ → List (List (List ℕ)) → Type 0
KeepsSent old port action packet new = MatchBool (sends action) (KeepsAt old port packet new) (new ≡ old)

-- The source port that a step's packet is sent from.
abbrev pub port_of : Action → Option ℕ
port_of (Sent number slot) = Some slot.port
port_of (Resent number slot) = Some slot.port
port_of (Probed slot) = Some slot.port
port_of WentDown = None
port_of WentUp = None
port_of (Idle next) = None
