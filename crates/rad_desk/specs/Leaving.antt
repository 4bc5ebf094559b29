-- What a ledger is told of what is left (own).
use Rattle.std.specs.Prelude.{ℕ, ◌-◌, List, [], ◌∷◌, ◌++◌, length, take, drop, map as each, nat_lt, if◌then◌else◌, Option, Some, None}
use Rattle.std.specs.List.{flat_map, range_with_len}
use Rattle.std.specs.FinMap as map
use Rattle.rad_packet.specs.Packet.{attribute_octets, packet_text}
use Rattle.rad_auth.specs.declared.reply.RequestHead.{RequestHead}
use Rattle.rad_tables.specs.Pairs.{Table}
use Rattle.rad_lane.specs.declared.entry.Entry.{Entry}
use Rattle.rad_lane.specs.declared.entry.Entry.TheVariants.{Sending as sending, Probe as probe}
use Rattle.rad_lane.specs.declared.outgoing.Outgoing.{Outgoing}
use Rattle.rad_lane.specs.declared.stamp.Stamp.{Stamp}
use Rattle.rad_lane.specs.Stamp.{Recorded, Kept}
use Rattle.rad_lane.specs.Outstanding.{Outstanding}
use Rattle.locked_lanes.specs.declared.report.LaneEnd.{LaneEnd}
use Rattle.locked_lanes.specs.declared.report.Rest.{Rest}
use Rattle.locked_lanes.specs.declared.report.Rest.TheVariants.{Known, Unknown}
use Rattle.locked_lanes.specs.Fates.{marked_number}
use Rattle.rad_desk.specs.declared.leaving.LeftRecord.{LeftRecord}
use Rattle.rad_desk.specs.declared.ledger.LeftHead.{LeftHead}
use Rattle.rad_lane.specs.declared.leftover.LeftState.{LeftState}
use Rattle.rad_lane.specs.declared.leftover.LeftState.TheVariants as state

-- A request that is left: its lane, its number there, its client's address and port, its Identifier and Authenticator, the
-- state in which it is left, and the packet as it came.
pub record Left : Type 0 where
  pub lane : ℕ
  pub number : ℕ
  pub client : List ℕ
  pub port : ℕ
  pub identifier : ℕ
  pub authenticator : List ℕ
  pub state : LeftState
  pub request : List ℕ

-- A request of this head that came as these octets.
abbrev pub left_of : LeftHead → List ℕ → Left
left_of head octets = record {
  lane = head.lane;
  number = head.number;
  client = head.client;
  port = head.port;
  identifier = head.identifier;
  authenticator = head.authenticator;
  state = head.state;
  request = octets;
}

abbrev pub as_left : LeftRecord → Left
as_left told = record {
  lane = told.lane;
  number = told.number;
  client = told.client;
  port = told.port;
  identifier = told.identifier;
  authenticator = told.authenticator;
  state = told.state;
  request = told.request.now;
}

-- What a ledger was told once it was told of these too, behind those before. A ledger may keep no list.
abbrev pub left_with : Option (List Left) → List Left → Option (List Left)
left_with None more = None
left_with (Some before) more = Some (before ++ more)

-- How many milliseconds before this moment a request of this stamp was accepted.
abbrev pub age_at : ℕ → Stamp → ℕ
age_at now stamp = now - stamp.moment

-- The request of a record, in a state.
abbrev pub recorded_left : ℕ → LeftState → Recorded → Left
recorded_left lane state recorded = record {
  lane = lane;
  number = recorded.stamp.number;
  client = recorded.stamp.client;
  port = recorded.stamp.port;
  identifier = recorded.stamp.identifier;
  authenticator = recorded.stamp.authenticator;
  state = state;
  request = recorded.text;
}

abbrev pub queued_left : ℕ → Recorded → Left
queued_left lane recorded = recorded_left lane state.Queued recorded

abbrev pub outstanding_left : ℕ → Outstanding → Left
outstanding_left lane entry = recorded_left lane state.Outstanding entry.request

-- The request of this head that was sent to a home server as these octets: its attributes are the ones that were sent, without
-- the last one, the mark, which has twelve octets. Fewer than 32 octets, or more than 4096, are no packet with a mark.
abbrev pub restored : RequestHead → List ℕ → List ℕ
restored head sent =
    if nat_lt (length sent) 32 then [] else if nat_lt 4096 (length sent) then [] else packet_text 4 head.identifier head.authenticator (take (length sent - 32) (attribute_octets sent))

-- The request that a response answers.
abbrev pub untaken_left : ℕ → Outgoing → Left
untaken_left lane outgoing = record {
  lane = lane;
  number = marked_number outgoing.reply.sending;
  client = outgoing.client;
  port = outgoing.port;
  identifier = outgoing.reply.head.identifier;
  authenticator = outgoing.reply.head.authenticator;
  state = state.Untaken;
  request = restored outgoing.reply.head outgoing.reply.sending;
}

-- What is left of a lane's answered requests: those whose responses nobody took, if these are known.
abbrev pub left_of_rest : ℕ → Rest → List Left
left_of_rest lane (Known rest) = each (untaken_left lane) rest
left_of_rest lane Unknown = []

-- The request that is outstanding under a pair, if there is one.
abbrev pub left_in : ℕ → Option Entry → List Left
left_in lane None = []
left_in lane (Some (sending entry)) = outstanding_left lane entry ∷ []
left_in lane (Some (probe octets)) = []

abbrev pub left_at : ℕ → Table Entry → ℕ → ℕ → List Left
left_at lane outstanding port identifier = left_in lane (map.get outstanding.entries (record { port = port; identifier = identifier }))

-- Those that were sent from a source port, in the order of their Identifiers; and all, in the order of the ports, of which there are
-- four at most.
unfoldable pub left_under : ℕ → Table Entry → ℕ → List Left
left_under lane outstanding port = flat_map (left_at lane outstanding port) (range_with_len 0 256)

unfoldable pub left_of_pairs : ℕ → Table Entry → List Left
left_of_pairs lane outstanding = flat_map (left_under lane outstanding) (range_with_len 0 4)

-- The records of a queue.
abbrev pub left_of_queue : ℕ → List Kept → List Left
left_of_queue lane queued = each (λ kept. queued_left lane kept.recorded) queued

-- What is left of a lane: its answered, its outstanding and its queued requests.
abbrev pub left_of_lane : LaneEnd → List Kept → List Left
left_of_lane end queued =
    left_of_rest end.lane end.rest ++ (left_of_pairs end.lane end.outstanding ++ left_of_queue end.lane queued)

-- What is left of all lanes. The queue has the records of the first lane, as many as it counts, then those of the next one, and so on.
abbrev pub left_of_all : List LaneEnd → List Kept → List Left
left_of_all [] queued = []
left_of_all (end ∷ ends) queued =
    left_of_lane end (take end.counts.queued queued) ++ left_of_all ends (drop end.counts.queued queued)
