use Rattle.std.proofs.Common.{◌≡◌, [], length, take, vec_len, vec_capacity}
use Rattle.std.specs.Prelude.{replicate}
use Rattle.rad_packet.specs.Packet.{packet_text}
use Rattle.rad_lane.specs.Runs.{Runs}
use Rattle.rad_lane.proofs.RunsOneMore.{datagram_after}
use Rattle.rad_lane.proofs.running.run.Given as goal

abbrev pub invariant-loop-event : goal.invariant-loop-event
invariant-loop-event g l = record {
  runs : Runs l.fn.lane (packet_text 0 0 (replicate 16 0) []) (take l.event-index l.events) l.gives.items l.lane;
  datagram : l.datagram ≡ datagram_after (packet_text 0 0 (replicate 16 0) []) l.gives.items;
  setup : l.lane.setup ≡ l.fn.lane.setup;
  count : vec_len l.gives ≡ l.event-index;
  room : vec_capacity l.gives ≡ length l.events;
}
