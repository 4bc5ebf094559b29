-- A reply as it is kept (own): its packets and secrets, one after another, in one list of octets. No public clause
-- cites this module, but the model of a reply does.
use Rattle.std.specs.Prelude.{ℕ, ◌+◌, ◌≤◌, List, length, take, drop, slice_range}
use Rattle.rad_packet.specs.Packet.{IsPacketText}
use Rattle.rad_auth.specs.Replied.{Replied, IsAnswer}
use Rattle.rad_auth.specs.declared.reply.RequestHead.{RequestHead}

-- The response ends at the place `response`, the sending at `sending`, and the reply at `reply`. The client's secret
-- is the next `client` octets, and the home server's secret is the rest.
abbrev pub parted : RequestHead → List ℕ → ℕ → ℕ → ℕ → ℕ → Replied
parted head octets response sending reply client = record {
  head = head;
  sending = slice_range octets response sending;
  reply = slice_range octets sending reply;
  client = slice_range octets reply (reply + client);
  home = drop (reply + client) octets;
  response = take response octets;
}

-- The places are in order and within the octets, the sending is a packet, and the parts are an answer.
pub record IsParted (head : RequestHead) (octets : List ℕ) (response sending reply client : ℕ) : Type 0 where
  pub first : response ≤ sending
  pub second : sending ≤ reply
  pub within : reply ≤ length octets
  pub sending_packet : IsPacketText (slice_range octets response sending)
  pub answers : IsAnswer (parted head octets response sending reply client)
