use Rattle.std.proofs.Common.{sym, subst}
use Rattle.rad_packet.specs.Packet.{IsPacketText}
use Rattle.rad_replay.proofs.sent.keep_sent.Goals as goal

pub keep-requires : goal.keep-requires
keep-requires c = subst IsPacketText (sym c.bytes.ensures.value) c.bytes.ensures.packet
