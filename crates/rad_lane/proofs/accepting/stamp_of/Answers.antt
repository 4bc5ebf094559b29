use Rattle.std.proofs.Common.{refl}
use Rattle.rad_lane.proofs.accepting.stamp_of.Goals as goal

pub returns : goal.returns
returns c = rw (c.client.ensures, c.port.ensures, c.identifier.ensures, c.authenticator.ensures, c.packet-packet.ensures.text) refl
