use Rattle.rad_packet.proofs.Joined.{attributes_of-is}
use Rattle.rad_packet.proofs.laws.attributes_of_joined.Goals as goal

pub returns : goal.returns
returns c = attributes_of-is
