use Rattle.std.proofs.Common.{◌∙◌}
use Rattle.rad_lane.proofs.entry.Entry.send_again.Goals as goal

pub returns-clause-octets : goal.returns-clause-octets
returns-clause-octets c = rw c.in-Sending.is (c.load.ensures ∙ c.packet.ensures)
