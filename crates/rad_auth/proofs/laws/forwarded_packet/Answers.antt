use Rattle.rad_auth.proofs.Forwards.{forwarded-packet, forwarded-code, forwarded-identifier, forwarded-length, forwarded-right, forwarded-attributes}
use Rattle.rad_auth.proofs.laws.forwarded_packet.Goals as goal

pub returns-clause-packet : goal.returns-clause-packet
returns-clause-packet c = forwarded-packet

pub returns-clause-code : goal.returns-clause-code
returns-clause-code c = forwarded-code

pub returns-clause-identifier : goal.returns-clause-identifier
returns-clause-identifier c = forwarded-identifier

pub returns-clause-counted : goal.returns-clause-counted
returns-clause-counted c = forwarded-length

pub returns-clause-right : goal.returns-clause-right
returns-clause-right c = forwarded-right

pub returns-clause-attributes : goal.returns-clause-attributes
returns-clause-attributes c = forwarded-attributes
