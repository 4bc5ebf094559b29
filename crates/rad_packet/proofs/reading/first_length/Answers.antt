use Rattle.std.proofs.Common.{arith}
use Rattle.rad_packet.proofs.Parts.{begins_attribute}
use Rattle.rad_packet.proofs.reading.first_length.Goals as goal

pub returns : goal.returns
returns c =
    begins_attribute c.args.octets.now c.from-length.result c.in-len2-up.len_at_least c.from-length.ensures c.if-length-lt-LEAST_ATTRIBUTE_LENGTH.false c.if-length-octets.false (λ i. omega (arith, c.type_inv.octets i))
