use Rattle.rad_packet.specs.Packet.{IsPacketText}
use Rattle.std.proofs.lemmas.List.{take_at}
use Rattle.std.proofs.Common.{◌≡◌, length, take, refl, sym, ap, subst, ◌∙◌}
use Rattle.rad_packet.proofs.datagram.Datagram.load.Goals as goal

pub invariant_of-self : goal.invariant_of-self
invariant_of-self c =
    let octets = c.octets-octets.result.now in
    let front : take (length octets) c.put.new.buffer ≡ octets = ap (take (length octets)) c.put.ensures.after ∙ take_at octets _ (length octets) refl in
    let packet : IsPacketText octets = subst IsPacketText (sym c.octets-octets.ensures.value) c.octets-octets.ensures.packet in
    (packet.most, subst IsPacketText (sym front) packet)

pub returns : goal.returns
returns c =
    let octets = c.octets-octets.result.now in
    let front : take (length octets) c.put.new.buffer ≡ octets = ap (take (length octets)) c.put.ensures.after ∙ take_at octets _ (length octets) refl in
    front ∙ c.octets-octets.ensures.value
