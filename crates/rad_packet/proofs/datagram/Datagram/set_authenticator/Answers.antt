use Rattle.std.proofs.Common.{◌≡◌, ◌∙◌, ◌+◌, ◌≤◌, length, ap, take, drop, ◌++◌, arith}
use Rattle.std.proofs.lemmas.List.{length-take-le}
use Rattle.rad_packet.specs.Packet.{IsPacketText, packet_text, code_of, identifier_of, attribute_octets}
use Rattle.rad_packet.proofs.Buffer.{take-put_within}
use Rattle.rad_packet.proofs.Parts.{set_authenticator-is, same_attributes-is}
use Rattle.rad_packet.proofs.datagram.Datagram.set_authenticator.Goals as goal

-- the text after the call
after : (c : goal.After-put) → take c.self.inside.length c.put.new.buffer ≡ packet_text (code_of (take c.self.inside.length c.self.inside.octets)) (identifier_of (take c.self.inside.length c.self.inside.octets)) c.args.authenticator (attribute_octets (take c.self.inside.length c.self.inside.octets))
after c =
    let text = take c.self.inside.length c.self.inside.octets in
    let is_text : IsPacketText text = c.self.invariant.1 in
    let sixteen : length c.args.authenticator ≡ 16 = omega arith in
    let end : 4 + length c.args.authenticator ≡ 20 = omega arith in
    let room : c.self.inside.length ≤ length c.self.inside.octets = omega (arith, c.self.told, c.self.invariant.0) in
    let within : 4 + length c.args.authenticator ≤ c.self.inside.length = omega (arith, is_text.least, length-take-le c.self.inside.length c.self.inside.octets room) in
    ap (take c.self.inside.length) c.put.ensures.after
    ∙ (take-put_within c.self.inside.octets c.args.authenticator 4 (4 + length c.args.authenticator) c.self.inside.length (omega arith) within room
    ∙ (ap (λ n. take 4 text ++ c.args.authenticator ++ drop n text) end
    ∙ set_authenticator-is text c.args.authenticator is_text sixteen))

pub invariant_of-self : goal.invariant_of-self
invariant_of-self c =
    let text = take c.self.inside.length c.self.inside.octets in
    let is_text : IsPacketText text = c.self.invariant.1 in
    let sixteen : length c.args.authenticator ≡ 16 = omega arith in (
      c.self.invariant.0,
      rw (after c)
          (same_attributes-is text (code_of text) (identifier_of text) c.args.authenticator is_text (is_text.octets 0) (is_text.octets 1) c.put.ensures.octets sixteen),
    )

pub returns : goal.returns
returns c = rw (← c.self.view_is) (after c)
