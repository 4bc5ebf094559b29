use Rattle.std.proofs.Common.{◌∙◌, take, arith}
use Rattle.rad_packet.specs.Packet.{IsPacketText, code_of, authenticator_of}
use Rattle.rad_packet.proofs.Parts.{take-set, set_identifier-is, same_attributes-is, AreOctets-authenticator_of, length-authenticator_of}
use Rattle.rad_packet.proofs.datagram.Datagram.set_identifier.Goals as goal

pub invariant_of-self : goal.invariant_of-self
invariant_of-self c =
    let text = take c.self.inside.length c.self.inside.octets in
    let is_text : IsPacketText text = c.self.invariant.1 in (
      c.self.invariant.0,
      rw (take-set c.self.inside.length 1 c.self.inside.octets c.args.identifier, set_identifier-is text c.args.identifier is_text)
          (same_attributes-is text (code_of text) c.args.identifier (authenticator_of text) is_text (is_text.octets 0) (omega arith) (AreOctets-authenticator_of text is_text) (length-authenticator_of text is_text.least)),
    )

pub returns : goal.returns
returns c =
    rw (← c.self.view_is)
    (take-set c.self.inside.length 1 c.self.inside.octets c.args.identifier
    ∙ set_identifier-is (take c.self.inside.length c.self.inside.octets) c.args.identifier c.self.invariant.1)
