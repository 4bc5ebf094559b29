use Rattle.std.proofs.Common.{◌≡◌, ◌∙◌, ◌+◌, ◌≤◌, ◌/◌, ◌%◌, length, ap, take, set, arith}
use Rattle.std.proofs.lemmas.List.{length-take-le}
use Rattle.rad_packet.specs.Packet.{IsPacketText, with_attributes, code_of, identifier_of, authenticator_of}
use Rattle.rad_packet.proofs.Buffer.{take-put_behind, take-sets}
use Rattle.rad_packet.proofs.Parts.{add_attributes-is, changed-is, AreOctets-authenticator_of, length-authenticator_of}
use Rattle.rad_packet.proofs.datagram.Datagram.push_all.Goals as goal

-- the text after the call
after : (c : goal.After-put_length) → take (c.self.inside.length + length c.args.attributes.now) c.put_length.new.packet ≡ with_attributes (take c.self.inside.length c.self.inside.octets) c.args.attributes.now
after c =
    let text = take c.self.inside.length c.self.inside.octets in
    let more = c.args.attributes.now in
    let end = c.self.inside.length + length c.args.attributes.now in
    let room : c.self.inside.length ≤ length c.self.inside.octets = omega (arith, c.self.told, c.self.invariant.0) in
    ap (take end) c.put_length.ensures
    ∙ (take-sets end c.put.new.buffer (end / 256) (end % 256)
    ∙ (ap (λ xs. set (set (take end xs) 2 (end / 256)) 3 (end % 256)) c.put.ensures.after
    ∙ (ap (λ xs. set (set xs 2 (end / 256)) 3 (end % 256)) (take-put_behind c.self.inside.octets more c.self.inside.length end room (omega arith))
    ∙ add_attributes-is text more end c.self.invariant.1 (omega (arith, length-take-le c.self.inside.length c.self.inside.octets room)))))

pub invariant_of-self : goal.invariant_of-self
invariant_of-self c =
    let text = take c.self.inside.length c.self.inside.octets in
    let is_text : IsPacketText text = c.self.invariant.1 in
    let room : c.self.inside.length ≤ length c.self.inside.octets = omega (arith, c.self.told, c.self.invariant.0) in
    let fits : length text + length c.args.attributes.now ≤ 4096 = omega (arith, length-take-le c.self.inside.length c.self.inside.octets room) in (
      omega arith,
      rw (after c)
          (changed-is text (code_of text) (identifier_of text) (authenticator_of text) c.args.attributes.now is_text (is_text.octets 0) (is_text.octets 1) (AreOctets-authenticator_of text is_text) (length-authenticator_of text is_text.least) c.put.ensures.octets c.requires fits),
    )

pub returns-clause-added : goal.returns-clause-added
returns-clause-added c = rw (← c.self.view_is) (after c)
