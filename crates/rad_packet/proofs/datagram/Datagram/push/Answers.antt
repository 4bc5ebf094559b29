use Rattle.std.proofs.Common.{◌≡◌, ◌∙◌, ◌+◌, ◌≤◌, ◌/◌, ◌%◌, ◌∷◌, [], ◌++◌, length, ap, take, set, arith, append_assoc}
use Rattle.std.proofs.lemmas.List.{length-take-le}
use Rattle.rad_packet.specs.Attribute.{attribute_text}
use Rattle.rad_packet.specs.Packet.{IsPacketText, with_attributes, code_of, identifier_of, authenticator_of}
use Rattle.rad_packet.proofs.Buffer.{take-put_behind, take-sets}
use Rattle.rad_packet.proofs.Parts.{add_attributes-is, changed-is, AreAttributes-one, AreOctets-append, AreOctets-authenticator_of, length-authenticator_of}
use Rattle.rad_packet.proofs.datagram.Datagram.push.Goals as goal

-- the text after the call
after : (c : goal.After-put_length) → take (c.self.inside.length + 2 + length c.args.value.now) c.put_length.new.packet ≡ with_attributes (take c.self.inside.length c.self.inside.octets) (c.args.kind ∷ (length c.args.value.now + 2) ∷ c.args.value.now)
after c =
    let text = take c.self.inside.length c.self.inside.octets in
    let head = c.args.kind ∷ (length c.args.value.now + 2) ∷ [] in
    let value = c.args.value.now in
    let middle = c.self.inside.length + 2 in
    let end = c.self.inside.length + 2 + length c.args.value.now in
    let room : c.self.inside.length ≤ length c.self.inside.octets = omega (arith, c.self.told, c.self.invariant.0) in
    let behind : take middle c.put.new.buffer ≡ text ++ head =
    ap (take middle) c.put.ensures.after ∙ take-put_behind c.self.inside.octets head c.self.inside.length middle room (omega arith) in
    let room2 : middle ≤ length c.put.new.buffer = omega arith in
    ap (take end) c.put_length.ensures
    ∙ (take-sets end c.put-2.new.buffer (end / 256) (end % 256)
    ∙ (ap (λ xs. set (set (take end xs) 2 (end / 256)) 3 (end % 256)) c.put-2.ensures.after
    ∙ (ap (λ xs. set (set xs 2 (end / 256)) 3 (end % 256)) (take-put_behind c.put.new.buffer value middle end room2 (omega arith))
    ∙ (ap (λ xs. set (set (xs ++ value) 2 (end / 256)) 3 (end % 256)) behind
    ∙ (ap (λ xs. set (set xs 2 (end / 256)) 3 (end % 256)) (append_assoc text head value)
    ∙ add_attributes-is text (head ++ value) end c.self.invariant.1 (omega (arith, length-take-le c.self.inside.length c.self.inside.octets room)))))))

pub invariant_of-self : goal.invariant_of-self
invariant_of-self c =
    let text = take c.self.inside.length c.self.inside.octets in
    let is_text : IsPacketText text = c.self.invariant.1 in
    let room : c.self.inside.length ≤ length c.self.inside.octets = omega (arith, c.self.told, c.self.invariant.0) in
    let fits : length text + length (attribute_text (record { kind = c.args.kind; value = c.args.value.now })) ≤ 4096 = omega (arith, length-take-le c.self.inside.length c.self.inside.octets room) in (
      omega arith,
      rw (after c)
          (changed-is text (code_of text) (identifier_of text) (authenticator_of text) (c.args.kind ∷ (length c.args.value.now + 2) ∷ c.args.value.now) is_text (is_text.octets 0) (is_text.octets 1) (AreOctets-authenticator_of text is_text) (length-authenticator_of text is_text.least)
          (AreOctets-append (c.args.kind ∷ (length c.args.value.now + 2) ∷ []) c.args.value.now c.put.ensures.octets c.put-2.ensures.octets)
          (AreAttributes-one (record { kind = c.args.kind; value = c.args.value.now }) (record { kind = omega arith; value = omega arith }))
          fits),
    )

pub returns-clause-added : goal.returns-clause-added
returns-clause-added c = rw (← c.self.view_is) (after c)
