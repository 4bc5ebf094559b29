use Rattle.std.proofs.Common.{◌≡◌, ◌∙◌, ◌+◌, ◌∷◌, [], ◌++◌, length, ap, sym, take, drop, arith}
use Rattle.std.proofs.lemmas.List.{append-nil}
use Rattle.rad_packet.specs.Packet.{packet_text, AreOctets}
use Rattle.rad_packet.proofs.Buffer.{header-is}
use Rattle.rad_packet.proofs.Parts.{packet_text-is, AreOctets-nil, AreAttributes-nil}
use Rattle.rad_packet.proofs.datagram.Datagram.begin.Goals as goal

-- the text after the call
after : (c : goal.After-self-1) → take 20 c.put-2.new.buffer ≡ packet_text c.args.code c.args.identifier c.args.authenticator []
after c =
    let authenticator : c.as_slice.result.now ≡ c.args.authenticator = c.as_slice.ensures in
    let end = 4 + length c.as_slice.result.now in
    let len : length c.as_slice.result.now ≡ 16 = omega (arith, ap length authenticator) in
    ap (take 20) c.put-2.ensures.after
    ∙ (ap (λ ys. take 20 (take 4 ys ++ c.as_slice.result.now ++ drop end ys)) c.put.ensures.after
    ∙ (header-is c.self.inside.octets c.as_slice.result.now c.args.code c.args.identifier 0 20 4 end (omega arith) (omega (arith, len)) len
    ∙ ap (λ xs. c.args.code ∷ c.args.identifier ∷ 0 ∷ 20 ∷ xs) (authenticator ∙ sym (append-nil c.args.authenticator))))

pub invariant_of-self : goal.invariant_of-self
invariant_of-self c =
    let octets : AreOctets c.args.authenticator = rw c.as_slice.ensures at c.put-2.ensures.octets in (
      omega arith,
      rw (after c)
          (packet_text-is c.args.code c.args.identifier c.args.authenticator [] (omega arith) (omega arith) octets (omega arith) AreOctets-nil (omega arith) AreAttributes-nil),
    )

pub returns : goal.returns
returns c = after c
