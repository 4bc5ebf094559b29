use Rattle.rad_server.proofs.wires.udp_wire.UdpWire.answer.Goals as goal

pub invariant_of-self : goal.invariant_of-self
invariant_of-self g c = record {
  passed = c.args.self.now.passed;
  places = λ none. c.args.self.now.places (c.known_receive.ensures.none none);
}
