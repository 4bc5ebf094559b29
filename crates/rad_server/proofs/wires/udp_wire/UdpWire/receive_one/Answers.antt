use Rattle.std.proofs.Common.{ap, sym, ◌∙◌, map}
use Rattle.rad_server.specs.internal.Taken.{plain, taken}
use Rattle.rad_server.proofs.wires.udp_wire.UdpWire.receive_one.Goals as goal

pub invariant_of-self : goal.invariant_of-self
invariant_of-self g c =
    let same = sym (ap (λ t. taken t.passed) c.receive.ensures.sent) in
    record {
      passed = c.args.self.now.passed ∙ ap (map plain) same;
      places = λ none. c.args.self.now.places none ∙ same;
    }
