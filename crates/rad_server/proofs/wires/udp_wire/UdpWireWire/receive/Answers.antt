use Rattle.std.proofs.Common.{refl, ap, ◌∙◌, map}
use Rattle.rad_server.specs.internal.Taken.{plain, taken}
use Rattle.rad_server.proofs.Accounts.{taken_beside}
use Rattle.rad_server.proofs.wires.udp_wire.UdpWireWire.receive.Goals as goal

pub invariant_of-self : goal.invariant_of-self
invariant_of-self g c =
    let now = c.receive_next-received.new.self in
    let same = ap taken c.arrived.ensures ∙ taken_beside now.traffic.passed _ refl in
    record {
      passed = ap (map plain) same ∙ now.passed;
      places = λ none. same ∙ now.places none;
    }
