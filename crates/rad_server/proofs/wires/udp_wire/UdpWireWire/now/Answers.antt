use Rattle.std.proofs.Common.{refl, ap, ◌∙◌, map}
use Rattle.rad_desk.specs.Traffic.{told}
use Rattle.rad_server.specs.internal.Taken.{plain, taken}
use Rattle.rad_server.proofs.Accounts.{taken_beside}
use Rattle.rad_server.proofs.wires.udp_wire.UdpWireWire.now.Goals as goal

pub invariant_of-self : goal.invariant_of-self
invariant_of-self g c =
    let same = ap taken c.told.ensures ∙ taken_beside c.args.self.now.traffic.passed (told c.now-moment.result) refl in
    record {
      passed = ap (map plain) same ∙ c.args.self.now.passed;
      places = λ none. same ∙ c.args.self.now.places none;
    }
