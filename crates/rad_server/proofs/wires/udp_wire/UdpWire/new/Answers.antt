use Rattle.std.proofs.Common.{sym, ap, ◌∙◌, map}
use Rattle.rad_server.specs.internal.Taken.{plain, taken}
use Rattle.rad_server.proofs.wires.udp_wire.UdpWire.new.Goals as goal

pub invariant_of-result : goal.invariant_of-result
invariant_of-result g c =
    let none = ap taken (c.new-traffic.ensures ∙ sym c.requires) in
    record { passed = ap (map plain) none; places = λ without. none }
