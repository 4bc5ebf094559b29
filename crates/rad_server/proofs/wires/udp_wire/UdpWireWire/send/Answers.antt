use Rattle.std.proofs.Common.{ℕ, ◌++◌, refl, ap, sym, ◌∙◌}
use Rattle.rad_config.specs.declared.reading.address.Endpoint.{Endpoint}
use Rattle.rad_server.specs.internal.Accounts.{came_if}
use Rattle.rad_server.specs.internal.Taken.{Departure, taken}
use Rattle.rad_server.proofs.Accounts.{plain_more, same_more, taken_one}
use Rattle.rad_server.proofs.wires.udp_wire.UdpWireWire.send.Goals as goal

pub invariant_of-self : goal.invariant_of-self
invariant_of-self g c =
    let to : Endpoint = record { address = c.args.address; port = c.args.port } in
    let one_from : ℕ → Departure = λ n. record { socket = n; to = to; octets = c.args.octets.now } in
    let one = one_from c.args.socket in
    let other = one_from c.index_of-from.result in
    let on = taken c.args.self.now.traffic.passed in
    let off = taken c.args.self.now.polled.sent.passed in
    let on' = taken c.departed.new.self.passed in
    let off' = taken c.send-delivery.new.self.sent.passed in
    let more = ap taken c.departed.ensures ∙ taken_one c.args.self.now.traffic.passed c.args.socket to c.args.octets.now c.send-delivery.result in
    let more' = c.send-delivery.ensures ∙ ap (λ t. taken t.passed ++ came_if c.send-delivery.result other) c.set_moment.ensures in
    record {
      passed = plain_more on on' off off' c.send-delivery.result one other more more' refl c.args.self.now.passed;
      places = λ none. same_more on on' off off' c.send-delivery.result one other more more' (ap one_from (sym (c.index_of-from.ensures none))) (c.args.self.now.places none);
    }
