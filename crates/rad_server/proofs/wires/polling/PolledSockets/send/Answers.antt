use Rattle.std.proofs.Common.{ap, sym, subst, ◌∙◌, arith}
use Rattle.rad_server.specs.internal.Accounts.{IsAccounted}
use Rattle.rad_server.specs.internal.Taken.{taken}
use Rattle.rad_server.proofs.Accounts.{taken_one}
use Rattle.rad_server.proofs.SocketLists.{these_on}
use Rattle.rad_server.proofs.wires.polling.PolledSockets.send.Goals as goal

pub returns : goal.returns
returns g c = ap taken c.departed.ensures ∙ taken_one c.args.self.now.sent.passed c.args.socket c.args.to c.args.octets.now c.send-delivery.result

pub invariant_of-self-2 : goal.invariant_of-self-2
invariant_of-self-2 g c =
    let on = ap taken c.departed.ensures ∙ taken_one c.args.self.now.sent.passed c.args.socket c.args.to c.args.octets.now c.send-delivery.result in
    record {
      accounted = subst (λ l. IsAccounted l c.send-delivery.new.self) (sym on) (c.send-delivery.ensures.accounted (taken c.args.self.now.sent.passed) c.args.self.now.accounted);
      took =
          these_on c.args.self.now.sockets.items c.as_mut_slice-sockets.result.now c.send-delivery.new.sockets (taken c.args.self.now.departures.account.gone.passed) (taken c.send-delivery.new.self.account.gone.passed)
          c.args.self.now.sockets.len c.as_mut_slice-sockets.ensures.value (omega (arith, c.send-delivery.auto.sockets, c.as_mut_slice-sockets.ensures.len)) c.send-delivery.ensures.taken c.args.self.now.took;
    }
