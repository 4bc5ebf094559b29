use Rattle.std.proofs.Common.{◌++◌, ap, sym, subst, ◌∙◌}
use Rattle.rad_server.specs.internal.Accounts.{AreInOrder, came_if, kept_of}
use Rattle.rad_server.specs.internal.Keeping.{sent_departure}
use Rattle.rad_server.specs.internal.Taken.{HaveTaken, given, taken}
use Rattle.rad_server.proofs.Accounts.{handed_more, order_then}
use Rattle.rad_server.proofs.sending.departing.hand_each.Goals as goal

pub loop-waiting-preserved : goal.loop-waiting-preserved
loop-waiting-preserved g c =
    let was = c.loop-waiting.account in
    let on = c.hand-delivery.new.account in
    let now = c.handed.new.self in
    let kept = kept_of c.hand-delivery.new.kept in
    let came = came_if c.hand-delivery.result (sent_departure c.sent-sent.result) in
    record {
      order = λ first. subst (λ t. AreInOrder (taken now.handed.passed) (given t.passed) kept) (sym c.handed.ensures.gone)
          (order_then (taken was.handed.passed) (taken now.handed.passed) came (given was.gone.passed) (kept_of c.loop-waiting.kept) (given on.gone.passed) kept
          (c.handed.ensures.taken ∙ ap (λ t. taken t.passed ++ came) c.hand-delivery.ensures.handed) c.hand-delivery.ensures.order (c.loop-waiting.invariant.order first));
      taken = λ had. subst (λ t. HaveTaken g.S.DatagramSocket.took c.hand-delivery.new.sockets (taken t.passed)) (sym c.handed.ensures.gone)
          (c.hand-delivery.ensures.taken (c.loop-waiting.invariant.taken had));
      handed = handed_more c.args.datagrams.now c.loop-waiting.waiting-index c.waiting-item.result (sent_departure c.sent-sent.result)
          (given c.args.account.now.handed.passed) (given on.handed.passed) (given was.handed.passed) (given now.handed.passed)
          c.loop-waiting-test.true c.waiting-item.is c.sent-sent.ensures.departure c.loop-waiting.invariant.handed (ap (λ t. given t.passed) c.hand-delivery.ensures.handed) c.handed.ensures.handed;
    }
