use Rattle.std.proofs.Common.{[], ◌∷◌, ◌++◌, ap, sym, subst, ◌∙◌}
use Rattle.std.proofs.lemmas.List.{append-nil}
use Rattle.rad_server.specs.internal.Accounts.{AreInOrder, kept_of}
use Rattle.rad_server.specs.internal.Keeping.{sent_departure, waiting_in}
use Rattle.rad_server.specs.internal.Taken.{HaveTaken, given, taken}
use Rattle.rad_server.proofs.Accounts.{order_same, order_then, over_one}
use Rattle.rad_server.proofs.sending.departing.Departures.send_now.Goals as goal

pub returns-in-Sent-clause-accounted : goal.returns-in-Sent-clause-accounted
returns-in-Sent-clause-accounted g c = λ before was.
    let mid = c.hand_over.new.self in
    let on = c.hand.new.account in
    let now = c.handed.new.self in
    let kept = kept_of c.hand.new.kept in
    let here = c.hand_over.ensures.accounted before was in
    let d = sent_departure c.args.sent in
    record {
      handed = over_one before (waiting_in mid.outbox) (given mid.account.handed.passed) (given on.handed.passed) (given now.handed.passed) d
          here.handed c.hand_over.ensures.empty (ap (λ t. given t.passed) c.hand.ensures.handed) c.handed.ensures.handed;
      in_order = subst (λ t. AreInOrder (taken now.handed.passed) (given t.passed) kept) (sym c.handed.ensures.gone)
          (order_then (taken mid.account.handed.passed) (taken now.handed.passed) (d ∷ []) (given mid.account.gone.passed) (kept_of mid.kept) (given on.gone.passed) kept
          (c.handed.ensures.taken ∙ ap (λ t. taken t.passed ++ d ∷ []) c.hand.ensures.handed) c.in-Sent.ensures.order here.in_order);
    }

pub returns-in-Sent-clause-taken : goal.returns-in-Sent-clause-taken
returns-in-Sent-clause-taken g c = λ had.
    subst (λ t. HaveTaken g.S.DatagramSocket.took c.hand.new.sockets (taken t.passed)) (sym c.handed.ensures.gone) (c.hand.ensures.taken (c.hand_over.ensures.taken had))

pub returns-in-Fault-clause-accounted : goal.returns-in-Fault-clause-accounted
returns-in-Fault-clause-accounted g c = λ before was.
    let mid = c.hand_over.new.self in
    let on = c.hand.new.account in
    let here = c.hand_over.ensures.accounted before was in
    record {
      handed = append-nil before ∙ (here.handed ∙ ap (λ t. given t.passed ++ waiting_in mid.outbox) (sym c.hand.ensures.handed));
      in_order = order_same (taken mid.account.handed.passed) (taken on.handed.passed) (given mid.account.gone.passed) (kept_of mid.kept) (given on.gone.passed) (kept_of c.hand.new.kept)
          (ap (λ t. taken t.passed) c.hand.ensures.handed) c.in-Fault.ensures.order here.in_order;
    }

pub returns-in-Fault-clause-taken : goal.returns-in-Fault-clause-taken
returns-in-Fault-clause-taken g c = λ had. c.hand.ensures.taken (c.hand_over.ensures.taken had)
