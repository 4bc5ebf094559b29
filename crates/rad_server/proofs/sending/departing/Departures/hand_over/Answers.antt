use Rattle.std.proofs.Common.{◌++◌, ap, ◌∙◌}
use Rattle.rad_server.specs.internal.Accounts.{kept_of}
use Rattle.rad_server.specs.internal.Keeping.{waiting_in}
use Rattle.rad_server.specs.internal.Taken.{given, taken}
use Rattle.rad_server.proofs.Accounts.{order_same, over_all}
use Rattle.rad_server.proofs.sending.departing.Departures.hand_over.Goals as goal

pub returns-clause-accounted : goal.returns-clause-accounted
returns-clause-accounted g c = λ sent was.
    let old = c.args.self.now in
    let begun = c.begin_round.new in
    let each = c.hand_each.new in
    let last = c.hand_if_kept.new in
    record {
      handed = over_all sent (waiting_in old.outbox) (waiting_in c.clear.new.self)
          (given old.account.handed.passed) (given begun.account.handed.passed) (given each.account.handed.passed) (given last.account.handed.passed)
          was.handed (ap (λ t. given t.passed) c.begin_round.ensures.handed)
          (c.hand_each.ensures.handed ∙ ap (λ l. given begun.account.handed.passed ++ l) c.waiting-waiting.ensures)
          (ap (λ t. given t.passed) c.hand_if_kept.ensures.handed) c.clear.ensures;
      in_order = order_same (taken each.account.handed.passed) (taken last.account.handed.passed) (given each.account.gone.passed) (kept_of each.kept) (given last.account.gone.passed) (kept_of last.kept)
          (ap (λ t. taken t.passed) c.hand_if_kept.ensures.handed) c.hand_if_kept.ensures.order
          (c.hand_each.ensures.order
          (order_same (taken old.account.handed.passed) (taken begun.account.handed.passed) (given old.account.gone.passed) (kept_of old.kept) (given begun.account.gone.passed) (kept_of begun.kept)
          (ap (λ t. taken t.passed) c.begin_round.ensures.handed) c.begin_round.ensures.order was.in_order));
    }

pub returns-clause-taken : goal.returns-clause-taken
returns-clause-taken g c = λ had. c.hand_if_kept.ensures.taken (c.hand_each.ensures.taken (c.begin_round.ensures.taken had))
