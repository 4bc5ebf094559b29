use Rattle.std.proofs.Common.{◌-◌, leb, ap, sym, ◌∙◌}
use Rattle.rad_server.specs.internal.Keeping.{is_old}
use Rattle.rad_server.proofs.sending.client_queues.is_old.Goals as goal

pub returns-in-Some : goal.returns-in-Some
returns-in-Some c =
    ap (λ n. leb 2000 n) (c.saturating_sub.ensures ∙ ap (λ m. c.args.now - m) c.sent.ensures.moment)
    ∙ ap (is_old c.args.now) (sym c.in-Some.ensures)
