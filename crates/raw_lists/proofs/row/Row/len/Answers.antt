use Rattle.std.proofs.Common.{length, ap, ◌∙◌}
use Rattle.raw_lists.proofs.row.Row.len.Goals as goal

pub returns : goal.returns
returns g c = c.self.invariant.run.counted ∙ ap (λ q. length q.items) c.self.view_is
