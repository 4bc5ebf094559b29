use Rattle.std.proofs.Common.{ap, ◌∙◌}
use Rattle.raw_lists.proofs.row.Row.as_slice.Goals as goal

pub values-requires : goal.values-requires
values-requires g c = c.self.invariant.run

pub returns : goal.returns
returns g c = c.values.ensures ∙ ap (λ q. q.items) c.self.view_is
