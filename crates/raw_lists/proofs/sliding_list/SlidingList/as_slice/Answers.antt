use Rattle.std.proofs.Common.{ap, ◌∙◌}
use Rattle.raw_lists.proofs.sliding_list.SlidingList.as_slice.Goals as goal

pub returns : goal.returns
returns g c = c.slice_of.ensures ∙ ap (λ q. q.items) c.self.view_is
