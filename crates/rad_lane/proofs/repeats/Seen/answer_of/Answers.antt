use Rattle.std.proofs.Common.{ap, ◌∙◌}
use Rattle.std.specs.Option.{option_copied}
use Rattle.rad_lane.proofs.ItemsFound.{copied_item}
use Rattle.rad_lane.proofs.repeats.Seen.answer_of.Goals as goal

pub returns-in_err-place_of : goal.returns-in_err-place_of
returns-in_err-place_of c = ap (λ r. option_copied r) c.from_residual.ensures ∙ c.in_err-place_of.ensures

pub returns : goal.returns
returns c = copied_item _ _ _ c.get.ensures.lookup ∙ c.in_ok-place_of.ensures
