use Rattle.std.proofs.Common.{ap, ◌∙◌}
use Rattle.std.specs.Option.{option_flatten}
use Rattle.rad_lane.proofs.ItemsFound.{copied_item}
use Rattle.rad_lane.proofs.repeats.Seen.answer_index_of.Goals as goal

pub returns : goal.returns
returns c =
    c.flatten.ensures
    ∙ ap (λ o. option_flatten o) (c.copied.ensures ∙ copied_item _ _ _ c.get.ensures.lookup)
    ∙ c.args.self.now.told c.args.number c.requires
