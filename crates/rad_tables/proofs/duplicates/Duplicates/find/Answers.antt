use Rattle.std.proofs.Common.{ap, sym, ◌∙◌}
use Rattle.std.specs.FinMap as map
use Rattle.rad_tables.proofs.KeyLemmas.{get_key}
use Rattle.rad_tables.proofs.duplicates.Duplicates.find.Goals as goal

pub returns : goal.returns
returns c =
    c.copied.ensures ∙ c.get.ensures.value ∙ sym (get_key c.self.inside.numbers.entries c.args.key.now)
    ∙ ap (λ m. map.get m c.args.key.now) c.self.view_is
