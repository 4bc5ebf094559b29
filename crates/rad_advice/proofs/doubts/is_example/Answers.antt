use Rattle.std.proofs.Common.{ap, ◌∙◌}
use Rattle.std.specs.List.{list_any}
use Rattle.std.specs.Str.{bytes_eq}
use Rattle.rad_advice.proofs.EachDoubt.{any_text}
use Rattle.rad_advice.proofs.doubts.is_example.Goals as goal

pub returns : goal.returns
returns c =
    c.has_text.ensures
    ∙ any_text c.examples.result.now c.args.secret.now
    ∙ ap (λ texts. list_any (λ t. bytes_eq t c.args.secret.now) texts) c.examples.ensures
