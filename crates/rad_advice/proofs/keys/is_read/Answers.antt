use Rattle.std.proofs.Common.{ap, ◌∙◌}
use Rattle.rad_advice.specs.Keys.{is_one_of}
use Rattle.rad_advice.proofs.Names.{among_bytes}
use Rattle.rad_advice.proofs.keys.is_read.Goals as goal

pub returns : goal.returns
returns c =
    c.contains.ensures.value
    ∙ among_bytes c.names_of.result.now c.args.name.now
    ∙ ap (λ names. is_one_of names c.args.name.now) c.names_of.ensures
