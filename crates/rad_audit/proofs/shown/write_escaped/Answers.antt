use Rattle.std.proofs.Common.{◌∙◌, Some, ap}
use Rattle.std.proofs.Output.{has_written_of_eq}
use Rattle.rad_log.specs.Escaped.{escaped}
use Rattle.rad_audit.proofs.Escapes.{character_is}
use Rattle.rad_audit.proofs.shown.write_escaped.Goals as goal

pub returns : goal.returns
returns g c = λ within is plain ok.
    has_written_of_eq _ _ _ _ _ (ap (escaped (Some 92)) (c.as_bytes.ensures.value ∙ c.encode_utf8.ensures.value) ∙ character_is within c.args.character is) (c.write.ensures.writes plain ok)
