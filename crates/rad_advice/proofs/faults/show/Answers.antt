use Rattle.std.proofs.Common.{sym, ap, ◌∙◌}
use Rattle.std.specs.Prelude.{option_copied}
use Rattle.toml.specs.View.{view}
use Rattle.rad_advice.proofs.Told.{text_is}
use Rattle.rad_advice.proofs.faults.show.Goals as goal

pub returns-in-Some : goal.returns-in-Some
returns-in-Some c = c.show_text.ensures ∙ text_is (view c.args.value.now) c.in-Some.text.now (ap option_copied (sym c.in-Some.is) ∙ c.as_str.ensures)
