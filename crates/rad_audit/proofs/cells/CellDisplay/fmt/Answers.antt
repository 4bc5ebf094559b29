use Rattle.std.proofs.Common.{◌∙◌, sym, ap, option_copied}
use Rattle.std.proofs.Output.{has_written_of_eq}
use Rattle.rad_audit.proofs.Texts.{cell_of_octets, cell_of_text}
use Rattle.rad_audit.proofs.cells.CellDisplay.fmt.Goals as goal

pub returns-in-Ok-clause-writes : goal.returns-in-Ok-clause-writes
returns-in-Ok-clause-writes g c =
    let cases = c.in-Ok.ensures.cases in
    λ plain ok. has_written_of_eq _ _ _ _ _
    (cell_of_text (option_copied c.args.self.now.0) c.in-Some.octets.now c.in-Ok.text.now (ap option_copied c.in-Some.is) (sym c.is_hyphen.ensures ∙ c.if-is_hyphen.false) cases.0 cases.1)
    (c.write_text.ensures plain ok)

pub returns-in-Err-clause-writes : goal.returns-in-Err-clause-writes
returns-in-Err-clause-writes g c =
    let cases = c.in-Err.ensures.cases in
    λ plain ok. has_written_of_eq _ _ _ _ _
    (cell_of_octets (option_copied c.args.self.now.0) c.in-Some.octets.now (ap option_copied c.in-Some.is) (sym c.is_hyphen.ensures ∙ c.if-is_hyphen.false) cases.0)
    (c.write_octets.ensures plain ok)
