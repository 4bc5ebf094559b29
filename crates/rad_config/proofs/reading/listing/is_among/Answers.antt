use Rattle.std.proofs.Common.{◌∙◌}
use Rattle.rad_config.specs.Faults.{text_of, is_text, is_same}
use Rattle.rad_config.proofs.Listing.{any_of_tables}
use Rattle.rad_config.proofs.reading.listing.is_among.Goals as goal

pub returns : goal.returns
returns c =
    c.has_any_text.ensures ∙ any_of_tables (λ t. is_text (λ other. is_same c.args.part other c.args.text.now) (text_of c.args.key t)) c.args.tables.now
