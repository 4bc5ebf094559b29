use Rattle.std.proofs.Common.{rules}
use Rattle.std.proofs.lemmas.Result.{IfOk-weaker}
use Rattle.toml.specs.View.{table_view}
use Rattle.rad_advice.specs.Faults.{entry_told, entry_of, IsPlacedIn}
use Rattle.rad_advice.proofs.Lists.{first_images, zip_each, others}
use Rattle.rad_advice.proofs.faults.report_first.Goals as goal

pub returns-clause-first : goal.returns-clause-first
returns-clause-first c =
    let entry = entry_of (table_view c.args.document.now) in
    IfOk-weaker c.list_first.result _ _ (λ reports told. first_images _ entry_told entry (λ fault report met. search rules) 50 c.args.faults.now reports.first.items told) c.list_first.ensures.first

pub returns-clause-more : goal.returns-clause-more
returns-clause-more c =
    IfOk-weaker c.list_first.result _ _ (λ reports more. others (entry_of (table_view c.args.document.now)) 50 c.args.faults.now reports.more more) c.list_first.ensures.more

pub returns-clause-places : goal.returns-clause-places
returns-clause-places c =
    IfOk-weaker c.list_first.result _ _ (λ reports told. zip_each _ (IsPlacedIn c.args.text.now) (λ fault report met. search rules) _ reports.first.items told) c.list_first.ensures.first
