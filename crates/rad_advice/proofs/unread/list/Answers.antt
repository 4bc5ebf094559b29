use Rattle.std.proofs.Common.{rules}
use Rattle.std.proofs.lemmas.Result.{IfOk-weaker}
use Rattle.rad_advice.specs.Keys.{entry_listed, entry_found, IsReportedIn}
use Rattle.rad_advice.proofs.Lists.{first_images, zip_each, others}
use Rattle.rad_advice.proofs.unread.list.Goals as goal

pub returns-clause-first : goal.returns-clause-first
returns-clause-first c =
    IfOk-weaker c.list_first.result _ _ (λ keys told. first_images _ entry_listed entry_found (λ key its met. search rules) 20 c.args.unread.now keys.first.items told) c.list_first.ensures.first

pub returns-clause-more : goal.returns-clause-more
returns-clause-more c = IfOk-weaker c.list_first.result _ _ (λ keys more. others entry_found 20 c.args.unread.now keys.more more) c.list_first.ensures.more

pub returns-clause-each : goal.returns-clause-each
returns-clause-each c =
    IfOk-weaker c.list_first.result _ _ (λ keys told. zip_each _ (IsReportedIn c.args.text.now) (λ key its met. search rules) _ keys.first.items told) c.list_first.ensures.first
