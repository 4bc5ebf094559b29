use Rattle.std.proofs.Common.{rules}
use Rattle.std.proofs.lemmas.Result.{IfOk-weaker}
use Rattle.rad_advice.specs.Doubts.{doubtful_told, IsWarnedIn}
use Rattle.rad_advice.proofs.Lists.{zip_themselves, zip_each}
use Rattle.rad_advice.proofs.doubts.warn_first.Goals as goal

pub returns-clause-first : goal.returns-clause-first
returns-clause-first c =
    IfOk-weaker c.list_first.result _ _ (λ warnings told. zip_themselves _ doubtful_told (λ doubtful warning met. search rules) _ warnings.first.items told) c.list_first.ensures.first

pub returns-clause-places : goal.returns-clause-places
returns-clause-places c =
    IfOk-weaker c.list_first.result _ _ (λ warnings told. zip_each _ (IsWarnedIn c.args.text.now) (λ doubtful warning met. search rules) _ warnings.first.items told) c.list_first.ensures.first
