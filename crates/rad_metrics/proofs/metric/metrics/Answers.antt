use Rattle.std.specs.Prelude.{refl}
use Rattle.rad_metrics.specs.declared.counted.Counted.TheVariants as counted
use Rattle.rad_metrics.proofs.metric.metrics.Goals as goal

pub returns-clause-own_names : goal.returns-clause-own_names
returns-clause-own_names c = refl

pub returns-clause-right_names : goal.returns-clause-right_names
returns-clause-right_names c = refl

pub returns-clause-right_kinds : goal.returns-clause-right_kinds
returns-clause-right_kinds c = refl

pub returns-clause-plain_helps : goal.returns-clause-plain_helps
returns-clause-plain_helps c = refl

pub returns-clause-one_row : goal.returns-clause-one_row
returns-clause-one_row c counted.Dropped = refl
returns-clause-one_row c _ = refl

pub returns-clause-in_order : goal.returns-clause-in_order
returns-clause-in_order c counted.Dropped = refl
returns-clause-in_order c _ = refl
