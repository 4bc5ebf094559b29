use Rattle.rad_advice.proofs.Distances.{far_apart}
use Rattle.rad_advice.proofs.near.is_near.Goals as goal

pub returns-then-abs_diff-gt-MOST_EDITS : goal.returns-then-abs_diff-gt-MOST_EDITS
returns-then-abs_diff-gt-MOST_EDITS c = far_apart c.args.known.now c.args.name.now c.abs_diff.result c.abs_diff.ensures c.if-abs_diff-gt-MOST_EDITS.true
