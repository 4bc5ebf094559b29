use Rattle.std.proofs.Common.{rules}
use Rattle.std.proofs.lemmas.List.Edits.{map_over_more}
use Rattle.rad_audit.specs.Kept.{tied}
use Rattle.rad_audit.proofs.ties.Ties.see.Goals as goal

pub loop-tie-preserved : goal.loop-tie-preserved
loop-tie-preserved c = search (rules, map_over_more (tied c.args.run c.args.sum))
