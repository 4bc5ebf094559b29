use Rattle.std.proofs.Common.{rules}
use Rattle.std.proofs.lemmas.List.Edits.{map_over_more}
use Rattle.rad_audit.specs.Kept.{seen as the_seen}
use Rattle.rad_audit.proofs.kept_sums.KeptSums.see.Goals as goal

pub loop-kept-preserved : goal.loop-kept-preserved
loop-kept-preserved c = search (rules, map_over_more (the_seen c.args.run c.args.file c.args.sum))
