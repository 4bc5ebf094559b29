use Rattle.std.proofs.Common.{refl, rules}
use Rattle.rad_audit.proofs.Stands.{end_next, end_none}
use Rattle.rad_audit.proofs.auditing.end_lanes.Goals as goal

pub loop-count-init : goal.loop-count-init
loop-count-init g c = end_none c.args.end.now.run c.args.runs.now c.args.runs.now (λ run number. refl)

pub loop-count-preserved : goal.loop-count-preserved
loop-count-preserved g c =
    end_next c.args.end.now.run c.args.end.now.lanes.items c.loop-count.count-index _ c.args.runs.now c.loop-count.runs c.end_lane-ended.new.self (search rules) (search rules) c.loop-count.invariant c.end_lane-ended.ensures
