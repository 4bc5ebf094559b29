use Rattle.std.proofs.Common.{List, ◌≡◌, ◌+◌, ◌++◌, ◌∷◌, [], take, add-one, ap, sym, subst, ◌∙◌, rules}
use Rattle.std.proofs.Math.Seq.{take-suc}
use Rattle.rad_audit.specs.Telling.{Gets, TellsLanes}
use Rattle.rad_audit.specs.declared.lanes.Lane.{Lane}
use Rattle.rad_audit.proofs.Tells.{gets_lane}
use Rattle.rad_audit.proofs.auditing.tell_lanes.Goals as goal

pub loop-lane-preserved : goal.loop-lane-preserved
loop-lane-preserved g c =
    let lanes = c.args.run.now.lanes.items in
    let lane = c.lane-item.result in
    let grown : take (c.loop-lane.lane-index + 1) lanes ≡ take c.loop-lane.lane-index lanes ++ lane ∷ [] =
    rw add-one (take-suc lanes c.loop-lane.lane-index lane (search rules) ∙ ap (λ x. take c.loop-lane.lane-index lanes ++ x ∷ []) (search rules)) in
    subst (λ (ls : List Lane). Gets (TellsLanes c.args.name c.args.run.now ls) (g.W.Write.contents c.args.report.now.outputs.lines.now) (g.W.Write.contents c.tell_lane.new.report.outputs.lines.now)) (sym grown)
    (gets_lane c.args.name c.args.run.now (take c.loop-lane.lane-index lanes) lane _ _ _ c.loop-lane.invariant c.in_ok-tell_lane.ensures.printed)
