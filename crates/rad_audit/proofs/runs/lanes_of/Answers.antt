use Rattle.std.proofs.Common.{rules, ◌<◌, length, ℕ, List, [], ◌∷◌, ◌++◌, ◌+◌, ◌≡◌, take, get_or, add-one, ap, sym, subst, ◌∙◌}
use Rattle.std.proofs.Math.Seq.{take-suc}
use Rattle.ledger_lines.specs.declared.lane_start.LaneStart.{LaneStart}
use Rattle.rad_audit.specs.Lanes.{BeginsLane, standing_in}
use Rattle.rad_audit.specs.declared.lanes.Lane.{Lane}
use Rattle.rad_audit.proofs.Stands.{begins_more}
use Rattle.rad_audit.proofs.runs.lanes_of.Goals as goal

pub loop-start-preserved : goal.loop-start-preserved
loop-start-preserved c =
    let starts = c.args.begin.now.lanes.items in
    let start = c.start-item.result in
    let below : c.loop-start.start-index < length starts = search rules in
    let is : start ≡ get_or starts c.loop-start.start-index start = search rules in
    let grown : take (c.loop-start.start-index + 1) starts ≡ take c.loop-start.start-index starts ++ start ∷ [] =
    rw add-one (take-suc starts c.loop-start.start-index start below ∙ ap (λ x. take c.loop-start.start-index starts ++ x ∷ []) (sym is)) in
    λ number. subst (λ (xs : List LaneStart). BeginsLane number xs (standing_in number c.push.new.self.items)) (sym grown)
    (subst (λ (ls : List Lane). BeginsLane number (take c.loop-start.start-index starts ++ start ∷ []) (standing_in number ls)) (sym c.in_ok-push.ensures.items)
    (begins_more (take c.loop-start.start-index starts) c.loop-start.lanes.items start c.in_ok-new.field-0 c.loop-start.invariant c.in_ok-new.ensures.number c.in_ok-new.ensures.fresh number))
