use Rattle.std.proofs.Common.{rules, map, ap, sym, subst, ◌∙◌}
use Rattle.rad_audit.specs.Blocks.{read_into}
use Rattle.rad_audit.specs.Judging.{AreJudged, IsFound}
use Rattle.rad_audit.proofs.Parts.{all_more, one_more}
use Rattle.rad_audit.proofs.blocks.judge_slots.Goals as goal

pub loop-slot-preserved : goal.loop-slot-preserved
loop-slot-preserved c = record {
  judged = subst (λ lines. AreJudged lines) (sym c.in_ok-push.ensures.items) (all_more (λ line. IsFound line.octets.now line.found) c.loop-slot.lines.items c.in_ok-judge_slot.field-0 c.loop-slot.invariant.judged c.in_ok-judge_slot.ensures.found);
  whole = ap (map (λ line. line.octets.now)) c.in_ok-push.ensures.items
      ∙ one_more (λ line. line.octets.now) read_into c.loop-slot.lines.items c.args.slots.now c.loop-slot.slot-index c.in_ok-judge_slot.field-0 c.slots-item.result (search rules) c.loop-slot.invariant.whole (c.in_ok-judge_slot.ensures.read ∙ ap read_into c.slots-item.is);
}
