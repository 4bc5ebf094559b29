use Rattle.std.proofs.Common.{◌≡◌, map, take}
use Rattle.rad_audit.specs.Blocks.{read_into}
use Rattle.rad_audit.specs.Judging.{AreJudged}
use Rattle.rad_audit.proofs.blocks.judge_slots.Given as goal

-- the lines so far are judged, and are those of the slots so far
abbrev pub invariant-loop-slot : goal.invariant-loop-slot
invariant-loop-slot l = record {
  judged : AreJudged l.lines.items;
  whole : map (λ line. line.octets.now) l.lines.items ≡ map read_into (take l.slot-index l.fn.slots);
}
