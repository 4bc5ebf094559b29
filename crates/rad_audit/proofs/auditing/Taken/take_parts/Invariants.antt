use Rattle.std.proofs.Common.{◌≡◌, All, flat_map, take}
use Rattle.rad_audit.specs.Blocks.{IsWhole, lines_of}
use Rattle.rad_audit.specs.Lanes.{AreTaken, contents_of}
use Rattle.rad_audit.proofs.auditing.Taken.take_parts.Given as goal

-- the parts so far are whole, and their lines are taken
abbrev pub invariant-loop-part : goal.invariant-loop-part
invariant-loop-part g l = record {
  config : l.self.config ≡ l.fn.self.config;
  whole : All IsWhole (take l.part-index l.fn.parts);
  taken : AreTaken l.fn.self.config.now (flat_map (λ p. contents_of (lines_of p)) (take l.part-index l.fn.parts)) l.fn.self.known.runs l.self.known.runs;
}
