use Rattle.std.proofs.Common.{◌≡◌, take}
use Rattle.rad_audit.specs.Lanes.{AreTaken, contents_of}
use Rattle.rad_audit.proofs.auditing.Taken.take_part.Given as goal

-- the lines so far are taken
abbrev pub invariant-loop-line : goal.invariant-loop-line
invariant-loop-line g l = record {
  config : l.self.config ≡ l.fn.self.config;
  taken : AreTaken l.fn.self.config.now (contents_of (take l.line-index l.line-items)) l.fn.self.known.runs l.self.known.runs;
}
