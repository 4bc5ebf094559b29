use Rattle.std.proofs.Common.{ap, refl, ◌∙◌}
use Rattle.rad_audit.specs.Lanes.{contents_of}
use Rattle.rad_audit.specs.Blocks.{lines_of}
use Rattle.rad_audit.proofs.Taken.{taken_all, taken_by, taken_next, taken_parts, whole_next}
use Rattle.rad_audit.proofs.auditing.Taken.take_parts.Goals as goal

pub loop-part-preserved : goal.loop-part-preserved
loop-part-preserved g c =
    let config = c.args.self.now.config.now in
    let parts = c.args.parts.now in
    let part = c.part-item.result in
    let now = c.loop-part.self.known.runs in
    let next = c.take_part.new.self.known.runs in
    record {
      config = c.take_part.ensures.config ∙ c.loop-part.invariant.config;
      whole = whole_next parts c.loop-part.part-index part c.loop-part-test.true c.part-item.is c.loop-part.invariant.whole c.in_ok-next.ensures.whole;
      taken =
          taken_next config (λ p. contents_of (lines_of p)) parts c.loop-part.part-index part c.args.self.now.known.runs now next c.loop-part-test.true c.part-item.is c.loop-part.invariant.taken
          (taken_by config c.loop-part.self.config.now (contents_of (lines_of part)) now now next (ap (λ x. x.now) c.loop-part.invariant.config) refl c.in_ok-next.ensures.taken);
    }

pub returns-clause-taken : goal.returns-clause-taken
returns-clause-taken g c =
    let old = c.args.self.now.known.runs in
    let new = c.loop-part.self.known.runs in
    taken_parts c.args.self.now.config.now c.args.parts.now old new
    (taken_all c.args.self.now.config.now (λ p. contents_of (lines_of p)) c.args.parts.now c.loop-part.part-index old new c.loop-part-test.false c.loop-part.invariant.taken)
