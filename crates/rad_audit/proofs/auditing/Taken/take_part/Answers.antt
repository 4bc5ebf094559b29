use Rattle.std.proofs.Common.{List, ap, refl, sym, subst, ◌∙◌}
use Rattle.rad_audit.specs.Blocks.{lines_of}
use Rattle.rad_audit.specs.Lanes.{AreTaken, content_of, contents_of}
use Rattle.rad_audit.specs.declared.blocks.FileLine.{FileLine}
use Rattle.rad_audit.specs.declared.blocks.Part.{Part}
use Rattle.rad_audit.proofs.Taken.{taken_all, taken_by, taken_next}
use Rattle.rad_audit.proofs.auditing.Taken.take_part.Goals as goal

pub loop-line-preserved : goal.loop-line-preserved
loop-line-preserved g c =
    let config = c.args.self.now.config.now in
    let lines = c.deref-line-items.result.now in
    let line = c.line-item.result in
    let now = c.loop-line.self.known.runs in
    let next = c.take_line.new.self.known.runs in
    record {
      config = c.take_line.ensures.config ∙ c.loop-line.invariant.config;
      taken =
          taken_next config (λ line. content_of line.found) lines c.loop-line.line-index line c.args.self.now.known.runs now next c.loop-line-test.true c.line-item.is c.loop-line.invariant.taken
          (taken_by config c.loop-line.self.config.now (content_of line.found) now now next (ap (λ x. x.now) c.loop-line.invariant.config) refl c.in_ok-take_line.ensures.taken);
    }

pub returns-clause-taken : goal.returns-clause-taken
returns-clause-taken g c =
    let config = c.args.self.now.config.now in
    let old = c.args.self.now.known.runs in
    let new = c.loop-line.self.known.runs in
    subst (λ (p : Part). AreTaken config (contents_of (lines_of p)) old new) (sym c.in-Lines.is)
    (subst (λ (ls : List FileLine). AreTaken config (contents_of ls) old new) c.deref-line-items.ensures.value
    (taken_all config (λ line. content_of line.found) c.deref-line-items.result.now c.loop-line.line-index old new c.loop-line-test.false c.loop-line.invariant.taken))
