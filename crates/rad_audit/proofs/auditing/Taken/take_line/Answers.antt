use Rattle.std.proofs.Common.{ap, sym, subst}
use Rattle.std.specs.Prelude.{OnOk}
use Rattle.std.proofs.lemmas.Result.{on_ok_weaker}
use Rattle.rad_audit.specs.Lanes.{AreTaken, content_of}
use Rattle.rad_audit.specs.declared.blocks.Found.{Found}
use Rattle.rad_audit.proofs.Taken.{taken_by}
use Rattle.rad_audit.proofs.auditing.Taken.take_line.Goals as goal

pub returns-in-Line-clause-taken : goal.returns-in-Line-clause-taken
returns-in-Line-clause-taken g c =
    subst (λ (f : Found). OnOk c.take.result (AreTaken c.args.self.now.config.now (content_of f) c.args.self.now.known.runs c.take.new.self.known.runs)) (sym c.in-Line.is)
    (on_ok_weaker c.take.result (taken_by c.args.self.now.config.now c.settle.new.self.config.now _ c.args.self.now.known.runs c.settle.new.self.known.runs c.take.new.self.known.runs (ap (λ x. x.now) c.settle.ensures.config) c.settle.ensures.runs) c.take.ensures.taken)
