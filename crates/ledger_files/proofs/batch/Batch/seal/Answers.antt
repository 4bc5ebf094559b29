use Rattle.std.proofs.Common.{arith}
use Rattle.ledger_files.proofs.SealSteps.{seal_begins, seal_goes_on, seal_is_done}
use Rattle.ledger_files.proofs.batch.Batch.seal.Goals as goal

pub loop-place-init : goal.loop-place-init
loop-place-init c = seal_begins c.args.self.now c.args.before.sum

pub loop-place-preserved : goal.loop-place-preserved
loop-place-preserved c =
    seal_goes_on c.args.self.now c.loop-place.self c.seal_line.new.self c.args.before.sum c.loop-place.chain.sum c.seal_line.new.chain.sum c.loop-place.place
    c.loop-place.invariant (omega (arith, c.loop-place-test.true, c.len-place-end.ensures, c.args.self.now.ends.ok.0)) c.seal_line.ensures.lines c.seal_line.ensures.chain c.seal_line.ensures.same.0 c.seal_line.ensures.same.1 c.seal_line.ensures.same.2 c.seal_line.ensures.same.3

pub returns-clause-lines : goal.returns-clause-lines
returns-clause-lines c = seal_is_done c.args.self.now _ c.args.before.sum _ c.loop-place.place c.loop-place.invariant (omega (arith, c.loop-place-test.false, c.len-place-end.ensures, c.args.self.now.ends.ok.0))
