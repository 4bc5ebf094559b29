use Rattle.std.proofs.Common.{arith}
use Rattle.ledger_files.proofs.RunCalls.{added, batch_kept, left_as_is}
use Rattle.ledger_files.proofs.run_files.RunFiles.add.Goals as goal

pub returns-clause-run : goal.returns-clause-run
returns-clause-run g c = λ lines h.
    let run = c.args.self.now in
    added (g.D.LedgerDisk.files run.disk) run.first run.batch c.add.new.self run.last run.chain.sum lines c.args.body.now
    (omega (arith, c.requires, run.last.octets.ok.0)) (omega (arith, run.batch.written.1, run.batch.octets.ok.0))
    (λ held k. c.in_ok-add.ensures.lines held k) c.in_ok-add.ensures.same.0 c.in_ok-add.ensures.same.1 h

pub returns-in_err-add-clause-run : goal.returns-in_err-add-clause-run
returns-in_err-add-clause-run g c = λ lines h.
    let run = c.args.self.now in
    left_as_is c.from_residual.result _ _ _ c.from_residual.ensures.1
    (batch_kept (g.D.LedgerDisk.files run.disk) run.first run.batch c.add.new.self run.last run.chain.sum lines
    (λ held k. c.in_err-add.ensures.lines held k) c.in_err-add.ensures.same.0 c.in_err-add.ensures.same.1 h)
