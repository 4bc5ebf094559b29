use Rattle.ledger_files.proofs.RunCalls.{batch_kept}
use Rattle.ledger_files.proofs.run_files.RunFiles.digest.Goals as goal

pub returns-clause-run : goal.returns-clause-run
returns-clause-run g c = λ lines h.
    let run = c.args.self.now in
    batch_kept (g.D.LedgerDisk.files run.disk) run.first run.batch c.digest.new.self run.last run.chain.sum lines
    (λ held k. c.digest.ensures.lines held k) c.digest.ensures.same.0 c.digest.ensures.same.1 h

pub returns-in_err-digest-clause-run : goal.returns-in_err-digest-clause-run
returns-in_err-digest-clause-run g c = λ lines h.
    let run = c.args.self.now in
    batch_kept (g.D.LedgerDisk.files run.disk) run.first run.batch c.digest.new.self run.last run.chain.sum lines
    (λ held k. c.digest.ensures.lines held k) c.digest.ensures.same.0 c.digest.ensures.same.1 h
