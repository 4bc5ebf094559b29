use Rattle.ledger_files.proofs.RunCalls.{after_sync}
use Rattle.ledger_files.proofs.run_files.RunFiles.sync.Goals as goal

pub returns-clause-run : goal.returns-clause-run
returns-clause-run g c = λ lines h.
    let run = c.args.self.now in
    after_sync c.sync.result (g.D.LedgerDisk.files run.disk) (g.D.LedgerDisk.files c.sync.new.self) run.first run.batch run.last run.chain.sum lines c.sync.ensures h
