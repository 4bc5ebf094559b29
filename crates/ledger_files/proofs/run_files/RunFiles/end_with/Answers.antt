use Rattle.std.proofs.Common.{sym, ◌∙◌, arith}
use Rattle.ledger_files.proofs.RunCalls.{ended}
use Rattle.ledger_files.proofs.run_files.RunFiles.end_with.Goals as goal

pub returns-clause-run : goal.returns-clause-run
returns-clause-run g c = λ lines h.
    let run = c.args.self.now in
    ended (g.D.LedgerDisk.files run.disk) run.first run.batch run.last c.in_ok-last.last run.chain.sum lines c.args.body.items
    (omega (arith, c.requires, run.last.octets.ok.0)) (sym c.is_passed.ensures ∙ c.if-not-is_passed.false)
    (omega (arith, c.is_done.ensures.0 c.if-not-is_done.false, run.batch.ends.ok.0))
    c.in_ok-last.ensures.0 c.in_ok-last.ensures.1 c.in_ok-last.ensures.2 h
