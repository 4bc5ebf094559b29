use Rattle.std.proofs.Common.{ap, sym, ◌∙◌, arith}
use Rattle.ledger_files.specs.declared.chain.Chain.{Chain}
use Rattle.ledger_files.proofs.RunCalls.{passed, is_open, none_passed}
use Rattle.ledger_files.proofs.run_files.RunFiles.pass_line.Goals as goal

pub returns-clause-run : goal.returns-clause-run
returns-clause-run g c = λ lines h.
    let run = c.args.self.now in
    let opens = is_open (g.D.LedgerDisk.files run.disk) c.is_open.result c.is_open.ensures c.if-not-is_open.false in
    passed (g.D.LedgerDisk.files run.disk) run.first run.batch c.pass_line.new.self run.last run.chain.sum c.pass_line.new.chain.sum lines opens
    (sym c.is_passed.ensures ∙ c.if-not-is_passed.false)
    (λ held k. c.pass_line.ensures.lines held k) c.pass_line.ensures.same.0 c.in_ok-head.ensures.passed.0
    (omega (arith, c.in_ok-head.ensures.passed.1.some, run.batch.counted.0, run.batch.heads.ok.0, run.batch.ends.ok.0)) c.in_ok-head.ensures.passed.2
    (λ held k its s. c.in_ok-head.ensures.chain held k its s) h

pub returns-in_err-head-clause-run : goal.returns-in_err-head-clause-run
returns-in_err-head-clause-run g c = λ lines h.
    let run = c.args.self.now in
    none_passed (g.D.LedgerDisk.files run.disk) run.first run.batch c.pass_line.new.self run.last run.chain.sum c.pass_line.new.chain.sum lines
    (ap (λ (x : Chain). x.sum) c.in_err-head.ensures.none)
    (λ held k. c.pass_line.ensures.lines held k) c.pass_line.ensures.same.0 c.in_err-head.ensures.passed h
