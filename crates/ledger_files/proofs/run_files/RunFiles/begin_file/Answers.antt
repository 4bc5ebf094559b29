use Rattle.std.specs.Prelude.{string_bytes}
use Rattle.std.proofs.Common.{◌∙◌}
use Rattle.ledger_files.proofs.RunCalls.{begun}
use Rattle.ledger_files.proofs.run_files.RunFiles.begin_file.Goals as goal

pub returns-clause-run : goal.returns-clause-run
returns-clause-run g c = λ lines h.
    let run = c.args.self.now in
    begun (g.D.LedgerDisk.files run.disk) (g.D.LedgerDisk.files c.create.new.self) (string_bytes c.args.path) c.args.body.items run.first c.in-Ok.first
    run.batch c.begin_line_again.new.self run.last c.new-2.result run.chain.sum lines
    c.in_ok-create.ensures c.in-Ok.ensures.0 c.in-Ok.ensures.1 c.in-Ok.ensures.2 (λ held k. c.begin_line_again.ensures.lines held k)
    c.begin_line_again.ensures.done.0 c.begin_line_again.ensures.done.1
    (c.new-2.ensures.0 ∙ c.new.ensures.items) c.new-2.ensures.1 c.new-2.ensures.2 h
