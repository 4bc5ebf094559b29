use Rattle.std.proofs.Common.{refl, ap, ◌∙◌, arith}
use Rattle.ledger_files.proofs.RunCalls.{first_written, both_written, is_open, kept_bodies}
use Rattle.ledger_files.proofs.run_files.RunFiles.write.Goals as goal

pub returns-in_err-begun-clause-run : goal.returns-in_err-begun-clause-run
returns-in_err-begun-clause-run g c = λ lines h.
    let run = c.args.self.now in
    let wrote = c.write-begun.new.self in
    first_written (g.D.LedgerDisk.files run.disk) (g.D.LedgerDisk.files c.write-begun.new.disk) run.first wrote c.pass.new.self run.batch run.last run.chain.sum c.pass.new.chain.sum lines
    (is_open (g.D.LedgerDisk.files run.disk) c.is_open.result c.is_open.ensures c.if-not-is_open.false) c.write-begun.ensures.written.1 (ap (λ v. v.items) c.write-begun.ensures.octets.0) c.write-begun.ensures.octets.1 c.write-begun.ensures.written.0
    (omega (arith, wrote.within, wrote.octets.ok.0)) c.pass.ensures.passes (λ its s. c.pass.ensures.chain its s) h

pub returns-in_err-write-clause-run : goal.returns-in_err-write-clause-run
returns-in_err-write-clause-run g c = λ lines h.
    let run = c.args.self.now in
    both_written (g.D.LedgerDisk.files run.disk) (g.D.LedgerDisk.files c.write-begun.new.disk) run.first c.write-begun.new.self c.pass.new.self run.batch run.last run.chain.sum c.pass.new.chain.sum lines (g.D.LedgerDisk.files c.write.new.disk) c.seal.new.self c.write.new.self
    (is_open (g.D.LedgerDisk.files run.disk) c.is_open.result c.is_open.ensures c.if-not-is_open.false) c.write-begun.ensures.written.1 (ap (λ v. v.items) c.write-begun.ensures.octets.0) c.write-begun.ensures.octets.1 c.write-begun.ensures.written.0
    (omega (arith, c.in_ok-begun.ensures.all, run.first.octets.ok.0)) c.pass.ensures.passes (λ its s. c.pass.ensures.chain its s) (λ held k. c.seal.ensures.lines held k) c.seal.ensures.same.0 c.seal.ensures.same.1 c.write.ensures.written.1 (λ held k. c.write.ensures.lines held k) c.write.ensures.written.0
    (omega (arith, c.write.new.self.written.1, c.write.new.self.octets.ok.0)) c.write.ensures.whole h

pub returns-clause-run : goal.returns-clause-run
returns-clause-run g c = λ lines h.
    let run = c.args.self.now in
    both_written (g.D.LedgerDisk.files run.disk) (g.D.LedgerDisk.files c.write-begun.new.disk) run.first c.write-begun.new.self c.pass.new.self run.batch run.last run.chain.sum c.pass.new.chain.sum lines (g.D.LedgerDisk.files c.write.new.disk) c.seal.new.self c.write.new.self
    (is_open (g.D.LedgerDisk.files run.disk) c.is_open.result c.is_open.ensures c.if-not-is_open.false) c.write-begun.ensures.written.1 (ap (λ v. v.items) c.write-begun.ensures.octets.0) c.write-begun.ensures.octets.1 c.write-begun.ensures.written.0
    (omega (arith, c.in_ok-begun.ensures.all, run.first.octets.ok.0)) c.pass.ensures.passes (λ its s. c.pass.ensures.chain its s) (λ held k. c.seal.ensures.lines held k) c.seal.ensures.same.0 c.seal.ensures.same.1 c.write.ensures.written.1 (λ held k. c.write.ensures.lines held k) c.write.ensures.written.0
    (omega (arith, c.write.new.self.written.1, c.write.new.self.octets.ok.0)) c.write.ensures.whole h

pub returns-in_err-write-clause-same : goal.returns-in_err-write-clause-same
returns-in_err-write-clause-same g c =
    let run = c.args.self.now in (
      record {
        first = c.pass.ensures.passes.octets ∙ c.write-begun.ensures.octets.0;
        lines = record {
          heads = c.write.ensures.same.heads ∙ c.seal.ensures.same.2;
          ends = c.write.ensures.same.ends ∙ c.seal.ensures.same.3;
          bodies = λ lines h. kept_bodies run.batch c.seal.new.self c.write.new.self c.pass.new.chain.sum (λ held k. c.seal.ensures.lines held k) (λ held k. c.write.ensures.lines held k) lines h;
        };
        whole = c.write.ensures.whole ∙ c.seal.ensures.same.1;
        last = refl;
      },
      refl,
    )

pub returns-clause-same : goal.returns-clause-same
returns-clause-same g c =
    let run = c.args.self.now in (
      record {
        first = c.pass.ensures.passes.octets ∙ c.write-begun.ensures.octets.0;
        lines = record {
          heads = c.write.ensures.same.heads ∙ c.seal.ensures.same.2;
          ends = c.write.ensures.same.ends ∙ c.seal.ensures.same.3;
          bodies = λ lines h. kept_bodies run.batch c.seal.new.self c.write.new.self c.pass.new.chain.sum (λ held k. c.seal.ensures.lines held k) (λ held k. c.write.ensures.lines held k) lines h;
        };
        whole = c.write.ensures.whole ∙ c.seal.ensures.same.1;
        last = refl;
      },
      refl,
    )
