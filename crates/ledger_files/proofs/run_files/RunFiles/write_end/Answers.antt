use Rattle.std.proofs.Common.{◌≡◌, ◌<◌, true, length, vec_len, sym, ap, ◌∙◌, arith}
use Rattle.ledger_files.proofs.RunCalls.{end_wrote, end_passes_now, has_some, is_open, open_after}
use Rattle.ledger_files.proofs.run_files.RunFiles.write_end.Goals as goal

pub returns-clause-run : goal.returns-clause-run
returns-clause-run g c = λ lines h.
    let run = c.args.self.now in
    let opens = is_open (g.D.LedgerDisk.files run.disk) c.is_open.result c.is_open.ensures c.if-not-is_open.false in
    let is_passed : run.first.is_passed ≡ true = sym c.is_passed.ensures ∙ c.if-not-is_passed.false in
    let all_passed : run.batch.whole ≡ length run.batch.ends.items = omega (arith, c.is_done.ensures.0 c.if-not-is_done.false, run.batch.ends.ok.0) in
    let some : 0 < vec_len run.last.octets = has_some c.is_empty.result (vec_len run.last.octets) c.is_empty.ensures c.if-is_empty.false in
    let wrote = c.write-ended.new.self in
    let count : length wrote.octets.items ≡ length run.last.octets.items = ap (λ v. length v.items) c.write-ended.ensures.octets.0 in
    let opens_on = open_after (g.D.LedgerDisk.files run.disk) (g.D.LedgerDisk.files c.write-ended.new.disk) _ c.write-ended.ensures.written.1 opens in
    let written = end_wrote (g.D.LedgerDisk.files run.disk) (g.D.LedgerDisk.files c.write-ended.new.disk) run.first run.batch run.last wrote run.chain.sum lines opens
    is_passed all_passed c.write-ended.ensures.written.1 (ap (λ v. v.items) c.write-ended.ensures.octets.0) c.write-ended.ensures.octets.1 c.write-ended.ensures.written.0
    (omega (arith, wrote.within, wrote.octets.ok.0, count)) h in
    end_passes_now (g.D.LedgerDisk.files c.write-ended.new.disk) run.first run.batch wrote c.pass.new.self run.chain.sum c.pass.new.chain.sum lines opens_on is_passed all_passed
    (omega (arith, some, count, run.last.octets.ok.0)) c.pass.ensures.passes (λ its s. c.pass.ensures.chain its s) written
