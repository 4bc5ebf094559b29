use Rattle.std.proofs.Common.{refl, arith, length-drop}
use Rattle.std.proofs.lemmas.List.{take_rest}
use Rattle.ledger_files.proofs.Writes.{writes_begin, writes_go_on}
use Rattle.ledger_files.proofs.pending.write_rest.Goals as goal

pub loop-init : goal.loop-init
loop-init g c = record {
  from = omega arith;
  within = c.requires;
  written = writes_begin (g.D.LedgerDisk.files c.args.disk.now) c.args.octets.now c.args.done;
  none = λ e. refl;
}

pub loop-preserved : goal.loop-preserved
loop-preserved g c =
    let i = c.loop.invariant in
    let n = rw (take_rest c.args.octets.now c.loop.at) at c.in-Ok.ensures.0 in
    let w = rw (take_rest c.args.octets.now c.loop.at) at c.in-Ok.ensures.1 in
    record {
      from = omega (arith, i.from);
      within = omega (arith, i.within, n, length-drop c.loop.at c.args.octets.now);
      written = writes_go_on _ _ _ c.args.octets.now c.args.done c.loop.at c.in-Ok.count i.from i.written w;
      none = λ e. absurd (omega (arith, e, i.from, i.within));
    }
