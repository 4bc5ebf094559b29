use Rattle.std.proofs.lemmas.Result.{IfOk-from_err}
use Rattle.rad_tables.proofs.KeptLemmas.{free_pushed}
use Rattle.rad_tables.specs.internal.Kept.{contents_of}
use Rattle.std.proofs.Common.{None, replicate, sym, ap, ◌∙◌, arith, ◌≡◌}
use Rattle.rad_tables.proofs.cells.free_cells.Goals as goal

pub loop-init : goal.loop-init
loop-init g c =
    let made = c.in_ok-cells.ensures in
    record { free = ap contents_of made.items ∙ sym (ap (λ n. replicate n None) made.len); room = made.exact; made = made.len }

pub returns-in_err-cells : goal.returns-in_err-cells
returns-in_err-cells g c = IfOk-from_err _ _ c.from_residual.ensures.0

pub push_reserved-requires : goal.push_reserved-requires
push_reserved-requires g c = omega arith

pub loop-smaller : goal.loop-smaller
loop-smaller g c = omega arith

pub loop-preserved : goal.loop-preserved
loop-preserved g c =
    let l = c.loop.invariant in
    let more = c.push_reserved.ensures in record {
      free = free_pushed c.loop.cells.items _ _ more.items l.free ∙ sym (ap (λ n. replicate n None) more.len);
      room = more.capacity ∙ l.room;
      made = omega (arith, more.len, l.made);
    }

pub returns : goal.returns
returns g c = let l = c.loop.invariant in let e : c.loop.counter ≡ c.args.count = omega arith in l.free ∙ ap (λ n. replicate n None) (l.made ∙ e)
