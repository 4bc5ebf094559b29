use Rattle.rad_config.proofs.Ranges.{refused_at, no_fault}
use Rattle.rad_config.specs.Limits.{limits_of}
use Rattle.std.proofs.lemmas.Result.{IfOk-from_err, err_from_is_err_and}
use Rattle.std.proofs.Common.{refl, sym}
use Rattle.rad_config.proofs.limits.Limits.new.Goals as goal

pub returns-in_err-within-clause-kept : goal.returns-in_err-within-clause-kept
returns-in_err-within-clause-kept c = IfOk-from_err _ _ c.from_residual.ensures.0

pub returns-in_err-within-clause-fault : goal.returns-in_err-within-clause-fault
returns-in_err-within-clause-fault c =
    let p = err_from_is_err_and c.from_residual.result c.from_residual.ensures.1 in
    refused_at 0 (limits_of c.args.numbers) _ _ _ p.1 p.2 c.in_err-within.ensures.value

pub returns-in_err-within-2-clause-kept : goal.returns-in_err-within-2-clause-kept
returns-in_err-within-2-clause-kept c = IfOk-from_err _ _ c.from_residual-in_err-within-2.ensures.0

pub returns-in_err-within-2-clause-fault : goal.returns-in_err-within-2-clause-fault
returns-in_err-within-2-clause-fault c =
    let p = err_from_is_err_and c.from_residual-in_err-within-2.result c.from_residual-in_err-within-2.ensures.1 in
    refused_at 1 (limits_of c.args.numbers) _ _ _ p.1 p.2 (c.in_ok-within.ensures.kept, c.in_err-within-2.ensures.value)

pub returns-in_err-within-3-clause-kept : goal.returns-in_err-within-3-clause-kept
returns-in_err-within-3-clause-kept c = IfOk-from_err _ _ c.from_residual-in_err-within-3.ensures.0

pub returns-in_err-within-3-clause-fault : goal.returns-in_err-within-3-clause-fault
returns-in_err-within-3-clause-fault c =
    let p = err_from_is_err_and c.from_residual-in_err-within-3.result c.from_residual-in_err-within-3.ensures.1 in
    refused_at 2 (limits_of c.args.numbers) _ _ _ p.1 p.2 (c.in_ok-within.ensures.kept, (c.in_ok-within-2.ensures.kept, c.in_err-within-3.ensures.value))

pub returns-in_err-within-4-clause-kept : goal.returns-in_err-within-4-clause-kept
returns-in_err-within-4-clause-kept c = IfOk-from_err _ _ c.from_residual-in_err-within-4.ensures.0

pub returns-in_err-within-4-clause-fault : goal.returns-in_err-within-4-clause-fault
returns-in_err-within-4-clause-fault c =
    let p = err_from_is_err_and c.from_residual-in_err-within-4.result c.from_residual-in_err-within-4.ensures.1 in
    refused_at 3 (limits_of c.args.numbers) _ _ _ p.1 p.2 (c.in_ok-within.ensures.kept, (c.in_ok-within-2.ensures.kept, (c.in_ok-within-3.ensures.kept, c.in_err-within-4.ensures.value)))

pub returns-in_err-within-5-clause-kept : goal.returns-in_err-within-5-clause-kept
returns-in_err-within-5-clause-kept c = IfOk-from_err _ _ c.from_residual-in_err-within-5.ensures.0

pub returns-in_err-within-5-clause-fault : goal.returns-in_err-within-5-clause-fault
returns-in_err-within-5-clause-fault c =
    let p = err_from_is_err_and c.from_residual-in_err-within-5.result c.from_residual-in_err-within-5.ensures.1 in
    refused_at 4 (limits_of c.args.numbers) _ _ _ p.1 p.2 (c.in_ok-within.ensures.kept, (c.in_ok-within-2.ensures.kept, (c.in_ok-within-3.ensures.kept, (c.in_ok-within-4.ensures.kept, c.in_err-within-5.ensures.value))))

pub returns-in_err-within-6-clause-kept : goal.returns-in_err-within-6-clause-kept
returns-in_err-within-6-clause-kept c = IfOk-from_err _ _ c.from_residual-in_err-within-6.ensures.0

pub returns-in_err-within-6-clause-fault : goal.returns-in_err-within-6-clause-fault
returns-in_err-within-6-clause-fault c =
    let p = err_from_is_err_and c.from_residual-in_err-within-6.result c.from_residual-in_err-within-6.ensures.1 in
    refused_at 5 (limits_of c.args.numbers) _ _ _ p.1 p.2 (c.in_ok-within.ensures.kept, (c.in_ok-within-2.ensures.kept, (c.in_ok-within-3.ensures.kept, (c.in_ok-within-4.ensures.kept, (c.in_ok-within-5.ensures.kept, c.in_err-within-6.ensures.value)))))

pub returns-in_err-within-7-clause-kept : goal.returns-in_err-within-7-clause-kept
returns-in_err-within-7-clause-kept c = IfOk-from_err _ _ c.from_residual-in_err-within-7.ensures.0

pub returns-in_err-within-7-clause-fault : goal.returns-in_err-within-7-clause-fault
returns-in_err-within-7-clause-fault c =
    let p = err_from_is_err_and c.from_residual-in_err-within-7.result c.from_residual-in_err-within-7.ensures.1 in
    refused_at 6 (limits_of c.args.numbers) _ _ _ p.1 p.2 (c.in_ok-within.ensures.kept, (c.in_ok-within-2.ensures.kept, (c.in_ok-within-3.ensures.kept, (c.in_ok-within-4.ensures.kept, (c.in_ok-within-5.ensures.kept, (c.in_ok-within-6.ensures.kept, c.in_err-within-7.ensures.value))))))

pub returns-in_err-within-8-clause-kept : goal.returns-in_err-within-8-clause-kept
returns-in_err-within-8-clause-kept c = IfOk-from_err _ _ c.from_residual-in_err-within-8.ensures.0

pub returns-in_err-within-8-clause-fault : goal.returns-in_err-within-8-clause-fault
returns-in_err-within-8-clause-fault c =
    let p = err_from_is_err_and c.from_residual-in_err-within-8.result c.from_residual-in_err-within-8.ensures.1 in
    refused_at 7 (limits_of c.args.numbers) _ _ _ p.1 p.2 (c.in_ok-within.ensures.kept, (c.in_ok-within-2.ensures.kept, (c.in_ok-within-3.ensures.kept, (c.in_ok-within-4.ensures.kept, (c.in_ok-within-5.ensures.kept, (c.in_ok-within-6.ensures.kept, (c.in_ok-within-7.ensures.kept, c.in_err-within-8.ensures.value)))))))

pub returns-in_err-within-9-clause-kept : goal.returns-in_err-within-9-clause-kept
returns-in_err-within-9-clause-kept c = IfOk-from_err _ _ c.from_residual-in_err-within-9.ensures.0

pub returns-in_err-within-9-clause-fault : goal.returns-in_err-within-9-clause-fault
returns-in_err-within-9-clause-fault c =
    let p = err_from_is_err_and c.from_residual-in_err-within-9.result c.from_residual-in_err-within-9.ensures.1 in
    refused_at 8 (limits_of c.args.numbers) _ _ _ p.1 p.2 (c.in_ok-within.ensures.kept, (c.in_ok-within-2.ensures.kept, (c.in_ok-within-3.ensures.kept, (c.in_ok-within-4.ensures.kept, (c.in_ok-within-5.ensures.kept, (c.in_ok-within-6.ensures.kept, (c.in_ok-within-7.ensures.kept, (c.in_ok-within-8.ensures.kept, c.in_err-within-9.ensures.value))))))))

pub returns-in_err-within-10-clause-kept : goal.returns-in_err-within-10-clause-kept
returns-in_err-within-10-clause-kept c = IfOk-from_err _ _ c.from_residual-in_err-within-10.ensures.0

pub returns-in_err-within-10-clause-fault : goal.returns-in_err-within-10-clause-fault
returns-in_err-within-10-clause-fault c =
    let p = err_from_is_err_and c.from_residual-in_err-within-10.result c.from_residual-in_err-within-10.ensures.1 in
    refused_at 9 (limits_of c.args.numbers) _ _ _ p.1 p.2 (c.in_ok-within.ensures.kept, (c.in_ok-within-2.ensures.kept, (c.in_ok-within-3.ensures.kept, (c.in_ok-within-4.ensures.kept, (c.in_ok-within-5.ensures.kept, (c.in_ok-within-6.ensures.kept, (c.in_ok-within-7.ensures.kept, (c.in_ok-within-8.ensures.kept, (c.in_ok-within-9.ensures.kept, c.in_err-within-10.ensures.value)))))))))

pub invariant_of-result : goal.invariant_of-result
invariant_of-result c = record {
  ports = c.in_ok-within.ensures.kept;
  window = c.in_ok-within-2.ensures.kept;
  queue = c.in_ok-within-3.ensures.kept;
  book = c.in_ok-within-4.ensures.kept;
  tries = c.in_ok-within-5.ensures.kept;
  first_wait = c.in_ok-within-6.ensures.kept;
  probe_every = c.in_ok-within-7.ensures.kept;
  down_wait = c.in_ok-within-8.ensures.kept;
  span = c.in_ok-within-9.ensures.kept.1;
  ring = c.in_ok-within-10.ensures.kept;
}

pub returns-clause-kept : goal.returns-clause-kept
returns-clause-kept c = refl

pub returns-clause-fault : goal.returns-clause-fault
returns-clause-fault c =
    sym (no_fault c.args.numbers (record {
      ports = c.in_ok-within.ensures.kept;
      window = c.in_ok-within-2.ensures.kept;
      queue = c.in_ok-within-3.ensures.kept;
      book = c.in_ok-within-4.ensures.kept;
      tries = c.in_ok-within-5.ensures.kept;
      first_wait = c.in_ok-within-6.ensures.kept;
      probe_every = c.in_ok-within-7.ensures.kept;
      down_wait = c.in_ok-within-8.ensures.kept;
      span = c.in_ok-within-9.ensures.kept.1;
      ring = c.in_ok-within-10.ensures.kept;
    }))
