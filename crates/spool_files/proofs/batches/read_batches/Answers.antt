use Rattle.std.proofs.Common.{◌≡◌, ◌∷◌, [], ◌++◌, List, sym, ap, ◌∙◌, subst, arith}
use Rattle.std.proofs.lemmas.List.{map_push}
use Rattle.spool_files.specs.Batches.{Batch, AreBatches, octets_of_batches, batch_octets, FitsBatch, batch_views}
use Rattle.spool_files.specs.internal.Fields.{batch_at}
use Rattle.spool_files.proofs.BatchLemmas.{batch_field, no_batch, batch-long, has_read}
use Rattle.spool_files.proofs.Rows.{steps}
use Rattle.spool_files.proofs.batches.read_batches.Goals as goal

pub loop-check-smaller : goal.loop-check-smaller
loop-check-smaller c =
    let s = steps batch_at batch_octets FitsBatch batch_field no_batch c.args.file.now (batch_views c.loop-check.batches.items) c.loop-check.rest.now (c.in-Some.check, c.in-Some.body.now) c.in-Some.after.now (λ i. omega (arith, c.type_inv.file i)) c.loop-check.invariant.fit c.loop-check.invariant.read (sym c.in-Some.ensures) in
    s.shorter batch-long

pub loop-check-preserved : goal.loop-check-preserved
loop-check-preserved c =
    let s = steps batch_at batch_octets FitsBatch batch_field no_batch c.args.file.now (batch_views c.loop-check.batches.items) c.loop-check.rest.now (c.in-Some.check, c.in-Some.body.now) c.in-Some.after.now (λ i. omega (arith, c.type_inv.file i)) c.loop-check.invariant.fit c.loop-check.invariant.read (sym c.in-Some.ensures) in
    let pushed : batch_views c.push.new.self.items ≡ batch_views c.loop-check.batches.items ++ (c.in-Some.check, c.in-Some.body.now) ∷ [] = rw c.in_ok-push.ensures.items (map_push _ c.loop-check.batches.items (c.in-Some.check, c.in-Some.body)) in
    record { fit = subst AreBatches (sym pushed) s.fit; read = ap (λ (l : List Batch). octets_of_batches l ++ c.in-Some.after.now) pushed ∙ s.read }

pub returns-clause-batches : goal.returns-clause-batches
returns-clause-batches c = has_read c.args.file.now (batch_views c.loop-check.batches.items) c.loop-check.rest.now c.loop-check.invariant.fit c.loop-check.invariant.read (sym c.in_default.ensures)
