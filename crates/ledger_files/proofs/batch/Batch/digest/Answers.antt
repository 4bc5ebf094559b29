use Rattle.std.proofs.Common.{◌≡◌, ℕ, List, length, get_or, refl, ap, ◌∙◌, arith}
use Rattle.ledger_files.specs.Batches.{AreLines}
use Rattle.ledger_files.proofs.Ends.{holds_digested}
use Rattle.ledger_files.proofs.batch.Batch.digest.Goals as goal

pub returns-clause-lines : goal.returns-clause-lines
returns-clause-lines g c = λ lines h.
    let batch = c.args.self.now in
    let digests = c.digest_lines.new.digests.items in
    let count : length digests ≡ length lines = c.in_ok-digest_lines.ensures.count ∙ ap length c.as_slice-ends.ensures.value ∙ h.count in
    let its : AreLines c.as_slice-octets.result.now c.as_slice-ends.result.now lines = record {
      octets = c.as_slice-octets.ensures.value ∙ h.octets;
      count = ap length c.as_slice-ends.ensures.value ∙ h.count;
      ends = λ k l. ap (λ (xs : List ℕ). get_or xs k 0) c.as_slice-ends.ensures.value ∙ h.ends k l;
    } in
    holds_digested batch _ digests lines h refl refl refl refl refl count
    (λ k l. c.in_ok-digest_lines.ensures.each lines its k (omega (arith, l, count)))
