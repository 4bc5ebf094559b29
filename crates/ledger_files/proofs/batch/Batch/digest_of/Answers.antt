use Rattle.std.proofs.Common.{◌≡◌, ◌<◌, List, ℕ, [], length, get_or, ap, subst, sym, ◌∙◌}
use Rattle.std.proofs.lemmas.Bool.{ltb-true}
use Rattle.std.proofs.lemmas.List.{get_or_default}
use Rattle.ledger_files.specs.Batches.{AreLines}
use Rattle.ledger_files.proofs.Ends.{digest_there}
use Rattle.ledger_files.proofs.batch.Batch.digest_of.Goals as goal

pub returns-in-Some : goal.returns-in-Some
returns-in-Some c = λ lines h low.
    let batch = c.args.self.now in
    let place : ℕ = c.args.place in
    let there : place < length batch.digests.items = subst (λ (n : ℕ). place < n) (ap length c.deref.ensures.value) (ltb-true place (length c.deref.result.now) (sym c.in-Some.ensures.lookup.0)) in
    let same : c.in-Some.digest.now ≡ get_or batch.digests.items place [] =
    c.in-Some.ensures.lookup.1 ∙ ap (λ (ds : List (List ℕ)). get_or ds place c.in-Some.digest.now) c.deref.ensures.value
    ∙ get_or_default batch.digests.items place c.in-Some.digest.now [] there in
    digest_there batch lines c.in-Some.digest.now place h there same low

pub returns-in-None : goal.returns-in-None
returns-in-None c = λ lines h low.
    let its : AreLines c.as_slice-octets.result.now c.as_slice-ends.result.now lines = record {
      octets = c.as_slice-octets.ensures.value ∙ h.octets;
      count = ap length c.as_slice-ends.ensures.value ∙ h.count;
      ends = λ k l. ap (λ (xs : List ℕ). get_or xs k 0) c.as_slice-ends.ensures.value ∙ h.ends k l;
    } in
    c.digest_at.ensures lines its low
