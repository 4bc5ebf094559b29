use Rattle.std.proofs.Common.{◌≡◌, ◌∷◌, ◌++◌, ◌<◌, List, ℕ, [], length, refl, ap, sym, ◌∙◌, arith, length-append}
use Rattle.std.proofs.Math.Seq.{get_or-append_seam}
use Rattle.std.specs.Prelude.{get_or}
use Rattle.ledger_files.specs.Chains.{chain_after}
use Rattle.ledger_files.specs.Tails.{body_in, sum_after}
use Rattle.ledger_files.proofs.Seals.{seal_long}
use Rattle.ledger_files.proofs.SealSteps.{line_sealed}
use Rattle.ledger_files.proofs.batch.Batch.seal_line.Goals as goal

pub returns-clause-lines : goal.returns-clause-lines
returns-clause-lines c = λ front rest line h at.
    let old = c.args.self.now in
    let lines : List (List ℕ) = front ++ line ∷ rest in
    let low : c.args.place < length lines = omega (arith, at, length-append front (line ∷ rest)) in
    let there : get_or lines c.args.place [] ≡ line = ap (λ (i : ℕ). get_or lines i []) (sym at) ∙ get_or-append_seam front line rest [] in
    let sum : c.sum.result ≡ sum_after c.args.chain.now.sum (body_in line) =
    c.sum.ensures ∙ c.add_digest.ensures.after ∙ ap (chain_after c.args.chain.now.sum) (c.digest_of.ensures lines h low) ∙ ap (λ (x : List ℕ). sum_after c.args.chain.now.sum (body_in x)) there in
    line_sealed old _ front rest line c.sum.result c.args.place c.end_at-end.result h at
    (c.end_at-end.ensures ∙ ap (λ (xs : List ℕ). get_or xs c.args.place 0) c.as_slice.ensures.value)
    (sum_after c.args.chain.now.sum (body_in line)) old.octets.items c.set_tail.new.octets.items sum refl refl c.set_tail.ensures.tail
    (seal_long c.args.chain.now.sum (body_in line)) refl refl refl refl
