use Rattle.std.proofs.Common.{◌≡◌, ℕ, ◌-◌, List, [], ◌∷◌, ◌++◌, length, take, ap, sym, ◌∙◌, arith, append_assoc, length-append}
use Rattle.std.proofs.lemmas.List.{take_at}
use Rattle.json_objects.proofs.close_body.Goals as goal

-- all but the last one of these
but_last : (xs : List ℕ) (x n : ℕ) → n ≡ length (xs ++ x ∷ []) → take (n - 1) (xs ++ x ∷ []) ≡ xs
but_last xs x n e = take_at xs (x ∷ []) (n - 1) (omega (arith, e, length-append xs (x ∷ [])))

pub returns : goal.returns
returns c = record {
  text = c.into_inner-all.ensures.utf8;
  read = c.into_inner-all.ensures.reads_back;
  are = λ front e.
      let old = c.into_inner-all.result.items in
      let whole : old ≡ (c.args.writer.before ++ front) ++ 125 ∷ [] =
      c.into_inner-all.ensures.items ∙ ap (λ xs. c.args.writer.before ++ xs) e ∙ sym (append_assoc c.args.writer.before front (125 ∷ [])) in
      let n = c.into_inner-all.result.len in
      c.pop.ensures.rest ∙ ap (λ xs. take (n - 1) xs) whole ∙ but_last (c.args.writer.before ++ front) 125 n (c.into_inner-all.result.ok.0 ∙ ap length whole);
}
