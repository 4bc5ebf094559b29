-- A tally that is whole is over all that an outlet was given, and over nothing else.
use Rattle.std.proofs.Common.{◌≡◌, ◌↔◌, ℕ, ◌+◌, ◌<◌, List, ◌∷◌, length, refl, sym, ap, ◌∙◌, subst, arith, Some, length-append, get_or, inl, inr}
use Rattle.std.specs.Prelude.{IfSome}
use Rattle.std.specs.List.{range_with_len}
use Rattle.std.proofs.lemmas.List.{length-map}
use Rattle.std.proofs.lemmas.List.FromFn.{get_or-range_with_len}
use Rattle.std.proofs.Math.Seq.{get_or-append_seam}
use Rattle.rad_lane.specs.declared.outgoing.Outgoing.{Outgoing}
use Rattle.ledger_rules.specs.Counting.{GoOnFrom, IsFirstGap, IsOpen, Tells}
use Rattle.ledger_rules.specs.Outlets.{serials_of, AreAllGiven}
use Rattle.ledger_rules.specs.declared.tally.Tally.{Tally}
use Rattle.ledger_rules.specs.declared.tally.Gap.{Gap}
use Rattle.ledger_rules.specs.declared.tally.Verdict.{Verdict}
use Rattle.ledger_rules.specs.declared.tally.Verdict.TheVariants.{Whole, Open, Missing, Unaccounted, Part, Contradicted}

-- where the serials go on, there is no gap between them
no_gap : (first : ℕ) (serials : List ℕ) (gap : Gap) → GoOnFrom first serials → IsFirstGap first serials gap → ⊥
no_gap first serials gap e g =
    let n : ℕ = length g.before in
    let within : n < length serials = omega (arith, ap length g.split, length-append g.before ((gap.last + 1) ∷ g.after)) in
    let there : get_or serials n 0 ≡ gap.last + 1 = ap (λ xs. get_or xs n 0) g.split ∙ get_or-append_seam g.before (gap.last + 1) g.after 0 in
    let wanted : get_or serials n 0 ≡ first + n = ap (λ xs. get_or xs n 0) e ∙ get_or-range_with_len first (length serials) n 0 within in
    omega (arith, there, wanted, g.from, g.some)

-- what is told is that it is open, exactly where it is
module _ (tally : Tally) (serials : List ℕ) where
  open_alone : IsOpen tally serials → (verdict : Verdict) → Tells tally serials verdict → verdict ≡ Open
  open_alone is Whole t =
      let less : t.count < tally.first + length serials = subst (λ o. IfSome o (λ n. n < tally.first + length serials)) t.ended is.unended in
      absurd (omega (arith, less, t.all))
  open_alone is Open t = refl
  open_alone is (Missing gap) (inl g) = absurd (no_gap tally.first serials gap is.goes_on g)
  open_alone is (Missing gap) (inr cut) =
      let less : cut.count < tally.first + length serials = subst (λ o. IfSome o (λ n. n < tally.first + length serials)) cut.ended is.unended in
      absurd (omega (arith, less, cut.from, cut.to, cut.some))
  open_alone is Unaccounted t = absurd t
  open_alone is Part t = absurd t
  open_alone is Contradicted t = absurd t

  pub open_exactly : (verdict : Verdict) → Tells tally serials verdict → (verdict ≡ Open) ↔ IsOpen tally serials
  open_exactly verdict t = (λ e. subst (λ v. Tells tally serials v) e t, λ is. open_alone is verdict t)

module _ (tally : Tally) (given : List Outgoing) (from_zero : tally.first ≡ 0) where
  long : length (serials_of given) ≡ length given
  long = length-map given (λ r. r.serial)

  pub whole_is_all : Tells tally (serials_of given) Whole → AreAllGiven tally given
  whole_is_all w = record {
    counted = w.ended ∙ ap Some (omega (arith, w.all, from_zero, long));
    in_order = w.goes_on ∙ ap (λ n. range_with_len n (length (serials_of given))) from_zero ∙ ap (range_with_len 0) long;
  }

  module _ (a : AreAllGiven tally given) where
    goes_on : GoOnFrom tally.first (serials_of given)
    goes_on = a.in_order ∙ ap (range_with_len 0) (sym long) ∙ ap (λ n. range_with_len n (length (serials_of given))) (sym from_zero)

    same_count : (count : ℕ) → tally.end ≡ Some count → count ≡ length given
    same_count count ended = subst (λ o. IfSome o (λ n. count ≡ n)) (sym ended ∙ a.counted) refl

    pub all_is_whole : (verdict : Verdict) → Tells tally (serials_of given) verdict → verdict ≡ Whole
    all_is_whole Whole t = refl
    all_is_whole Open t =
        let less : length given < tally.first + length (serials_of given) = subst (λ o. IfSome o (λ n. n < tally.first + length (serials_of given))) a.counted t.unended in
        absurd (omega (arith, less, from_zero, long))
    all_is_whole (Missing gap) (inl g) = absurd (no_gap tally.first (serials_of given) gap goes_on g)
    all_is_whole (Missing gap) (inr cut) = absurd (omega (arith, same_count cut.count cut.ended, cut.from, cut.to, cut.some, from_zero, long))
    all_is_whole Unaccounted t = absurd t
    all_is_whole Part t = absurd t
    all_is_whole Contradicted t = absurd t

  pub whole_exactly : (verdict : Verdict) → Tells tally (serials_of given) verdict → (verdict ≡ Whole) ↔ AreAllGiven tally given
  whole_exactly verdict t = (λ e. whole_is_all (subst (λ v. Tells tally (serials_of given) v) e t), λ a. all_is_whole a verdict t)
