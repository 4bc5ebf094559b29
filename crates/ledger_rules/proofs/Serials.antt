-- How the serials go on.
use Rattle.std.proofs.Common.{◌≡◌, ℕ, zero, suc, ◌+◌, ◌<◌, List, [], ◌∷◌, ◌++◌, length, refl, sym, ap, ◌∙◌, arith, add-zero, add-one, append_assoc, length-append, Option, Some, None, MatchOption, subst, inl, inr}
use Rattle.std.specs.Prelude.{⊤}
use Rattle.std.specs.List.{last_or, range_with_len}
use Rattle.std.specs.Option.{option_map_or, option_or}
use Rattle.ledger_rules.specs.Counting.{GoOnFrom, next_after, IsFirstGap, LeavesGap, Counts, Tells}
use Rattle.ledger_rules.specs.declared.tally.Gap.{Gap}
use Rattle.ledger_rules.specs.declared.tally.Tally.{Tally}
use Rattle.ledger_rules.specs.declared.tally.Verdict.TheVariants.{Whole, Open, Missing}

range_more : (from count : ℕ) → range_with_len from (count + 1) ≡ range_with_len from count ++ (from + count) ∷ []
range_more from zero = rw add-zero refl
range_more from (suc count) =
    let next : from + 1 + count ≡ from + suc count = omega arith in
    let rest : range_with_len (from + 1) (count + 1) ≡ range_with_len (from + 1) count ++ (from + suc count) ∷ [] = range_more (from + 1) count ∙ ap (λ n. range_with_len (from + 1) count ++ n ∷ []) next in
    rw (add-one (suc count)) (ap (λ numbers. from ∷ numbers) (rw (add-one count) at rest))

last_push : (before : Option ℕ) (serials : List ℕ) (serial : ℕ) → last_or before (serials ++ serial ∷ []) ≡ Some serial
last_push before [] serial = refl
last_push before (x ∷ xs) serial = last_push (Some x) xs serial

-- the next serial after one more
pub next_after_push : (first : ℕ) (serials : List ℕ) (serial : ℕ) → next_after first (serials ++ serial ∷ []) ≡ serial + 1
next_after_push first serials serial = ap (λ last. option_map_or (λ n. n + 1) last first) (last_push None serials serial)

last_range : (from count : ℕ) → last_or (Some from) (range_with_len (from + 1) count) ≡ Some (from + count)
last_range from zero = ap Some (omega arith)
last_range from (suc count) =
    let same : from + 1 + count ≡ from + suc count = omega arith in
    last_range (from + 1) count ∙ ap Some same

next_after_range : (first count : ℕ) → next_after first (range_with_len first count) ≡ first + count
next_after_range first zero = omega arith
next_after_range first (suc count) =
    let same : first + count + 1 ≡ first + suc count = omega arith in
    ap (λ last. option_map_or (λ n. n + 1) last first) (last_range first count) ∙ same

-- where none is left out, the next serial is known
pub next_of_all : (first : ℕ) (serials : List ℕ) → GoOnFrom first serials → next_after first serials ≡ first + length serials
next_of_all first serials e = ap (next_after first) e ∙ next_after_range first (length serials)

-- none is left out with that one more
pub goes_on : (first : ℕ) (serials : List ℕ) (serial : ℕ) → GoOnFrom first serials → next_after first serials ≡ serial → GoOnFrom first (serials ++ serial ∷ [])
goes_on first serials serial e next =
    let at : first + length serials ≡ serial = sym (next_of_all first serials e) ∙ next in
    let long : length serials + 1 ≡ length (serials ++ serial ∷ []) = omega (arith, length-append serials (serial ∷ [])) in
    ap (λ xs. xs ++ serial ∷ []) e
    ∙ ap (λ n. range_with_len first (length serials) ++ n ∷ []) (sym at)
    ∙ sym (range_more first (length serials))
    ∙ ap (range_with_len first) long

-- the first gap stays the first
pub gap_stays : (first : ℕ) (serials : List ℕ) (serial : ℕ) (gap : Gap) → IsFirstGap first serials gap → IsFirstGap first (serials ++ serial ∷ []) gap
gap_stays first serials serial gap g = record {
  before = g.before;
  after = g.after ++ serial ∷ [];
  split = ap (λ xs. xs ++ serial ∷ []) g.split ∙ append_assoc g.before ((gap.last + 1) ∷ g.after) (serial ∷ []);
  goes_on = g.goes_on;
  from = g.from;
  some = g.some;
}

-- a gap where there was none is the first
pub gap_comes : (first : ℕ) (serials : List ℕ) (serial : ℕ) (gap : Gap) → GoOnFrom first serials → LeavesGap (next_after first serials) serial (Some gap) → IsFirstGap first (serials ++ serial ∷ []) gap
gap_comes first serials serial gap e leaves = record {
  before = serials;
  after = [];
  split = ap (λ n. serials ++ n ∷ []) (sym leaves.1);
  goes_on = e;
  from = leaves.0 ∙ next_of_all first serials e;
  some = leaves.2;
}

-- how a tally stands after one entry more: where there was no gap, the one before it is the first
module _ (old new : Tally) (serial : ℕ) (first : new.first ≡ old.first) (entries : new.entries ≡ old.entries + 1) (next : new.next ≡ serial + 1) (serials : List ℕ) (c : Counts old serials) where
  abbrev pub more : List ℕ
  more = serials ++ serial ∷ []

  counted : new.entries ≡ length more
  counted = omega (arith, entries, c.entries, length-append serials (serial ∷ []))

  next_is : new.next ≡ next_after new.first more
  next_is = next ∙ sym (next_after_push new.first serials serial)

  pub counts_later : (gap : Gap) → old.gap ≡ Some gap → new.gap ≡ Some gap → Counts new more
  counts_later gap was is =
      let g : IsFirstGap old.first serials gap = subst (λ o. MatchOption o (GoOnFrom old.first serials) (λ h. IsFirstGap old.first serials h)) was c.gap in
      let h : IsFirstGap new.first more gap = subst (λ n. IsFirstGap n more gap) (sym first) (gap_stays old.first serials serial gap g) in
      record {
        entries = counted;
        next = next_is;
        gap = subst (λ o. MatchOption o (GoOnFrom new.first more) (λ x. IsFirstGap new.first more x)) (sym is) h;
      }

  module _ (was : old.gap ≡ None) where
    all : GoOnFrom old.first serials
    all = subst (λ o. MatchOption o (GoOnFrom old.first serials) (λ h. IsFirstGap old.first serials h)) was c.gap

    pub counts_next : new.gap ≡ None → old.next ≡ serial → Counts new more
    counts_next is same =
        let h : GoOnFrom new.first more = subst (λ n. GoOnFrom n more) (sym first) (goes_on old.first serials serial all (sym c.next ∙ same)) in
        record {
          entries = counted;
          next = next_is;
          gap = subst (λ o. MatchOption o (GoOnFrom new.first more) (λ x. IsFirstGap new.first more x)) (sym is) h;
        }

    pub counts_gap : (gap : Gap) → new.gap ≡ Some gap → LeavesGap old.next serial (Some gap) → Counts new more
    counts_gap gap is leaves =
        let at : LeavesGap (next_after old.first serials) serial (Some gap) = subst (λ n. LeavesGap n serial (Some gap)) c.next leaves in
        let h : IsFirstGap new.first more gap = subst (λ n. IsFirstGap n more gap) (sym first) (gap_comes old.first serials serial gap all at) in
        record {
          entries = counted;
          next = next_is;
          gap = subst (λ o. MatchOption o (GoOnFrom new.first more) (λ x. IsFirstGap new.first more x)) (sym is) h;
        }

  by_gap : (was : Option Gap) → old.gap ≡ was → (gap : Option Gap) → new.gap ≡ option_or was gap → LeavesGap old.next serial gap → Counts new more
  by_gap (Some g) was gap is leaves = counts_later g was is
  by_gap None was None is leaves = counts_next was is leaves
  by_gap None was (Some g) is leaves = counts_gap was g is leaves

-- so a tally counts one serial more
pub counts_more : (old new : Tally) (serials : List ℕ) (serial : ℕ) (gap : Option Gap) → Counts old serials → LeavesGap old.next serial gap → new.gap ≡ option_or old.gap gap → new.first ≡ old.first → new.entries ≡ old.entries + 1 → new.next ≡ serial + 1 → Counts new (serials ++ serial ∷ [])
counts_more old new serials serial gap c leaves is first entries next = by_gap old new serial first entries next serials c old.gap refl gap is leaves

-- where nothing was counted
pub counts_none : (tally : Tally) → tally.entries ≡ 0 → tally.next ≡ tally.first → tally.gap ≡ None → Counts tally []
counts_none tally entries next none = record {
  entries = entries;
  next = next;
  gap = subst (λ o. MatchOption o (GoOnFrom tally.first []) (λ h. IsFirstGap tally.first [] h)) (sym none) refl;
}

-- what an end line changes is nothing that is counted
pub counts_still : (old new : Tally) (serials : List ℕ) → Counts old serials → new.first ≡ old.first → new.next ≡ old.next → new.entries ≡ old.entries → new.gap ≡ old.gap → Counts new serials
counts_still old new serials c first next entries gap = record {
  entries = entries ∙ c.entries;
  next = next ∙ c.next ∙ ap (λ n. next_after n serials) (sym first);
  gap = subst (λ n. MatchOption new.gap (GoOnFrom n serials) (λ h. IsFirstGap n serials h)) (sym first)
      (subst (λ o. MatchOption o (GoOnFrom old.first serials) (λ h. IsFirstGap old.first serials h)) (sym gap) c.gap);
}

-- what is told of a tally
module _ (tally : Tally) (serials : List ℕ) (c : Counts tally serials) where
  pub tells_gap : (gap : Gap) → tally.gap ≡ Some gap → Tells tally serials (Missing gap)
  tells_gap gap is = inl (subst (λ o. MatchOption o (GoOnFrom tally.first serials) (λ h. IsFirstGap tally.first serials h)) is c.gap)

  module _ (none : tally.gap ≡ None) where
    all_there : GoOnFrom tally.first serials
    all_there = subst (λ o. MatchOption o (GoOnFrom tally.first serials) (λ h. IsFirstGap tally.first serials h)) none c.gap

    next_there : tally.next ≡ tally.first + length serials
    next_there = c.next ∙ next_of_all tally.first serials all_there

    pub tells_open : tally.end ≡ None → Tells tally serials Open
    tells_open is = record { goes_on = all_there; unended = subst (λ o. MatchOption o ⊤ (λ count. count < tally.first + length serials)) (sym is) tt }

    module _ (count : ℕ) (ended : tally.end ≡ Some count) where
      pub tells_less : count < tally.next → Tells tally serials Open
      tells_less less = record {
        goes_on = all_there;
        unended = subst (λ o. MatchOption o ⊤ (λ n. n < tally.first + length serials)) (sym ended) (subst (λ n. count < n) next_there less);
      }

      pub tells_whole : tally.next ≡ count → Tells tally serials Whole
      tells_whole same = record { count = count; ended = ended; goes_on = all_there; all = sym next_there ∙ same }

      pub tells_missing : (gap : Gap) → LeavesGap tally.next count (Some gap) → Tells tally serials (Missing gap)
      tells_missing gap leaves = inr (record { count = count; ended = ended; goes_on = all_there; from = leaves.0 ∙ next_there; to = leaves.1; some = leaves.2 })
