-- The cyclic order of the pairs is that of the places.
use Rattle.std.proofs.Common.{◌≡◌, ◌≢◌, ℕ, zero, suc, ◌+◌, ◌-◌, ◌*◌, ◌/◌, ◌%◌, ◌<◌, ◌≤◌, List, length, Option, Some, None, is_some, IsSome, refl, sym, ap, subst, ◌∙◌, inl, inr, arith}
use Rattle.std.specs.Option.{IfSome, MatchOption}
use Rattle.std.specs.FinMap.{get, len}
use Rattle.std.proofs.lemmas.Bool.{cases_lt, cond-true, cond-false, lt-ltb, le-ltb, false≢true}
use Rattle.rad_tables.specs.declared.slots.Slot.{Slot}
use Rattle.rad_tables.specs.Pairs.{IsInRange, IsFirstFree, AllInUse, following, steps_on, beginning}
use Rattle.rad_tables.specs.internal.Kept.{place_of, slot_at, start_of, at, entries_of, InUseBetween, IsFirstFreeBetween, IsFirstFreeBehind}
use Rattle.rad_tables.proofs.SlotLemmas.{place_slot, slot_place}
use Rattle.rad_tables.proofs.ContentsLemmas.{get_place, get_slot, len_all_used, len_all_but_one, len_with_free}
use Rattle.rad_tables.proofs.KeptLemmas.{table}

slot_parts : (q r p : ℕ) → r < 256 → p ≡ 256 * q + r → slot_at p ≡ record { port = q; identifier = r }
slot_parts q r p fits e =
    let port : p / 256 ≡ q = omega arith in
    let identifier : p % 256 ≡ r = omega arith in
    λ i. record { port = port i; identifier = identifier i }

following_inside : (ports p : ℕ) → p + 1 < 256 * ports → following ports (slot_at p) ≡ slot_at (p + 1)
following_inside ports p inside =
    elim (cases_lt (p % 256) 255) [
      | inl low ↦ cond-true _ _ _ (lt-ltb _ _ low) ∙ sym (slot_parts (p / 256) (p % 256 + 1) (p + 1) (omega arith) (omega arith))
      | inr high ↦
          cond-false _ _ _ (le-ltb (p % 256) 255 high) ∙ cond-true _ _ _ (lt-ltb (p / 256 + 1) ports (omega arith))
          ∙ sym (slot_parts (p / 256 + 1) 0 (p + 1) (omega arith) (omega arith))
    ]

following_end : (ports p : ℕ) → p + 1 ≡ 256 * ports → following ports (slot_at p) ≡ slot_at 0
following_end ports p end =
    cond-false _ _ _ (le-ltb (p % 256) 255 (omega arith)) ∙ cond-false _ _ _ (le-ltb (p / 256 + 1) ports (omega arith))

steps_inside : (ports n a : ℕ) → a + n < 256 * ports → steps_on ports n (slot_at a) ≡ slot_at (a + n)
steps_inside ports zero a inside = let same : a ≡ a + 0 = omega arith in ap slot_at same
steps_inside ports (suc n) a inside =
    let same : a + n + 1 ≡ a + suc n = omega arith in
    ap (following ports) (steps_inside ports n a (omega arith)) ∙ following_inside ports (a + n) (omega arith) ∙ ap slot_at same

steps_round : (ports n a m : ℕ) → a + n ≡ 256 * ports → 0 < n → m < 256 * ports → steps_on ports (n + m) (slot_at a) ≡ slot_at m
steps_round ports zero a zero end some inside = absurd (omega arith)
steps_round ports (suc n) a zero end some inside =
    let same : suc n + 0 ≡ suc n = omega arith in
    ap (λ k. steps_on ports k (slot_at a)) same ∙ ap (following ports) (steps_inside ports n a (omega arith)) ∙ following_end ports (a + n) (omega arith)
steps_round ports n a (suc m) end some inside =
    let same : n + suc m ≡ suc (n + m) = omega arith in
    let next : m + 1 ≡ suc m = omega arith in
    ap (λ k. steps_on ports k (slot_at a)) same ∙ ap (following ports) (steps_round ports n a m end some (omega arith))
    ∙ following_inside ports m (omega arith) ∙ ap slot_at next

pub start_small : (ports : ℕ) (allotted : Option Slot) → IfSome allotted (IsInRange ports) → start_of allotted ≤ 256 * ports
start_small ports None last = omega arith
start_small ports (Some slot) last = omega (arith, last.0, last.1)

begins_inside : (ports : ℕ) (allotted : Option Slot) → IfSome allotted (IsInRange ports) → start_of allotted < 256 * ports → beginning ports allotted ≡ slot_at (start_of allotted)
begins_inside ports None last inside = refl
begins_inside ports (Some slot) last inside = ap (following ports) (sym (slot_place slot last.1)) ∙ following_inside ports (place_of slot) inside

begins_end : (ports : ℕ) (allotted : Option Slot) → IfSome allotted (IsInRange ports) → start_of allotted ≡ 256 * ports → beginning ports allotted ≡ slot_at 0
begins_end ports None last end = refl
begins_end ports (Some slot) last end = ap (following ports) (sym (slot_place slot last.1)) ∙ following_end ports (place_of slot) end

pub in_range : (ports place : ℕ) → place < 256 * ports → IsInRange ports (slot_at place)
in_range ports place inside = (omega arith, omega arith)

module _ {T : Type 0} (contents : List (Option T)) (ports : ℕ) (allotted : Option Slot) (pairs : length contents ≡ 256 * ports) (last : IfSome allotted (IsInRange ports)) where
  used_on : (k p : ℕ) → steps_on ports k (beginning ports allotted) ≡ slot_at p → IsSome (at contents p) → IsSome (get (entries_of contents) (steps_on ports k (beginning ports allotted)))
  used_on k p e used = ap (λ s. is_some (get (entries_of contents) s)) e ∙ ap is_some (get_place contents p) ∙ used

  -- found behind the pair last allotted
  pub found_behind : (place : ℕ) → IsFirstFreeBetween contents (start_of allotted) (length contents) place → IsFirstFree (table ports (entries_of contents) allotted) (slot_at place)
  found_behind place found =
      let start = start_of allotted in
      let begins = begins_inside ports allotted last (omega (arith, found.above, found.below)) in
      let there : start + (place - start) ≡ place = omega (arith, found.above) in
      record {
        steps = place - start;
        reached = sym (ap (steps_on ports (place - start)) begins ∙ steps_inside ports (place - start) start (omega (arith, found.above, found.below)) ∙ ap slot_at there);
        free = get_place contents place ∙ found.free;
        passed = λ k h.
            used_on k (start + k) (ap (steps_on ports k) begins ∙ steps_inside ports k start (omega (arith, found.above, found.below)))
            (found.passed (start + k) (omega arith) (omega arith));
      }

  -- found from the first pair on
  pub found_before : (place : ℕ) → InUseBetween contents (start_of allotted) (length contents) → IsFirstFreeBetween contents 0 (start_of allotted) place → IsFirstFree (table ports (entries_of contents) allotted) (slot_at place)
  found_before place behind found =
      let start = start_of allotted in
      let small = start_small ports allotted last in
      let free = get_place contents place ∙ found.free in
      elim (cases_lt start (256 * ports)) [
        | inl inside ↦
            let begins = begins_inside ports allotted last inside in
            let n = 256 * ports - start in
            let end : start + n ≡ 256 * ports = omega arith in
            record {
              steps = n + place;
              reached = sym (ap (steps_on ports (n + place)) begins ∙ steps_round ports n start place end (omega arith) (omega (arith, found.below)));
              free = free;
              passed = λ k h.
                  elim (cases_lt (start + k) (256 * ports)) [
                    | inl before_end ↦
                        used_on k (start + k) (ap (steps_on ports k) begins ∙ steps_inside ports k start before_end)
                        (behind (start + k) (omega arith) (omega arith))
                    | inr past_end ↦
                        let m = k - n in
                        let sum : k ≡ n + m = omega arith in
                        used_on k m (ap (λ j. steps_on ports j (beginning ports allotted)) sum ∙ ap (steps_on ports (n + m)) begins ∙ steps_round ports n start m end (omega arith) (omega (arith, found.below)))
                        (found.passed m (omega arith) (omega arith))
                  ];
            }
        | inr past ↦
            let begins = begins_end ports allotted last (omega arith) in
            record {
              steps = place;
              reached = sym (ap (steps_on ports place) begins ∙ steps_inside ports place 0 (omega (arith, found.below)) ∙ ap slot_at (omega arith));
              free = free;
              passed = λ k h.
                  used_on k k (ap (steps_on ports k) begins ∙ steps_inside ports k 0 (omega (arith, found.below)) ∙ ap slot_at (omega arith))
                  (found.passed k (omega arith) h);
            }
      ]

  pub found : (place : ℕ) → IsFirstFreeBehind contents (start_of allotted) place → IsFirstFree (table ports (entries_of contents) allotted) (slot_at place)
  found place is =
      elim is [
        | inl behind ↦ found_behind place behind
        | inr before ↦ found_before place before.0 before.1
      ]

  pub found_inside : (place : ℕ) → IsFirstFreeBehind contents (start_of allotted) place → place < length contents
  found_inside place is =
      elim is [
        | inl behind ↦ behind.below
        | inr before ↦ omega (arith, before.1.below, start_small ports allotted last)
      ]

  pub found_free : (place : ℕ) → IsFirstFreeBehind contents (start_of allotted) place → at contents place ≡ None
  found_free place is =
      elim is [
        | inl behind ↦ behind.free
        | inr before ↦ before.1.free
      ]

  pub all_in_use : InUseBetween contents 0 (length contents) → AllInUse (table ports (entries_of contents) allotted)
  all_in_use used slot range =
      ap is_some (get_slot contents slot range.1) ∙ used (place_of slot) (omega arith) (omega (arith, pairs, range.0, range.1))

  pub full : InUseBetween contents 0 (length contents) → 256 * ports ≤ len (entries_of contents)
  full used = omega (arith, pairs, len_all_used contents (λ p h. used p (omega arith) h))

  -- a free place says that not all are in use
  pub not_all : (place : ℕ) → place < length contents → at contents place ≡ None → AllInUse (table ports (entries_of contents) allotted) → ⊥
  not_all place inside free all =
      false≢true (sym (ap is_some (get_place contents place ∙ free)) ∙ all (slot_at place) (in_range ports place (omega arith)))

  -- the pair last allotted comes again only where no other is free
  pub again_behind : (place : ℕ) (slot : Slot) → IsFirstFreeBetween contents (start_of allotted) (length contents) place → allotted ≡ Some slot → slot_at place ≡ slot → ⊥
  again_behind place slot found is same =
      let here : place ≡ place_of slot = sym (place_slot place) ∙ ap place_of same in
      let start : start_of allotted ≡ place_of slot + 1 = ap start_of is in
      omega (arith, found.above)

  pub again_before : (place : ℕ) (slot : Slot) → InUseBetween contents (start_of allotted) (length contents) → IsFirstFreeBetween contents 0 (start_of allotted) place → allotted ≡ Some slot → slot_at place ≡ slot → len (entries_of contents) + 1 ≡ 256 * ports
  again_before place slot behind found is same =
      let here : place ≡ place_of slot = sym (place_slot place) ∙ ap place_of same in
      let start : start_of allotted ≡ place_of slot + 1 = ap start_of is in
      let small = start_small ports allotted last in
      let others : (i : ℕ) → i < length contents → i ≢ place → IsSome (at contents i) = λ i h other.
      elim (cases_lt i place) [
        | inl low ↦ found.passed i (omega arith) low
        | inr high ↦ behind i (omega arith) h
      ] in
      omega (arith, pairs, len_all_but_one contents place others, len_with_free contents place (omega (arith, found.below)) found.free)

  pub again : (place : ℕ) (slot : Slot) → IsFirstFreeBehind contents (start_of allotted) place → allotted ≡ Some slot → slot_at place ≡ slot → len (entries_of contents) + 1 ≡ 256 * ports
  again place slot is_found is same =
      elim is_found [
        | inl behind ↦ absurd (again_behind place slot behind is same)
        | inr before ↦ again_before place slot before.0 before.1 is same
      ]

-- none is free from the start on, so the first free place is that before the start
pub free_behind : {T : Type 0} (contents : List (Option T)) (start n : ℕ) → length contents ≡ n → (first : Option ℕ) → InUseBetween contents start n → MatchOption first (InUseBetween contents 0 start) (IsFirstFreeBetween contents 0 start) → MatchOption first (InUseBetween contents 0 n) (IsFirstFreeBehind contents start)
free_behind contents start n e None behind before = λ place low high.
    elim (cases_lt place start) [
      | inl first ↦ before place low first
      | inr late ↦ behind place late high
    ]
free_behind contents start n e (Some place) behind before = inr (subst (InUseBetween contents start) (sym e) behind, before)

-- the search starts among the cells, or behind the last one
pub start_within : (allotted : Option Slot) (ports : ℕ) → IfSome allotted (IsInRange ports) → start_of allotted ≤ 256 * ports
start_within None ports range = omega arith
start_within (Some last) ports range = omega (arith, range.0, range.1)
