-- The list of the places in use, and where each of them stands in it.
use Rattle.std.proofs.Common.{◌≡◌, ◌≢◌, ℕ, ◌-◌, ◌<◌, List, [], ◌∷◌, ◌++◌, length, get_or, set, Option, Some, None, is_some, IsSome, refl, sym, ap, ◌∙◌, inl, inr, arith, length-set, length-take}
use Rattle.std.specs.List.{swap_remove}
use Rattle.std.proofs.lemmas.List.{get_or-set_same, get_or-set_other, get_or_past, get_or_append_left, get_or_push, get_or-take, get_or_default, length_push}
use Rattle.std.proofs.lemmas.Bool.{cases_eq, cases_lt, false≢true}
use Rattle.rad_tables.specs.internal.Kept.{at, IsIndex}

module _ {T : Type 0} where
  -- a place in use is one of the cells
  pub within : (contents : List (Option T)) (p : ℕ) → IsSome (at contents p) → p < length contents
  within contents p used =
      elim (cases_lt p (length contents)) [
        | inl h ↦ h
        | inr past ↦ absurd (false≢true (sym (ap is_some (get_or_past contents p None past)) ∙ used))
      ]

  used_is_not_free : (contents : List (Option T)) (p q : ℕ) → IsSome (at contents p) → at contents q ≡ None → p ≢ q
  used_is_not_free contents p q used free e = false≢true (sym (ap is_some free) ∙ sym (ap (λ r. is_some (at contents r)) e) ∙ used)

  module _ (contents : List (Option T)) (places positions : List ℕ) (index : IsIndex contents places positions) (p : ℕ) where
    -- another entry at a place in use
    pub changed : (entry : T) → IsSome (at contents p) → IsIndex (set contents p (Some entry)) places positions
    changed entry used =
        let inside = within contents p used in
        let still : (q : ℕ) → IsSome (at contents q) → IsSome (at (set contents p (Some entry)) q) = λ q h.
        elim (cases_eq q p) [
          | inl same ↦ ap (λ r. is_some (at (set contents p (Some entry)) r)) same ∙ ap is_some (get_or-set_same contents p (Some entry) None inside)
          | inr other ↦ ap is_some (get_or-set_other contents p q (Some entry) None other) ∙ h
        ] in
        let was : (q : ℕ) → IsSome (at (set contents p (Some entry)) q) → IsSome (at contents q) = λ q h.
        elim (cases_eq q p) [
          | inl same ↦ ap (λ r. is_some (at contents r)) same ∙ used
          | inr other ↦ sym (ap is_some (get_or-set_other contents p q (Some entry) None other)) ∙ h
        ] in
        record {
          back = index.back ∙ sym (length-set contents p (Some entry));
          in_use = λ i h. still _ (index.in_use i h);
          position = index.position;
          known = λ q h. index.known q (was q h);
          placed = λ q h. index.placed q (was q h);
        }

    -- an entry at a free place, which comes last
    pub added : (entry : T) → p < length contents → at contents p ≡ None → IsIndex (set contents p (Some entry)) (places ++ p ∷ []) (set positions p (length places))
    added entry inside free =
        let cells = set contents p (Some entry) in
        let here : IsSome (at cells p) = ap is_some (get_or-set_same contents p (Some entry) None inside) in
        let others : (q : ℕ) → q ≢ p → at cells q ≡ at contents q = λ q other. get_or-set_other contents p q (Some entry) None other in
        let longer = length_push places p in
        let kept : (i : ℕ) → i < length places → get_or (places ++ p ∷ []) i 0 ≡ get_or places i 0 = λ i h. get_or_append_left places (p ∷ []) 0 i h in
        let new : get_or (places ++ p ∷ []) (length places) 0 ≡ p = get_or_push places p 0 (length places) refl in
        let fits : p < length positions = omega (arith, index.back) in
        record {
          back = length-set positions p (length places) ∙ index.back ∙ sym (length-set contents p (Some entry));
          in_use = λ i h.
              elim (cases_lt i (length places)) [
                | inl old ↦
                    let used = index.in_use i old in
                    ap (λ q. is_some (at cells q)) (kept i old) ∙ ap is_some (others _ (used_is_not_free contents _ p used free)) ∙ used
                | inr past ↦
                    let last : i ≡ length places = omega arith in
                    ap (λ j. is_some (at cells (get_or (places ++ p ∷ []) j 0))) last ∙ ap (λ q. is_some (at cells q)) new ∙ here
              ];
          position = λ i h.
              elim (cases_lt i (length places)) [
                | inl old ↦
                    ap (λ q. get_or (set positions p (length places)) q 0) (kept i old)
                    ∙ get_or-set_other positions p (get_or places i 0) (length places) 0 (used_is_not_free contents _ p (index.in_use i old) free)
                    ∙ index.position i old
                | inr past ↦
                    let last : i ≡ length places = omega arith in
                    ap (λ j. get_or (set positions p (length places)) (get_or (places ++ p ∷ []) j 0) 0) last
                    ∙ ap (λ q. get_or (set positions p (length places)) q 0) new
                    ∙ get_or-set_same positions p (length places) 0 fits ∙ sym last
              ];
          known = λ q h.
              elim (cases_eq q p) [
                | inl same ↦
                    let is = ap (λ r. get_or (set positions p (length places)) r 0) same ∙ get_or-set_same positions p (length places) 0 fits in
                    omega arith
                | inr other ↦
                    let was = index.known q (sym (ap is_some (others q other)) ∙ h) in
                    let is = get_or-set_other positions p q (length places) 0 other in
                    omega arith
              ];
          placed = λ q h.
              elim (cases_eq q p) [
                | inl same ↦
                    let is = ap (λ r. get_or (set positions p (length places)) r 0) same ∙ get_or-set_same positions p (length places) 0 fits in
                    ap (λ i. get_or (places ++ p ∷ []) i 0) is ∙ new ∙ sym same
                | inr other ↦
                    let used : IsSome (at contents q) = sym (ap is_some (others q other)) ∙ h in
                    let is = get_or-set_other positions p q (length places) 0 other in
                    ap (λ i. get_or (places ++ p ∷ []) i 0) is ∙ kept _ (index.known q used) ∙ index.placed q used
              ];
        }

    -- a place is freed, and the last one in use moves to where it stood
    pub freed : (d : ℕ) → IsSome (at contents p) → IsIndex (set contents p None) (swap_remove places (get_or positions p 0) d) (set positions (get_or places (length places - 1) 0) (get_or positions p 0))
    freed d used =
        let cells = set contents p None in
        let inside = within contents p used in
        let i = get_or positions p 0 in
        let last = length places - 1 in
        let moved = get_or places last 0 in
        let known : i < length places = index.known p used in
        let below : last < length places = omega arith in
        let others : (q : ℕ) → q ≢ p → at cells q ≡ at contents q = λ q other. get_or-set_other contents p q None None other in
        let gone : at cells p ≡ None = get_or-set_same contents p None None inside in
        let left : (q : ℕ) → IsSome (at cells q) → q ≢ p = λ q h. used_is_not_free cells q p h gone in
        let was : (q : ℕ) → IsSome (at cells q) → IsSome (at contents q) = λ q h. sym (ap is_some (others q (left q h))) ∙ h in
        let end : get_or places last d ≡ moved = get_or_default places last d 0 below in
        let moved_stands : get_or positions moved 0 ≡ last = index.position last below in
        let moved_fits : moved < length positions = omega (arith, index.back, within contents moved (index.in_use last below)) in
        let shorter : length (swap_remove places i d) ≡ last = length-take last (set places i (get_or places last d)) ∙ omega (arith, length-set places i (get_or places last d)) in
        -- what stands at each place of the shorter list
        let at_hole : i < last → get_or (swap_remove places i d) i 0 ≡ moved = λ h.
        get_or-take last (set places i (get_or places last d)) i 0 h ∙ get_or-set_same places i (get_or places last d) 0 known ∙ end in
        let elsewhere : (j : ℕ) → j < last → j ≢ i → get_or (swap_remove places i d) j 0 ≡ get_or places j 0 = λ j h other.
        get_or-take last (set places i (get_or places last d)) j 0 h ∙ get_or-set_other places i j (get_or places last d) 0 other in
        -- a place that stands at j has the position j
        let stands : (j : ℕ) → j < length places → get_or positions (get_or places j 0) 0 ≡ j = index.position in
        let not_p : (j : ℕ) → j < length places → j ≢ i → get_or places j 0 ≢ p = λ j h other e. other (sym (stands j h) ∙ ap (λ q. get_or positions q 0) e) in
        let not_moved : (j : ℕ) → j < length places → j ≢ last → get_or places j 0 ≢ moved = λ j h other e. other (sym (stands j h) ∙ ap (λ q. get_or positions q 0) e ∙ moved_stands) in
        record {
          back = length-set positions moved i ∙ index.back ∙ sym (length-set contents p None);
          in_use = λ j h.
              let low : j < last = omega (arith, shorter) in
              elim (cases_eq j i) [
                | inl same ↦
                    let hole : i < last = omega arith in
                    let is : get_or (swap_remove places i d) j 0 ≡ moved = ap (λ k. get_or (swap_remove places i d) k 0) same ∙ at_hole hole in
                    ap (λ q. is_some (at cells q)) is ∙ ap is_some (others moved (not_p last below (omega arith))) ∙ index.in_use last below
                | inr other ↦
                    ap (λ q. is_some (at cells q)) (elsewhere j low other) ∙ ap is_some (others _ (not_p j (omega arith) other)) ∙ index.in_use j (omega arith)
              ];
          position = λ j h.
              let low : j < last = omega (arith, shorter) in
              elim (cases_eq j i) [
                | inl same ↦
                    let hole : i < last = omega arith in
                    let is : get_or (swap_remove places i d) j 0 ≡ moved = ap (λ k. get_or (swap_remove places i d) k 0) same ∙ at_hole hole in
                    ap (λ q. get_or (set positions moved i) q 0) is ∙ get_or-set_same positions moved i 0 moved_fits ∙ sym same
                | inr other ↦
                    ap (λ q. get_or (set positions moved i) q 0) (elsewhere j low other)
                    ∙ get_or-set_other positions moved _ i 0 (not_moved j (omega arith) (omega arith)) ∙ stands j (omega arith)
              ];
          known = λ q h.
              elim (cases_eq q moved) [
                | inl same ↦
                    let is : get_or (set positions moved i) q 0 ≡ i = ap (λ r. get_or (set positions moved i) r 0) same ∙ get_or-set_same positions moved i 0 moved_fits in
                    let hole : i ≢ last = λ e. left q h (same ∙ sym (ap (λ k. get_or places k 0) e) ∙ index.placed p used) in
                    omega (arith, shorter)
                | inr other ↦
                    let is : get_or (set positions moved i) q 0 ≡ get_or positions q 0 = get_or-set_other positions moved q i 0 other in
                    let k = index.known q (was q h) in
                    let not_last : get_or positions q 0 ≢ last = λ e. other (sym (index.placed q (was q h)) ∙ ap (λ j. get_or places j 0) e) in
                    omega (arith, shorter)
              ];
          placed = λ q h.
              elim (cases_eq q moved) [
                | inl same ↦
                    let is : get_or (set positions moved i) q 0 ≡ i = ap (λ r. get_or (set positions moved i) r 0) same ∙ get_or-set_same positions moved i 0 moved_fits in
                    let hole : i ≢ last = λ e. left q h (same ∙ sym (ap (λ k. get_or places k 0) e) ∙ index.placed p used) in
                    ap (λ k. get_or (swap_remove places i d) k 0) is ∙ at_hole (omega arith) ∙ sym same
                | inr other ↦
                    let is : get_or (set positions moved i) q 0 ≡ get_or positions q 0 = get_or-set_other positions moved q i 0 other in
                    let k = index.known q (was q h) in
                    let not_last : get_or positions q 0 ≢ last = λ e. other (sym (index.placed q (was q h)) ∙ ap (λ j. get_or places j 0) e) in
                    let not_hole : get_or positions q 0 ≢ i = λ e. left q h (sym (index.placed q (was q h)) ∙ ap (λ j. get_or places j 0) e ∙ index.placed p used) in
                    ap (λ k. get_or (swap_remove places i d) k 0) is ∙ elsewhere _ (omega arith) not_hole ∙ index.placed q (was q h)
              ];
        }
