-- The finite map that the cells make.
use Rattle.std.proofs.Common.{◌≡◌, ◌≢◌, ℕ, zero, suc, ◌+◌, ◌-◌, ◌<◌, ◌≤◌, Bool, true, false, cond, List, [], ◌∷◌, length, get_or, set, replicate, Option, Some, None, is_some, IsSome, refl, sym, ap, ◌∙◌, inl, inr, arith}
use Rattle.std.proofs.lemmas.List.{get_or-set_same, get_or-set_other}
use Rattle.std.proofs.lemmas.Bool.{cases_eq, cases_lt, false≢true}
use Rattle.std.specs.Ordering.{eq_by_cmp}
use Rattle.std.specs.FinMap.{FinMap, empty, from_entries, get, insert, remove, len, find, get-from_entries, get-insert, get-remove, len-insert, len-remove, len-empty, same_map}
use Rattle.rad_tables.specs.declared.slots.Slot.{Slot}
use Rattle.rad_tables.specs.Pairs.{slot_cmp}
use Rattle.rad_tables.specs.internal.Kept.{place_of, slot_at, at, listed, entries_of}
use Rattle.rad_tables.proofs.SlotLemmas.{exact_slots, slots_total, tied, itself, apart, slot_place, slots_apart}

module _ {T : Type 0} where
  -- what none of the places has is not found
  miss : (n : ℕ) (contents : List (Option T)) (q : Slot) → ((p : ℕ) → n ≤ p → p < n + length contents → q ≢ slot_at p) → find slot_cmp q (listed n contents) ≡ None
  miss n [] q h = refl
  miss n (None ∷ contents) q h = miss (suc n) contents q (λ p low high. h p (omega arith) (omega arith))
  miss n (Some entry ∷ contents) q h =
      ap (λ b. cond b (Some entry) (find slot_cmp q (listed (suc n) contents))) (apart q (slot_at n) (h n (omega arith) (omega arith)))
      ∙ miss (suc n) contents q (λ p low high. h p (omega arith) (omega arith))

  beyond : (n p : ℕ) (contents : List (Option T)) → p < n → find slot_cmp (slot_at p) (listed n contents) ≡ None
  beyond n p contents h = miss n contents (slot_at p) (λ r low high. slots_apart p r (omega arith))

  hit : (n : ℕ) (contents : List (Option T)) (i p : ℕ) → p ≡ n + i → find slot_cmp (slot_at p) (listed n contents) ≡ get_or contents i None
  hit n [] i p e = refl
  hit n (None ∷ contents) zero p e = beyond (suc n) p contents (omega arith)
  hit n (None ∷ contents) (suc i) p e = hit (suc n) contents i p (omega arith)
  hit n (Some entry ∷ contents) zero p e =
      let here : p ≡ n = omega arith in
      ap (λ b. cond b (Some entry) (find slot_cmp (slot_at p) (listed (suc n) contents))) (itself (slot_at p) (slot_at n) (ap slot_at here))
  hit n (Some entry ∷ contents) (suc i) p e =
      ap (λ b. cond b (Some entry) (find slot_cmp (slot_at p) (listed (suc n) contents))) (apart (slot_at p) (slot_at n) (slots_apart p n (omega arith)))
      ∙ hit (suc n) contents i p (omega arith)

  pub get_place : (contents : List (Option T)) (p : ℕ) → get (entries_of contents) (slot_at p) ≡ at contents p
  get_place contents p = get-from_entries slots_total _ _ ∙ hit 0 contents p p (omega arith)

  pub get_slot : (contents : List (Option T)) (slot : Slot) → slot.identifier < 256 → get (entries_of contents) slot ≡ at contents (place_of slot)
  get_slot contents slot fits = ap (get (entries_of contents)) (sym (slot_place slot fits)) ∙ get_place contents (place_of slot)

  pub get_none : (contents : List (Option T)) (q : Slot) → 256 ≤ q.identifier → get (entries_of contents) q ≡ None
  get_none contents q h =
      get-from_entries slots_total _ _
      ∙ miss 0 contents q (λ p low high e. let same : q.identifier ≡ (slot_at p).identifier = ap (λ s. s.identifier) e in absurd (omega arith))

  -- what is found stands at its place
  pub stored : (contents : List (Option T)) (slot : Slot) (entry : T) → get (entries_of contents) slot ≡ Some entry → at contents (place_of slot) ≡ Some entry
  stored contents slot entry found =
      elim (cases_lt slot.identifier 256) [
        | inl low ↦ sym (get_slot contents slot low) ∙ found
        | inr high ↦ absurd (false≢true (sym (ap is_some (get_none contents slot high)) ∙ ap is_some found))
      ]

  -- another cell at a place
  get_set : (contents : List (Option T)) (slot q : Slot) (cell : Option T) → slot.identifier < 256 → place_of slot < length contents → get (entries_of (set contents (place_of slot) cell)) q ≡ cond (eq_by_cmp slot_cmp q slot) cell (get (entries_of contents) q)
  get_set contents slot q cell fits within =
      elim (cases_lt q.identifier 256) [
        | inl low ↦ elim (cases_eq (place_of q) (place_of slot)) [
          | inl same ↦
              let one : q ≡ slot = sym (slot_place q low) ∙ ap slot_at same ∙ slot_place slot fits in
              get_slot (set contents (place_of slot) cell) q low ∙ ap (λ p. at (set contents (place_of slot) cell) p) same ∙ get_or-set_same contents (place_of slot) cell None within
              ∙ sym (ap (λ b. cond b cell (get (entries_of contents) q)) (itself q slot one))
          | inr other ↦
              get_slot (set contents (place_of slot) cell) q low ∙ get_or-set_other contents (place_of slot) (place_of q) cell None other ∙ sym (get_slot contents q low)
              ∙ sym (ap (λ b. cond b cell (get (entries_of contents) q)) (apart q slot (λ e. other (ap place_of e))))
        ]
        | inr high ↦
            get_none (set contents (place_of slot) cell) q high ∙ sym (get_none contents q high)
            ∙ sym (ap (λ b. cond b cell (get (entries_of contents) q)) (apart q slot (λ e. let same : q.identifier ≡ slot.identifier = ap (λ s. s.identifier) e in absurd (omega arith))))
      ]

  pub entries_of-used : (contents : List (Option T)) (slot : Slot) (entry : T) → slot.identifier < 256 → place_of slot < length contents → entries_of (set contents (place_of slot) (Some entry)) ≡ insert (entries_of contents) slot entry
  entries_of-used contents slot entry fits within = same_map slots_total exact_slots _ _ (λ q.
      get_set contents slot q (Some entry) fits within ∙ sym (get-insert slots_total (entries_of contents) slot entry q))

  pub entries_of-freed : (contents : List (Option T)) (slot : Slot) → slot.identifier < 256 → place_of slot < length contents → entries_of (set contents (place_of slot) None) ≡ remove (entries_of contents) slot
  entries_of-freed contents slot fits within = same_map slots_total exact_slots _ _ (λ q.
      get_set contents slot q None fits within ∙ sym (get-remove slots_total (entries_of contents) slot q))

  keep_cond : (b : Bool) (entry : Option T) → (b ≡ true → entry ≡ None) → cond b None entry ≡ entry
  keep_cond true entry h = sym (h refl)
  keep_cond false entry h = refl

  -- to take out what is not there changes nothing
  pub remove_absent : (entries : FinMap slot_cmp T) (slot : Slot) → get entries slot ≡ None → remove entries slot ≡ entries
  remove_absent entries slot absent = same_map slots_total exact_slots _ _ (λ q.
      get-remove slots_total entries slot q
      ∙ keep_cond (eq_by_cmp slot_cmp q slot) (get entries q) (λ same. ap (get entries) (tied q slot same) ∙ absent))

  -- ---- how many are in use
  len_listed : (n : ℕ) (contents : List (Option T)) → len (from_entries {R = slot_cmp} (listed n contents)) ≡ length (listed n contents)
  len_listed n [] = len-empty slot_cmp T
  len_listed n (None ∷ contents) = len_listed (suc n) contents
  len_listed n (Some entry ∷ contents) =
      let rest = from_entries {R = slot_cmp} (listed (suc n) contents) in
      let absent : get rest (slot_at n) ≡ None = get-from_entries slots_total _ _ ∙ beyond (suc n) n contents (omega arith) in
      len-insert slots_total rest (slot_at n) entry
      ∙ ap (λ o. cond (is_some o) (len rest) (len rest + 1)) absent
      ∙ omega (arith, len_listed (suc n) contents)

  length_listed : (n : ℕ) (contents : List (Option T)) → length (listed n contents) ≤ length contents
  length_listed n [] = omega arith
  length_listed n (None ∷ contents) = omega (arith, length_listed (suc n) contents)
  length_listed n (Some entry ∷ contents) = omega (arith, length_listed (suc n) contents)

  one_free : (n : ℕ) (contents : List (Option T)) (i : ℕ) → i < length contents → at contents i ≡ None → length (listed n contents) < length contents
  one_free n [] i within free = absurd (omega arith)
  one_free n (None ∷ contents) i within free = omega (arith, length_listed (suc n) contents)
  one_free n (Some entry ∷ contents) zero within free = absurd (cc)
  one_free n (Some entry ∷ contents) (suc i) within free = omega (arith, one_free (suc n) contents i (omega arith) free)

  all_used : (n : ℕ) (contents : List (Option T)) → ((i : ℕ) → i < length contents → IsSome (at contents i)) → length contents ≤ length (listed n contents)
  all_used n [] used = omega arith
  all_used n (None ∷ contents) used = absurd (false≢true (used zero (omega arith)))
  all_used n (Some entry ∷ contents) used = omega (arith, all_used (suc n) contents (λ i h. used (suc i) (omega arith)))

  all_but_one : (n : ℕ) (contents : List (Option T)) (free : ℕ) → ((i : ℕ) → i < length contents → i ≢ free → IsSome (at contents i)) → length contents ≤ length (listed n contents) + 1
  all_but_one n [] free used = omega arith
  all_but_one n (None ∷ contents) zero used = omega (arith, all_used (suc n) contents (λ i h. used (suc i) (omega arith) (omega arith)))
  all_but_one n (Some entry ∷ contents) zero used = omega (arith, all_used (suc n) contents (λ i h. used (suc i) (omega arith) (omega arith)))
  all_but_one n (None ∷ contents) (suc free) used = absurd (false≢true (used zero (omega arith) (omega arith)))
  all_but_one n (Some entry ∷ contents) (suc free) used = omega (arith, all_but_one (suc n) contents free (λ i h other. used (suc i) (omega arith) (omega arith)))

  pub len_at_most : (contents : List (Option T)) → len (entries_of contents) ≤ length contents
  len_at_most contents = omega (arith, len_listed 0 contents, length_listed 0 contents)

  pub len_with_free : (contents : List (Option T)) (i : ℕ) → i < length contents → at contents i ≡ None → len (entries_of contents) < length contents
  len_with_free contents i within free = omega (arith, len_listed 0 contents, one_free 0 contents i within free)

  pub len_all_used : (contents : List (Option T)) → ((i : ℕ) → i < length contents → IsSome (at contents i)) → length contents ≤ len (entries_of contents)
  len_all_used contents used = omega (arith, len_listed 0 contents, all_used 0 contents used)

  pub len_all_but_one : (contents : List (Option T)) (free : ℕ) → ((i : ℕ) → i < length contents → i ≢ free → IsSome (at contents i)) → length contents ≤ len (entries_of contents) + 1
  len_all_but_one contents free used = omega (arith, len_listed 0 contents, all_but_one 0 contents free used)

  pub len_used : (entries : FinMap slot_cmp T) (slot : Slot) (entry : T) → get entries slot ≡ None → len (insert entries slot entry) ≡ len entries + 1
  len_used entries slot entry absent = len-insert slots_total entries slot entry ∙ ap (λ o. cond (is_some o) (len entries) (len entries + 1)) absent

  pub len_changed : (entries : FinMap slot_cmp T) (slot : Slot) (before entry : T) → get entries slot ≡ Some before → len (insert entries slot entry) ≡ len entries
  len_changed entries slot before entry there = len-insert slots_total entries slot entry ∙ ap (λ o. cond (is_some o) (len entries) (len entries + 1)) there

  pub len_freed : (entries : FinMap slot_cmp T) (slot : Slot) (before : T) → get entries slot ≡ Some before → len (remove entries slot) ≡ len entries - 1
  len_freed entries slot before there = len-remove slots_total entries slot ∙ ap (λ o. cond (is_some o) (len entries - 1) (len entries)) there

  -- no cell in use
  listed_free : (n count : ℕ) → listed {T = T} n (replicate count None) ≡ []
  listed_free n zero = refl
  listed_free n (suc count) = listed_free (suc n) count

  pub entries_of-free : (count : ℕ) → entries_of {T = T} (replicate count None) ≡ empty
  entries_of-free count = ap from_entries (listed_free 0 count)
