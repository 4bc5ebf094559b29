-- The least due of the entries is that of the places in use.
use Rattle.std.proofs.Common.{◌≡◌, ℕ, ◌<◌, List, length, get_or, Bool, Option, Some, None, is_some, IsSome, sym, ap, subst, ◌∙◌, inl, inr, arith, refl, ◌+◌, ◌≤◌}
use Rattle.std.specs.Prelude.{min}
use Rattle.std.specs.Option.{MatchOption, unwrap_or}
use Rattle.std.proofs.lemmas.Bool.{cases_lt}
use Rattle.rad_tables.specs.declared.slots.Slot.{Slot}
use Rattle.rad_tables.specs.declared.cells.Waiting.{Waiting}
use Rattle.rad_tables.specs.Dues.{NotAfter, IsEarliest, IsLeastDue, IsFirstDue, NoneInUse, NoneIs}
use Rattle.rad_tables.specs.internal.Least.{NoneAmong, IsLeastAmong, due_and_number, IsEarlier, IsEarliestOf, IsEarliestAmong, sooner}
use Rattle.rad_tables.specs.internal.Kept.{place_of, slot_at, at, entries_of, IsIndex}
use Rattle.rad_tables.proofs.ContentsLemmas.{get_place, stored}
use Rattle.rad_tables.proofs.IndexLemmas.{within}

some_is : {T : Type 0} (a b : T) → Some a ≡ Some b → a ≡ b
some_is a b e = ap (λ o. unwrap_or o a) e

pub NotAfter-trans : (a b c : ℕ × ℕ) → NotAfter a b → NotAfter b c → NotAfter a c
NotAfter-trans a b c (inl p) (inl q) = inl (omega arith)
NotAfter-trans a b c (inl p) (inr q) = inl (omega arith)
NotAfter-trans a b c (inr p) (inl q) = inl (omega arith)
NotAfter-trans a b c (inr p) (inr q) = inr (omega arith, omega arith)

module _ {T : Type 0} (contents : List (Option T)) (places positions : List ℕ) (index : IsIndex contents places positions) where
  -- an entry stands at one of the places in use
  among : (slot : Slot) (entry : T) → at contents (place_of slot) ≡ Some entry → (i : ℕ) × (i < length places) × (at contents (get_or places i 0) ≡ Some entry)
  among slot entry there =
      let used : IsSome (at contents (place_of slot)) = ap is_some there in
      (get_or positions (place_of slot) 0, index.known _ used, ap (at contents) (index.placed _ used) ∙ there)

  pub earliest_seen : (due : T → ℕ) (earliest : Option ℕ) → IsEarliestAmong due contents places (length places) earliest → MatchOption earliest (NoneInUse (entries_of contents)) (IsEarliest due (entries_of contents))
  earliest_seen due None none = λ slot entry found.
      let place = among slot entry (stored contents slot entry found) in absurd (omega (arith, place.1, none))
  earliest_seen due (Some moment) e = record {
    slot = slot_at (get_or places e.position 0);
    entry = e.least;
    there = get_place contents (get_or places e.position 0) ∙ e.there;
    due_is = e.due_is;
    first = λ other entry found.
        let place = among other entry (stored contents other entry found) in e.first place.0 entry place.1 place.2;
  }

module _ {T : Type 0} (due number : T → ℕ) (spent : T → Bool) (contents : List (Option T)) (places positions : List ℕ) (index : IsIndex contents places positions) (which : Bool) where
  pub none_is : NoneAmong spent contents places which (length places) → NoneIs spent (entries_of contents) which
  none_is none slot entry found kind =
      let place = among contents places positions index slot entry (stored contents slot entry found) in
      none place.0 entry place.1 place.2 kind

  least_is : (waiting : Waiting) → IsLeastAmong due number spent contents places which (length places) waiting → IsLeastDue due number spent (entries_of contents) which (slot_at waiting.place)
  least_is waiting among_places =
      record {
        least = among_places.least;
        there = get_place contents waiting.place ∙ among_places.there;
        kind = among_places.kind;
        first = λ other entry found kind.
            let place = among contents places positions index other entry (stored contents other entry found) in
            subst (λ (d : ℕ). NotAfter (d, number among_places.least) (due entry, number entry)) among_places.due_is
            (subst (λ (n : ℕ). NotAfter (waiting.due, n) (due entry, number entry)) among_places.number_is
            (among_places.first place.0 entry place.1 place.2 kind));
      }

  pub first_is : (waiting : Waiting) → IsLeastAmong due number spent contents places which (length places) waiting → IsFirstDue due number spent (entries_of contents) which (record { slot = slot_at waiting.place; due = waiting.due })
  unfolding least_is
  first_is waiting among_places = record { at = least_is waiting among_places; due_is = among_places.due_is }

module _ {T : Type 0} (due number : T → ℕ) (spent : T → Bool) (contents : List (Option T)) (places : List ℕ) (which : Bool) where
  -- the first to be due of the first places, if there is an entry of the kind
  abbrev pub IsFirst : ℕ → Option Waiting → Type 0
  IsFirst count least = MatchOption least (NoneAmong spent contents places which count) (IsLeastAmong due number spent contents places which count)

  module _ (n : ℕ) (entry : T) (here : at contents (get_or places n 0) ≡ Some entry) where
    is_it : (i : ℕ) (other : T) → i ≡ n → at contents (get_or places i 0) ≡ Some other → other ≡ entry
    is_it i other e there = some_is other entry (sym there ∙ ap (λ j. at contents (get_or places j 0)) e ∙ here)

    -- an entry of the other kind
    pub first_skipped : (least : Option Waiting) → (spent entry ≡ which → ⊥) → IsFirst n least → IsFirst (n + 1) least
    first_skipped None skip none = λ i other h there kind.
        elim (cases_lt i n) [
          | inl low ↦ none i other low there kind
          | inr high ↦ skip (ap spent (sym (is_it i other (omega arith) there)) ∙ kind)
        ]
    first_skipped (Some least) skip first = record {
      position = first.position;
      within = omega (arith, first.within);
      place_is = first.place_is;
      least = first.least;
      there = first.there;
      kind = first.kind;
      due_is = first.due_is;
      number_is = first.number_is;
      first = λ i other h there kind.
          elim (cases_lt i n) [
            | inl low ↦ first.first i other low there kind
            | inr high ↦ absurd (skip (ap spent (sym (is_it i other (omega arith) there)) ∙ kind))
          ];
    }

    module _ (waiting : Waiting) (place_is : waiting.place ≡ get_or places n 0) (due_is : waiting.due ≡ due entry) (number_is : waiting.number ≡ number entry) (kind_is : spent entry ≡ which) where
      itself : (i : ℕ) (other : T) → i ≡ n → at contents (get_or places i 0) ≡ Some other → NotAfter (due_and_number waiting) (due other, number other)
      itself i other e there =
          let same = is_it i other e there in
          inr (due_is ∙ ap due (sym same), let equal : waiting.number ≡ number other = number_is ∙ ap number (sym same) in omega arith)

      new : (count : ℕ) → n < count → ((i : ℕ) (other : T) → i < count → at contents (get_or places i 0) ≡ Some other → spent other ≡ which → NotAfter (due_and_number waiting) (due other, number other)) → IsLeastAmong due number spent contents places which count waiting
      new count inside first = record {
        position = n;
        within = inside;
        place_is = place_is;
        least = entry;
        there = ap (at contents) place_is ∙ here;
        kind = kind_is;
        due_is = due_is;
        number_is = number_is;
        first = first;
      }

      -- an entry of the kind
      pub first_taken : (least : Option Waiting) (result : Waiting) → IsEarlier waiting least result → IsFirst n least → IsLeastAmong due number spent contents places which (n + 1) result
      first_taken None result is none =
          subst (λ (w : Waiting). IsLeastAmong due number spent contents places which (n + 1) w) (sym is)
          (new (n + 1) (omega arith) (λ i other h there kind.
          elim (cases_lt i n) [
            | inl low ↦ absurd (none i other low there kind)
            | inr high ↦ itself i other (omega arith) there
          ]))
      first_taken (Some least) result is first =
          elim is.0 [
            | inl fresh ↦
                subst (λ (w : Waiting). IsLeastAmong due number spent contents places which (n + 1) w) (sym fresh)
                (new (n + 1) (omega arith) (λ i other h there kind.
                elim (cases_lt i n) [
                  | inl low ↦
                      NotAfter-trans (due_and_number waiting) (due_and_number least) (due other, number other)
                      (subst (λ (w : Waiting). NotAfter (due_and_number w) (due_and_number least)) fresh is.2)
                      (first.first i other low there kind)
                  | inr high ↦ itself i other (omega arith) there
                ]))
            | inr old ↦
                subst (λ (w : Waiting). IsLeastAmong due number spent contents places which (n + 1) w) (sym old) (record {
                  position = first.position;
                  within = omega (arith, first.within);
                  place_is = first.place_is;
                  least = first.least;
                  there = first.there;
                  kind = first.kind;
                  due_is = first.due_is;
                  number_is = first.number_is;
                  first = λ i other h there kind.
                      elim (cases_lt i n) [
                        | inl low ↦ first.first i other low there kind
                        | inr high ↦
                            NotAfter-trans (due_and_number least) (due_and_number waiting) (due other, number other)
                            (subst (λ (w : Waiting). NotAfter (due_and_number w) (due_and_number waiting)) old is.1)
                            (itself i other (omega arith) there)
                      ];
                })
          ]

-- the least stands at a place of the list
pub least_below : {T : Type 0} (due number : T → ℕ) (spent : T → Bool) (contents : List (Option T)) (places : List ℕ) (which : Bool) (count : ℕ) (waiting : Waiting) → IsLeastAmong due number spent contents places which count waiting → waiting.place < length contents
least_below due number spent contents places which count waiting least = within contents waiting.place (ap is_some least.there)

module _ {T : Type 0} (due : T → ℕ) (contents : List (Option T)) (places : List ℕ) (n : ℕ) (entry : T) (here : at contents (get_or places n 0) ≡ Some entry) where
  at_it : (moment : ℕ) → moment ≤ due entry → (i : ℕ) (other : T) → i ≡ n → at contents (get_or places i 0) ≡ Some other → moment ≤ due other
  at_it moment h i other e there =
      let one : entry ≡ other = some_is entry other (sym here ∙ ap (λ j. at contents (get_or places j 0)) (sym e) ∙ there) in
      subst (λ x. moment ≤ due x) one h

  -- the earliest due time of one place more
  pub earliest_more : (earliest : Option ℕ) → IsEarliestAmong due contents places n earliest → IsEarliestOf due contents places (n + 1) (sooner (due entry) earliest)
  earliest_more None none = record {
    position = n;
    within = omega arith;
    least = entry;
    there = here;
    due_is = refl;
    first = λ i other h there. at_it (due entry) (omega arith) i other (omega (arith, h, none)) there;
  }
  earliest_more (Some moment) e =
      elim (cases_lt moment (due entry)) [
        | inl low ↦
            let is : moment ≡ min moment (due entry) = omega (arith, low) in
            subst (λ m. IsEarliestOf due contents places (n + 1) m) is (record {
              position = e.position;
              within = omega (arith, e.within);
              least = e.least;
              there = e.there;
              due_is = e.due_is;
              first = λ i other h there.
                  elim (cases_lt i n) [
                    | inl below ↦ e.first i other below there
                    | inr high ↦ at_it moment (omega (arith, low)) i other (omega (arith, h, high)) there
                  ];
            })
        | inr over ↦
            let is : due entry ≡ min moment (due entry) = omega (arith, over) in
            subst (λ m. IsEarliestOf due contents places (n + 1) m) is (record {
              position = n;
              within = omega arith;
              least = entry;
              there = here;
              due_is = refl;
              first = λ i other h there.
                  elim (cases_lt i n) [
                    | inl below ↦ let before = e.first i other below there in omega (arith, over, before)
                    | inr high ↦ at_it (due entry) (omega arith) i other (omega (arith, h, high)) there
                  ];
            })
      ]
