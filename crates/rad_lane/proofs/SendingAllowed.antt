-- Whether a request may be sent for the first time, by the tests of the fields.
use Rattle.std.proofs.Common.{◌≡◌, ℕ, ◌<◌, ◌≤◌, ◌↔◌, Bool, true, false, not, ltb, inl, inr, IsTrue, List, [], ◌∷◌, length, refl, sym, ap, ◌∙◌, subst, arith}
use Rattle.std.specs.Prelude.{map as each}
use Rattle.std.specs.Bool.{OnTrue, OnFalse}
use Rattle.std.proofs.lemmas.Bool.{ltb-true, lt-ltb}
use Rattle.std.proofs.lemmas.Bool.Decides.{leb_tells}
use Rattle.rad_config.specs.declared.limits.LimitNumbers.{LimitNumbers}
use Rattle.rad_lane.specs.Stamp.{Kept, Recorded}
use Rattle.rad_lane.specs.Book.{Book, outstanding_count}
use Rattle.rad_lane.specs.Steps.{NothingToSend}
use Rattle.rad_lane.specs.internal.NextDue.{MaySend}
use Rattle.rad_lane.proofs.NotDone.{on_true, on_false}

some_queued : (kept : List Kept) → (kept ≡ [] → ⊥) → 1 ≤ length (each (λ (k : Kept). k.recorded) kept)
some_queued [] some = absurd (some refl)
some_queued (k ∷ kept) some = omega arith

not_below : (m n : ℕ) → ltb m n ≡ false → n ≤ m
not_below m n h = elim (leb_tells n m) [ inl below ↦ below.1 | inr over ↦ absurd (never m n h (omega (arith, over.1))) ]
  where
    never : (m n : ℕ) → ltb m n ≡ false → m < n → ⊥
    never m n is below = let told = lt-ltb m n below in cc

module _ (book value : Book) (same : book ≡ value) (kept : List Kept) (are : book.queued ≡ each (λ (k : Kept). k.recorded) kept) (empty : Bool) (tells : IsTrue empty ↔ (kept ≡ [])) where
  module _ (some : empty ≡ false) (count : ℕ) (counted : count ≡ outstanding_count book) (numbers : LimitNumbers) (limits : numbers ≡ book.setup.limits) where
    as_many : outstanding_count value ≡ count
    as_many = sym (counted ∙ ap (λ (b : Book). outstanding_count b) same)

    window : value.setup.limits.window ≡ numbers.window
    window = sym (ap (λ (n : LimitNumbers). n.window) limits ∙ ap (λ (b : Book). b.setup.limits.window) same)

    pub may_be_sent : OnTrue (ltb count numbers.window) (MaySend value)
    may_be_sent = on_true (ltb count numbers.window) (MaySend value) (λ is. record {
      queued = subst (λ (rs : List Recorded). 1 ≤ length rs) (sym are ∙ ap (λ (b : Book). b.queued) same) (some_queued kept (λ none. never (tells.1 none)));
      room = rw (as_many, window) (ltb-true count numbers.window is);
    })
      where
        never : empty ≡ true → ⊥
        never is = cc

    pub no_room : OnFalse (ltb count numbers.window) (NothingToSend value)
    no_room = on_false (ltb count numbers.window) (NothingToSend value) (λ is. inr (rw (as_many, window) (not_below count numbers.window is)))

  module _ (none : empty ≡ true) where
    pub never_empty : OnTrue (not empty) (MaySend value)
    never_empty = on_true (not empty) (MaySend value) (λ is. absurd (never is))
      where
        never : not empty ≡ true → ⊥
        never is = let other = ap not none in cc

    pub none_queued : OnFalse (not empty) (NothingToSend value)
    none_queued = on_false (not empty) (NothingToSend value) (λ is. inl (sym (ap (λ (b : Book). b.queued) same) ∙ are ∙ ap (λ (ks : List Kept). each (λ (k : Kept). k.recorded) ks) (tells.0 none)))
