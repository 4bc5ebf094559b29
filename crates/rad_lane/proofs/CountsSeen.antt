-- The counts of a lane, as its fields tell them.
use Rattle.std.proofs.Common.{◌≡◌, ℕ, ◌↔◌, Bool, true, false, IsTrue, IsSome, List, length, refl, sym, ap, ◌∙◌}
use Rattle.std.specs.Prelude.{map as each, is_some}
use Rattle.std.proofs.lemmas.List.{length-map}
use Rattle.rad_lane.specs.declared.counts.Counts.{Counts}
use Rattle.rad_lane.specs.Stamp.{Kept}
use Rattle.rad_lane.specs.Watch.{is_up}
use Rattle.rad_lane.specs.Book.{Book, next_number, outstanding_count}
use Rattle.rad_lane.specs.Counting.{counts_of}

same_tests : (a b : Bool) → (IsTrue a ↔ (b ≡ true)) → a ≡ b
same_tests true true h = refl
same_tests true false h = sym (h.0 refl)
same_tests false true h = h.1 refl
same_tests false false h = refl

module _ (book value : Book) (same : book ≡ value) (kept : List Kept) (are : book.queued ≡ each (λ (k : Kept). k.recorded) kept) where
  pub counts_seen : (next queued outstanding : ℕ) (up draining : Bool) → next ≡ next_number value → queued ≡ length kept → outstanding ≡ outstanding_count book → up ≡ is_up book.watch → (IsTrue draining ↔ IsSome value.drain)
      → (let counts : Counts = record { opening = book.opening; accepted = next; answered = book.served; queued = queued; outstanding = outstanding; up = up; draining = draining } in counts) ≡ counts_of value
  counts_seen next queued outstanding up draining accepted in_queue out marked drained =
      let as_many : length kept ≡ length book.queued = sym (length-map kept (λ (k : Kept). k.recorded)) ∙ ap length (sym are) in
      let told = same_tests draining (is_some value.drain) drained in
      rw (accepted, in_queue, as_many, out, marked, told)
      (ap (λ (b : Book). let counts : Counts = record { opening = b.opening; accepted = next_number value; answered = b.served; queued = length b.queued; outstanding = outstanding_count b; up = is_up b.watch; draining = is_some value.drain } in counts) same)
