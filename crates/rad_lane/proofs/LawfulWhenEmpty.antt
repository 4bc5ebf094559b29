-- A lane in which nothing happened yet.
use Rattle.std.proofs.Common.{◌≡◌, ◌≤◌, List, [], ◌∷◌, length, Some, None, refl, sym, ap, ◌∙◌, arith, zero-le}
use Rattle.std.specs.FinMap as map
use Rattle.std.proofs.lemmas.List.Sorted.{IsPermutation-refl}
use Rattle.std.proofs.lemmas.List.Elements.{All-nil}
use Rattle.rad_tables.specs.declared.slots.Slot.{Slot}
use Rattle.rad_tables.specs.Pairs.{slot_cmp}
use Rattle.rad_tables.specs.Keys.{key_cmp}
use Rattle.rad_lane.specs.declared.entry.Entry.{Entry}
use Rattle.rad_lane.specs.Setup.{LaneSetup}
use Rattle.rad_lane.specs.Empty.{empty_book}
use Rattle.rad_lane.specs.Lawful.{IsLawful}
use Rattle.rad_lane.specs.internal.Invariant.{IsConsistent}
use Rattle.rad_lane.specs.internal.Keys.{merged}
use Rattle.rad_lane.proofs.KeysByAge.{merged-empty}

no_items : {X : Type 0} (xs : List X) → length xs ≡ 0 → xs ≡ []
no_items [] e = refl
no_items (x ∷ xs) e = absurd (omega arith)

no_entries : map.entries (map.empty {X = Entry} {R = slot_cmp}) ≡ []
no_entries = no_items _ (sym (map.len-entries _) ∙ map.len-empty slot_cmp Entry)

nothing_at : {X : Type 0} (slot : Slot) (entry : X) → map.get (map.empty {X = X} {R = slot_cmp}) slot ≡ Some entry → ⊥
nothing_at {X = X} slot entry h = let none : map.get (map.empty {X = X} {R = slot_cmp}) slot ≡ None = map.get-empty slot_cmp slot in cc

pub empty_lawful : (setup : LaneSetup) → 1 ≤ setup.ports → setup.ports ≤ 4 → IsLawful (empty_book setup)
empty_lawful setup least most = record {
  in_order = refl;
  numbered = refl;
  timed = λ i j d less within. absurd (omega arith);
  passed = All-nil _;
  no_repeat = λ i j d less within. absurd (omega arith);
  placed_once = rw no_entries (IsPermutation-refl []);
  of_its_realms = All-nil _;
  outstanding_realms = λ slot entry h. absurd (nothing_at slot _ h);
  answered_realms = All-nil _;
  forwards_its_record = λ slot entry h. absurd (nothing_at slot _ h);
  probe_apart = λ slot octets h. nothing_at slot _ h;
  holds_its_own = λ slot entry h. absurd (nothing_at slot _ h);
  allotted_in_range = tt;
  ports_least = least;
  ports_most = most;
  queued_bounded = zero-le;
  outstanding_bounded = rw no_entries zero-le;
  accepted_bounded = zero-le;
  answers_verified = All-nil _;
  serials_rise = λ k within. absurd (omega arith);
  served_count = refl;
  drained_count = tt;
}

pub stands_empty : (setup : LaneSetup) → 1 ≤ setup.ports → setup.ports ≤ 4 → IsConsistent (empty_book setup) [] setup.ports (merged 0 map.empty map.empty) [] 0
stands_empty setup least most = record {
  lawful = empty_lawful setup least most;
  rooms = All-nil _;
  ports_are = refl;
  counted = rw no_entries refl;
  last_numbers = λ key. ap (λ m. map.get m key) (merged-empty 0) ∙ map.get-empty key_cmp key;
  since_opening = λ key number h. zero-le;
  cells_are = refl;
  indices = λ number h. refl;
  numbers_fit = zero-le;
}
