-- How each change keeps the cells and the list of the places in use.
use Rattle.std.proofs.Common.{◌≡◌, ℕ, ◌+◌, ◌-◌, ◌*◌, ◌<◌, ◌≤◌, List, [], ◌∷◌, ◌++◌, length, get_or, set, replicate, Option, Some, None, is_some, is_none, IsSome, true, false, refl, sym, ap, subst, ◌∙◌, arith, length-set, inl, inr}
use mathlib.Core.Bool.{Bool, beq}
use Rattle.std.specs.List.{swap_remove}
use Rattle.std.specs.FinMap.{FinMap, get, insert, remove, len, len-empty}
use Rattle.std.proofs.lemmas.List.{length-replicate, map-set, get_or_past, get_or-replicate, length_push, length-take, get_or-map, map-append, replicate-append-replicate}
use Rattle.std.proofs.Math.Seq.{map-set_same}
use Rattle.std.proofs.lemmas.Bool.{cases_lt, false≢true}
use Rattle.rad_tables.specs.declared.slots.Slot.{Slot}
use Rattle.rad_tables.specs.declared.cells.Cell.{Cell}
use Rattle.rad_tables.specs.declared.cells.Cell.TheVariants.{Free, Used}
use Rattle.rad_tables.specs.Pairs.{Table, slot_cmp, IsInRange}
use Rattle.rad_tables.specs.internal.Kept.{place_of, at, entry_of, contents_of, entries_of, IsKept}
use Rattle.rad_tables.proofs.ContentsLemmas.{get_slot, entries_of-used, entries_of-freed, entries_of-free, len_with_free, len_used, len_changed, len_freed}
use Rattle.rad_tables.proofs.IndexLemmas.{within, changed, added, freed}

length_none : (T : Type 0) (count : ℕ) → length {A = Option T} (replicate count None) ≡ count
length_none T count = length-replicate count None

module _ {T : Type 0} where
  pub some_value : (o : Option T) → IsSome o → (x : T) × (o ≡ Some x)
  some_value None h = absurd (false≢true h)
  some_value (Some x) h = (x, refl)

  pub some_of_not_none : (o : Option T) → is_none o ≡ false → IsSome o
  some_of_not_none None h = absurd (false≢true (sym h))
  some_of_not_none (Some x) h = refl

  pub none_of_is_none : (o : Option T) → is_none o ≡ true → o ≡ None
  none_of_is_none None h = refl
  none_of_is_none (Some x) h = absurd (false≢true h)

  pub contents_of-set : (cells : List (Cell T)) (p : ℕ) (cell : Cell T) → contents_of (set cells p cell) ≡ set (contents_of cells) p (entry_of cell)
  contents_of-set cells p cell = map-set entry_of cells p cell

  -- what a cell that was read has
  pub cell_at : (cells : List (Cell T)) (p q : ℕ) (cell : Cell T) → p ≡ q → p < length cells → cell ≡ get_or cells p cell → at (contents_of cells) q ≡ entry_of cell
  cell_at cells p q cell e fits is =
      ap (at (contents_of cells)) (sym e) ∙ get_or-map entry_of cells p cell None fits ∙ ap entry_of (sym is)

  -- what is found is in use
  pub used_there : (contents : List (Option T)) (slot : Slot) (found : Option T) → slot.identifier < 256 → get (entries_of contents) slot ≡ found → IsSome found → IsSome (at contents (place_of slot))
  used_there contents slot found fits is some = ap is_some (sym (get_slot contents slot fits) ∙ is) ∙ some

  pub entries_of-set_used : (cells : List (Cell T)) (slot : Slot) (p : ℕ) (entry : T) → p ≡ place_of slot → slot.identifier < 256 → place_of slot < length (contents_of cells) → entries_of (contents_of (set cells p (Used entry))) ≡ insert (entries_of (contents_of cells)) slot entry
  entries_of-set_used cells slot p entry e fits inside =
      ap entries_of (contents_of-set cells p (Used entry) ∙ ap (λ q. set (contents_of cells) q (Some entry)) e)
      ∙ entries_of-used (contents_of cells) slot entry fits inside

  pub entries_of-set_free : (cells : List (Cell T)) (slot : Slot) (p : ℕ) (cell : Cell T) → cell ≡ Free → p ≡ place_of slot → slot.identifier < 256 → place_of slot < length (contents_of cells) → entries_of (contents_of (set cells p cell)) ≡ remove (entries_of (contents_of cells)) slot
  entries_of-set_free cells slot p cell empty_cell e fits inside =
      ap entries_of (contents_of-set cells p cell ∙ ap (λ c. set (contents_of cells) p (entry_of c)) empty_cell ∙ ap (λ q. set (contents_of cells) q None) e)
      ∙ entries_of-freed (contents_of cells) slot fits inside

  abbrev pub table : ℕ → FinMap slot_cmp T → Option Slot → Table T
  table ports entries allotted = record { ports = ports; entries = entries; allotted = allotted }

  module _ (contents : List (Option T)) (places positions : List ℕ) (room ports : ℕ) (allotted : Option Slot) (kept : IsKept contents places positions room ports allotted) (slot : Slot) where
    pub kept_changed : (entry : T) → slot.identifier < 256 → IsSome (at contents (place_of slot)) → IsKept (set contents (place_of slot) (Some entry)) places positions room ports allotted
    kept_changed entry fits used =
        let before = some_value (at contents (place_of slot)) used in
        record {
          least = kept.least;
          most = kept.most;
          pairs = length-set contents (place_of slot) (Some entry) ∙ kept.pairs;
          has_room = omega (arith, kept.has_room, length-set contents (place_of slot) (Some entry));
          index = changed contents places positions kept.index (place_of slot) entry used;
          count =
              ap len (entries_of-used contents slot entry fits (within contents (place_of slot) used))
              ∙ len_changed (entries_of contents) slot before.0 entry (get_slot contents slot fits ∙ before.1) ∙ kept.count;
          last = kept.last;
        }

    pub place_below : IsInRange ports slot → place_of slot < length contents
    place_below range = omega (arith, kept.pairs, range.0, range.1)

    pub kept_added : (entry : T) → IsInRange ports slot → get (entries_of contents) slot ≡ None → IsKept (set contents (place_of slot) (Some entry)) (places ++ place_of slot ∷ []) (set positions (place_of slot) (length places)) room ports (Some slot)
    kept_added entry range free =
        let inside = place_below range in
        record {
          least = kept.least;
          most = kept.most;
          pairs = length-set contents (place_of slot) (Some entry) ∙ kept.pairs;
          has_room = omega (arith, kept.has_room, length-set contents (place_of slot) (Some entry));
          index = added contents places positions kept.index (place_of slot) entry inside (sym (get_slot contents slot range.1) ∙ free);
          count =
              ap len (entries_of-used contents slot entry range.1 inside)
              ∙ len_used (entries_of contents) slot entry free ∙ omega (arith, kept.count, length_push places (place_of slot));
          last = range;
        }

    -- so there is room for one more place
    pub room_for_one : IsInRange ports slot → get (entries_of contents) slot ≡ None → length places < room
    room_for_one range free =
        omega (arith, kept.has_room, kept.count, len_with_free contents (place_of slot) (place_below range) (sym (get_slot contents slot range.1) ∙ free))

    pub kept_freed : (d : ℕ) → slot.identifier < 256 → IsSome (at contents (place_of slot)) → IsKept (set contents (place_of slot) None) (swap_remove places (get_or positions (place_of slot) 0) d) (set positions (get_or places (length places - 1) 0) (get_or positions (place_of slot) 0)) room ports allotted
    kept_freed d fits used =
        let before = some_value (at contents (place_of slot)) used in
        let i = get_or positions (place_of slot) 0 in
        let some : i < length places = kept.index.known (place_of slot) used in
        let last = get_or places (length places - 1) d in
        record {
          least = kept.least;
          most = kept.most;
          pairs = length-set contents (place_of slot) None ∙ kept.pairs;
          has_room = omega (arith, kept.has_room, length-set contents (place_of slot) None);
          index = freed contents places positions kept.index (place_of slot) d used;
          count =
              ap len (entries_of-freed contents slot fits (within contents (place_of slot) used))
              ∙ len_freed (entries_of contents) slot before.0 (get_slot contents slot fits ∙ before.1)
              ∙ omega (arith, kept.count, length-take (length places - 1) (set places i last), length-set places i last);
          last = kept.last;
        }

  -- ---- the same, in the words of the code
  module _ (cells : List (Cell T)) (places positions : List ℕ) (room ports : ℕ) (allotted : Option Slot) (kept : IsKept (contents_of cells) places positions room ports allotted) (slot : Slot) where
    pub kept_write : (p : ℕ) (entry : T) → p ≡ place_of slot → slot.identifier < 256 → IsSome (at (contents_of cells) (place_of slot)) → IsKept (contents_of (set cells p (Used entry))) places positions room ports allotted
    kept_write p entry e fits used =
        let is = contents_of-set cells p (Used entry) ∙ ap (λ q. set (contents_of cells) q (Some entry)) e in
        subst (λ (contents : List (Option T)). IsKept contents places positions room ports allotted) (sym is)
        (kept_changed (contents_of cells) places positions room ports allotted kept slot entry fits used)

    pub kept_put : (p n : ℕ) (entry : T) (places' : List ℕ) (room' : ℕ) → p ≡ place_of slot → n ≡ length places → places' ≡ places ++ p ∷ [] → room' ≡ room → IsInRange ports slot → get (entries_of (contents_of cells)) slot ≡ None → IsKept (contents_of (set cells p (Used entry))) places' (set positions p n) room' ports (Some slot)
    kept_put p n entry places' room' e count pushed same_room range free =
        let is = contents_of-set cells p (Used entry) ∙ ap (λ q. set (contents_of cells) q (Some entry)) e in
        let list : places' ≡ places ++ place_of slot ∷ [] = pushed ∙ ap (λ q. places ++ q ∷ []) e in
        let back : set positions p n ≡ set positions (place_of slot) (length places) = ap (λ q. set positions q n) e ∙ ap (set positions (place_of slot)) count in
        subst (λ (contents : List (Option T)). IsKept contents places' (set positions p n) room' ports (Some slot)) (sym is)
        (subst (λ (l : List ℕ). IsKept (set (contents_of cells) (place_of slot) (Some entry)) l (set positions p n) room' ports (Some slot)) (sym list)
        (subst (λ (l : List ℕ). IsKept (set (contents_of cells) (place_of slot) (Some entry)) (places ++ place_of slot ∷ []) l room' ports (Some slot)) (sym back)
        (subst (λ (r : ℕ). IsKept (set (contents_of cells) (place_of slot) (Some entry)) (places ++ place_of slot ∷ []) (set positions (place_of slot) (length places)) r ports (Some slot)) (sym same_room)
        (kept_added (contents_of cells) places positions room ports allotted kept slot entry range free))))

    pub kept_take : (p i j moved d : ℕ) (cell : Cell T) (places' : List ℕ) (room' : ℕ) → cell ≡ Free → p ≡ place_of slot → i ≡ get_or positions p 0 → j ≡ i → moved ≡ get_or places (length places - 1) 0 → places' ≡ swap_remove places j d → room' ≡ room → slot.identifier < 256 → IsSome (at (contents_of cells) (place_of slot)) → IsKept (contents_of (set cells p cell)) places' (set positions moved i) room' ports allotted
    kept_take p i j moved d cell places' room' empty_cell e position hole_is last removed same_room fits used =
        let is = contents_of-set cells p cell ∙ ap (λ c. set (contents_of cells) p (entry_of c)) empty_cell ∙ ap (λ q. set (contents_of cells) q None) e in
        let hole : i ≡ get_or positions (place_of slot) 0 = position ∙ ap (λ q. get_or positions q 0) e in
        let list : places' ≡ swap_remove places (get_or positions (place_of slot) 0) d = removed ∙ ap (λ k. swap_remove places k d) (hole_is ∙ hole) in
        let back : set positions moved i ≡ set positions (get_or places (length places - 1) 0) (get_or positions (place_of slot) 0) = ap (λ q. set positions q i) last ∙ ap (set positions (get_or places (length places - 1) 0)) hole in
        subst (λ (contents : List (Option T)). IsKept contents places' (set positions moved i) room' ports allotted) (sym is)
        (subst (λ (l : List ℕ). IsKept (set (contents_of cells) (place_of slot) None) l (set positions moved i) room' ports allotted) (sym list)
        (subst (λ (l : List ℕ). IsKept (set (contents_of cells) (place_of slot) None) (swap_remove places (get_or positions (place_of slot) 0) d) l room' ports allotted) (sym back)
        (subst (λ (r : ℕ). IsKept (set (contents_of cells) (place_of slot) None) (swap_remove places (get_or positions (place_of slot) 0) d) (set positions (get_or places (length places - 1) 0) (get_or positions (place_of slot) 0)) r ports allotted) (sym same_room)
        (kept_freed (contents_of cells) places positions room ports allotted kept slot d fits used))))

  -- one more free cell
  pub free_pushed : (cells cells' : List (Cell T)) (n : ℕ) → cells' ≡ cells ++ Free ∷ [] → contents_of cells ≡ replicate n None → contents_of cells' ≡ replicate (n + 1) None
  free_pushed cells cells' n pushed free =
      ap contents_of pushed ∙ map-append entry_of cells (Free ∷ []) ∙ ap (λ (l : List (Option T)). l ++ None ∷ []) free ∙ replicate-append-replicate n 1 None

  -- a free cell, written free again
  pub kept_free : (cells : List (Cell T)) (places positions : List ℕ) (room ports : ℕ) (allotted : Option Slot) → IsKept (contents_of cells) places positions room ports allotted → (p : ℕ) (cell new : Cell T) → cell ≡ get_or cells p cell → cell ≡ Free → new ≡ Free → IsKept (contents_of (set cells p new)) places positions room ports allotted
  kept_free cells places positions room ports allotted kept p cell new is was now =
      let same : entry_of new ≡ entry_of (get_or cells p cell) = ap entry_of (now ∙ sym was ∙ is) in
      subst (λ (contents : List (Option T)). IsKept contents places positions room ports allotted) (sym (map-set_same entry_of cells p new cell same)) kept

  -- new slots
  pub kept_new : (count room ports : ℕ) (positions : List ℕ) → 1 ≤ ports → ports ≤ 4 → count ≡ 256 * ports → count ≤ room → length positions ≡ count → IsKept {T = T} (replicate count None) [] positions room ports None
  kept_new count room ports positions least most pairs has_room back =
      let cells : List (Option T) = replicate count None in
      let free : (p : ℕ) → at cells p ≡ None = λ p.
      elim (cases_lt p count) [
        | inl low ↦ get_or-replicate count p None None low
        | inr past ↦ get_or_past cells p None (omega (arith, length_none T count))
      ] in
      let none : (p : ℕ) → IsSome (at cells p) → ⊥ = λ p h. false≢true (sym (ap is_some (free p)) ∙ h) in
      record {
        least = least;
        most = most;
        pairs = length_none T count ∙ pairs;
        has_room = omega (arith, length_none T count);
        index = record {
          back = back ∙ sym (length_none T count);
          in_use = λ i h. absurd (omega arith);
          position = λ i h. absurd (omega arith);
          known = λ p h. absurd (none p h);
          placed = λ p h. absurd (none p h);
        };
        count = ap len (entries_of-free count) ∙ len-empty slot_cmp T;
        last = tt;
      }

  pub kept_made : (count room ports : ℕ) (contents : List (Option T)) (places positions : List ℕ) → 1 ≤ ports → ports ≤ 4 → count ≡ 256 * ports → contents ≡ replicate count None → places ≡ [] → room ≡ count → length positions ≡ count → IsKept contents places positions room ports None
  kept_made count room ports contents places positions least most pairs free empty_places same_room back =
      subst (λ (cells : List (Option T)). IsKept cells places positions room ports None) (sym free)
      (subst (λ (l : List ℕ). IsKept {T = T} (replicate count None) l positions room ports None) (sym empty_places)
      (kept_new count room ports positions least most pairs (omega arith) back))

-- what a test of two Bools tells
pub same_bools : (a b : Bool) → beq a b ≡ true → a ≡ b
same_bools true true h = refl
same_bools true false h = absurd (false≢true h)
same_bools false true h = absurd (false≢true h)
same_bools false false h = refl

pub other_bools : (a b : Bool) → beq a b ≡ false → a ≡ b → ⊥
other_bools true true h e = false≢true (sym h)
other_bools true false h e = false≢true (sym e)
other_bools false true h e = false≢true e
other_bools false false h e = false≢true (sym h)
