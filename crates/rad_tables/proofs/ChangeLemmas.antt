-- A change of every entry.
use Rattle.std.proofs.Common.{◌≡◌, ℕ, ◌+◌, ◌<◌, ◌≤◌, List, ◌++◌, length, get_or, set, take, drop, Option, Some, None, is_some, refl, sym, ap, ◌∙◌, inl, inr, arith}
use Rattle.std.specs.Option.{option_map}
use Rattle.std.specs.FinMap.{get, len, len-entries}
use Rattle.std.proofs.lemmas.List.{get_or_past, get_or-set_same, get_or-set_other, length-map, take_at}
use Rattle.std.proofs.lemmas.Bool.{cases_lt, cases_eq}
use Rattle.rad_tables.specs.declared.slots.Slot.{Slot}
use Rattle.rad_tables.specs.declared.cells.Cell.{Cell}
use Rattle.rad_tables.specs.Pairs.{slot_cmp}
use Rattle.rad_tables.specs.internal.Kept.{place_of, at, entry_of, contents_of, entries_of, AreChanged, IsKept}
use Rattle.rad_tables.proofs.SlotLemmas.{exact_slots, slots_total}
use Rattle.rad_tables.proofs.ContentsLemmas.{get_slot, get_none}
use Rattle.rad_tables.proofs.KeptLemmas.{contents_of-set, cell_at}
use Rattle.rad_tables.proofs.MapLemmas.{entries-changed}

module _ {T : Type 0} (f : T → T) where
  -- one cell more is changed
  module _ (initial cells : List (Cell T)) (n : ℕ) (cell new : Cell T) (inside : n < length cells) (is : cell ≡ get_or cells n cell) (change : entry_of new ≡ option_map f (entry_of cell)) (left : (place : ℕ) → n ≤ place → at (contents_of cells) place ≡ at (contents_of initial) place) where
    pub one_more_done : ((place : ℕ) → place < n → at (contents_of cells) place ≡ option_map f (at (contents_of initial) place)) → (place : ℕ) → place < n + 1 → at (contents_of (set cells n new)) place ≡ option_map f (at (contents_of initial) place)
    one_more_done done place below =
        ap (λ contents. at contents place) (contents_of-set cells n new)
        ∙ elim (cases_eq place n) [
          | inl same ↦
              ap (at (set (contents_of cells) n (entry_of new))) same
              ∙ get_or-set_same (contents_of cells) n (entry_of new) None (omega (arith, length-map cells entry_of))
              ∙ change ∙ ap (option_map f) (sym (cell_at cells n n cell refl inside is) ∙ left n (omega arith))
              ∙ ap (λ p. option_map f (at (contents_of initial) p)) (sym same)
          | inr other ↦ get_or-set_other (contents_of cells) n place (entry_of new) None other ∙ done place (omega arith)
        ]

    pub one_less_left : (place : ℕ) → n + 1 ≤ place → at (contents_of (set cells n new)) place ≡ at (contents_of initial) place
    one_less_left place above =
        ap (λ contents. at contents place) (contents_of-set cells n new)
        ∙ get_or-set_other (contents_of cells) n place (entry_of new) None (omega arith) ∙ left place (omega arith)

  pub all_done : (initial cells : List (Cell T)) (n : ℕ) → length cells ≡ length initial → length cells ≤ n → ((place : ℕ) → place < n → at (contents_of cells) place ≡ option_map f (at (contents_of initial) place)) → AreChanged f (contents_of initial) (contents_of cells)
  all_done initial cells n as_many end done = record {
    as_many = length-map cells entry_of ∙ as_many ∙ sym (length-map initial entry_of);
    each_one = λ place.
        elim (cases_lt place n) [
          | inl below ↦ done place below
          | inr past ↦
              get_or_past (contents_of cells) place None (omega (arith, length-map cells entry_of))
              ∙ ap (option_map f) (sym (get_or_past (contents_of initial) place None (omega (arith, length-map initial entry_of))))
        ];
  }

  same_some : (o : Option T) → is_some (option_map f o) ≡ is_some o
  same_some None = refl
  same_some (Some x) = refl

  module _ (old new : List (Option T)) (changed : AreChanged f old new) where
    pub get_changed : (slot : Slot) → get (entries_of new) slot ≡ option_map f (get (entries_of old) slot)
    get_changed slot =
        elim (cases_lt slot.identifier 256) [
          | inl low ↦ get_slot new slot low ∙ changed.each_one (place_of slot) ∙ ap (option_map f) (sym (get_slot old slot low))
          | inr high ↦ get_none new slot high ∙ ap (option_map f) (sym (get_none old slot high))
        ]

    len_changed_each : len (entries_of new) ≡ len (entries_of old)
    len_changed_each =
        len-entries (entries_of new) ∙ ap length (entries-changed slot_cmp f slots_total exact_slots (entries_of old) (entries_of new) get_changed)
        ∙ length-map _ _ ∙ sym (len-entries (entries_of old))

    still : (p : ℕ) → is_some (at new p) ≡ is_some (at old p)
    still p = ap is_some (changed.each_one p) ∙ same_some (at old p)

    pub kept_changed_each : (places positions : List ℕ) (room ports : ℕ) (allotted : Option Slot) → IsKept old places positions room ports allotted → IsKept new places positions room ports allotted
    kept_changed_each places positions room ports allotted kept =
        let index = kept.index in
        record {
          least = kept.least;
          most = kept.most;
          pairs = changed.as_many ∙ kept.pairs;
          has_room = omega (arith, changed.as_many, kept.has_room);
          index = record {
            back = index.back ∙ sym changed.as_many;
            in_use = λ i h. still _ ∙ index.in_use i h;
            position = index.position;
            known = λ p h. index.known p (sym (still p) ∙ h);
            placed = λ p h. index.placed p (sym (still p) ∙ h);
          };
          count = len_changed_each ∙ kept.count;
          last = kept.last;
        }

-- the cells of a vector whose whole slice was written
pub rewritten : {T : Type 0} (n : ℕ) (cells old : List (Cell T)) → length cells ≡ n → take n (cells ++ drop (length cells) old) ≡ cells
rewritten n cells old e = take_at cells (drop (length cells) old) n e
