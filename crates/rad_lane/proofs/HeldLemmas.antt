-- What stands under the pairs: the sendings that are outstanding, and their stamps.
use Rattle.std.proofs.Common.{◌≡◌, ℕ, suc, ◌+◌, Bool, true, false, cond, List, [], ◌∷◌, length, Option, Some, None, refl, sym, ap, ◌∙◌, subst, arith}
use Rattle.std.specs.Prelude.{map as each, option_map}
use Rattle.std.specs.Ordering.{eq_by_cmp}
use Rattle.std.specs.List.{filter_map}
use Rattle.std.specs.FinMap as map
use Rattle.std.specs.List.Sorted.{IsPermutation}
use Rattle.std.proofs.lemmas.List.{length-map}
use Rattle.std.proofs.lemmas.List.Sorted.{IsPermutation-refl, IsPermutation-sym, IsPermutation-trans, IsPermutation-map, length_permutation}
use Rattle.rad_tables.specs.declared.slots.Slot.{Slot}
use Rattle.rad_tables.specs.Pairs.{slot_cmp}
use Rattle.rad_tables.proofs.SlotLemmas.{exact_slots, slots_total, tied}
use Rattle.rad_tables.proofs.MapLemmas.{given-insert_absent, given-remove_present, insert_anew, removed_absent, entries-changed, with_values}
use Rattle.rad_lane.specs.declared.stamp.Stamp.{Stamp}
use Rattle.rad_lane.specs.Stamp.{Recorded}
use Rattle.rad_lane.specs.Outstanding.{Outstanding}
use Rattle.rad_lane.specs.declared.entry.Entry.{Entry}
use Rattle.rad_lane.specs.declared.entry.Entry.TheVariants.{Sending as sending, Probe as probe}
use Rattle.rad_lane.specs.Entries.{request_in, sendings_in, renewed_in}

-- the stamps of the requests whose sendings stand under the pairs
abbrev pub stamps_in : map.FinMap slot_cmp Entry → List Stamp
stamps_in held = each (λ e. e.request.stamp) (sendings_in held)

abbrev stamp_of : Outstanding → Stamp
stamp_of e = e.request.stamp

as_many_stamps : (xs ys : List Outstanding) → IsPermutation (each stamp_of xs) (each stamp_of ys) → length ys ≡ length xs
as_many_stamps xs ys p = sym (length-map ys stamp_of) ∙ length_permutation _ _ p ∙ length-map xs stamp_of

-- the same stamps are as many sendings
pub as_many : (held other : map.FinMap slot_cmp Entry) → IsPermutation (stamps_in held) (stamps_in other) → length (sendings_in other) ≡ length (sendings_in held)
as_many held other p = as_many_stamps (sendings_in held) (sendings_in other) p

-- what holds of each entry, holds of each still where one comes, one goes, or each changes and keeps it
module _ (P : Slot → Entry → Type 0) (held : map.FinMap slot_cmp Entry) (every : (slot : Slot) (entry : Entry) → map.get held slot ≡ Some entry → P slot entry) where
  put_by : (slot at : Slot) (x y : Entry) (b : Bool) → (b ≡ true → at ≡ slot) → P slot x → cond b (Some x) (map.get held at) ≡ Some y → P at y
  put_by slot at x y true same here is =
      let one : x ≡ y = cc in
      subst (λ e. P at e) one (subst (λ s. P s x) (sym (same refl)) here)
  put_by slot at x y false same here is = every at y is

  pub every_put : (slot : Slot) (x : Entry) → P slot x → (at : Slot) (y : Entry) → map.get (map.insert held slot x) at ≡ Some y → P at y
  every_put slot x here at y is = put_by slot at x y (eq_by_cmp slot_cmp at slot) (λ h. tied at slot h) here (sym (map.get-insert slots_total held slot x at) ∙ is)

  left_by : (at : Slot) (y : Entry) (b : Bool) → cond b None (map.get held at) ≡ Some y → P at y
  left_by at y true is = cc
  left_by at y false is = every at y is

  pub every_left : (slot : Slot) (at : Slot) (y : Entry) → map.get (map.remove held slot) at ≡ Some y → P at y
  every_left slot at y is = left_by at y (eq_by_cmp slot_cmp at slot) (sym (map.get-remove slots_total held slot at) ∙ is)

  module _ (f : Entry → Entry) (keeps : (at : Slot) (x : Entry) → P at x → P at (f x)) where
    changed_by : (at : Slot) (o : Option Entry) (y : Entry) → ((x : Entry) → o ≡ Some x → P at x) → option_map f o ≡ Some y → P at y
    changed_by at None y before is = cc
    changed_by at (Some x) y before is =
        let one : f x ≡ y = cc in
        subst (λ e. P at e) one (keeps at x (before x refl))

    pub every_changed : (other : map.FinMap slot_cmp Entry) → ((slot : Slot) → map.get other slot ≡ option_map f (map.get held slot)) → (at : Slot) (y : Entry) → map.get other at ≡ Some y → P at y
    every_changed other changed at y is = changed_by at (map.get held at) y (every at) (sym (changed at) ∙ is)

module _ (held : map.FinMap slot_cmp Entry) (slot : Slot) where
  -- a sending under a free pair comes to the others
  pub sending_comes : (entry : Outstanding) → map.get held slot ≡ None → IsPermutation (stamps_in (map.insert held slot (sending entry))) (stamp_of entry ∷ stamps_in held)
  sending_comes entry free =
      IsPermutation-map stamp_of _ _ (given-insert_absent slot_cmp request_in slots_total exact_slots held slot (sending entry) free)

  -- a probe brings none
  pub probe_comes : (octets : List ℕ) → map.get held slot ≡ None → IsPermutation (stamps_in held) (stamps_in (map.insert held slot (probe octets)))
  probe_comes octets free =
      IsPermutation-sym _ _ (IsPermutation-map stamp_of _ _ (given-insert_absent slot_cmp request_in slots_total exact_slots held slot (probe octets) free))

  -- a sending leaves the others
  pub sending_leaves : (entry : Outstanding) → map.get held slot ≡ Some (sending entry) → IsPermutation (stamps_in held) (stamp_of entry ∷ stamps_in (map.remove held slot))
  sending_leaves entry there =
      IsPermutation-map stamp_of _ _ (given-remove_present slot_cmp request_in slots_total exact_slots held slot (sending entry) there)

  -- a probe takes none away
  pub probe_leaves : (octets : List ℕ) → map.get held slot ≡ Some (probe octets) → IsPermutation (stamps_in held) (stamps_in (map.remove held slot))
  probe_leaves octets there =
      IsPermutation-map stamp_of _ _ (given-remove_present slot_cmp request_in slots_total exact_slots held slot (probe octets) there)

  -- another sending of the same request in its place changes nothing
  pub sending_stays : (entry other : Outstanding) → map.get held slot ≡ Some (sending entry) → other.request ≡ entry.request → IsPermutation (stamps_in held) (stamps_in (map.insert held slot (sending other)))
  sending_stays entry other there same =
      let without = map.remove held slot in
      let comes : IsPermutation (stamps_in (map.insert without slot (sending other))) (stamp_of other ∷ stamps_in without) =
      IsPermutation-map stamp_of _ _ (given-insert_absent slot_cmp request_in slots_total exact_slots without slot (sending other) (removed_absent slots_total held slot)) in
      let leaves : IsPermutation (stamps_in held) (stamp_of other ∷ stamps_in without) =
      subst (λ (r : Recorded). IsPermutation (stamps_in held) (r.stamp ∷ stamps_in without)) (sym same) (sending_leaves entry there) in
      subst (λ (m : map.FinMap slot_cmp Entry). IsPermutation (stamps_in held) (stamps_in m)) (sym (insert_anew slots_total exact_slots held slot (sending other)))
      (IsPermutation-trans _ _ _ leaves (IsPermutation-sym _ _ comes))

-- a round that begins anew has the same stamps
anew : (now : ℕ) (entries : List Entry) → each stamp_of (filter_map request_in (each (renewed_in now) entries)) ≡ each stamp_of (filter_map request_in entries)
anew now [] = refl
anew now (sending entry ∷ entries) = ap (λ stamps. stamp_of entry ∷ stamps) (anew now entries)
anew now (probe octets ∷ entries) = anew now entries

values_of_entries : (f : Entry → Entry) (es : List (Slot × Entry)) → each (λ e. e.1) (with_values slot_cmp f es) ≡ each f (each (λ e. e.1) es)
values_of_entries f [] = refl
values_of_entries f (e ∷ es) = ap (λ xs. f e.1 ∷ xs) (values_of_entries f es)

pub all_anew : (now : ℕ) (held other : map.FinMap slot_cmp Entry) → ((slot : Slot) → map.get other slot ≡ option_map (renewed_in now) (map.get held slot)) → IsPermutation (stamps_in held) (stamps_in other)
all_anew now held other h =
    let values : map.values other ≡ each (renewed_in now) (map.values held) =
    ap (λ (es : List (Slot × Entry)). each (λ e. e.1) es) (entries-changed slot_cmp (renewed_in now) slots_total exact_slots held other h) ∙ values_of_entries (renewed_in now) (map.entries held) in
    subst (λ (vs : List Entry). IsPermutation (stamps_in held) (each stamp_of (filter_map request_in vs))) (sym values)
    (subst (λ (ss : List Stamp). IsPermutation (stamps_in held) ss) (sym (anew now (map.values held))) (IsPermutation-refl _))

-- a sending more under a free pair is one more
pub one_more : (held : map.FinMap slot_cmp Entry) (slot : Slot) (entry : Outstanding) → map.get held slot ≡ None → length (sendings_in (map.insert held slot (sending entry))) ≡ length (sendings_in held) + 1
one_more held slot entry free =
    let other = map.insert held slot (sending entry) in
    let stamps : suc (length (stamps_in held)) ≡ length (stamps_in other) = length_permutation _ _ (sending_comes held slot entry free) in
    omega (arith, stamps, length-map (sendings_in held) stamp_of, length-map (sendings_in other) stamp_of)

-- Without a probe, there are as many sendings as pairs in use: no pair would lose its entry if each probe became this
-- sending.
module _ (d : Outstanding) where
  abbrev as_sending : Entry → Entry
  as_sending (sending entry) = sending entry
  as_sending (probe octets) = sending d

  all_counted : (entries : List Entry) → length (filter_map request_in (each as_sending entries)) ≡ length entries
  all_counted [] = refl
  all_counted (sending entry ∷ entries) = ap suc (all_counted entries)
  all_counted (probe octets ∷ entries) = ap suc (all_counted entries)

  stays : (o : Option Entry) → ((octets : List ℕ) → o ≡ Some (probe octets) → ⊥) → o ≡ option_map as_sending o
  stays None h = refl
  stays (Some (sending entry)) h = refl
  stays (Some (probe octets)) h = absurd (h octets refl)

  counted_by : (held : map.FinMap slot_cmp Entry) → ((slot : Slot) (octets : List ℕ) → map.get held slot ≡ Some (probe octets) → ⊥) → length (sendings_in held) ≡ map.len held
  counted_by held none =
      let same : map.values held ≡ each as_sending (map.values held) =
      ap (λ (es : List (Slot × Entry)). each (λ e. e.1) es) (entries-changed slot_cmp as_sending slots_total exact_slots held held (λ slot. stays (map.get held slot) (none slot))) ∙ values_of_entries as_sending (map.entries held) in
      ap (λ (vs : List Entry). length (filter_map request_in vs)) same ∙ all_counted (map.values held) ∙ length-map (map.entries held) _ ∙ sym (map.len-entries held)

pub all_sendings : (held : map.FinMap slot_cmp Entry) → ((slot : Slot) (octets : List ℕ) → map.get held slot ≡ Some (probe octets) → ⊥) → length (sendings_in held) ≡ map.len held
all_sendings held none = counted_by (record {
  request = record {
    stamp = record { number = 0; client = []; port = 0; identifier = 0; authenticator = []; moment = 0 };
    text = [];
    client_secret = [];
  };
  octets = [];
  sendings = 0;
  due = 0;
  home = [];
  tries = 0;
}) held none
