-- Sums over what is outstanding, as entries come, go and change.
use Rattle.std.proofs.Common.{◌≡◌, ℕ, ◌+◌, ◌≤◌, Bool, true, false, cond, eqb, List, [], ◌∷◌, length, Option, Some, None, refl, sym, ap, ◌∙◌, inl, inr, arith}
use Rattle.std.specs.Prelude.{map as values, option_map}
use Rattle.std.specs.List.{filter_map, cons_option, sum_by, count_by}
use Rattle.std.specs.Ordering.{eq_by_cmp}
use Rattle.std.specs.FinMap as map
use Rattle.std.proofs.lemmas.Bool.{eq-eqb, eqb-true, cases_Bool}
use Rattle.std.proofs.lemmas.List.Sums.{sum_by-cons}
use Rattle.std.proofs.lemmas.List.Sorted.{sum_by-IsPermutation}
use Rattle.rad_tables.specs.declared.slots.Slot.{Slot}
use Rattle.rad_tables.specs.Pairs.{slot_cmp}
use Rattle.rad_tables.proofs.SlotLemmas.{exact_slots, slots_total, tied, itself}
use Rattle.rad_tables.proofs.MapLemmas.{given-insert_absent, given-remove_present, insert_anew, removed_absent, entries-changed, with_values}
use Rattle.rad_lane.specs.Outstanding.{Outstanding, renewed}
use Rattle.rad_lane.specs.declared.entry.Entry.{Entry}
use Rattle.rad_lane.specs.declared.entry.Entry.TheVariants.{Sending as sending, Probe as probe}
use Rattle.rad_lane.specs.declared.watch.Watch.{Watch}
use Rattle.rad_lane.specs.declared.watch.Watch.TheVariants.{Up as up, Down as down}
use Rattle.rad_lane.specs.Entries.{request_in, sendings_in, renewed_in, but_a_probe}
use Rattle.rad_lane.specs.Book.{Book}
use Rattle.rad_lane.specs.Watch.{probe_of}
use Rattle.rad_lane.specs.Lawful.{ProbeStands}
use Rattle.rad_lane.specs.Steps.{freed}

abbrev pub Held : Type 0
Held = map.FinMap slot_cmp Entry

-- the sum over the outstanding requests, and what one entry adds to it
abbrev pub total : (Outstanding → ℕ) → Held → ℕ
total f held = sum_by f (sendings_in held)

abbrev pub weight : (Outstanding → ℕ) → Entry → ℕ
weight f (sending entry) = f entry
weight f (probe octets) = 0

module _ (f : Outstanding → ℕ) where
  one_in_front : (x : Entry) (xs : List Outstanding) → sum_by f (cons_option (request_in x) xs) ≡ weight f x + sum_by f xs
  one_in_front (sending entry) xs = sum_by-cons f entry xs
  one_in_front (probe octets) xs = omega arith

  module _ (held : Held) (slot : Slot) where
    pub comes : (x : Entry) → map.get held slot ≡ None → total f (map.insert held slot x) ≡ weight f x + total f held
    comes x free =
        sym (sum_by-IsPermutation f _ _ (given-insert_absent slot_cmp request_in slots_total exact_slots held slot x free))
        ∙ one_in_front x (sendings_in held)

    pub leaves : (x : Entry) → map.get held slot ≡ Some x → total f held ≡ weight f x + total f (map.remove held slot)
    leaves x there =
        sym (sum_by-IsPermutation f _ _ (given-remove_present slot_cmp request_in slots_total exact_slots held slot x there))
        ∙ one_in_front x (sendings_in (map.remove held slot))

  pub changes : (held : Held) (slot : Slot) (x y : Entry) → map.get held slot ≡ Some x → total f (map.insert held slot y) + weight f x ≡ total f held + weight f y
  changes held slot x y there =
      let before = leaves held slot x there in
      let after = comes (map.remove held slot) slot y (removed_absent slots_total held slot) in
      let same = ap (λ (m : Held). total f m) (insert_anew slots_total exact_slots held slot y) in
      omega (arith, before, after, same)

  -- what is outstanding is part of the sum
  pub part : (held : Held) (slot : Slot) (entry : Outstanding) → map.get held slot ≡ Some (sending entry) → f entry ≤ total f held
  part held slot entry there = let h = leaves held slot (sending entry) there in omega (arith, h)

  -- where nothing outstanding adds to it, the sum is 0: no entry would change if each that adds became a probe
  abbrev adds_none : Entry → Bool
  adds_none x = eqb (weight f x) 0

  abbrev without : Entry → Entry
  without x = cond (adds_none x) x (probe [])

  nothing : (x : Entry) → weight f (without x) ≡ 0
  nothing x = elim (cases_Bool (eqb (weight f x) 0)) [
    | inl none ↦ ap (λ b. weight f (cond b x (probe []))) none ∙ eqb-true (weight f x) 0 none
    | inr some ↦ ap (λ b. weight f (cond b x (probe []))) some
  ]

  stays : (x : Entry) → weight f x ≡ 0 → x ≡ without x
  stays x none = ap (λ b. cond b x (probe [])) (sym (eq-eqb (weight f x) 0 none))

  stays_there : (o : Option Entry) → ((x : Entry) → o ≡ Some x → weight f x ≡ 0) → o ≡ option_map without o
  stays_there None none = refl
  stays_there (Some x) none = ap Some (stays x (none x refl))

  all_nothing : (entries : List (Slot × Entry)) → sum_by f (filter_map request_in (values (λ e. e.1) (with_values slot_cmp without entries))) ≡ 0
  all_nothing [] = refl
  all_nothing (e ∷ entries) =
      let rest = all_nothing entries in
      let here = nothing e.1 in
      let first = one_in_front (without e.1) (filter_map request_in (values (λ e. e.1) (with_values slot_cmp without entries))) in
      omega (arith, rest, here, first)

  pub none_of : (held : Held) → ((slot : Slot) (x : Entry) → map.get held slot ≡ Some x → weight f x ≡ 0) → total f held ≡ 0
  none_of held none =
      let same = entries-changed slot_cmp without slots_total exact_slots held held (λ slot. stays_there (map.get held slot) (none slot)) in
      ap (λ (es : List (Slot × Entry)). sum_by f (filter_map request_in (values (λ e. e.1) es))) same ∙ all_nothing (map.entries held)

  pub none_outstanding : (held : Held) → ((slot : Slot) (entry : Outstanding) → map.get held slot ≡ Some (sending entry) → f entry ≡ 0) → total f held ≡ 0
  none_outstanding held none = none_of held each_one
    where
      each_one : (slot : Slot) (x : Entry) → map.get held slot ≡ Some x → weight f x ≡ 0
      each_one slot (sending entry) there = none slot entry there
      each_one slot (probe octets) there = refl

  -- each request with a new round
  anew : (now : ℕ) (entries : List (Slot × Entry)) → sum_by f (filter_map request_in (values (λ e. e.1) (with_values slot_cmp (renewed_in now) entries))) ≡ sum_by (λ e. f (renewed now e)) (filter_map request_in (values (λ e. e.1) entries))
  anew now [] = refl
  anew now ((slot, sending entry) ∷ entries) =
      let rest = anew now entries in
      let first = sum_by-cons f (renewed now entry) (filter_map request_in (values (λ e. e.1) (with_values slot_cmp (renewed_in now) entries))) in
      let front = sum_by-cons (λ e. f (renewed now e)) entry (filter_map request_in (values (λ (e : Slot × Entry). e.1) entries)) in
      first ∙ ap (λ n. f (renewed now entry) + n) rest ∙ sym front
  anew now ((slot, probe octets) ∷ entries) = anew now entries

  pub all_anew : (now : ℕ) (held other : Held) → ((slot : Slot) → map.get other slot ≡ option_map (renewed_in now) (map.get held slot)) → total f other ≡ total (λ e. f (renewed now e)) held
  all_anew now held other h =
      ap (λ (es : List (Slot × Entry)). sum_by f (filter_map request_in (values (λ e. e.1) es))) (entries-changed slot_cmp (renewed_in now) slots_total exact_slots held other h)
      ∙ anew now (map.entries held)

  -- the probe's pair counts for nothing
  pub freed_same : (book : Book) (watch : Watch) → ProbeStands book watch → total f (freed book.held (probe_of watch)) ≡ total f book.held
  freed_same book up apart = refl
  freed_same book (down until next None) apart = refl
  freed_same book (down until next (Some out)) apart = let h = leaves book.held out (probe apart.0.0) apart.0.1 in omega (arith, h)

-- how many are outstanding, as a sum
length_is : {X : Type 0} (xs : List X) → length xs ≡ sum_by (λ _. 1) xs
length_is [] = refl
length_is (x ∷ xs) = let rest = length_is xs in let first = sum_by-cons (λ _. 1) x xs in omega (arith, rest, first)

pub counted : (held : Held) → length (sendings_in held) ≡ total (λ _. 1) held
counted held = length_is (sendings_in held)

-- two tests that never pass at once pass no more than there are
pub two_counts : {X : Type 0} (p q : X → Bool) → ((x : X) → cond (p x) 1 0 + cond (q x) 1 0 ≤ 1) → (xs : List X) → count_by p xs + count_by q xs ≤ length xs
two_counts p q apart [] = omega arith
two_counts p q apart (x ∷ xs) =
    let rest = two_counts p q apart xs in
    let here = apart x in
    let first = sum_by-cons (λ y. cond (p y) 1 0) x xs in
    let second = sum_by-cons (λ y. cond (q y) 1 0) x xs in
    omega (arith, rest, here, first, second)

-- two sums that add to a third in each item
pub sums_add : {X : Type 0} (f g h : X → ℕ) → ((x : X) → f x + g x ≡ h x) → (xs : List X) → sum_by f xs + sum_by g xs ≡ sum_by h xs
sums_add f g h each [] = refl
sums_add f g h each (x ∷ xs) =
    let rest = sums_add f g h each xs in
    let here = each x in
    let first = sum_by-cons f x xs in
    let second = sum_by-cons g x xs in
    let third = sum_by-cons h x xs in
    omega (arith, rest, here, first, second, third)

-- what stands under each pair once the probe's is free
left_none : (o : Option Entry) → ((octets : List ℕ) → o ≡ Some (probe octets) → ⊥) → o ≡ but_a_probe o
left_none None h = refl
left_none (Some (sending entry)) h = refl
left_none (Some (probe octets)) h = absurd (h octets refl)

left_by : (b : Bool) (old : Option Entry) (octets : List ℕ) → (b ≡ true → old ≡ Some (probe octets)) → ((other : List ℕ) → old ≡ Some (probe other) → b ≡ true) → cond b None old ≡ but_a_probe old
left_by true old octets here h = ap but_a_probe (sym (here refl))
left_by false old octets here h = left_none old (λ other is. let at = h other is in cc)

pub left_freed : (book : Book) (watch : Watch) → ProbeStands book watch → (slot : Slot) → map.get (freed book.held (probe_of watch)) slot ≡ but_a_probe (map.get book.held slot)
left_freed book up apart slot = left_none (map.get book.held slot) (apart slot)
left_freed book (down until next None) apart slot = left_none (map.get book.held slot) (apart slot)
left_freed book (down until next (Some out)) apart slot =
    map.get-remove slots_total book.held out slot
    ∙ left_by (eq_by_cmp slot_cmp slot out) (map.get book.held slot) apart.0.0
    (λ h. ap (map.get book.held) (tied slot out h) ∙ apart.0.1)
    (λ other there. itself slot out (apart.1 slot other there))

-- after going up: the sum over the requests with a new round
pub gone_up : (f : Outstanding → ℕ) (now : ℕ) (book : Book) (watch : Watch) → ProbeStands book watch → (other : Held) → ((slot : Slot) → map.get other slot ≡ option_map (renewed_in now) (but_a_probe (map.get book.held slot))) → total f other ≡ total (λ e. f (renewed now e)) book.held
gone_up f now book watch apart other renews =
    all_anew f now (freed book.held (probe_of watch)) other (λ slot. renews slot ∙ ap (option_map (renewed_in now)) (sym (left_freed book watch apart slot)))
    ∙ freed_same (λ e. f (renewed now e)) book watch apart
