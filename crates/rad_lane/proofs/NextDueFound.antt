-- Whether a sending is due, as the slots tell it.
use Rattle.std.proofs.Common.{◌≡◌, ℕ, ◌+◌, ◌<◌, ◌≤◌, Bool, true, false, Option, Some, None, inl, inr, refl, ap, ◌∙◌, subst, arith}
use Rattle.std.specs.Prelude.{option_map, List}
use Rattle.std.specs.Option.{MatchOption, unwrap_or}
use Rattle.std.specs.FinMap as map
use Rattle.rad_tables.specs.declared.slots.Slot.{Slot}
use Rattle.rad_tables.specs.declared.slots.Due.{Due}
use Rattle.rad_tables.specs.Dues.{NotAfter, IsEarliest, IsFirstDue, NoneInUse}
use Rattle.rad_tables.specs.Pairs.{slot_cmp}
use Rattle.rad_lane.specs.Outstanding.{Outstanding, sent_again}
use Rattle.rad_lane.specs.declared.entry.Entry.{Entry}
use Rattle.rad_lane.specs.declared.entry.Entry.TheVariants.{Sending as sending, Probe as probe}
use Rattle.rad_lane.specs.declared.stepping.Action.TheVariants.{Idle}
use Rattle.rad_lane.specs.declared.watch.Watch.TheVariants.{Up as up}
use Rattle.rad_lane.specs.Book.{Book}
use Rattle.rad_lane.specs.Dues.{NoneDue, IsNextDue, IsSpentDue, IsLeastOfAll, NoneOutstanding, as_moment}
use Rattle.rad_lane.specs.Lawful.{ProbeStands}
use Rattle.rad_lane.specs.Steps.{StepsWhileUp, NothingToSend, freed}
use Rattle.rad_lane.specs.Entries.{due_in, number_in, is_spent_in}
use Rattle.rad_lane.specs.internal.NextDue.{NoneBefore}
use Rattle.rad_lane.proofs.HeldLemmas.{every_put, every_left}

-- a lane that is up has no probe
pub no_probe : (book : Book) → book.watch ≡ up → ProbeStands book book.watch → (slot : Slot) (octets : _) → map.get book.held slot ≡ Some (probe octets) → ⊥
no_probe book is apart = subst (λ w. ProbeStands book w) is apart

at_or_after : (a b : ℕ × ℕ) → NotAfter a b → a.0 ≤ b.0
at_or_after a b h = elim h [ inl before ↦ omega (arith, before) | inr same ↦ omega (arith, same.0) ]

module _ (book : Book) (none : (slot : Slot) (octets : _) → map.get book.held slot ≡ Some (probe octets) → ⊥) where
  module _ (now : ℕ) (which : Bool) where
    next_by : (slot : Slot) (x : Entry) → map.get book.held slot ≡ Some x → is_spent_in x ≡ which → ((other : Slot) (e : Entry) → map.get book.held other ≡ Some e → is_spent_in e ≡ which → NotAfter (due_in x, number_in x) (due_in e, number_in e)) → due_in x ≤ now → (entry : Outstanding) × IsNextDue book now which slot entry
    next_by slot (probe octets) there kind first due = absurd (none slot octets there)
    next_by slot (sending entry) there kind first due = (
      entry,
      record {
        there = there;
        kind = kind;
        due = due;
        first = λ other e there_too kind_too. first other (sending e) there_too kind_too;
      },
    )

    module _ (found : Due) (f : IsFirstDue due_in number_in is_spent_in book.held which found) where
      next_of : found.due ≤ now → (entry : Outstanding) × IsNextDue book now which found.slot entry
      next_of past = next_by found.slot f.at.least f.at.there f.at.kind f.at.first (subst (λ n. n ≤ now) f.due_is past)

      none_of : now < found.due → NoneDue book now which
      none_of ahead slot entry there kind =
          let first = at_or_after _ _ (f.at.first slot (sending entry) there kind) in
          omega (arith, ahead, f.due_is, first)

  least_by : (moment : ℕ) (slot : Slot) (x : Entry) → map.get book.held slot ≡ Some x → moment ≡ due_in x → ((other : Slot) (e : Entry) → map.get book.held other ≡ Some e → moment ≤ due_in e) → IsLeastOfAll book moment
  least_by moment slot (probe octets) there is first = absurd (none slot octets there)
  least_by moment slot (sending entry) there is first = record {
    slot = slot;
    entry = entry;
    there = there;
    due_is = is;
    least = λ other e there_too. first other (sending e) there_too;
  }

  least_of : (earliest : Option ℕ) → MatchOption earliest (NoneInUse book.held) (IsEarliest due_in book.held) → MatchOption earliest (NoneOutstanding book) (IsLeastOfAll book)
  least_of None h = λ slot entry there. h slot (sending entry) there
  least_of (Some moment) h = least_by moment h.slot h.entry h.there h.due_is h.first

-- the same of the book as it is seen
module _ (book value : Book) (same : book ≡ value) where
  -- nothing is due before the moment before which no entry is
  pub none_before : (moment now : ℕ) → NoneBefore book.held moment → now < moment → (which : Bool) → NoneDue value now which
  none_before moment now none ahead which =
      subst (λ (b : Book). NoneDue b now which) same (λ slot entry there kind.
      let later = none slot (sending entry) there in omega (arith, later, ahead))

  pub none_in_use : (now : ℕ) (which : Bool) → ((slot : Slot) (entry : Entry) → map.get book.held slot ≡ Some entry → is_spent_in entry ≡ which → ⊥) → NoneDue value now which
  none_in_use now which none = subst (λ (b : Book). NoneDue b now which) same (λ slot entry there kind. absurd (none slot (sending entry) there kind))

  module _ (is_up : value.watch ≡ up) (apart : ProbeStands book book.watch) where
    no_probe_here : (at : Slot) (octets : _) → map.get book.held at ≡ Some (probe octets) → ⊥
    no_probe_here = no_probe book (ap (λ (b : Book). b.watch) same ∙ is_up) apart

    module _ (now : ℕ) (which : Bool) (found : Due) (f : IsFirstDue due_in number_in is_spent_in book.held which found) where
      pub next_seen : found.due ≤ now → (entry : Outstanding) × IsNextDue value now which found.slot entry
      next_seen past = subst (λ (b : Book). (entry : Outstanding) × IsNextDue b now which found.slot entry) same (next_of book no_probe_here now which found f past)

      pub none_seen : now < found.due → NoneDue value now which
      none_seen ahead = subst (λ (b : Book). NoneDue b now which) same (none_of book no_probe_here now which found f ahead)

    pub least_seen : (earliest : Option ℕ) → MatchOption earliest (NoneInUse book.held) (IsEarliest due_in book.held) → MatchOption earliest (NoneOutstanding value) (IsLeastOfAll value)
    least_seen earliest h = subst (λ (b : Book). MatchOption earliest (NoneOutstanding b) (IsLeastOfAll b)) same (least_of book no_probe_here earliest h)

-- no entry is due before the earliest due time, nor before any moment where there is none
pub before_earliest : (held : map.FinMap slot_cmp Entry) (earliest : Option ℕ) (last : ℕ) → MatchOption earliest (NoneInUse held) (IsEarliest due_in held) → NoneBefore held (unwrap_or earliest last)
before_earliest held None last h = λ slot entry there. absurd (h slot entry there)
before_earliest held (Some moment) last h = h.first

-- no entry is due before that moment once a pair is freed, nor before the due time of an entry that comes, if that is earlier
pub before_freed : (held : map.FinMap slot_cmp Entry) (out : Option Slot) (moment : ℕ) → NoneBefore held moment → NoneBefore (freed held out) moment
before_freed held None moment none = none
before_freed held (Some slot) moment none = every_left (λ at x. moment ≤ due_in x) held none slot

pub before_put : (held : map.FinMap slot_cmp Entry) (slot : Slot) (x : Entry) (old moment : ℕ) → NoneBefore held old → moment ≤ old → moment ≤ due_in x → NoneBefore (map.insert held slot x) moment
before_put held slot x old moment none lower here =
    every_put (λ at y. moment ≤ due_in y) held (λ at y there. let later = none at y there in omega (arith, later, lower)) slot x here

-- a sending that is due is due later once it was sent again
pub before_again : (held : map.FinMap slot_cmp Entry) (slot : Slot) (entry : Outstanding) (moment now first : ℕ) → NoneBefore held moment → map.get held slot ≡ Some (sending entry) → entry.due ≤ now → moment ≤ due_in (sending (sent_again first now entry))
before_again held slot entry moment now first none there past =
    let before = none slot (sending entry) there in later_still moment entry.due now _ before past
  where
    later_still : (moment due now wait : ℕ) → moment ≤ due → due ≤ now → moment ≤ now + wait
    later_still moment due now wait before past = omega (arith, before, past)

-- something spent is due
pub spent_due : (book : Book) (now : ℕ) (slot : Slot) → (entry : Outstanding) × IsNextDue book now true slot entry → IsSpentDue book now
spent_due book now slot h = record { slot = slot; entry = h.0; there = h.1.there; spent = h.1.kind; due = h.1.due }

-- where nothing is to be done
pub idle : (book : Book) (now : ℕ) (earliest : Option ℕ) (octets : List ℕ) → NoneDue book now false → NoneDue book now true → NothingToSend book → MatchOption earliest (NoneOutstanding book) (IsLeastOfAll book) → StepsWhileUp book now (Idle (option_map as_moment earliest)) (record { before = octets; after = octets }) (record book { last = now })
idle book now None octets fresh spent nothing least = (nothing, least, refl, refl)
idle book now (Some due) octets fresh spent nothing least = (fresh, spent, nothing, due, least, refl, refl, refl)
