-- The moment that an idle step names is the first one at which a step is left.
use Rattle.std.proofs.Common.{◌≡◌, ℕ, ◌-◌, ◌^◌, ◌<◌, ◌≤◌, true, false, List, length, Option, Some, None, refl, sym, ◌∙◌, subst, inl, inr, arith}
use Rattle.std.specs.Prelude.{min}
use Rattle.std.proofs.lemmas.Bool.{cases_Bool, cases_lt}
use Rattle.rad_tables.specs.declared.slots.Slot.{Slot}
use Rattle.rad_lane.specs.Outstanding.{Outstanding, is_spent}
use Rattle.rad_lane.specs.declared.watch.Watch.{Watch}
use Rattle.rad_lane.specs.declared.watch.Watch.TheVariants.{Up as up, Down as down}
use Rattle.rad_lane.specs.declared.stepping.Action.TheVariants.{Idle}
use Rattle.rad_lane.specs.Datagrams.{Datagrams}
use Rattle.rad_lane.specs.Dues.{IsLeastOfAll}
use Rattle.rad_lane.specs.Book.{Book, moment_in, outstanding_at, outstanding_count}
use Rattle.rad_lane.specs.Steps.{Steps, StepsBy, NothingToSend}
use Rattle.rad_progress.specs.StepsLeft.{due_again, spent_due, steps_left}
use Rattle.rad_progress.specs.Idling.{IsNextMoment, Names}
use Rattle.rad_progress.proofs.Held.{part}
use Rattle.rad_progress.proofs.OneLess.{again, spent, left_unspent, left_spent, due_now_again, due_now_spent, none_due_again, none_due_spent, none_out, nothing_to_send, while_up, while_down, over, to_probe, to_wait}

not_cut : (due most moment : ℕ) → moment ≡ min due most → moment < most → due ≡ moment
not_cut due most moment is h = omega arith

module _ (book : Book) (nothing : NothingToSend book) where
  none_left : (is_up : book.watch ≡ up) (now : ℕ) → due_again book now ≡ 0 → spent_due book now ≡ 0 → steps_left book now ≡ 0
  none_left is_up now a s =
      let none = nothing_to_send book nothing in
      while_up book now is_up
      ∙ left_unspent (due_again book now) (spent_due book now) (length book.queued) book.setup.limits.window (outstanding_count book) s
      ∙ omega (arith, a, none)

  some_left : (is_up : book.watch ≡ up) (now : ℕ) (slot : Slot) (entry : Outstanding) → outstanding_at book slot entry → entry.due ≤ now → 1 ≤ steps_left book now
  some_left is_up now slot entry there due =
      let is = while_up book now is_up in
      elim (cases_Bool (is_spent entry)) [
        | inl spent_here ↦
            let one = due_now_spent now entry true due spent_here in
            let here = part (spent now) book.held slot entry there in
            let two = left_spent (due_again book now) (spent_due book now) (length book.queued) book.setup.limits.window (outstanding_count book) (omega (arith, one, here)) in
            omega (arith, is, two)
        | inr fresh ↦
            let one = due_now_again now entry false due fresh in
            let here = part (again now) book.held slot entry there in
            omega (arith, is, one, here)
      ]

  named_up : (is_up : book.watch ≡ up) (due : ℕ) → IsLeastOfAll book due → IsNextMoment book due
  named_up is_up due l = record {
    some = some_left is_up due l.slot l.entry l.there (omega (arith, l.due_is));
    none_before = λ earlier h.
        let later : (slot : Slot) (e : Outstanding) → outstanding_at book slot e → earlier < e.due = λ slot e there. let least = l.least slot e there in omega (arith, least, h) in
        none_left is_up earlier (none_due_again book earlier (λ slot e there kind. later slot e there)) (none_due_spent book earlier (λ slot e there kind. later slot e there));
  }

named_down : (book : Book) (until next : ℕ) (out : Option Slot) → book.watch ≡ down until next out → IsNextMoment book (min until next)
named_down book until next out is_down = record {
  some =
      let is = while_down book (min until next) until next out is_down in
      elim (cases_lt (min until next) until) [
        | inl before ↦ let one = to_probe book (min until next) until next before (omega (arith, before)) in omega (arith, is, one)
        | inr is_over ↦ let more = over book (min until next) until next is_over in omega (arith, is, more)
      ];
  none_before = λ earlier h. while_down book earlier until next out is_down ∙ to_wait book earlier until next (omega (arith, h)) (omega (arith, h));
}

module _ (old : Book) (now : ℕ) (random : List ℕ) (d : Datagrams) where
  names_by : (w : Watch) → old.watch ≡ w → (named : Option ℕ) (new : Book) → StepsBy w old now random (Idle named) d new → Names new named
  names_by up is None new h =
      subst (λ (b : Book). Names b None) (sym h.3)
      (λ later. none_left (record old { last = now }) h.0 is later (none_out old later h.1 (again later)) (none_out old later h.1 (spent later)))
  names_by up is (Some moment) new h =
      subst (λ (b : Book). Names b (Some moment)) (sym h.7)
      (λ small. subst (λ n. IsNextMoment (record old { last = now }) n) (not_cut h.3 (2 ^ 62 - 1) moment h.5 small)
      (named_up (record old { last = now }) h.2 is h.3 (least h.3 h.4)))
    where
      least : (due : ℕ) → IsLeastOfAll old due → IsLeastOfAll (record old { last = now }) due
      least due l = record { slot = l.slot; entry = l.entry; there = l.there; due_is = l.due_is; least = l.least }
  names_by (down until next out) is None new h = absurd h
  names_by (down until next out) is (Some moment) new h =
      subst (λ (b : Book). Names b (Some moment)) (sym h.4)
      (λ small. subst (λ n. IsNextMoment (record old { last = now }) n) (not_cut (min until next) (2 ^ 62 - 1) moment h.2 small)
      (named_down (record old { last = now }) until next out is))

pub names : (old : Book) (moment : ℕ) (random : List ℕ) (named : Option ℕ) (d : Datagrams) (new : Book) → Steps old moment random (Idle named) d new → Names new named
names old moment random named d new h = names_by old (moment_in old moment) random d old.watch refl named new h
