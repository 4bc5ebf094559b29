-- Each step that is not idle leaves one step less, and an idle one finds none.
use Rattle.std.proofs.Common.{◌≡◌, ℕ, ◌+◌, ◌-◌, ◌*◌, ◌^◌, ◌<◌, ◌≤◌, Bool, true, false, cond, eqb, List, length, Option, Some, None, refl, sym, ap, ◌∙◌, subst, inl, inr, arith}
use Rattle.std.specs.Prelude.{min, not, nat_le, ◌&&◌}
use Rattle.std.specs.FinMap as map
use Rattle.std.proofs.lemmas.Bool.{lt-leb, le-leb, eq-eqb, ne_eqb, cases_Bool, cases_eq, cases_lt}
use Rattle.std.proofs.lemmas.Nat.{pow_pos}
use Rattle.rad_config.specs.Limits.{AreInRange}
use Rattle.rad_tables.specs.declared.slots.Slot.{Slot}
use Rattle.rad_tables.specs.Waiting.{wait_of}
use Rattle.rad_lane.specs.Outstanding.{Outstanding, is_spent, first_sending, sent_again, renewed}
use Rattle.rad_lane.specs.Stamp.{Recorded}
use Rattle.rad_lane.specs.declared.entry.Entry.TheVariants.{Sending as sending, Probe as probe}
use Rattle.rad_lane.specs.declared.watch.Watch.{Watch}
use Rattle.rad_lane.specs.declared.watch.Watch.TheVariants.{Up as up, Down as down}
use Rattle.rad_lane.specs.declared.stepping.Action.{Action}
use Rattle.rad_lane.specs.declared.stepping.Action.TheVariants.{Sent, Resent, Probed, WentDown, WentUp, Idle}
use Rattle.rad_lane.specs.Entries.{sendings_in}
use Rattle.rad_lane.specs.Datagrams.{Datagrams}
use Rattle.rad_lane.specs.Dues.{NoneDue, NoneOutstanding}
use Rattle.rad_lane.specs.Book.{Book, moment_in, outstanding_at, outstanding_of, outstanding_count}
use Rattle.rad_lane.specs.Lawful.{IsLawful, ProbeStands}
use Rattle.rad_lane.specs.Steps.{Steps, StepsBy, StepsWhileUp, StepsWhileDown, NothingToSend, with_sending, without_probe}
use Rattle.rad_progress.specs.StepsLeft.{is_due_again, is_spent_due, due_again, spent_due, to_be_sent, steps_left_up, steps_left_down, steps_left_by, steps_left, most_steps, Settles}
use Rattle.rad_progress.proofs.Held.{Held, total, comes, changes, part, none_outstanding, counted, two_counts, sums_add, gone_up}

-- each outstanding request has the lane's number of sendings in a round
abbrev pub HaveItsTries : Book → Type 0
HaveItsTries book = (slot : Slot) (entry : Outstanding) → outstanding_at book slot entry → entry.tries ≡ book.setup.limits.tries

-- a wait is never 0
pub waits : (first k : ℕ) → 100 ≤ first → 1 ≤ wait_of first k
waits first k least =
    let power : 0 < 2 ^ (k - 1) = pow_pos (k - 1) in
    let product : 1 ≤ first * 2 ^ (k - 1) = grind arith in
    omega (arith, product)

-- how many are outstanding
abbrev length_of : Held → ℕ
length_of held = length (sendings_in held)

-- what is due later counts for nothing now
abbrev pub again : ℕ → Outstanding → ℕ
again now e = cond (is_due_again now e) 1 0

abbrev pub spent : ℕ → Outstanding → ℕ
spent now e = cond (is_spent_due now e) 1 0

abbrev bit : Bool → ℕ
bit b = cond b 1 0

pub later_again : (now : ℕ) (e : Outstanding) → now < e.due → again now e ≡ 0
later_again now e h = ap (λ b. cond (b && not (is_spent e)) 1 0) (lt-leb e.due now h)

pub later_spent : (now : ℕ) (e : Outstanding) → now < e.due → spent now e ≡ 0
later_spent now e h = ap (λ b. cond (b && is_spent e) 1 0) (lt-leb e.due now h)

-- what is due now, by whether it is spent
pub due_now_again : (now : ℕ) (e : Outstanding) (b : Bool) → e.due ≤ now → is_spent e ≡ b → again now e ≡ cond (not b) 1 0
due_now_again now e b h is = ap (λ a. cond (a && not (is_spent e)) 1 0) (le-leb e.due now h) ∙ ap (λ a. cond (not a) 1 0) is

pub due_now_spent : (now : ℕ) (e : Outstanding) (b : Bool) → e.due ≤ now → is_spent e ≡ b → spent now e ≡ cond b 1 0
due_now_spent now e b h is = ap (λ a. cond (a && is_spent e) 1 0) (le-leb e.due now h) ∙ ap (λ a. cond a 1 0) is

-- what is not due, of those that are not spent or of those that are
not_due_again : (now : ℕ) (e : Outstanding) → (is_spent e ≡ false → now < e.due) → again now e ≡ 0
not_due_again now e none = elim (cases_Bool (is_spent e)) [
  | inl is ↦ spent_never (nat_le e.due now) (is_spent e) is
  | inr is ↦ later_again now e (none is)
]
  where
    spent_never : (a b : Bool) → b ≡ true → bit (a && not b) ≡ 0
    spent_never true b is = ap (λ c. bit (not c)) is
    spent_never false b is = refl

not_due_spent : (now : ℕ) (e : Outstanding) → (is_spent e ≡ true → now < e.due) → spent now e ≡ 0
not_due_spent now e none = elim (cases_Bool (is_spent e)) [
  | inl is ↦ later_spent now e (none is)
  | inr is ↦ fresh_never (nat_le e.due now) (is_spent e) is
]
  where
    fresh_never : (a b : Bool) → b ≡ false → bit (a && b) ≡ 0
    fresh_never true b is = ap bit is
    fresh_never false b is = refl

module _ (book : Book) (now : ℕ) where
  pub none_due_again : NoneDue book now false → due_again book now ≡ 0
  none_due_again none = none_outstanding (again now) book.held (λ slot e there. not_due_again now e (none slot e there))

  pub none_due_spent : NoneDue book now true → spent_due book now ≡ 0
  none_due_spent none = none_outstanding (spent now) book.held (λ slot e there. not_due_spent now e (none slot e there))

  pub none_out : NoneOutstanding book → (f : Outstanding → ℕ) → total f book.held ≡ 0
  none_out none f = none_outstanding f book.held (λ slot e there. absurd (none slot e there))

-- the steps left, by their numbers
abbrev pub left : ℕ → ℕ → ℕ → ℕ → ℕ → ℕ
left again spent queued window out = again + cond (eqb spent 0) (min queued (window - out)) 2

pub left_unspent : (again spent queued window out : ℕ) → spent ≡ 0 → left again spent queued window out ≡ again + min queued (window - out)
left_unspent again spent queued window out none = ap (λ b. again + cond b (min queued (window - out)) 2) (eq-eqb spent 0 none)

pub left_spent : (again spent queued window out : ℕ) → 1 ≤ spent → left again spent queued window out ≡ again + 2
left_spent again spent queued window out some = ap (λ b. again + cond b (min queued (window - out)) 2) (ne_eqb spent 0 (λ none. absurd (omega arith)))

resent_less : (a b s t q w o p : ℕ) → a ≡ b + 1 → t ≡ s → p ≡ o → left a s q w o ≡ left b t q w p + 1
resent_less a b s t q w o p one same as_many =
    let first : left a s q w o ≡ left (b + 1) s q w o = ap (λ n. left n s q w o) one in
    let last : left b s q w o ≡ left b t q w p = ap (λ n. left b n q w o) (sym same) ∙ ap (λ n. left b t q w n) (sym as_many) in
    omega (arith, first, last)

nothing_left : (q w o : ℕ) (queued : List Recorded) → length queued ≡ q → (a s : ℕ) → a ≡ 0 → s ≡ 0 → min q (w - o) ≡ 0 → left a s q w o ≡ 0
nothing_left q w o queued is a s none none_spent nothing = left_unspent a s q w o none_spent ∙ omega (arith, none, nothing)

pub nothing_to_send : (book : Book) → NothingToSend book → to_be_sent book ≡ 0
nothing_to_send book h = elim h [
  | inl empty ↦ let none = ap length empty in omega (arith, none)
  | inr full ↦ omega (arith, full)
]

-- the steps left of a book that is up
pub while_up : (book : Book) (now : ℕ) → book.watch ≡ up → steps_left book now ≡ steps_left_up book now
while_up book now is = ap (λ w. steps_left_by w book now) is

pub while_down : (book : Book) (now until next : ℕ) (out : Option Slot) → book.watch ≡ down until next out → steps_left book now ≡ steps_left_down book now until next
while_down book now until next out is = ap (λ w. steps_left_by w book now) is

-- the steps left of a book that is down
pub over : (book : Book) (now until next : ℕ) → until ≤ now → steps_left_down book now until next ≡ outstanding_count book + to_be_sent book + 1
over book now until next h = ap (λ b. cond b (outstanding_count book + to_be_sent book + 1) (cond (nat_le next now) 1 0)) (le-leb until now h)

pub waits_still : (book : Book) (now until next : ℕ) → now < until → steps_left_down book now until next ≡ bit (nat_le next now)
waits_still book now until next h = ap (λ b. cond b (outstanding_count book + to_be_sent book + 1) (cond (nat_le next now) 1 0)) (lt-leb until now h)

pub to_probe : (book : Book) (now until next : ℕ) → now < until → next ≤ now → steps_left_down book now until next ≡ 1
to_probe book now until next h due = waits_still book now until next h ∙ ap bit (le-leb next now due)

pub to_wait : (book : Book) (now until next : ℕ) → now < until → now < next → steps_left_down book now until next ≡ 0
to_wait book now until next h later = waits_still book now until next h ∙ ap bit (lt-leb next now later)

module _ (old : Book) (now : ℕ) (range : AreInRange old.setup.limits) where
  module _ (is_up : old.watch ≡ up) where
    resent : (number : ℕ) (slot : Slot) (d : Datagrams) (new : Book) → StepsWhileUp old now (Resent number slot) d new → steps_left old now ≡ steps_left new now + 1
    resent number slot d new h =
        let entry : Outstanding = h.0 in
        let more : Outstanding = sent_again old.setup.limits.first_wait now entry in
        let wait = waits old.setup.limits.first_wait (entry.sendings + 1) range.first_wait.0 in
        let later : now < more.due = omega (arith, wait) in
        let one_again = changes (again now) old.held slot (sending entry) (sending more) h.1.there in
        let one_spent = changes (spent now) old.held slot (sending entry) (sending more) h.1.there in
        let one_out = changes (λ _. 1) old.held slot (sending entry) (sending more) h.1.there in
        let was_again = due_now_again now entry false h.1.due h.1.kind in
        let was_spent = due_now_spent now entry false h.1.due h.1.kind in
        let is_again = later_again now more later in
        let is_spent = later_spent now more later in
        let held : Held = map.insert old.held slot (sending more) in
        let a : total (again now) old.held ≡ total (again now) held + 1 = omega (arith, one_again, was_again, is_again) in
        let s : total (spent now) held ≡ total (spent now) old.held = omega (arith, one_spent, was_spent, is_spent) in
        let o : length_of held ≡ length_of old.held = omega (arith, one_out, counted held, counted old.held) in
        subst (λ (b : Book). steps_left old now ≡ steps_left b now + 1) (sym h.4)
        (while_up old now is_up
        ∙ resent_less _ _ _ _ (length old.queued) old.setup.limits.window _ _ a s o
        ∙ ap (λ n. n + 1) (sym (while_up (record old { held = held; last = now }) now is_up)))

    went_down : (d : Datagrams) (new : Book) → StepsWhileUp old now WentDown d new → steps_left old now ≡ steps_left new now + 1
    went_down d new h =
        let none = none_due_again old now h.0 in
        let due = due_now_spent now h.1.entry true h.1.due h.1.spent in
        let some = part (spent now) old.held h.1.slot h.1.entry h.1.there in
        let two = left_spent (due_again old now) (spent_due old now) (length old.queued) old.setup.limits.window (outstanding_count old) (omega (arith, due, some)) in
        let until : now < now + old.setup.limits.down_wait = omega (arith, range.down_wait.0) in
        subst (λ (b : Book). steps_left old now ≡ steps_left b now + 1) (sym h.3)
        (while_up old now is_up ∙ two ∙ ap (λ n. n + 2) none
        ∙ ap (λ n. n + 1) (sym (to_probe old now (now + old.setup.limits.down_wait) now until (omega arith))))

    sent : (number : ℕ) (slot : Slot) (d : Datagrams) (new : Book) → StepsWhileUp old now (Sent number slot) d new → steps_left old now ≡ steps_left new now + 1
    sent number slot d new h =
        let r : Recorded = h.3 in
        let rest : List Recorded = h.4 in
        let entry : Outstanding = first_sending old.setup now r slot.identifier in
        let wait = waits old.setup.limits.first_wait 1 range.first_wait.0 in
        let later : now < entry.due = omega (arith, wait) in
        let held : Held = map.insert old.held slot (sending entry) in
        let one_again = comes (again now) old.held slot (sending entry) h.7.free in
        let one_spent = comes (spent now) old.held slot (sending entry) h.7.free in
        let one_out = comes (λ _. 1) old.held slot (sending entry) h.7.free in
        let none_again = none_due_again old now h.0 in
        let none_spent = none_due_spent old now h.1 in
        let is_again = later_again now entry later in
        let is_spent = later_spent now entry later in
        let a : total (again now) held ≡ 0 = omega (arith, one_again, none_again, is_again) in
        let s : total (spent now) held ≡ 0 = omega (arith, one_spent, none_spent, is_spent) in
        let o : length_of held ≡ length_of old.held + 1 = omega (arith, one_out, counted held, counted old.held) in
        let q : length old.queued ≡ length rest + 1 = let longer = ap length h.5 in omega (arith, longer) in
        let before = left_unspent (due_again old now) (spent_due old now) (length old.queued) old.setup.limits.window (outstanding_count old) none_spent in
        let after = left_unspent (total (again now) held) (total (spent now) held) (length rest) old.setup.limits.window (length_of held) s in
        subst (λ (b : Book). steps_left old now ≡ steps_left b now + 1) (sym h.9)
        (while_up old now is_up
        ∙ less _ _ (length old.queued) (length rest) (length_of old.held) (length_of held) old.setup.limits.window (due_again old now) (total (again now) held) before after none_again a q o h.2
        ∙ ap (λ n. n + 1) (sym (while_up (with_sending old now r rest slot) now is_up)))
      where
        less : (x y q p o o' w a b : ℕ) → x ≡ a + min q (w - o) → y ≡ b + min p (w - o') → a ≡ 0 → b ≡ 0 → q ≡ p + 1 → o' ≡ o + 1 → o < w → x ≡ y + 1
        less x y q p o o' w a b before after none_a none_b one_less one_more room = omega arith

    idle : (book : Book) → book.watch ≡ up → due_again book now ≡ 0 → spent_due book now ≡ 0 → NothingToSend book → steps_left book now ≡ 0
    idle book is a s nothing =
        while_up book now is ∙ left_unspent (due_again book now) (spent_due book now) (length book.queued) book.setup.limits.window (outstanding_count book) s
        ∙ let none = nothing_to_send book nothing in omega (arith, a, none)

    idle_up : (due_again old now ≡ 0) → (spent_due old now ≡ 0) → NothingToSend old → (new : Book) → new ≡ record old { last = now } → (steps_left old now ≡ 0) × (steps_left new now ≡ 0)
    idle_up a s nothing new is =
        (idle old is_up a s nothing, subst (λ (b : Book). steps_left b now ≡ 0) (sym is) (idle (record old { last = now }) is_up a s nothing))

  module _ (apart : ProbeStands old old.watch) (its : HaveItsTries old) (until next : ℕ) (out : Option Slot) (is_down : old.watch ≡ down until next out) where
    went_up : (random : List ℕ) (d : Datagrams) (new : Book) → StepsWhileDown old now random until next out WentUp d new → steps_left old now ≡ steps_left new now + 1
    went_up random d new h =
        let held : Held = h.2.held in
        let a = gone_up (again now) now old old.watch apart held h.2.renews in
        let s = gone_up (spent now) now old old.watch apart held h.2.renews in
        let o = gone_up (λ _. 1) now old old.watch apart held h.2.renews in
        let each = sums_add (λ e. again now (renewed now e)) (λ e. spent now (renewed now e)) (λ _. 1) each_once (outstanding_of old) in
        let none : total (λ e. spent now (renewed now e)) old.held ≡ 0 = none_outstanding (λ e. spent now (renewed now e)) old.held (λ slot e there. fresh slot e there) in
        let none_spent : total (spent now) held ≡ 0 = s ∙ none in
        let as_many : length_of held ≡ length_of old.held = omega (arith, o, counted held, counted old.held) in
        let all : total (again now) held ≡ length_of old.held = omega (arith, a, each, none, counted old.held) in
        let after = left_unspent (total (again now) held) (total (spent now) held) (length old.queued) old.setup.limits.window (length_of held) none_spent in
        subst (λ (b : Book). steps_left old now ≡ steps_left b now + 1) (sym h.2.others)
        (while_down old now until next out is_down
        ∙ over old now until next h.0
        ∙ ap (λ n. n + 1) (
        ap (λ n. outstanding_count old + min (length old.queued) (old.setup.limits.window - n)) (sym as_many)
        ∙ ap (λ n. n + min (length old.queued) (old.setup.limits.window - length_of held)) (sym all)
        ∙ sym after))
      where
        both : (b : Bool) → bit (not b) + bit b ≡ 1
        both true = refl
        both false = refl

        each_once : (e : Outstanding) → again now (renewed now e) + spent now (renewed now e) ≡ 1
        each_once e =
            let first = due_now_again now (renewed now e) (is_spent (renewed now e)) (omega arith) refl in
            let second = due_now_spent now (renewed now e) (is_spent (renewed now e)) (omega arith) refl in
            let sum = both (is_spent (renewed now e)) in
            omega (arith, first, second, sum)

        fresh : (slot : Slot) (e : Outstanding) → outstanding_at old slot e → spent now (renewed now e) ≡ 0
        fresh slot e there =
            let tries = its slot e there in
            due_now_spent now (renewed now e) false (omega arith) (lt-leb e.tries 0 (omega (arith, tries, range.tries.0)))

    probed : (random : List ℕ) (slot : Slot) (d : Datagrams) (new : Book) → StepsWhileDown old now random until next out (Probed slot) d new → steps_left old now ≡ steps_left new now + 1
    probed random slot d new h =
        let later : now < now + old.setup.limits.probe_every = omega (arith, range.probe_every.0) in
        let after : Book = record old {
          held = map.insert (without_probe old out).held slot (probe d.after);
          allotted = Some slot;
          watch = down until (now + old.setup.limits.probe_every) (Some slot);
          last = now;
        } in
        subst (λ (b : Book). steps_left old now ≡ steps_left b now + 1) (sym h.2.2)
        (while_down old now until next out is_down ∙ to_probe old now until next h.0 h.1
        ∙ ap (λ n. n + 1) (sym (to_wait after now until (now + old.setup.limits.probe_every) h.0 later)))

    idle_down : (random : List ℕ) (moment : ℕ) (d : Datagrams) (new : Book) → StepsWhileDown old now random until next out (Idle (Some moment)) d new → (steps_left old now ≡ 0) × (steps_left new now ≡ 0)
    idle_down random moment d new h =
        let none = to_wait old now until next h.0 h.1 in (
          while_down old now until next out is_down ∙ none,
          subst (λ (b : Book). steps_left b now ≡ 0) (sym h.4) (while_down (record old { last = now }) now until next out is_down ∙ none),
        )

  module _ (apart : ProbeStands old old.watch) (its : HaveItsTries old) (random : List ℕ) (d : Datagrams) (new : Book) where
    settles_by : (w : Watch) → old.watch ≡ w → (action : Action) → StepsBy w old now random action d new → Settles old now action new
    settles_by up is (Sent number slot) h = sent is number slot d new h
    settles_by up is (Resent number slot) h = resent is number slot d new h
    settles_by up is (Probed slot) h = absurd h
    settles_by up is WentDown h = went_down is d new h
    settles_by up is WentUp h = absurd h
    settles_by up is (Idle None) h = idle_up is (none_out old now h.1 (again now)) (none_out old now h.1 (spent now)) h.0 new h.3
    settles_by up is (Idle (Some moment)) h = idle_up is (none_due_again old now h.0) (none_due_spent old now h.1) h.2 new h.7
    settles_by (down until next out) is (Sent number slot) h = absurd h
    settles_by (down until next out) is (Resent number slot) h = absurd h
    settles_by (down until next out) is (Probed slot) h = probed apart its until next out is random slot d new h
    settles_by (down until next out) is WentDown h = absurd h
    settles_by (down until next out) is WentUp h = went_up apart its until next out is random d new h
    settles_by (down until next out) is (Idle None) h = absurd h
    settles_by (down until next out) is (Idle (Some moment)) h = idle_down apart its until next out is random moment d new h

pub settles_so : (old : Book) (moment : ℕ) (random : List ℕ) (action : Action) (d : Datagrams) (new : Book) → ProbeStands old old.watch → HaveItsTries old → AreInRange old.setup.limits → Steps old moment random action d new → Settles old (moment_in old moment) action new
settles_so old moment random action d new apart its range h = settles_by old (moment_in old moment) range apart its random d new old.watch refl action h

pub lawful_tries : (book : Book) → IsLawful book → HaveItsTries book
lawful_tries book lawful slot entry there = (lawful.holds_its_own slot (sending entry) there).1.1

pub settles : (old : Book) (moment : ℕ) (random : List ℕ) (action : Action) (d : Datagrams) (new : Book) → IsLawful old → AreInRange old.setup.limits → Steps old moment random action d new → Settles old (moment_in old moment) action new
settles old moment random action d new lawful range h = settles_so old moment random action d new lawful.probe_apart (lawful_tries old lawful) range h

-- at most one step for each request of the window, and one more
module _ (book : Book) (now : ℕ) (lawful : IsLawful book) where
  apart : (e : Outstanding) → again now e + spent now e ≤ 1
  apart e = at_most (nat_le e.due now) (is_spent e)
    where
      at_most : (a b : Bool) → bit (a && not b) + bit (a && b) ≤ 1
      at_most true true = omega arith
      at_most true false = omega arith
      at_most false b = omega arith

  most_up : steps_left_up book now ≤ most_steps book
  most_up =
      let within = two_counts (is_due_again now) (is_spent_due now) apart (outstanding_of book) in
      let bounded = lawful.outstanding_bounded in
      elim (cases_eq (spent_due book now) 0) [
        | inl none ↦
            let is = left_unspent (due_again book now) (spent_due book now) (length book.queued) book.setup.limits.window (outstanding_count book) none in
            omega (arith, is, within, bounded)
        | inr some ↦
            let is = left_spent (due_again book now) (spent_due book now) (length book.queued) book.setup.limits.window (outstanding_count book) (pos some) in
            let some_spent = pos some in
            omega (arith, is, within, bounded, some_spent)
      ]
    where
      pos : {n : ℕ} → (n ≡ 0 → ⊥) → 1 ≤ n
      pos {n} some = elim (cases_lt 0 n) [ inl h ↦ omega (arith, h) | inr h ↦ absurd (some (omega (arith, h))) ]

  most_down : (until next : ℕ) → steps_left_down book now until next ≤ most_steps book
  most_down until next =
      let bounded = lawful.outstanding_bounded in
      elim (cases_lt now until) [
        | inl waits_on ↦
            let is = waits_still book now until next waits_on in
            let small = at_most (nat_le next now) in
            omega (arith, is, small)
        | inr is_over ↦ let is = over book now until next is_over in omega (arith, is, bounded)
      ]
    where
      at_most : (b : Bool) → bit b ≤ 1
      at_most true = omega arith
      at_most false = omega arith

  most_by : (w : Watch) → steps_left_by w book now ≤ most_steps book
  most_by up = most_up
  most_by (down until next out) = most_down until next

pub most : (book : Book) (now : ℕ) → IsLawful book → steps_left book now ≤ most_steps book
most book now lawful = most_by book now lawful book.watch
