-- A lane whose home server answers: what a round leaves, and how many rounds a queue takes.
use Rattle.std.proofs.Common.{◌≡◌, ℕ, zero, suc, ◌+◌, ◌-◌, ◌*◌, ◌/◌, ◌<◌, ◌≤◌, Bool, true, false, cond, List, [], ◌∷◌, ◌++◌, length, Option, Some, None, Result, Ok, Err, refl, sym, ap, ◌∙◌, subst, inl, inr, arith, append_assoc, length-append}
use Rattle.std.specs.Prelude.{◌⊎◌, IsSome, min, option_map, map as each}
use Rattle.std.specs.List.{AllByRecursion}
use Rattle.std.specs.Ordering.{eq_by_cmp}
use Rattle.std.specs.FinMap as map
use Rattle.std.proofs.Math.Nat.{div-lt_iff_lt-mul}
use Rattle.std.proofs.lemmas.Bool.{cases_lt}
use Rattle.std.proofs.lemmas.List.{append-nil, length-map, map-append}
use Rattle.rad_lane.specs.declared.stamp.Stamp.{Stamp}
use Rattle.rad_config.specs.Limits.{AreInRange}
use Rattle.rad_tables.specs.declared.slots.Slot.{Slot}
use Rattle.rad_tables.specs.Pairs.{slot_cmp}
use Rattle.rad_tables.proofs.SlotLemmas.{slots_total}
use Rattle.rad_tables.proofs.MapLemmas.{removed_absent}
use Rattle.rad_lane.specs.declared.entry.Entry.{Entry}
use Rattle.rad_lane.specs.declared.entry.Entry.TheVariants.{Sending as sending, Probe as probe}
use Rattle.rad_lane.specs.declared.watch.Watch.{Watch}
use Rattle.rad_lane.specs.declared.watch.Watch.TheVariants.{Up as up, Down as down}
use Rattle.rad_lane.specs.declared.hearing.Heard.{Heard}
use Rattle.rad_lane.specs.declared.hearing.Heard.TheVariants.{Answer, ProbeAnswered}
use Rattle.rad_lane.specs.declared.hearing.HearFault.{HearFault}
use Rattle.rad_lane.specs.declared.stepping.Action.{Action}
use Rattle.rad_lane.specs.declared.stepping.Action.TheVariants.{Sent, Resent, Probed, WentDown, WentUp, Idle}
use Rattle.rad_lane.specs.declared.running.Event.{Event}
use Rattle.rad_lane.specs.declared.running.Event.TheVariants.{Step as step, Hear as hear}
use Rattle.rad_lane.specs.declared.running.GivenAnswer.{GivenAnswer}
use Rattle.rad_lane.specs.declared.running.GivenAnswer.TheVariants.{Accept as accepted, Step as stepped, Hear as heard, Drain as drained, Turn as turned}
use Rattle.rad_lane.specs.declared.running.Given.{Given}
use Rattle.rad_lane.specs.Outstanding.{Outstanding, first_sending, renewed}
use Rattle.rad_lane.specs.Entries.{sendings_in, but_a_probe, renewed_in}
use Rattle.rad_lane.specs.Datagrams.{Datagrams}
use Rattle.rad_lane.specs.Dues.{NoneOutstanding}
use Rattle.rad_lane.specs.Book.{Book, moment_in, outstanding_at, outstanding_count}
use Rattle.rad_lane.specs.Watch.{is_up, GoesUpIfDown}
use Rattle.rad_lane.specs.Stamp.{Recorded}
use Rattle.rad_lane.specs.Counting.{IsDone}
use Rattle.rad_lane.specs.Lawful.{IsLawful}
use Rattle.rad_lane.specs.Steps.{StepsBy, NothingToSend}
use Rattle.rad_lane.specs.Hears.{Hears, pair}
use Rattle.rad_lane.specs.Runs.{Gives, Runs}
use Rattle.rad_progress.specs.Calls.{IsStepAt, IsDatagram, IsIdle, EndsIdle}
use Rattle.rad_progress.specs.Replies.{IsRightReply}
use Rattle.rad_progress.specs.Rounds.{IsGranted, HasReply, IsRound, Rounds, RoundsWithRequests, CanGoOn, IsServed, IsAnsweredOnce, rounds_for, rounds_after}
use Rattle.rad_progress.proofs.Held.{Held, part, none_outstanding, counted}
use Rattle.rad_progress.proofs.OneLess.{waits}
use Rattle.rad_progress.proofs.WatchAfter.{heard_up}
use Rattle.rad_progress.proofs.RightReply.{heard_by, its_pair}
use Rattle.rad_progress.proofs.StaysOutstanding.{Apart, apart_same, apart_in_run, call_keeps}
use Rattle.rad_progress.proofs.AnsweredOnce.{answered_once}
use Rattle.rad_progress.proofs.AfterCalls.{Passes, StepPasses, Grows, passes_on, hears_pass, steps_pass, requests_grow}

-- a lane that is up, with nothing outstanding
pub record IsClear (book : Book) : Type 0 where
  pub apart : Apart book
  pub is_up : book.watch ≡ up
  pub none : NoneOutstanding book

pub none_counted : (book : Book) → NoneOutstanding book → outstanding_count book ≡ 0
none_counted book none = counted book.held ∙ none_outstanding (λ _. 1) book.held (λ slot entry there. absurd (none slot entry there))

-- what was outstanding before a datagram was heard
abbrev WasOutstanding : Book → Book → Type 0
WasOutstanding old new = (slot : Slot) (entry : Outstanding) → outstanding_at new slot entry → (was : Outstanding) × outstanding_at old slot was × (entry.octets ≡ was.octets)

was_anew : (now : ℕ) (o : Option Entry) (entry : Outstanding) → option_map (renewed_in now) (but_a_probe o) ≡ Some (sending entry) → (was : Outstanding) × (o ≡ Some (sending was)) × (entry.octets ≡ was.octets)
was_anew now None entry is = cc
was_anew now (Some (sending was)) entry is =
    let one : renewed now was ≡ entry = cc in
    (was, refl, ap (λ (e : Outstanding). e.octets) (sym one))
was_anew now (Some (probe octets)) entry is = cc

was_up : (now : ℕ) (middle new : Book) (w : Watch) → GoesUpIfDown now middle new w → WasOutstanding middle new
was_up now middle new up h slot entry there = (entry, ap (λ (b : Book). map.get b.held slot) (sym h) ∙ there, refl)
was_up now middle new (down until next out) h slot entry there =
    was_anew now (map.get middle.held slot) entry (sym (h.renews slot) ∙ (ap (λ (b : Book). map.get b.held slot) (sym h.others) ∙ there))

not_left : (b : Bool) (o : Option Entry) (entry : Outstanding) → cond b None o ≡ Some (sending entry) → (o ≡ Some (sending entry)) × (b ≡ true → ⊥)
not_left true o entry is = cc
not_left false o entry is = (is, λ e. cc)

-- the datagrams of a round
module _ (home : List ℕ) where
  abbrev pub Right : Book → List Event → Type 0
  Right book events = (slot : Slot) (entry : Outstanding) → outstanding_at book slot entry → HasReply home slot entry.octets events

  -- behind a datagram the replies to the rest of what is outstanding are still to come
  module _ (book : Book) (same : book.setup.home_secret ≡ home) (moment port : ℕ) (datagram : List ℕ) (events : List Event) where
    right_here : (slot : Slot) (entry : Outstanding) → outstanding_at book slot entry → IsRightReply home slot entry.octets port datagram → IsRightReply book.setup.home_secret slot entry.octets port datagram
    right_here slot entry there r = subst (λ (s : List ℕ). IsRightReply s slot entry.octets port datagram) (sym same) r

    later : (result : Result Heard HearFault) (next : Book) → Hears book moment port datagram result next → IsGranted (heard result) → ((slot : Slot) (entry : Outstanding) → outstanding_at book slot entry → IsRightReply home slot entry.octets port datagram ⊎ HasReply home slot entry.octets events) → (slot : Slot) (entry : Outstanding) → outstanding_at next slot entry → HasReply home slot entry.octets events
    later (Ok (Answer outgoing)) next h granted right slot entry there =
        let middle = was_up _ _ next book.watch h.1.book slot entry there in
        let left = not_left (eq_by_cmp slot_cmp slot (pair port h.1.packet)) (map.get book.held slot) middle.0 (sym (map.get-remove slots_total book.held (pair port h.1.packet) slot) ∙ middle.1) in
        elim (right slot middle.0 left.0) [
          | inl here ↦
              let at = its_pair book slot middle.0 moment port datagram left.0 (right_here slot middle.0 left.0 here) h.1.packet h.1.read in
              let gone = ap (map.get (map.remove book.held (pair port h.1.packet))) at ∙ middle.1 in
              let none = removed_absent slots_total book.held (pair port h.1.packet) in
              let both : None ≡ Some (sending middle.0) = sym none ∙ gone in
              cc
          | inr behind ↦ subst (λ (o : List ℕ). HasReply home slot o events) (sym middle.2) behind
        ]
    later (Ok ProbeAnswered) next h granted right slot entry there =
        let middle = was_up _ _ next book.watch h.book slot entry there in
        elim (right slot middle.0 middle.1) [
          | inl here ↦ absurd (heard_by book slot middle.0 moment port datagram middle.1 (right_here slot middle.0 middle.1 here) (Ok ProbeAnswered) next h)
          | inr behind ↦ subst (λ (o : List ℕ). HasReply home slot o events) (sym middle.2) behind
        ]
    later (Err fault) next h granted right slot entry there =
        let was : outstanding_at book slot entry = ap (λ (b : Book). map.get b.held slot) (sym h.1) ∙ there in
        elim (right slot entry was) [
          | inl here ↦ absurd (subst (λ (f : HearFault). IsGranted (heard (Err f))) (heard_by book slot entry moment port datagram was (right_here slot entry was here) (Err fault) next h) granted)
          | inr behind ↦ behind
        ]

    up_or_same : (result : Result Heard HearFault) (next : Book) → Hears book moment port datagram result next → (book.watch ≡ up) ⊎ (1 ≤ outstanding_count book) → (next.watch ≡ up) ⊎ (1 ≤ outstanding_count next)
    up_or_same (Ok what) next h goes_on = inl (heard_up book moment port datagram what next h)
    up_or_same (Err fault) next h goes_on = subst (λ (b : Book). (b.watch ≡ up) ⊎ (1 ≤ outstanding_count b)) (sym h.1) goes_on

  pub all_heard : (book : Book) (before : List ℕ) (events : List Event) (gives : List Given) (new : Book) → book.setup.home_secret ≡ home → Apart book → (book.watch ≡ up) ⊎ (1 ≤ outstanding_count book) → Runs book before events gives new → AllByRecursion IsDatagram events → AllByRecursion (λ given. IsGranted given.answer) gives → Right book events → IsClear new × Passes book new 0
  all_heard book before [] [] new same p goes_on h are granted right =
      let none : NoneOutstanding book = λ slot entry there. right slot entry there in
      let is_up : book.watch ≡ up = elim goes_on [ inl is ↦ is | inr some ↦ absurd (let count = none_counted book none in omega (arith, count, some)) ] in
      subst (λ (b : Book). IsClear b × Passes book b 0) (sym h)
      (record { apart = p; is_up = is_up; none = none }, record { setup = refl; accepted = refl; queue = omega arith; sent = omega arith; drain = refl })
  all_heard book before (event ∷ events) (given ∷ gives) new same p goes_on h are granted right =
      let first = one_heard event given.answer _ h.1 are.0 granted.0 right in
      let setup = first.0.setup in
      let rest = all_heard h.0 given.datagram events gives new (ap (λ s. s.home_secret) setup ∙ same) (call_keeps book p event given.answer _ h.0 h.1).0 first.1 h.2 are.1 granted.1 first.2 in
      (rest.0, passes_on book h.0 new 0 0 first.0 rest.1)
    where
      one_heard : (event : Event) (answer : GivenAnswer) (d : Datagrams) → Gives book event answer d h.0 → IsDatagram event → IsGranted answer → Right book (event ∷ events) → Passes book h.0 0 × ((h.0.watch ≡ up) ⊎ (1 ≤ outstanding_count h.0)) × Right h.0 events
      one_heard (hear moment port datagram) (heard result) d g is given_memory right = (
        hears_pass book moment port datagram.now result h.0 g.0,
        up_or_same book same moment port datagram.now events result h.0 g.0 goes_on,
        later book same moment port datagram.now events result h.0 g.0 given_memory right,
      )
      one_heard (hear moment port datagram) (accepted result) d g is given_memory right = absurd g
      one_heard (hear moment port datagram) (stepped action) d g is given_memory right = absurd g
      one_heard (hear moment port datagram) (drained count) d g is given_memory right = absurd g
      one_heard (hear moment port datagram) (turned result) d g is given_memory right = absurd g
      one_heard event answer d g is given_memory right = absurd is
  all_heard book before [] (given ∷ gives) new same p goes_on h are granted right = absurd h
  all_heard book before (event ∷ events) [] new same p goes_on h are granted right = absurd h

-- a lane that is up, and of which nothing is due at this moment, stays so until it is idle
record IsCalm (moment now : ℕ) (book : Book) : Type 0 where
  pub apart : Apart book
  pub is_up : book.watch ≡ up
  pub at : moment_in book moment ≡ now
  pub range : AreInRange book.setup.limits
  pub later : (slot : Slot) (entry : Outstanding) → outstanding_at book slot entry → now < entry.due

later_by : (now : ℕ) (b : Bool) (first : Outstanding) (o : Option Entry) (entry : Outstanding) → now < first.due → (o ≡ Some (sending entry) → now < entry.due) → cond b (Some (sending first)) o ≡ Some (sending entry) → now < entry.due
later_by now true first o entry due others is =
    let one : first ≡ entry = cc in
    subst (λ (e : Outstanding). now < e.due) one due
later_by now false first o entry due others is = others is

module _ (moment now : ℕ) where
  -- the book after the step, and nothing to send if it was idle
  abbrev Calms : Book → Action → Book → Type 0
  Calms book action next = IsCalm moment now next × (IsIdle (stepped action) → NothingToSend next)

  module _ (book : Book) (c : IsCalm moment now book) where
    idles : (action : Action) (next : Book) → NothingToSend book → next ≡ record book { last = now } → Calms book action next
    idles action next nothing is =
        subst (λ (b : Book). IsCalm moment now b × (IsIdle (stepped action) → NothingToSend b)) (sym is)
        (record { apart = apart_same book (record book { last = now }) refl refl c.apart; is_up = c.is_up; at = omega (arith, c.at); range = c.range; later = c.later }, λ _. nothing)

    calm_by : (random : List ℕ) (d : Datagrams) (next : Book) → Apart next → (w : Watch) → book.watch ≡ w → w ≡ up → (action : Action) → StepsBy w book now random action d next → Calms book action next
    calm_by random d next p (down until other out) is w_is action h = absurd (down_is_not_up w_is)
      where
        down_is_not_up : down until other out ≡ up → ⊥
        down_is_not_up e = cc
    calm_by random d next p up is w_is (Sent number slot) h = (
      record {
        apart = p;
        is_up = ap (λ (b : Book). b.watch) h.9 ∙ is;
        at = let last = ap (λ (b : Book). b.last) h.9 in omega (arith, last, c.at);
        range = subst (λ (b : Book). AreInRange b.setup.limits) (sym h.9) c.range;
        later = λ at entry there.
            let first : Outstanding = first_sending book.setup now h.3 slot.identifier in
            let wait = waits book.setup.limits.first_wait 1 c.range.first_wait.0 in
            later_by now (eq_by_cmp slot_cmp at slot) first (map.get book.held at) entry (omega (arith, wait)) (c.later at entry)
            (sym (map.get-insert slots_total book.held slot (sending first) at) ∙ (ap (λ (b : Book). map.get b.held at) (sym h.9) ∙ there));
      },
      λ idle. absurd idle,
    )
    calm_by random d next p up is w_is (Resent number slot) h = absurd (let ahead = c.later slot h.0 h.1.there in omega (arith, ahead, h.1.due))
    calm_by random d next p up is w_is (Probed slot) h = absurd h
    calm_by random d next p up is w_is WentDown h = absurd (let ahead = c.later h.1.slot h.1.entry h.1.there in omega (arith, ahead, h.1.due))
    calm_by random d next p up is w_is WentUp h = absurd h
    calm_by random d next p up is w_is (Idle None) h = idles (Idle None) next h.0 h.3
    calm_by random d next p up is w_is (Idle (Some named)) h = idles (Idle (Some named)) next h.2 h.7

    calm_one : (event : Event) (answer : GivenAnswer) (d : Datagrams) (next : Book) → Gives book event answer d next → IsStepAt moment event → IsCalm moment now next × (IsIdle answer → NothingToSend next)
    calm_one (step its random) (stepped action) d next g at =
        calm_by random d next (call_keeps book c.apart (step its random) (stepped action) d next g).0 book.watch refl c.is_up action
        (subst (λ n. StepsBy book.watch book n random action d next) (ap (λ n. moment_in book n) at ∙ c.at) g.0)
    calm_one (step its random) (accepted result) d next g at = absurd g
    calm_one (step its random) (heard result) d next g at = absurd g
    calm_one (step its random) (drained count) d next g at = absurd g
    calm_one (step its random) (turned result) d next g at = absurd g
    calm_one event answer d next g at = absurd at

  calm_run : (book : Book) (before : List ℕ) (events : List Event) (gives : List Given) (new : Book) → IsCalm moment now book → Runs book before events gives new → AllByRecursion (IsStepAt moment) events → EndsIdle gives → (new.watch ≡ up) × NothingToSend new
  calm_run book before [] [] new c h at ends = absurd ends
  calm_run book before (event ∷ []) (given ∷ []) new c h at ends =
      let last = calm_one book c event given.answer _ h.0 h.1 at.0 in
      subst (λ (b : Book). (b.watch ≡ up) × NothingToSend b) (sym h.2) (last.0.is_up, last.1 ends)
  calm_run book before (event ∷ other ∷ events) (given ∷ []) new c h at ends = absurd h.2
  calm_run book before (event ∷ events) (given ∷ next ∷ gives) new c h at ends =
      calm_run h.0 given.datagram events (next ∷ gives) new (calm_one book c event given.answer _ h.0 h.1 at.0).0 h.2 at.1 ends
  calm_run book before [] (given ∷ gives) new c h at ends = absurd h
  calm_run book before (event ∷ events) [] new c h at ends = absurd h

-- one round
none_of_count : (book : Book) → outstanding_count book ≡ 0 → NoneOutstanding book
none_of_count book is slot entry there =
    let one = part (λ _. 1) book.held slot entry there in
    let all = counted book.held in
    omega (arith, one, all, is)

module _ (old new : Book) (p : Apart old) (range : AreInRange old.setup.limits) (round : IsRound old new) where
  abbrev pub steps : (sends : ℕ) × StepPasses old round.idle sends
  steps = steps_pass round.moment old round.steps.before round.steps.events round.steps.gives round.idle p round.steps.runs round.at_once

  idle_apart : Apart round.idle
  idle_apart = apart_in_run old round.steps.before round.steps.events round.steps.gives round.idle p round.steps.runs

  ends_calm : old.watch ≡ up → NoneOutstanding old → (round.idle.watch ≡ up) × NothingToSend round.idle
  ends_calm is_up none =
      calm_run round.moment (moment_in old round.moment) old round.steps.before round.steps.events round.steps.gives round.idle
      (record { apart = p; is_up = is_up; at = refl; range = range; later = λ slot entry there. absurd (none slot entry there) })
      round.steps.runs round.at_once round.until_idle

  hears : (round.idle.watch ≡ up) ⊎ (1 ≤ outstanding_count round.idle) → IsClear new × Passes round.idle new 0
  hears goes_on =
      all_heard round.idle.setup.home_secret round.idle round.hears.before round.hears.events round.hears.gives new refl idle_apart goes_on round.hears.runs round.datagrams round.granted round.answers

  goes_on_idle : (old.watch ≡ up) ⊎ (1 ≤ outstanding_count old) → (round.idle.watch ≡ up) ⊎ (1 ≤ outstanding_count round.idle)
  goes_on_idle goes_on =
      let out = steps.1.out in
      elim (cases_lt 0 (outstanding_count old)) [
        | inl some ↦ inr (omega (arith, out, some))
        | inr none ↦ elim goes_on [
          | inl is_up ↦ inl (ends_calm is_up (none_of_count old (omega (arith, none)))).0
          | inr some ↦ absurd (omega (arith, some, none))
        ]
      ]

  -- any round of a lane that can go on
  pub first_round : (old.watch ≡ up) ⊎ (1 ≤ outstanding_count old) → IsClear new × Passes old new steps.0
  first_round goes_on =
      let last = hears (goes_on_idle goes_on) in
      let all : steps.0 + 0 ≡ steps.0 = omega arith in
      (last.0, subst (λ n. Passes old new n) all (passes_on old round.idle new steps.0 0 steps.1.passes last.1))

  -- a round of a lane with nothing outstanding sends as much of the queue as the window takes
  pub clear_round : old.watch ≡ up → NoneOutstanding old → IsClear new × Passes old new (min (length old.queued) old.setup.limits.window)
  clear_round is_up none =
      let first = first_round (inl is_up) in
      let calm = ends_calm is_up none in
      let none_before = none_counted old none in
      let out = steps.1.out in
      let queue = steps.1.passes.queue in
      let window = ap (λ s. s.limits.window) steps.1.passes.setup in
      let sent : steps.0 ≡ min (length old.queued) old.setup.limits.window = elim calm.1 [
        | inl empty ↦ let nothing = ap length empty in elim steps.1.room [
          | inl no_sends ↦ omega (arith, nothing, no_sends, queue)
          | inr within ↦ omega (arith, nothing, within, queue, out, none_before)
        ]
        | inr full ↦ elim steps.1.room [
          | inl no_sends ↦ absurd (omega (arith, full, window, no_sends, out, none_before, range.window.0))
          | inr within ↦ omega (arith, full, window, within, queue, out, none_before)
        ]
      ] in
      (first.0, subst (λ n. Passes old new n) sent first.1)

-- rounds of a lane with nothing outstanding
module _ (window : ℕ) (wide : 1 ≤ window) where
  -- the limits stay
  pub record IsReady (book : Book) : Type 0 where
    pub clear : IsClear book
    pub range : AreInRange book.setup.limits
    pub width : book.setup.limits.window ≡ window

  ready_next : (old new : Book) (sends : ℕ) → IsReady old → IsClear new → Passes old new sends → IsReady new
  ready_next old new sends r clear passes = record {
    clear = clear;
    range = subst (λ s. AreInRange s.limits) (sym passes.setup) r.range;
    width = ap (λ s. s.limits.window) passes.setup ∙ r.width;
  }

  ready_opened : (old new : Book) → IsReady old → Grows old new → IsReady new
  ready_opened old new r grows = record {
    clear = record {
      apart = apart_same old new grows.held grows.watch r.clear.apart;
      is_up = grows.watch ∙ r.clear.is_up;
      none = λ slot entry there. r.clear.none slot entry (ap (λ (m : Held). map.get m slot) (sym grows.held) ∙ there);
    };
    range = subst (λ s. AreInRange s.limits) (sym grows.setup) r.range;
    width = ap (λ s. s.limits.window) grows.setup ∙ r.width;
  }

  one_round : (old new : Book) → IsReady old → IsRound old new → IsReady new × Passes old new (min (length old.queued) window)
  one_round old new r round =
      let h = clear_round old new r.clear.apart r.range round r.clear.is_up r.clear.none in
      (ready_next old new _ r h.0 h.1, subst (λ w. Passes old new (min (length old.queued) w)) r.width h.1)

  more_sent : (n : ℕ) → suc n * window ≡ n * window + window
  more_sent n = omega arith

  pub queue_after : (n : ℕ) (old new : Book) → IsReady old → Rounds n old new → IsReady new × (length new.queued ≡ length old.queued - n * window)
  queue_after zero old new r h =
      subst (λ (b : Book). IsReady b × (length b.queued ≡ length old.queued - 0 * window)) (sym h) (r, omega arith)
  queue_after (suc n) old new r h =
      let first = one_round old h.0 r h.1 in
      let rest = queue_after n h.0 new first.0 h.2 in
      let queue = first.1.queue in
      let count = more_sent n in
      let left = rest.1 in
      (rest.0, omega (arith, queue, left, count))

  -- the same of a drained lane, whatever requests come
  pub drained_after : (n : ℕ) (old new : Book) → IsReady old → IsSome old.drain → RoundsWithRequests n old new → IsReady new × (length new.queued ≡ length old.queued - n * window) × IsSome new.drain
  drained_after zero old new r some h =
      subst (λ (b : Book). IsReady b × (length b.queued ≡ length old.queued - 0 * window) × IsSome b.drain) (sym h) (r, omega arith, some)
  drained_after (suc n) old new r some h =
      let grows = requests_grow old h.1.requests.before h.1.requests.events h.1.requests.gives h.1.opened h.1.requests.runs h.1.each in
      let first = one_round h.1.opened h.0 (ready_opened old h.1.opened r grows) h.1.round in
      let still : IsSome h.0.drain = subst (λ (o : Option ℕ). IsSome o) (sym (first.1.drain ∙ grows.drain)) some in
      let rest = drained_after n h.0 new first.0 still h.2 in
      let queue = first.1.queue in
      let none = grows.none_drained some in
      let opened = grows.queue in
      let count = more_sent n in
      let left = rest.1 in
      (rest.0, omega (arith, queue, left, count, none, opened), rest.2)

  -- how many were sent after rounds before which requests come, up to a place among those accepted
  pub sent_after : (n : ℕ) (old new : Book) (target : ℕ) → IsReady old → target ≤ length old.sent + length old.queued → RoundsWithRequests n old new → IsReady new × (min target (length old.sent + n * window) ≤ length new.sent) × ((more : List Stamp) × (new.accepted ≡ old.accepted ++ more))
  sent_after zero old new target r within h =
      subst (λ (b : Book). IsReady b × (min target (length old.sent + 0 * window) ≤ length b.sent) × ((more : List Stamp) × (b.accepted ≡ old.accepted ++ more))) (sym h)
      (r, omega arith, ([], sym (append-nil old.accepted)))
  sent_after (suc n) old new target r within h =
      let grows = requests_grow old h.1.requests.before h.1.requests.events h.1.requests.gives h.1.opened h.1.requests.runs h.1.each in
      let first = one_round h.1.opened h.0 (ready_opened old h.1.opened r grows) h.1.round in
      let queue = first.1.queue in
      let sent = first.1.sent in
      let opened = grows.queue in
      let sent_before = ap length grows.sent in
      let within_next : target ≤ length h.0.sent + length h.0.queued = omega (arith, within, queue, sent, opened, sent_before) in
      let rest = sent_after n h.0 new target first.0 within_next h.2 in
      let count = more_sent n in
      let reached = rest.1 in (
        rest.0,
        omega (arith, reached, count, queue, sent, opened, sent_before, within, within_next),
        (grows.more ++ rest.2.0, rest.2.1 ∙ ap (λ (xs : List Stamp). xs ++ rest.2.0) (first.1.accepted ∙ grows.accepted) ∙ append_assoc old.accepted grows.more rest.2.0),
      )

-- rounds leave a lawful book
lawful_after : (n : ℕ) (old new : Book) → IsLawful old → RoundsWithRequests n old new → IsLawful new
lawful_after zero old new lawful h = subst IsLawful (sym h) lawful
lawful_after (suc n) old new lawful h = lawful_after n h.0 new h.1.round.hears.lawful h.2

-- so many rounds take a queue
up_is : (w : Watch) → is_up w ≡ true → w ≡ up
up_is up is = refl
up_is (down until next out) is = cc

pub goes_on : (book : Book) → CanGoOn book → (book.watch ≡ up) ⊎ (1 ≤ outstanding_count book)
goes_on book h = elim h [ inl is ↦ inl (up_is book.watch is) | inr some ↦ inr some ]

rounded_up : (queued window n : ℕ) → 1 ≤ window → rounds_for queued window ≤ suc n → queued ≤ n * window
rounded_up queued window n wide h =
    let fewer : (queued + window - 1) / window < suc n = omega (arith, h) in
    let product = (div-lt_iff_lt-mul wide).0 fewer in
    let more : suc n * window ≡ n * window + window = omega arith in
    omega (arith, product, more)

rounded_down : (before window n : ℕ) → 1 ≤ window → rounds_after before window ≤ n → before < n * window
rounded_down before window n wide h =
    let fewer : before / window < n = omega (arith, h) in
    (div-lt_iff_lt-mul wide).0 fewer

empty_queue : {X : Type 0} (xs : List X) → length xs ≡ 0 → xs ≡ []
empty_queue [] is = refl
empty_queue (x ∷ xs) is = absurd (omega (arith, is))

module _ (old : Book) (p : Apart old) (range : AreInRange old.setup.limits) where
  abbrev width : ℕ
  width = old.setup.limits.window

  ready_after : (next : Book) (sends : ℕ) → IsClear next → Passes old next sends → IsReady width range.window.0 next
  ready_after next sends clear passes = record {
    clear = clear;
    range = subst (λ s. AreInRange s.limits) (sym passes.setup) range;
    width = ap (λ s. s.limits.window) passes.setup;
  }

  pub served : (n : ℕ) (new : Book) → CanGoOn old → Rounds n old new → rounds_for (length old.queued) width ≤ n → IsServed new
  served zero new h rounds enough = absurd (omega (arith, enough))
  served (suc n) new h rounds enough =
      let first = first_round old rounds.0 p range rounds.1 (goes_on old h) in
      let last = queue_after width range.window.0 n rounds.0 new (ready_after rounds.0 _ first.0 first.1) rounds.2 in
      let few = rounded_up (length old.queued) width n range.window.0 enough in
      let queue = first.1.queue in
      let left = last.1 in
      record { sent = empty_queue new.queued (omega (arith, left, queue, few)); answered = none_counted new last.0.clear.none }

  -- where the window is full, the first round sends nothing
  pub full : (n : ℕ) (new : Book) → width ≤ outstanding_count old → Rounds (suc n) old new → length new.queued ≡ length old.queued - n * width
  full n new wide rounds =
      let some : 1 ≤ outstanding_count old = omega (arith, wide, range.window.0) in
      let first = first_round old rounds.0 p range rounds.1 (inr some) in
      let last = queue_after width range.window.0 n rounds.0 new (ready_after rounds.0 _ first.0 first.1) rounds.2 in
      let queue = first.1.queue in
      let left = last.1 in
      let sends = (steps old rounds.0 p range rounds.1).1 in
      let out = sends.out in
      let none : (steps old rounds.0 p range rounds.1).0 ≡ 0 = elim sends.room [ inl no_sends ↦ no_sends | inr within ↦ omega (arith, within, out, wide) ] in
      omega (arith, left, queue, none)

  pub drained_done : (n : ℕ) (new : Book) → CanGoOn old → IsSome old.drain → RoundsWithRequests n old new → rounds_for (length old.queued) width ≤ n → IsDone new
  drained_done zero new h some rounds enough = absurd (omega (arith, enough))
  drained_done (suc n) new h some rounds enough =
      let opened = rounds.1.opened in
      let grows = requests_grow old rounds.1.requests.before rounds.1.requests.events rounds.1.requests.gives opened rounds.1.requests.runs rounds.1.each in
      let can : (opened.watch ≡ up) ⊎ (1 ≤ outstanding_count opened) = elim (goes_on old h) [
        | inl is ↦ inl (grows.watch ∙ is)
        | inr out ↦ inr (let same = ap (λ (m : Held). length (sendings_in m)) grows.held in omega (arith, same, out))
      ] in
      let range_there = subst (λ s. AreInRange s.limits) (sym grows.setup) range in
      let first = first_round opened rounds.0 (apart_same old opened grows.held grows.watch p) range_there rounds.1.round can in
      let ready : IsReady width range.window.0 rounds.0 = record {
        clear = first.0;
        range = subst (λ s. AreInRange s.limits) (sym first.1.setup) range_there;
        width = ap (λ s. s.limits.window) (first.1.setup ∙ grows.setup);
      } in
      let still : IsSome rounds.0.drain = subst (λ (o : Option ℕ). IsSome o) (sym (first.1.drain ∙ grows.drain)) some in
      let last = drained_after width range.window.0 n rounds.0 new ready still rounds.2 in
      let few = rounded_up (length old.queued) width n range.window.0 enough in
      let queue = first.1.queue in
      let left = last.1 in
      let none = grows.none_drained some in
      let queued = grows.queue in
      record { drained = last.2; sent = empty_queue new.queued (omega (arith, left, queue, few, none, queued)); answered = none_counted new last.0.clear.none }

  pub each_once : (n : ℕ) (first new : Book) (before : List Recorded) (r : Recorded) (after : List Recorded) → IsLawful old → CanGoOn old → old.queued ≡ before ++ r ∷ after → IsRound old first → RoundsWithRequests n first new → rounds_after (length before) width ≤ n → IsAnsweredOnce new r.stamp
  each_once n first new before r after lawful h queued round rounds enough =
      let own = first_round old first p range round (goes_on old h) in
      let ready = ready_after first _ own.0 own.1 in
      let longer = ap length queued ∙ length-append before (r ∷ after) in
      let queue = own.1.queue in
      let sent = own.1.sent in
      let target = length old.sent + length before + 1 in
      let within : target ≤ length first.sent + length first.queued = omega (arith, longer, queue, sent) in
      let last = sent_after width range.window.0 n first new target ready within rounds in
      let many = rounded_down (length before) width n range.window.0 enough in
      let reached = last.1 in
      let front : List Stamp = old.sent ++ each (λ q. q.stamp) before in
      let front_long : length front ≡ length old.sent + length before = length-append old.sent (each (λ q. q.stamp) before) ∙ ap (λ m. length old.sent + m) (length-map before (λ q. q.stamp)) in
      let rest : List Stamp = each (λ q. q.stamp) after ++ last.2.0 in
      let accepted_old : old.accepted ≡ front ++ r.stamp ∷ each (λ q. q.stamp) after =
      lawful.in_order
      ∙ ap (λ (qs : List Recorded). old.sent ++ each (λ q. q.stamp) qs) queued
      ∙ ap (λ (ss : List Stamp). old.sent ++ ss) (map-append (λ (q : Recorded). q.stamp) before (r ∷ after))
      ∙ sym (append_assoc old.sent (each (λ q. q.stamp) before) (r.stamp ∷ each (λ q. q.stamp) after)) in
      let accepted_new : new.accepted ≡ front ++ r.stamp ∷ rest =
      last.2.1
      ∙ ap (λ (xs : List Stamp). xs ++ last.2.0) (own.1.accepted ∙ accepted_old)
      ∙ append_assoc front (r.stamp ∷ each (λ q. q.stamp) after) last.2.0 in
      answered_once new (lawful_after n first new round.hears.lawful rounds) (none_counted new last.0.clear.none) front r.stamp rest accepted_new (omega (arith, reached, many, sent, front_long))
