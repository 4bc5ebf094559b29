-- What stands after a call of the lane.
use Rattle.std.proofs.Common.{◌≡◌, ℕ, ◌<◌, ◌≤◌, ◌^◌, Bool, true, false, cond, List, [], ◌∷◌, ◌++◌, length, get_or, Option, Some, None, Result, Ok, Err, refl, sym, ap, ◌∙◌, subst, inl, inr, arith, length-append, length-drop}
use Rattle.std.specs.Prelude.{◌⊎◌, option_map, map as each, All, IfSome}
use Rattle.std.specs.List.{Contains}
use Rattle.std.specs.Cmp.{eq_by_cmp_equiv}
use Rattle.std.specs.Ordering.{eq_by_cmp}
use Rattle.std.specs.FinMap as map
use Rattle.std.proofs.Math.Seq.{get_or-append_seam}
use Rattle.std.proofs.lemmas.Bool.{cases_lt}
use Rattle.std.proofs.lemmas.List.{get_or-map}
use Rattle.std.proofs.lemmas.List.Elements.{All-head}
use Rattle.std.proofs.lemmas.List.FromFn.{get_or-range_with_len}
use Rattle.rad_realms.specs.Checking.{Request}
use Rattle.rad_tables.specs.declared.slots.Slot.{Slot}
use Rattle.rad_tables.specs.Pairs.{slot_cmp, IsInRange}
use Rattle.rad_tables.proofs.SlotLemmas.{slots_total}
use Rattle.rad_lane.specs.declared.stamp.Stamp.{Stamp}
use Rattle.rad_lane.specs.declared.entry.Entry.{Entry}
use Rattle.rad_lane.specs.declared.entry.Entry.TheVariants.{Sending as sending, Probe as probe}
use Rattle.rad_lane.specs.declared.watch.Watch.{Watch}
use Rattle.rad_lane.specs.declared.watch.Watch.TheVariants.{Up as up, Down as down}
use Rattle.rad_lane.specs.declared.accepting.Taken.{Taken}
use Rattle.rad_lane.specs.declared.accepting.Taken.TheVariants.{New, Waiting, Again}
use Rattle.rad_lane.specs.declared.accepting.Refusal.{Refusal}
use Rattle.rad_lane.specs.declared.hearing.Heard.{Heard}
use Rattle.rad_lane.specs.declared.hearing.Heard.TheVariants.{Answer, ProbeAnswered}
use Rattle.rad_lane.specs.declared.hearing.HearFault.{HearFault}
use Rattle.rad_lane.specs.declared.stepping.Action.{Action}
use Rattle.rad_lane.specs.declared.stepping.Action.TheVariants.{Sent, Resent, Probed, WentDown, WentUp, Idle}
use Rattle.rad_lane.specs.declared.turning.Volume.{Volume}
use Rattle.rad_lane.specs.declared.turning.TurnFault.{TurnFault}
use Rattle.rad_lane.specs.declared.turning.TurnFault.TheVariants.{NothingToTurn, OutOfMemory}
use Rattle.rad_lane.specs.declared.running.Event.{Event}
use Rattle.rad_lane.specs.declared.running.Event.TheVariants.{Accept as accept, Step as step, Hear as hear, Drain as drain, Turn as turn}
use Rattle.rad_lane.specs.declared.running.GivenAnswer.{GivenAnswer}
use Rattle.rad_lane.specs.declared.running.GivenAnswer.TheVariants.{Accept as accepted, Step as stepped, Hear as heard, Drain as drained, Turn as turned}
use Rattle.rad_lane.specs.Setup.{LaneSetup, IsOfItsRealms}
use Rattle.rad_lane.specs.Stamp.{Recorded, IsRecord}
use Rattle.rad_lane.specs.Outstanding.{Outstanding, first_sending, sent_again, renewed, octets_of}
use Rattle.rad_lane.specs.Entries.{but_a_probe, renewed_in}
use Rattle.rad_lane.specs.Datagrams.{Datagrams}
use Rattle.rad_lane.specs.Book.{Book, moment_in, next_number, outstanding_at}
use Rattle.rad_lane.specs.Watch.{GoesUp, GoesUpIfDown}
use Rattle.rad_lane.specs.Lawful.{IsLawful, IsTheLanes}
use Rattle.rad_lane.specs.Accepts.{Accepts, stamp_of}
use Rattle.rad_lane.specs.Steps.{StepsBy, freed}
use Rattle.rad_lane.specs.Hears.{Hears, pair, with_answer}
use Rattle.rad_lane.specs.Volumes.{Turns}
use Rattle.rad_lane.specs.Runs.{Gives}
use Rattle.rad_lane.proofs.LawfulAfterCut.{cut_sent, next_same}
use Rattle.rad_progress.proofs.AfterCalls.{call_setup}
use Rattle.rad_network.specs.World.{Departed, Response, World}
use Rattle.rad_network.specs.Happens.{IsCalled, accepts, departs, responds}
use Rattle.rad_network.proofs.Among.{latest, earlier}
use Rattle.rad_network.proofs.Stands.{Stands, as_departed, unsent, stands_quiet, stands_sent}

abbrev pub Held : Type 0
Held = map.FinMap slot_cmp Entry

-- what is outstanding was so before, under some pair, with the same request and octets
pub record WasOut (old : Book) (entry : Outstanding) : Type 0 where
  pub at : Slot
  pub was : Outstanding
  pub there : outstanding_at old at was
  pub request : entry.request ≡ was.request
  pub octets : entry.octets ≡ was.octets

abbrev pub AllWereOut : Book → Book → Type 0
AllWereOut old next = (slot : Slot) (entry : Outstanding) → outstanding_at next slot entry → WasOut old entry

pub was_so : (old : Book) (slot : Slot) (entry : Outstanding) → outstanding_at old slot entry → WasOut old entry
was_so old slot entry there = record { at = slot; was = entry; there = there; request = refl; octets = refl }

-- behind one that comes under a pair, that leaves it, or that gets a new round
put_by : (b : Bool) (x : Entry) (o : Option Entry) (y : Entry) → cond b (Some x) o ≡ Some y → (x ≡ y) ⊎ (o ≡ Some y)
put_by true x o y is = inl cc
put_by false x o y is = inr is

pub was_put : (held : Held) (slot at : Slot) (x y : Entry) → map.get (map.insert held slot x) at ≡ Some y → (x ≡ y) ⊎ (map.get held at ≡ Some y)
was_put held slot at x y is = put_by (eq_by_cmp slot_cmp at slot) x (map.get held at) y (sym (map.get-insert slots_total held slot x at) ∙ is)

pub put_there : (held : Held) (slot : Slot) (x : Entry) → map.get (map.insert held slot x) slot ≡ Some x
put_there held slot x = map.get-insert slots_total held slot x slot ∙ ap (λ b. cond b (Some x) (map.get held slot)) ((eq_by_cmp_equiv slots_total).refl slot)

left_by : (b : Bool) (o : Option Entry) (y : Entry) → cond b None o ≡ Some y → o ≡ Some y
left_by true o y is = cc
left_by false o y is = is

was_left : (held : Held) (slot at : Slot) (y : Entry) → map.get (map.remove held slot) at ≡ Some y → map.get held at ≡ Some y
was_left held slot at y is = left_by (eq_by_cmp slot_cmp at slot) (map.get held at) y (sym (map.get-remove slots_total held slot at) ∙ is)

was_freed : (held : Held) (out : Option Slot) (at : Slot) (y : Entry) → map.get (freed held out) at ≡ Some y → map.get held at ≡ Some y
was_freed held None at y is = is
was_freed held (Some slot) at y is = was_left held slot at y is

was_anew : (now : ℕ) (o : Option Entry) (entry : Outstanding) → option_map (renewed_in now) (but_a_probe o) ≡ Some (sending entry) → (was : Outstanding) × (o ≡ Some (sending was)) × (entry.request ≡ was.request) × (entry.octets ≡ was.octets)
was_anew now None entry is = cc
was_anew now (Some (sending was)) entry is =
    let one : renewed now was ≡ entry = cc in
    (was, refl, ap (λ (e : Outstanding). e.request) (sym one), ap (λ (e : Outstanding). e.octets) (sym one))
was_anew now (Some (probe octets)) entry is = cc

pub out_of_up : (now : ℕ) (middle next : Book) → GoesUp now middle next → AllWereOut middle next
out_of_up now middle next g slot entry there =
    let was = was_anew now (map.get middle.held slot) entry (sym (g.renews slot) ∙ (ap (λ (b : Book). map.get b.held slot) (sym g.others) ∙ there)) in
    record { at = slot; was = was.0; there = was.1; request = was.2; octets = was.3 }

pub out_of_same : (old next : Book) → next.held ≡ old.held → AllWereOut old next
out_of_same old next held slot entry there = was_so old slot entry (ap (λ (m : Held). map.get m slot) (sym held) ∙ there)

out_of_gone : (old middle : Book) (slot : Slot) → middle.held ≡ map.remove old.held slot → AllWereOut old middle
out_of_gone old middle slot held at entry there =
    was_so old at entry (was_left old.held slot at (sending entry) (ap (λ (m : Held). map.get m at) (sym held) ∙ there))

pub out_on : (old middle next : Book) → AllWereOut old middle → AllWereOut middle next → AllWereOut old next
out_on old middle next first second slot entry there =
    let later = second slot entry there in
    let sooner = first later.at later.was later.there in
    record { at = sooner.at; was = sooner.was; there = sooner.there; request = later.request ∙ sooner.request; octets = later.octets ∙ sooner.octets }

out_of_up_if_down : (now : ℕ) (old middle next : Book) (w : Watch) → AllWereOut old middle → GoesUpIfDown now middle next w → AllWereOut old next
out_of_up_if_down now old middle next up out h = subst (λ (b : Book). AllWereOut old b) (sym h) out
out_of_up_if_down now old middle next (down until other probed) out h = out_on old middle next out (out_of_up now middle next h)

-- what is outstanding once a request was sent for the first time, or again, or a probe was
not_probe : {octets : List ℕ} {entry : Outstanding} → probe octets ≡ sending entry → ⊥
not_probe is = cc

one_sending : {a b : Outstanding} → sending a ≡ sending b → a ≡ b
one_sending is = cc

pub outs_first : (old next : Book) (slot : Slot) (first : Outstanding) → next.held ≡ map.insert old.held slot (sending first) → (at : Slot) (entry : Outstanding) → outstanding_at next at entry → (first ≡ entry) ⊎ WasOut old entry
outs_first old next slot first held at entry there =
    elim (was_put old.held slot at (sending first) (sending entry) (ap (λ (m : Held). map.get m at) (sym held) ∙ there)) [
      | inl is ↦ inl (one_sending is)
      | inr before ↦ inr (was_so old at entry before)
    ]

pub outs_again : (old next : Book) (slot : Slot) (entry more : Outstanding) → outstanding_at old slot entry → more.request ≡ entry.request → more.octets ≡ entry.octets → next.held ≡ map.insert old.held slot (sending more) → AllWereOut old next
outs_again old next slot entry more there request octets held at other there_now =
    elim (outs_first old next slot more held at other there_now) [
      | inl is ↦ record { at = slot; was = entry; there = there; request = ap (λ (e : Outstanding). e.request) (sym is) ∙ request; octets = ap (λ (e : Outstanding). e.octets) (sym is) ∙ octets }
      | inr was ↦ was
    ]

pub outs_probe : (old next : Book) (slot : Slot) (octets : List ℕ) (out : Option Slot) → next.held ≡ map.insert (freed old.held out) slot (probe octets) → AllWereOut old next
outs_probe old next slot octets out held at entry there =
    elim (was_put (freed old.held out) slot at (probe octets) (sending entry) (ap (λ (m : Held). map.get m at) (sym held) ∙ there)) [
      | inl is ↦ absurd (not_probe is)
      | inr before ↦ was_so old at entry (was_freed old.held out at (sending entry) before)
    ]

-- the parts of a book by which its requests are numbered
pub record IsNumberedLike (old next : Book) : Type 0 where
  pub opening : next.opening ≡ old.opening
  pub accepted : next.accepted ≡ old.accepted
  pub sent : next.sent ≡ old.sent

pub numbered_itself : (book : Book) → IsNumberedLike book book
numbered_itself book = record { opening = refl; accepted = refl; sent = refl }

pub numbered_as : (old middle next : Book) → IsNumberedLike old middle → next ≡ middle → IsNumberedLike old next
numbered_as old middle next n is = subst (λ (b : Book). IsNumberedLike old b) (sym is) n

pub numbered_up : (now : ℕ) (middle next : Book) (w : Watch) → GoesUpIfDown now middle next w → IsNumberedLike middle next
numbered_up now middle next up h = numbered_as middle middle next (numbered_itself middle) h
numbered_up now middle next (down until other out) h =
    numbered_as middle (record middle { held = h.held; watch = up }) next (record { opening = refl; accepted = refl; sent = refl }) h.others

pub numbered_on : (old middle next : Book) → IsNumberedLike old middle → IsNumberedLike middle next → IsNumberedLike old next
numbered_on old middle next a b = record { opening = b.opening ∙ a.opening; accepted = b.accepted ∙ a.accepted; sent = b.sent ∙ a.sent }

-- a call that sends nothing
pub record IsQuiet (old next : Book) : Type 0 where
  pub number : next_number next ≤ 2 ^ 62
  pub grows : next_number old ≤ next_number next
  pub unsent_is : unsent next ≡ unsent old
  pub out : AllWereOut old next

quiet_like : (old next : Book) → next_number old ≤ 2 ^ 62 → IsNumberedLike old next → AllWereOut old next → IsQuiet old next
quiet_like old next fits n out =
    let all = ap length n.accepted in
    let sent = ap length n.sent in
    let opening = n.opening in
    record { number = omega (arith, all, opening, fits); grows = omega (arith, all, opening); unsent_is = omega (arith, sent, opening); out = out }

module _ (old : Book) (l : IsLawful old) (fits : next_number old ≤ 2 ^ 62) where
  like : (middle next : Book) → IsNumberedLike old middle → middle.held ≡ old.held → next ≡ middle → IsQuiet old next
  like middle next n held is =
      quiet_like old next fits (numbered_as old middle next n is) (out_of_same old next (ap (λ (b : Book). b.held) is ∙ held))

  pub quiet_accept : (request : Request) (moment : ℕ) (result : Result Taken Refusal) (d : Datagrams) (next : Book) → Accepts old request moment result d next → IsQuiet old next
  quiet_accept request moment (Ok (New number)) d next h =
      let more = ap (λ (b : Book). length b.accepted) h.3 ∙ length-append old.accepted (stamp_of (next_number old) request (moment_in old moment) ∷ []) in
      let opening = ap (λ (b : Book). b.opening) h.3 in
      let sent = ap (λ (b : Book). length b.sent) h.3 in
      let room : next_number old < 2 ^ 62 = elim (cases_lt (next_number old) (2 ^ 62)) [ inl few ↦ few | inr full ↦ absurd (h.1.1 (inr full)) ] in
      record {
        number = omega (arith, more, opening, room);
        grows = omega (arith, more, opening);
        unsent_is = omega (arith, opening, sent);
        out = out_of_same old next (ap (λ (b : Book). b.held) h.3);
      }
  quiet_accept request moment (Ok (Waiting number)) d next h = like (record old { last = moment_in old moment }) next (record { opening = refl; accepted = refl; sent = refl }) refl h.1
  quiet_accept request moment (Ok (Again number)) d next h = like (record old { last = moment_in old moment }) next (record { opening = refl; accepted = refl; sent = refl }) refl h.1
  quiet_accept request moment (Err refusal) d next h = like old next (numbered_itself old) refl h.2

  pub quiet_hear : (moment port : ℕ) (datagram : List ℕ) (result : Result Heard HearFault) (next : Book) → Hears old moment port datagram result next → IsQuiet old next
  quiet_hear moment port datagram (Ok (Answer outgoing)) next h =
      let middle : Book = with_answer old (moment_in old moment) (pair port h.1.packet) h.0 in
      quiet_like old next fits
      (numbered_on old middle next (record { opening = refl; accepted = refl; sent = refl }) (numbered_up _ middle next old.watch h.1.book))
      (out_of_up_if_down _ old middle next old.watch (out_of_gone old middle (pair port h.1.packet) refl) h.1.book)
  quiet_hear moment port datagram (Ok ProbeAnswered) next h =
      let middle : Book = record old { last = moment_in old moment } in
      quiet_like old next fits
      (numbered_on old middle next (record { opening = refl; accepted = refl; sent = refl }) (numbered_up _ middle next old.watch h.book))
      (out_of_up_if_down _ old middle next old.watch (out_of_same old middle refl) h.book)
  quiet_hear moment port datagram (Err fault) next h = like old next (numbered_itself old) refl h.1

  pub quiet_turn : (moment : ℕ) (result : Result Volume TurnFault) (next : Book) → Turns old moment result next → IsQuiet old next
  quiet_turn moment (Ok volume) next h =
      let within = cut_sent old l (moment_in old moment) (omega arith) h.0 h.1 h.2 in
      let all = next_same old l (moment_in old moment) (omega arith) h.0 h.1 h.2 in
      let left = ap (λ (b : Book). length b.sent) h.5 ∙ length-drop (length h.0) old.sent in
      let kept = ap (λ (b : Book). length b.accepted) h.5 in
      let opening = ap (λ (b : Book). b.opening) h.5 in
      record {
        number = omega (arith, all, kept, opening, fits);
        grows = omega (arith, all, kept, opening);
        unsent_is = omega (arith, left, within, opening);
        out = out_of_same old next (ap (λ (b : Book). b.held) h.5);
      }
  quiet_turn moment (Err NothingToTurn) next h = like old next (numbered_itself old) refl h.1
  quiet_turn moment (Err OutOfMemory) next h = like old next (numbered_itself old) refl h.4

-- a step accepts none
step_numbers : (old next : Book) (now : ℕ) (random : List ℕ) (d : Datagrams) (w : Watch) (action : Action) → StepsBy w old now random action d next → next_number next ≡ next_number old
step_numbers old next now random d up (Sent number slot) h = ap next_number h.9
step_numbers old next now random d up (Resent number slot) h = ap next_number h.4
step_numbers old next now random d up (Probed slot) h = absurd h
step_numbers old next now random d up WentDown h = ap next_number h.3
step_numbers old next now random d up WentUp h = absurd h
step_numbers old next now random d up (Idle None) h = ap next_number h.3
step_numbers old next now random d up (Idle (Some moment)) h = ap next_number h.7
step_numbers old next now random d (down until other out) (Sent number slot) h = absurd h
step_numbers old next now random d (down until other out) (Resent number slot) h = absurd h
step_numbers old next now random d (down until other out) (Probed slot) h = ap next_number h.2.2
step_numbers old next now random d (down until other out) WentDown h = absurd h
step_numbers old next now random d (down until other out) WentUp h = ap next_number h.2.others
step_numbers old next now random d (down until other out) (Idle None) h = absurd h
step_numbers old next now random d (down until other out) (Idle (Some moment)) h = ap next_number h.4

-- no call gives a number back
pub numbers_grow : (old : Book) → IsLawful old → next_number old ≤ 2 ^ 62 → (next : Book) (event : Event) (answer : GivenAnswer) (d : Datagrams) → Gives old event answer d next → next_number old ≤ next_number next
numbers_grow old l fits next (accept request moment) (accepted result) d h = (quiet_accept old l fits request.now moment result d next h).grows
numbers_grow old l fits next (step moment random) (stepped action) d h =
    let same = step_numbers old next (moment_in old moment) random d old.watch action h.0 in
    omega (arith, same)
numbers_grow old l fits next (hear moment port datagram) (heard result) d h = (quiet_hear old l fits moment port datagram.now result next h.0).grows
numbers_grow old l fits next drain (drained count) d h =
    let same : next_number next ≡ next_number old = ap next_number h.0.book in
    omega (arith, same)
numbers_grow old l fits next (turn moment) (turned result) d h = (quiet_turn old l fits moment result next h.0).grows
numbers_grow old l fits next event answer d h = absurd h

-- the first request of the queue has the next number
module _ (book : Book) (l : IsLawful book) (r : Recorded) (rest : List Recorded) (queue : book.queued ≡ r ∷ rest) where
  abbrev stamps_behind : List Stamp
  stamps_behind = each (λ q. q.stamp) rest

  accepted_is : book.accepted ≡ book.sent ++ r.stamp ∷ stamps_behind
  accepted_is = l.in_order ∙ ap (λ (qs : List Recorded). book.sent ++ each (λ q. q.stamp) qs) queue

  within : length book.sent < length book.accepted
  within = let all = ap length accepted_is ∙ length-append book.sent (r.stamp ∷ stamps_behind) in omega (arith, all)

  pub first_number : r.stamp.number ≡ unsent book
  first_number =
      ap (λ (s : Stamp). s.number) (sym (get_or-append_seam book.sent r.stamp stamps_behind r.stamp) ∙ ap (λ (ss : List Stamp). get_or ss (length book.sent) r.stamp) (sym accepted_is))
      ∙ sym (get_or-map (λ (s : Stamp). s.number) book.accepted (length book.sent) r.stamp 0 within)
      ∙ ap (λ ns. get_or ns (length book.sent) 0) l.numbered
      ∙ get_or-range_with_len book.opening (length book.accepted) (length book.sent) 0 within

-- a call
module _ (old : World) (s : Stands old) (next : Book) (records : List Recorded) (given : List Response) (lawful : IsLawful next) where
  abbrev After : List Departed → Type 0
  After more = Stands (record old { book = next; accepted = records; departed = more ++ old.departed; given = given })

  abbrev IsOfThem : Recorded → Type 0
  IsOfThem q = IsRecord q × IsOfItsRealms old.book.setup q.text

  was_departed : (entry : Outstanding) → WasOut old.book entry → Contains old.departed (as_departed entry)
  was_departed entry was =
      subst (λ (x : Departed). Contains old.departed x)
      (ap (λ n. let x : Departed = record { number = Some n; octets = was.was.octets } in x) (ap (λ (r : Recorded). r.stamp.number) (sym was.request))
      ∙ ap (λ o. let x : Departed = record { number = Some entry.request.stamp.number; octets = o } in x) (sym was.octets))
      (s.out was.at was.was was.there)

  module _ (setup : next.setup ≡ old.book.setup) where
    quiet : IsQuiet old.book next → After []
    quiet q =
        let same = q.unsent_is in
        stands_quiet old s next records given lawful setup q.number (omega (arith, same)) (λ slot entry there. was_departed entry (q.out slot entry there))

    -- a request of the queue, for the first time
    sends_first : (now : ℕ) (slot : Slot) (number : ℕ) (octets : List ℕ) (r : Recorded) (rest : List Recorded) → old.book.queued ≡ r ∷ rest → number ≡ r.stamp.number → octets ≡ octets_of old.book.setup r slot.identifier → slot.identifier < 256 → next.held ≡ map.insert old.book.held slot (sending (first_sending old.book.setup now r slot.identifier)) → IsNumberedLike (record old.book { sent = old.book.sent ++ r.stamp ∷ [] }) next → After (record { number = Some number; octets = octets } ∷ [])
    sends_first now slot number octets r rest queue number_is octets_is octet held n =
        let x : Departed = record { number = Some number; octets = octets } in
        let first : r.stamp.number ≡ unsent old.book = first_number old.book s.lawful r rest queue in
        let sent = ap length n.sent ∙ length-append old.book.sent (r.stamp ∷ []) in
        let all = ap length n.accepted in
        let opening = n.opening in
        let fits = s.fits in
        let queued : All IsOfThem (r ∷ rest) = subst (λ (qs : List Recorded). All IsOfThem qs) queue s.lawful.of_its_realms in
        stands_sent old s next records given lawful setup (omega (arith, all, opening, fits)) (omega (arith, sent, opening)) x
        (record { request = r; is_record = (All-head IsOfThem r rest queued).0; numbered = sym number_is; identifier = slot.identifier; octet = octet; made = octets_is })
        (λ m is. let same : number ≡ m = one_some is in omega (arith, same, number_is, first, sent, opening))
        (λ m b is there b_is. let same : number ≡ m = one_some is in let low = s.below b m there b_is in absurd (omega (arith, same, number_is, first, low)))
        (λ at entry there. elim (outs_first old.book next slot (first_sending old.book.setup now r slot.identifier) held at entry there) [
          | inl one ↦
              subst (λ (y : Departed). Contains (x ∷ old.departed) y)
              (ap (λ n. let y : Departed = record { number = Some n; octets = octets } in y) (number_is ∙ ap (λ (e : Outstanding). e.request.stamp.number) one)
              ∙ ap (λ o. let y : Departed = record { number = Some entry.request.stamp.number; octets = o } in y) (octets_is ∙ ap (λ (e : Outstanding). e.octets) one))
              (latest x old.departed)
          | inr was ↦ earlier x old.departed (as_departed entry) (was_departed entry was)
        ])
      where
        one_some : {a b : ℕ} → Some a ≡ Some b → a ≡ b
        one_some is = cc

    -- a request that is outstanding, again
    sends_again : (now : ℕ) (slot : Slot) (number : ℕ) (octets : List ℕ) (entry : Outstanding) → outstanding_at old.book slot entry → number ≡ entry.request.stamp.number → octets ≡ entry.octets → next.held ≡ map.insert old.book.held slot (sending (sent_again old.book.setup.limits.first_wait now entry)) → IsNumberedLike old.book next → After (record { number = Some number; octets = octets } ∷ [])
    sends_again now slot number octets entry there number_is octets_is held n =
        let x : Departed = record { number = Some number; octets = octets } in
        let x_is : as_departed entry ≡ x = ap (λ n. let y : Departed = record { number = Some n; octets = entry.octets } in y) (sym number_is) ∙ ap (λ o. let y : Departed = record { number = Some number; octets = o } in y) (sym octets_is) in
        let before : Contains old.departed x = subst (λ (y : Departed). Contains old.departed y) x_is (s.out slot entry there) in
        let all = ap length n.accepted in
        let sent = ap length n.sent in
        let opening = n.opening in
        let fits = s.fits in
        stands_sent old s next records given lawful setup (omega (arith, all, opening, fits)) (omega (arith, sent, opening)) x
        (s.made x before)
        (λ m is. let low = s.below x m before is in omega (arith, low, sent, opening))
        (λ m b is there_b b_is. s.alike x b m before there_b is b_is)
        (λ at other there_now. earlier x old.departed (as_departed other)
        (was_departed other (outs_again old.book next slot entry (sent_again old.book.setup.limits.first_wait now entry) there refl refl held at other there_now)))

    -- a probe
    sends_probe : (slot : Slot) (octets : List ℕ) (out : Option Slot) → next.held ≡ map.insert (freed old.book.held out) slot (probe octets) → IsNumberedLike old.book next → After (record { number = None; octets = octets } ∷ [])
    sends_probe slot octets out held n =
        let x : Departed = record { number = None; octets = octets } in
        let own = lawful.holds_its_own slot (probe octets) (ap (λ (m : Held). map.get m slot) held ∙ put_there (freed old.book.held out) slot (probe octets)) in
        let all = ap length n.accepted in
        let sent = ap length n.sent in
        let opening = n.opening in
        let fits = s.fits in
        stands_sent old s next records given lawful setup (omega (arith, all, opening, fits)) (omega (arith, sent, opening)) x
        (slot, own.0.1, subst (λ (p : LaneSetup). IsTheLanes p slot (probe octets)) setup own.1)
        (λ m is. absurd (no_number is))
        (λ m b is. absurd (no_number is))
        (λ at entry there. earlier x old.departed (as_departed entry) (was_departed entry (outs_probe old.book next slot octets out held at entry there)))
      where
        no_number : {m : ℕ} → None ≡ Some m → ⊥
        no_number is = cc

    step_by : (now : ℕ) (random : List ℕ) (d : Datagrams) (w : Watch) (action : Action) → StepsBy w old.book now random action d next → After (departs (stepped action) d.after)
    step_by now random d up (Sent number slot) h =
        sends_first now slot number d.after h.3 h.4 h.5 h.6 h.8 (lawful_slot (ap (λ (b : Book). b.allotted) h.9)) (ap (λ (b : Book). b.held) h.9)
        (numbered_as (record old.book { sent = old.book.sent ++ h.3.stamp ∷ [] }) _ next (record { opening = refl; accepted = refl; sent = refl }) h.9)
      where
        in_range : (o : Option Slot) → o ≡ Some slot → IfSome o (IsInRange next.setup.ports) → slot.identifier < 256
        in_range None is range = cc
        in_range (Some other) is range = let same : other ≡ slot = cc in subst (λ (x : Slot). x.identifier < 256) same range.1

        lawful_slot : next.allotted ≡ Some slot → slot.identifier < 256
        lawful_slot is = in_range next.allotted is lawful.allotted_in_range
    step_by now random d up (Resent number slot) h =
        sends_again now slot number d.after h.0 h.1.there h.2 h.3 (ap (λ (b : Book). b.held) h.4)
        (numbered_as old.book _ next (record { opening = refl; accepted = refl; sent = refl }) h.4)
    step_by now random d up (Probed slot) h = absurd h
    step_by now random d up WentDown h = quiet (like old.book s.lawful s.fits _ next (record { opening = refl; accepted = refl; sent = refl }) refl h.3)
    step_by now random d up WentUp h = absurd h
    step_by now random d up (Idle None) h = quiet (like old.book s.lawful s.fits _ next (record { opening = refl; accepted = refl; sent = refl }) refl h.3)
    step_by now random d up (Idle (Some moment)) h = quiet (like old.book s.lawful s.fits _ next (record { opening = refl; accepted = refl; sent = refl }) refl h.7)
    step_by now random d (down until other out) (Sent number slot) h = absurd h
    step_by now random d (down until other out) (Resent number slot) h = absurd h
    step_by now random d (down until other out) (Probed slot) h =
        sends_probe slot d.after out (ap (λ (b : Book). b.held) h.2.2)
        (numbered_as old.book _ next (record { opening = refl; accepted = refl; sent = refl }) h.2.2)
    step_by now random d (down until other out) WentDown h = absurd h
    step_by now random d (down until other out) WentUp h =
        let middle : Book = record old.book { last = now } in
        quiet (quiet_like old.book next s.fits
        (numbered_on old.book middle next (record { opening = refl; accepted = refl; sent = refl }) (numbered_up now middle next (down until other out) h.2))
        (out_on old.book middle next (out_of_same old.book middle refl) (out_of_up now middle next h.2)))
    step_by now random d (down until other out) (Idle None) h = absurd h
    step_by now random d (down until other out) (Idle (Some moment)) h = quiet (like old.book s.lawful s.fits _ next (record { opening = refl; accepted = refl; sent = refl }) refl h.4)

  call_by : (event : Event) (answer : GivenAnswer) (d : Datagrams) → Gives old.book event answer d next → next.setup ≡ old.book.setup → After (departs answer d.after)
  call_by (accept request moment) (accepted result) d h setup = quiet setup (quiet_accept old.book s.lawful s.fits request.now moment result d next h)
  call_by (step moment random) (stepped action) d h setup = step_by setup (moment_in old.book moment) random d old.book.watch action h.0
  call_by (hear moment port datagram) (heard result) d h setup = quiet setup (quiet_hear old.book s.lawful s.fits moment port datagram.now result next h.0)
  call_by drain (drained count) d h setup = quiet setup (like old.book s.lawful s.fits _ next (record { opening = refl; accepted = refl; sent = refl }) refl h.0.book)
  call_by (turn moment) (turned result) d h setup = quiet setup (quiet_turn old.book s.lawful s.fits moment result next h.0)
  call_by event answer d h setup = absurd h

pub stands_after_call : (old : World) (event : Event) (answer : GivenAnswer) (d : Datagrams) (new : World) → IsCalled old event answer d new → Stands old → Stands new
stands_after_call old event answer d new h s =
    subst Stands (sym h.world)
    (call_by old s h.next (accepts old.book event answer ++ old.accepted) (responds event answer d.after ++ old.given) h.lawful event answer d h.gives (call_setup old.book event answer d h.next h.gives))
