-- What becomes of each request, after each call of its lane.
use Rattle.std.proofs.Common.{◌≡◌, ℕ, ◌+◌, ◌-◌, ◌/◌, ◌%◌, ◌≤◌, ◌<◌, ◌^◌, Bool, true, false, List, [], ◌∷◌, ◌++◌, length, drop, replicate, cond, refl, sym, ap, ◌∙◌, subst, arith, lit≤, length-append, append_assoc, inr}
use Rattle.std.specs.Prelude.{◌==◌, nat_lt, map as each, All, Some, None, Option, Result, Ok, Err}
use Rattle.std.specs.Int.{w16, w64, from_be_bytes, to_be_bytes}
use Rattle.std.specs.List.{count_by, sum_by, filter_map}
use Rattle.std.proofs.lemmas.List.Sums.{sum_by-append, sum_by-cons, sum_by_push}
use Rattle.std.proofs.lemmas.List.Sorted.{sum_by-IsPermutation, length_permutation}
use Rattle.std.proofs.lemmas.List.{length-map}
use Rattle.std.proofs.lemmas.List.Elements.{All-head, All-tail}
use Rattle.rad_lane.specs.Counting.{counts_of}
use Rattle.locked_lanes.specs.Lawful.{AddUp}
use Rattle.std.proofs.Math.Seq.{drop-append_seam}
use Rattle.std.proofs.lemmas.Nat.{from_be_bytes-to_be_bytes_8}
use Rattle.std.proofs.lemmas.Bool.{ltb-true, ltb-false, le-ltb, eq-eqb, eqb-true, eqb-false}
use Rattle.rad_packet.specs.Packet.{packet_text, attribute_octets}
use Rattle.rad_auth.specs.Authenticator.{accounting_request, request_authenticator}
use Rattle.rad_auth.specs.Forwarding.{forwarded}
use Rattle.rad_auth.specs.Mark.{mark_value, mark_text}
use Rattle.rad_auth.specs.declared.mark.Mark.{Mark}
use Rattle.rad_auth.specs.Replied.{Replied}
use Rattle.rad_realms.specs.Checking.{Request}
use Rattle.std.specs.FinMap as map
use Rattle.std.specs.Map.{values_of}
use Rattle.rad_tables.specs.declared.slots.Slot.{Slot}
use Rattle.rad_tables.specs.Pairs.{slot_cmp}
use Rattle.rad_lane.specs.declared.entry.Entry.{Entry}
use Rattle.rad_lane.specs.Entries.{request_in, sendings_in}
use Rattle.rad_lane.specs.Setup.{LaneSetup}
use Rattle.rad_lane.specs.Empty.{empty_book}
use Rattle.rad_lane.specs.declared.accepting.Taken.{Taken}
use Rattle.rad_lane.specs.declared.accepting.Taken.TheVariants.{New, Waiting, Again}
use Rattle.rad_lane.specs.declared.accepting.Refusal.{Refusal}
use Rattle.rad_lane.specs.declared.stepping.Action.{Action}
use Rattle.rad_lane.specs.declared.stepping.Action.TheVariants.{Sent, Resent, Probed, WentDown, WentUp, Idle}
use Rattle.rad_lane.specs.declared.watch.Watch.{Watch}
use Rattle.rad_lane.specs.declared.watch.Watch.TheVariants.{Up as up, Down as down}
use Rattle.rad_lane.specs.declared.turning.Volume.{Volume}
use Rattle.rad_lane.specs.declared.turning.TurnFault.{TurnFault}
use Rattle.rad_lane.specs.declared.turning.TurnFault.TheVariants.{NothingToTurn, OutOfMemory}
use Rattle.rad_lane.specs.Accepts.{Accepts, IsBookFull, with_request, stamp_of, record_of}
use Rattle.rad_lane.specs.Datagrams.{Datagrams}
use Rattle.rad_lane.specs.Drains.{Drains}
use Rattle.rad_lane.specs.Hears.{HearsReply, HearsProbe, GoesOut, pair}
use Rattle.rad_lane.specs.Steps.{Steps, StepsBy, StepsWhileUp, StepsWhileDown}
use Rattle.rad_lane.specs.Volumes.{Turns}
use Rattle.rad_lane.specs.Watch.{GoesUpIfDown}
use Rattle.rad_lane.specs.declared.stamp.Stamp.{Stamp}
use Rattle.rad_lane.specs.declared.outgoing.Outgoing.{Outgoing}
use Rattle.rad_lane.specs.Stamp.{Recorded}
use Rattle.rad_lane.specs.Outstanding.{Outstanding, AnswerKept}
use Rattle.rad_lane.specs.Book.{Book, moment_in, next_number, outstanding_of}
use Rattle.rad_lane.specs.Lawful.{IsLawful, IsVerified}
use Rattle.locked_lanes.specs.Fates.{queued_with, outstanding_with, answered_with, marked_number, AccountsForAll, AnswersARecord, EachOnce}

-- How many stamps have this number.
abbrev pub stamps_with : ℕ → List Stamp → ℕ
stamps_with number stamps = count_by (λ stamp. stamp.number == number) stamps

-- The stamps of the answers that a book keeps.
abbrev pub stamps_answered : Book → List Stamp
stamps_answered book = each (λ a. a.stamp) book.answered

-- 1 if this is so.
abbrev pub one_if_below : ℕ → ℕ → ℕ
one_if_below number bound = cond (nat_lt number bound) 1 0

abbrev pub one_if_same : ℕ → ℕ → ℕ
one_if_same own number = cond (own == number) 1 0

-- One number more.
below_cases : (number bound : ℕ) (within before last : Bool) → nat_lt number (bound + 1) ≡ within → nat_lt number bound ≡ before → (bound == number) ≡ last → cond within 1 0 ≡ cond before 1 0 + cond last 1 0
below_cases number bound true true false w b l = refl
below_cases number bound true false true w b l = refl
below_cases number bound false false false w b l = refl
below_cases number bound true true true w b l = absurd (omega (arith, ltb-true number bound b, eqb-true bound number l))
below_cases number bound true false false w b l = absurd (eqb-false bound number l (omega (arith, ltb-true number (bound + 1) w, ltb-false number bound b)))
below_cases number bound false true last w b l = absurd (omega (arith, ltb-false number (bound + 1) w, ltb-true number bound b))
below_cases number bound false false true w b l = absurd (omega (arith, ltb-false number (bound + 1) w, eqb-true bound number l))

pub below_more : (number bound : ℕ) → one_if_below number (bound + 1) ≡ one_if_below number bound + one_if_same bound number
below_more number bound = below_cases number bound (nat_lt number (bound + 1)) (nat_lt number bound) (bound == number) refl refl refl

-- A sum over what a function makes of the items.
pub sum_of_each : {X Y : Type 0} (f : Y → ℕ) (g : X → Y) (xs : List X) → sum_by f (each g xs) ≡ sum_by (λ x. f (g x)) xs
sum_of_each f g [] = refl
sum_of_each f g (x ∷ xs) =
    sum_by-cons f (g x) (each g xs) ∙ ap (λ n. f (g x) + n) (sum_of_each f g xs) ∙ sym (sum_by-cons (λ y. f (g y)) x xs)

-- The requests of a lawful book that were sent are outstanding or answered.
pub placed : (book : Book) → IsLawful book → (number : ℕ) → outstanding_with number (outstanding_of book) + stamps_with number (stamps_answered book) ≡ stamps_with number book.sent
placed book lawful number =
    let f : Stamp → ℕ = λ stamp. one_if_same stamp.number number in
    let out : List Stamp = each (λ e. e.request.stamp) (outstanding_of book) in
    let apart : sum_by f (out ++ stamps_answered book) ≡ sum_by f out + sum_by f (stamps_answered book) = sum_by-append f out (stamps_answered book) in
    let whole : sum_by f (out ++ stamps_answered book) ≡ sum_by f book.sent = sum_by-IsPermutation f book.sent (out ++ stamps_answered book) lawful.placed_once in
    let through : sum_by f out ≡ outstanding_with number (outstanding_of book) = sum_of_each f (λ e. e.request.stamp) (outstanding_of book) in
    omega (arith, apart, whole, through)

-- A call that moves requests on keeps the account: `more` says which number it adds.
pub accounts_on : (old new : Book) (given after : List Outgoing) (more : ℕ → ℕ) → IsLawful old → IsLawful new → AccountsForAll old given → next_number new ≤ 2 ^ 62
    → ((n : ℕ) → queued_with n new.queued + stamps_with n new.sent ≡ queued_with n old.queued + stamps_with n old.sent + more n)
    → ((n : ℕ) → answered_with n after + stamps_with n (stamps_answered old) ≡ answered_with n given + stamps_with n (stamps_answered new))
    → ((n : ℕ) → one_if_below n (next_number new) ≡ one_if_below n (next_number old) + more n)
    → AccountsForAll new after
accounts_on old new given after more lawful stays accounts fits moved answered below = record {
  once = λ n. omega (arith, accounts.once n, placed old lawful n, placed new stays n, moved n, answered n, below n);
  fits = fits;
}

-- No number is below zero.
none_below : (number : ℕ) → 0 ≡ one_if_below number 0
none_below number = ap (λ b. cond b 1 0) (sym (le-ltb number 0 (omega arith)))

same_number : (number : ℕ) → one_if_same number number ≡ 1
same_number number = ap (λ b. cond b 1 0) (eq-eqb number number refl)

-- A number that is counted as below a bound is below it, and so fits in a mark if the bound does.
below_by : (number bound : ℕ) (is : Bool) → nat_lt number bound ≡ is → 1 ≤ cond is 1 0 → number < bound
below_by number bound true is counted = ltb-true number bound is
below_by number bound false is counted = absurd (omega (arith, counted))

below_mark : (number bound : ℕ) → 1 ≤ one_if_below number bound → bound ≤ 2 ^ 62 → number < 2 ^ 64
below_mark number bound counted fits = omega (arith, below_by number bound (nat_lt number bound) refl counted, fits)

-- The number after one that is not too large.
small : (number next : ℕ) → next ≡ number + 1 → (¬ (2 ^ 62 ≤ number)) → next ≤ 2 ^ 62
small number next is room = omega (arith, is, room)

-- The last eight of some octets.
last_eight : (front back : List ℕ) → length back ≡ 8 → drop (length (front ++ back) - 8) (front ++ back) ≡ back
last_eight front back eight =
    let at : length (front ++ back) - 8 ≡ length front = omega (arith, length-append front back, eight) in
    ap (λ n. drop n (front ++ back)) at ∙ drop-append_seam front back

-- A forwarded packet ends with the number of its mark.
module _ (text : List ℕ) (mark : Mark) (identifier : ℕ) (secret : List ℕ) where
  ends_with_number : (front : List ℕ) × (forwarded text mark identifier secret ≡ front ++ to_be_bytes w64 mark.number)
  unfolding forwarded accounting_request mark_text mark_value
  ends_with_number =
      let octets : List ℕ = attribute_octets text ++ 0x21 ∷ 0x0c ∷ (to_be_bytes w16 mark.lane ++ to_be_bytes w64 mark.number) in
      let head : List ℕ = 0x21 ∷ 0x0c ∷ to_be_bytes w16 mark.lane in
      let number : List ℕ = to_be_bytes w64 mark.number in
      let digest : List ℕ = request_authenticator secret (packet_text 4 identifier (replicate 16 0) octets) in
      let start : List ℕ = 4 ∷ identifier ∷ ((20 + length octets) / 256) ∷ ((20 + length octets) % 256) ∷ [] in (
        start ++ (digest ++ (attribute_octets text ++ head)),
        ap (λ xs. start ++ (digest ++ xs)) (sym (append_assoc (attribute_octets text) head number))
            ∙ ap (λ xs. start ++ xs) (sym (append_assoc digest (attribute_octets text ++ head) number))
            ∙ sym (append_assoc start (digest ++ (attribute_octets text ++ head)) number),
      )

pub marked_forwarded : (text : List ℕ) (mark : Mark) (identifier : ℕ) (secret : List ℕ) → mark.number < 2 ^ 64 → marked_number (forwarded text mark identifier secret) ≡ mark.number
marked_forwarded text mark identifier secret small =
    let ends = ends_with_number text mark identifier secret in
    ap marked_number ends.1 ∙ ap (from_be_bytes w64) (last_eight ends.0 (to_be_bytes w64 mark.number) refl) ∙ from_be_bytes-to_be_bytes_8 mark.number small

-- The response that goes out answers the request of its answer's number.
marked : (old : Book) (port : ℕ) (datagram : List ℕ) (answer : AnswerKept) (outgoing : Outgoing) (now : ℕ) (new : Book) → IsLawful old → HearsReply old now port datagram answer new → GoesOut answer outgoing → answer.stamp.number < 2 ^ 64 → marked_number outgoing.reply.sending ≡ answer.stamp.number
marked old port datagram answer outgoing now new lawful h out small =
    let its = lawful.forwards_its_record (pair port h.packet) h.entry h.there in
    let number : h.entry.request.stamp.number ≡ answer.stamp.number = ap (λ (s : Stamp). s.number) (sym h.keeps.stamp) in
    let octets : outgoing.reply.sending ≡ h.entry.octets = ap (λ (r : Replied). r.sending) out.reply ∙ h.keeps.sending in
    ap marked_number (octets ∙ its.octets)
    ∙ marked_forwarded h.entry.request.text (record { lane = old.setup.lane; number = h.entry.request.stamp.number }) (pair port h.packet).identifier old.setup.home_secret (subst (λ n. n < 2 ^ 64) (sym number) small)
    ∙ number

-- What of a book its account reads: the queued records, the outstanding requests and the number of the next request.
abbrev pub parts_of : Book → List Recorded × List Outstanding × ℕ
parts_of book = (book.queued, outstanding_of book, next_number book)

accounts_still : (old new : Book) (given : List Outgoing) → parts_of new ≡ parts_of old → AccountsForAll old given → AccountsForAll new given
accounts_still old new given same accounts =
    let Parts : Type 0 = List Recorded × List Outstanding × ℕ in
    let Once : Parts → Type 0 = λ p. (n : ℕ) → queued_with n p.0 + outstanding_with n p.1 + answered_with n given ≡ one_if_below n p.2 in
    record {
      once = subst Once (sym same) accounts.once;
      fits = subst (λ (p : Parts). p.2 ≤ 2 ^ 62) (sym same) accounts.fits;
    }

-- Nothing was accepted yet.
no_items : {X : Type 0} (xs : List X) → length xs ≡ 0 → xs ≡ []
no_items [] h = refl
no_items (x ∷ xs) h = absurd (omega (arith, h))

none_outstanding : sendings_in (map.empty {X = Entry} {R = slot_cmp}) ≡ []
none_outstanding = ap (λ es. filter_map request_in (values_of es)) (no_items _ (sym (map.len-entries _) ∙ map.len-empty slot_cmp Entry))

pub accounts_at_first : (setup : LaneSetup) → AccountsForAll (empty_book setup) []
accounts_at_first setup = record { once = λ n. omega (arith, ap (outstanding_with n) none_outstanding, none_below n); fits = lit≤ tt }

-- A new request is queued under the next number.
accounts_accepted : (old : Book) (request : Request) (now : ℕ) (given : List Outgoing) → (¬ IsBookFull old) → AccountsForAll old given → AccountsForAll (with_request old request now) given
accounts_accepted old request now given room accounts =
    let number = next_number old in
    let grown : next_number (with_request old request now) ≡ number + 1 = omega (arith, length-append old.accepted (stamp_of number request now ∷ [])) in
    record {
      once = λ n. omega (
        arith,
        accounts.once n,
        sum_by_push (λ (r : Recorded). one_if_same r.stamp.number n) old.queued (record_of number request now),
        ap (one_if_below n) grown ∙ below_more n number,
      );
      fits = small number (next_number (with_request old request now)) grown (λ h. room (inr h));
    }

pub accounts_by_accept : (old new : Book) (request : Request) (moment : ℕ) (result : Result Taken Refusal) (d : Datagrams) (given : List Outgoing) → Accepts old request moment result d new → AccountsForAll old given → AccountsForAll new given
accounts_by_accept old new request moment (Ok (New number)) d given a accounts = subst (λ b. AccountsForAll b given) (sym a.3) (accounts_accepted old request (moment_in old moment) given a.1.1 accounts)
accounts_by_accept old new request moment (Ok (Waiting number)) d given a accounts = accounts_still old new given (ap parts_of a.1) accounts
accounts_by_accept old new request moment (Ok (Again number)) d given a accounts = accounts_still old new given (ap parts_of a.1) accounts
accounts_by_accept old new request moment (Err refusal) d given a accounts = accounts_still old new given (ap parts_of a.2) accounts

pub accounts_by_drain : (old new : Book) (count : ℕ) (given : List Outgoing) → Drains old count new → AccountsForAll old given → AccountsForAll new given
accounts_by_drain old new count given h accounts = accounts_still old new given (ap parts_of h.book) accounts

-- A cut takes answered requests away, and moves the opening on.
pub accounts_by_turn : (old new : Book) (moment : ℕ) (result : Result Volume TurnFault) (given : List Outgoing) → Turns old moment result new → AccountsForAll old given → AccountsForAll new given
accounts_by_turn old new moment (Ok volume) given t accounts =
    let numbers : next_number new ≡ next_number old = ap next_number t.5 ∙ omega (arith, ap length t.2.parts, length-append t.0 t.1) in
    let same : parts_of new ≡ parts_of old = ap (λ (b : Book). (b.queued, outstanding_of b, next_number new)) t.5 ∙ ap (λ n. (old.queued, outstanding_of old, n)) numbers in
    accounts_still old new given same accounts
accounts_by_turn old new moment (Err NothingToTurn) given t accounts = accounts_still old new given (ap parts_of t.1) accounts
accounts_by_turn old new moment (Err OutOfMemory) given t accounts = accounts_still old new given (ap parts_of t.4) accounts

-- What of a book a step or a reply changes: the queued records, the requests that were sent, the answers and the number
-- of the next request.
abbrev pub requests_of : Book → List Recorded × List Stamp × List AnswerKept × ℕ
requests_of book = (book.queued, book.sent, book.answered, next_number book)

-- A step that sends no record for the first time leaves them.
pub accounts_same : (old new : Book) (given : List Outgoing) → IsLawful old → IsLawful new → requests_of new ≡ requests_of old → AccountsForAll old given → AccountsForAll new given
accounts_same old new given lawful stays same accounts =
    let Requests : Type 0 = List Recorded × List Stamp × List AnswerKept × ℕ in
    let numbers : next_number new ≡ next_number old = ap (λ (r : Requests). r.3) same in
    accounts_on old new given given (λ n. 0) lawful stays accounts (omega (arith, numbers, accounts.fits))
    (λ n. omega (arith, ap (λ (r : Requests). queued_with n r.0 + stamps_with n r.1) same))
    (λ n. omega (arith, ap (λ (r : Requests). stamps_with n (each (λ (a : AnswerKept). a.stamp) r.2)) same))
    (λ n. omega (arith, ap (one_if_below n) numbers))

-- The first record of the queue is sent.
accounts_sent : (old new : Book) (r : Recorded) (rest : List Recorded) (given : List Outgoing) → IsLawful old → IsLawful new → old.queued ≡ r ∷ rest → requests_of new ≡ (rest, old.sent ++ r.stamp ∷ [], old.answered, next_number old) → AccountsForAll old given → AccountsForAll new given
accounts_sent old new r rest given lawful stays first made accounts =
    let Requests : Type 0 = List Recorded × List Stamp × List AnswerKept × ℕ in
    let numbers : next_number new ≡ next_number old = ap (λ (q : Requests). q.3) made in
    let moved : (n : ℕ) → queued_with n new.queued + stamps_with n new.sent ≡ queued_with n old.queued + stamps_with n old.sent + 0 = λ n. omega (
      arith,
      ap (λ (q : Requests). queued_with n q.0 + stamps_with n q.1) made,
      sum_by_push (λ (s : Stamp). one_if_same s.number n) old.sent r.stamp,
      ap (queued_with n) first,
      sum_by-cons (λ (k : Recorded). one_if_same k.stamp.number n) r rest,
    ) in
    accounts_on old new given given (λ n. 0) lawful stays accounts (omega (arith, numbers, accounts.fits)) moved
    (λ n. omega (arith, ap (λ (q : Requests). stamps_with n (each (λ (a : AnswerKept). a.stamp) q.2)) made))
    (λ n. omega (arith, ap (one_if_below n) numbers))

accounts_up : (old new : Book) (now : ℕ) (action : Action) (d : Datagrams) (given : List Outgoing) → IsLawful old → IsLawful new → StepsWhileUp old now action d new → AccountsForAll old given → AccountsForAll new given
accounts_up old new now (Resent number slot) d given lawful stays s = accounts_same old new given lawful stays (ap requests_of s.4)
accounts_up old new now WentDown d given lawful stays s = accounts_same old new given lawful stays (ap requests_of s.3)
accounts_up old new now (Sent number slot) d given lawful stays s = accounts_sent old new s.3 s.4 given lawful stays s.5 (ap requests_of s.9)
accounts_up old new now (Idle None) d given lawful stays s = accounts_same old new given lawful stays (ap requests_of s.3)
accounts_up old new now (Idle (Some next)) d given lawful stays s = accounts_same old new given lawful stays (ap requests_of s.7)
accounts_up old new now (Probed slot) d given lawful stays s = absurd s
accounts_up old new now WentUp d given lawful stays s = absurd s

accounts_down : (old new : Book) (now : ℕ) (random : List ℕ) (until next : ℕ) (out : Option Slot) (action : Action) (d : Datagrams) (given : List Outgoing) → IsLawful old → IsLawful new → StepsWhileDown old now random until next out action d new → AccountsForAll old given → AccountsForAll new given
accounts_down old new now random until next out WentUp d given lawful stays s = accounts_same old new given lawful stays (ap requests_of s.2.others)
accounts_down old new now random until next out (Probed slot) d given lawful stays s = accounts_same old new given lawful stays (ap requests_of s.2.2)
accounts_down old new now random until next out (Idle (Some later)) d given lawful stays s = accounts_same old new given lawful stays (ap requests_of s.4)
accounts_down old new now random until next out (Idle None) d given lawful stays s = absurd s
accounts_down old new now random until next out (Sent number slot) d given lawful stays s = absurd s
accounts_down old new now random until next out (Resent number slot) d given lawful stays s = absurd s
accounts_down old new now random until next out WentDown d given lawful stays s = absurd s

accounts_by : (watch : Watch) (old new : Book) (now : ℕ) (random : List ℕ) (action : Action) (d : Datagrams) (given : List Outgoing) → IsLawful old → IsLawful new → StepsBy watch old now random action d new → AccountsForAll old given → AccountsForAll new given
accounts_by up old new now random action d given lawful stays s = accounts_up old new now action d given lawful stays s
accounts_by (down until next out) old new now random action d given lawful stays s = accounts_down old new now random until next out action d given lawful stays s

pub accounts_by_step : (old new : Book) (moment : ℕ) (random : List ℕ) (action : Action) (d : Datagrams) (given : List Outgoing) → IsLawful old → IsLawful new → Steps old moment random action d new → AccountsForAll old given → AccountsForAll new given
accounts_by_step old new moment random action d given lawful stays s = accounts_by old.watch old new (moment_in old moment) random action d given lawful stays s

coming_up : (watch : Watch) (now : ℕ) (old new : Book) → GoesUpIfDown now old new watch → requests_of new ≡ requests_of old
coming_up up now old new c = ap requests_of c
coming_up (down until next out) now old new c = ap requests_of c.others

pub accounts_by_probe : (old new : Book) (now port : ℕ) (datagram : List ℕ) (given : List Outgoing) → IsLawful old → IsLawful new → HearsProbe old now port datagram new → AccountsForAll old given → AccountsForAll new given
accounts_by_probe old new now port datagram given lawful stays h = accounts_same old new given lawful stays (coming_up old.watch now _ new h.book)

-- The answer is one more.
answers_more : (old new : Book) (now port : ℕ) (datagram : List ℕ) (answer : AnswerKept) → HearsReply old now port datagram answer new → (n : ℕ) → stamps_with n (stamps_answered new) ≡ stamps_with n (stamps_answered old) + one_if_same answer.stamp.number n
answers_more old new now port datagram answer h n =
    let Requests : Type 0 = List Recorded × List Stamp × List AnswerKept × ℕ in
    let made : requests_of new ≡ (old.queued, old.sent, old.answered ++ answer ∷ [], next_number old) = coming_up old.watch now _ new h.book in
    ap (λ (q : Requests). stamps_with n (each (λ (a : AnswerKept). a.stamp) q.2)) made
    ∙ sum_of_each (λ (s : Stamp). one_if_same s.number n) (λ (a : AnswerKept). a.stamp) (old.answered ++ answer ∷ [])
    ∙ sum_by_push (λ (a : AnswerKept). one_if_same a.stamp.number n) old.answered answer
    ∙ ap (λ m. m + one_if_same answer.stamp.number n) (sym (sum_of_each (λ (s : Stamp). one_if_same s.number n) (λ (a : AnswerKept). a.stamp) old.answered))

-- The request that a reply answers was outstanding.
outstanding_before : (old new : Book) (now port : ℕ) (datagram : List ℕ) (answer : AnswerKept) → IsLawful old → IsLawful new → HearsReply old now port datagram answer new → 1 ≤ outstanding_with answer.stamp.number (outstanding_of old)
outstanding_before old new now port datagram answer lawful stays h =
    let Requests : Type 0 = List Recorded × List Stamp × List AnswerKept × ℕ in
    let made = coming_up old.watch now _ new h.book in
    let number = answer.stamp.number in
    let sent_same : stamps_with number new.sent ≡ stamps_with number old.sent = ap (λ (q : Requests). stamps_with number q.1) made in
    omega (arith, sent_same, answers_more old new now port datagram answer h number, same_number number, placed old lawful number, placed new stays number)

at_most_one : (is : Bool) → cond is 1 0 ≤ 1
at_most_one true = omega arith
at_most_one false = omega arith

counted_below : (book : Book) (given : List Outgoing) (number : ℕ) → 1 ≤ outstanding_with number (outstanding_of book) → AccountsForAll book given → 1 ≤ one_if_below number (next_number book)
counted_below book given number there accounts = omega (arith, there, accounts.once number)

-- A reply moves a request from the outstanding ones to those that a response answers.
pub accounts_by_reply : (old new : Book) (now port : ℕ) (datagram : List ℕ) (answer : AnswerKept) (outgoing : Outgoing) (given : List Outgoing) → IsLawful old → IsLawful new → HearsReply old now port datagram answer new → GoesOut answer outgoing → AccountsForAll old given → AccountsForAll new (given ++ outgoing ∷ [])
accounts_by_reply old new now port datagram answer outgoing given lawful stays h out accounts =
    let Requests : Type 0 = List Recorded × List Stamp × List AnswerKept × ℕ in
    let made : requests_of new ≡ (old.queued, old.sent, old.answered ++ answer ∷ [], next_number old) = coming_up old.watch now _ new h.book in
    let number = answer.stamp.number in
    let numbers : next_number new ≡ next_number old = ap (λ (q : Requests). q.3) made in
    let sent : (n : ℕ) → queued_with n new.queued + stamps_with n new.sent ≡ queued_with n old.queued + stamps_with n old.sent = λ n. ap (λ (q : Requests). queued_with n q.0 + stamps_with n q.1) made in
    let kept = answers_more old new now port datagram answer h in
    let there = counted_below old given number (outstanding_before old new now port datagram answer lawful stays h) accounts in
    let small : number < 2 ^ 64 = below_mark number (next_number old) there accounts.fits in
    let answers : marked_number outgoing.reply.sending ≡ number = marked old port datagram answer outgoing now new lawful h out small in
    let more : (n : ℕ) → answered_with n (given ++ outgoing ∷ []) ≡ answered_with n given + one_if_same number n = λ n.
    sum_by_push (λ (r : Outgoing). one_if_same (marked_number r.reply.sending) n) given outgoing ∙ ap (λ m. answered_with n given + one_if_same m n) answers in
    accounts_on old new given (given ++ outgoing ∷ []) (λ n. 0) lawful stays accounts (omega (arith, numbers, accounts.fits))
    (λ n. omega (arith, sent n))
    (λ n. omega (arith, kept n, more n))
    (λ n. omega (arith, ap (one_if_below n) numbers))

-- The request that a reply answers was not answered before.
pub unanswered : (old new : Book) (now port : ℕ) (datagram : List ℕ) (answer : AnswerKept) (outgoing : Outgoing) (given : List Outgoing) → IsLawful old → IsLawful new → HearsReply old now port datagram answer new → GoesOut answer outgoing → AccountsForAll old given → answered_with (marked_number outgoing.reply.sending) given ≡ 0
unanswered old new now port datagram answer outgoing given lawful stays h out accounts =
    let there = outstanding_before old new now port datagram answer lawful stays h in
    let number = answer.stamp.number in
    let below = counted_below old given number there accounts in
    let small : number < 2 ^ 64 = below_mark number (next_number old) below accounts.fits in
    let none : answered_with number given ≡ 0 = omega (arith, there, accounts.once number, at_most_one (nat_lt number (next_number old))) in
    ap (λ n. answered_with n given) (marked old port datagram answer outgoing now new lawful h out small) ∙ none

-- The last of some items.
all_last : {X : Type 0} (P : X → Type 0) (xs : List X) (x : X) → All P (xs ++ x ∷ []) → P x
all_last P [] x all = All-head P x [] all
all_last P (y ∷ xs) x all = all_last P xs x (All-tail P y (xs ++ x ∷ []) all)

-- The answer that goes out is that of a record.
pub answers_record : (old new : Book) (now port : ℕ) (datagram : List ℕ) (answer : AnswerKept) (outgoing : Outgoing) → IsLawful new → HearsReply old now port datagram answer new → GoesOut answer outgoing → AnswersARecord outgoing
answers_record old new now port datagram answer outgoing stays h out =
    let Requests : Type 0 = List Recorded × List Stamp × List AnswerKept × ℕ in
    let made : requests_of new ≡ (old.queued, old.sent, old.answered ++ answer ∷ [], next_number old) = coming_up old.watch now _ new h.book in
    let kept : new.answered ≡ old.answered ++ answer ∷ [] = ap (λ (q : Requests). q.2) made in
    let Right : AnswerKept → Type 0 = IsVerified new.setup new.last new.served in
    let verified : Right answer = all_last Right old.answered answer (subst (All Right) kept stays.answers_verified) in
    record { answer = answer; answered = verified.answered; goes_out = out }

-- One response more, to a request that none before it answers.
once_cases : (own number before : ℕ) (is : Bool) → (own == number) ≡ is → before ≤ 1 → (own ≡ number → before ≡ 0) → before + cond is 1 0 ≤ 1
once_cases own number before true is most none = omega (arith, none (eqb-true own number is))
once_cases own number before false is most none = omega (arith, most)

pub once_more : (before : List Outgoing) (response : Outgoing) → EachOnce before → answered_with (marked_number response.reply.sending) before ≡ 0 → EachOnce (before ++ response ∷ [])
once_more before response once first number =
    let own = marked_number response.reply.sending in
    let more : answered_with number (before ++ response ∷ []) ≡ answered_with number before + one_if_same own number = sum_by_push (λ (r : Outgoing). one_if_same (marked_number r.reply.sending) number) before response in
    let most = once_cases own number (answered_with number before) (own == number) refl (once number) (λ same. ap (λ n. answered_with n before) (sym same) ∙ first) in
    omega (arith, more, most)

-- The counts of a lawful book add up.
pub add_up : (book : Book) → IsLawful book → AddUp (counts_of book)
add_up book lawful =
    let out : List Stamp = each (λ e. e.request.stamp) (outstanding_of book) in
    omega (
      arith,
      ap length lawful.in_order,
      length-append book.sent (each (λ r. r.stamp) book.queued),
      length-map book.queued (λ (r : Recorded). r.stamp),
      length_permutation book.sent (out ++ stamps_answered book) lawful.placed_once,
      length-append out (stamps_answered book),
      length-map (outstanding_of book) (λ (e : Outstanding). e.request.stamp),
      length-map book.answered (λ (a : AnswerKept). a.stamp),
      lawful.served_count,
    )
