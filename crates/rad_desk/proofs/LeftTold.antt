-- What a ledger was told, put together from its parts.
use Rattle.std.proofs.Common.{◌≡◌, ℕ, zero, suc, ◌+◌, ◌-◌, ◌<◌, ◌≤◌, ◌^◌, List, [], ◌∷◌, ◌++◌, length, get_or, take, drop, Option, Some, None, nat_lt, false, refl, sym, ap, ◌∙◌, arith, append-nil, append_assoc, length-take}
use Rattle.std.specs.Prelude.{map as each}
use Rattle.std.specs.List.{flat_map, range_with_len}
use Rattle.std.proofs.lemmas.Bool.Decides.{nat_tests}
use Rattle.std.specs.Int.{w16, w64, from_be_bytes, to_be_bytes}
use Rattle.std.proofs.lemmas.List.{drop-drop, take_more, drop_more, take_all}
use Rattle.std.proofs.lemmas.Nat.{from_be_bytes-to_be_bytes_8}
use Rattle.std.proofs.Math.Seq.{drop-append_seam}
use Rattle.std.proofs.Math.ListN.{drop_of_length-le}
use Rattle.rad_packet.specs.Packet.{IsPacketText, packet_text}
use Rattle.rad_packet.proofs.Buffer.{take-put_behind, header-is}
use Rattle.rad_auth.specs.declared.mark.Mark.{Mark}
use Rattle.rad_auth.specs.declared.reply.RequestHead.{RequestHead}
use Rattle.rad_auth.specs.Mark.{EndsWithMark, mark_value}
use Rattle.rad_auth.proofs.Returns.{value_at_end}
use Rattle.rad_tables.specs.Pairs.{Table}
use Rattle.rad_lane.specs.declared.entry.Entry.{Entry}
use Rattle.rad_lane.specs.declared.outgoing.Outgoing.{Outgoing}
use Rattle.rad_lane.specs.Stamp.{Kept}
use Rattle.locked_lanes.specs.declared.report.LaneEnd.{LaneEnd}
use Rattle.locked_lanes.specs.Fates.{marked_number}
use Rattle.rad_desk.specs.Leaving.{Left, left_with, queued_left, restored, left_at, left_under, left_of_pairs, left_of_queue, left_of_lane, left_of_all}

-- The last eight octets of what was sent are the number of its mark.
pub number_at_end : (sending : List ℕ) (mark : Mark) → IsPacketText sending → EndsWithMark mark sending → mark.number < 2 ^ 64 → mark.number ≡ marked_number sending
unfolding mark_value
number_at_end sending mark p ends small =
    let lane = to_be_bytes w16 mark.lane in
    let number = to_be_bytes w64 mark.number in
    let place : length sending - 8 ≡ length sending - 10 + 2 = omega (arith, p.least) in
    let last : drop (length sending - 8) sending ≡ number = ap (λ n. drop n sending) place ∙ sym (drop-drop 2 (length sending - 10) sending) ∙ ap (drop 2) (value_at_end sending mark p ends) ∙ drop-append_seam lane number in
    sym (ap (from_be_bytes w64) last ∙ from_be_bytes-to_be_bytes_8 mark.number small)

pub left_none : (before : Option (List Left)) → left_with before [] ≡ before
left_none None = refl
left_none (Some before) = ap (λ l. Some l) (append-nil before)

pub left_append : (before : Option (List Left)) (first then : List Left) → left_with (left_with before first) then ≡ left_with before (first ++ then)
left_append None first then = refl
left_append (Some before) first then = ap (λ l. Some l) (append_assoc before first then)

-- A ledger that was told of these, and then of more; behind it something is left to tell.
pub left_onward : (before after start : Option (List Left)) (told rest more all : List Left) → after ≡ left_with before told → more ≡ told ++ rest → left_with before more ≡ left_with start all → left_with after rest ≡ left_with start all
left_onward before after start told rest more all t e is =
    ap (λ k. left_with k rest) t ∙ left_append before told rest ∙ ap (λ l. left_with before l) (sym e) ∙ is

-- Nothing is left to tell.
pub left_over : (after start : Option (List Left)) (rest all : List Left) → rest ≡ [] → left_with after rest ≡ left_with start all → after ≡ left_with start all
left_over after start rest all none is = sym (left_none after) ∙ ap (λ l. left_with after l) (sym none) ∙ is

-- Those of a number and of the numbers behind it.
pub range_more : (f : ℕ → List Left) (s n : ℕ) → s < n → flat_map f (range_with_len s (n - s)) ≡ f s ++ flat_map f (range_with_len (s + 1) (n - (s + 1)))
range_more f s n h = let one : n - s ≡ suc (n - (s + 1)) = omega arith in ap (λ k. flat_map f (range_with_len s k)) one

pub range_none : (f : ℕ → List Left) (s n : ℕ) → n ≤ s → flat_map f (range_with_len s (n - s)) ≡ []
range_none f s n h = let none : n - s ≡ 0 = omega arith in ap (λ k. flat_map f (range_with_len s k)) none

pub range_start : (f : ℕ → List Left) (n : ℕ) (start : Option (List Left)) (all : List Left) → flat_map f (range_with_len 0 n) ≡ all → left_with start (flat_map f (range_with_len 0 (n - 0))) ≡ left_with start all
range_start f n start all e = let same : n - 0 ≡ n = omega arith in ap (λ k. left_with start (flat_map f (range_with_len 0 k))) same ∙ ap (λ l. left_with start l) e

pub range_onward : (f : ℕ → List Left) (s n : ℕ) (before after start : Option (List Left)) (all : List Left) → s < n → after ≡ left_with before (f s) → left_with before (flat_map f (range_with_len s (n - s))) ≡ left_with start all → left_with after (flat_map f (range_with_len (s + 1) (n - (s + 1)))) ≡ left_with start all
range_onward f s n before after start all h t is =
    left_onward before after start (f s) (flat_map f (range_with_len (s + 1) (n - (s + 1)))) (flat_map f (range_with_len s (n - s))) all t (range_more f s n h) is

pub range_over : (f : ℕ → List Left) (s n : ℕ) (after start : Option (List Left)) (all : List Left) → n ≤ s → left_with after (flat_map f (range_with_len s (n - s))) ≡ left_with start all → after ≡ left_with start all
range_over f s n after start all h is = left_over after start (flat_map f (range_with_len s (n - s))) all (range_none f s n h) is

pub under_is : (lane : ℕ) (outstanding : Table Entry) (port : ℕ) → flat_map (left_at lane outstanding port) (range_with_len 0 256) ≡ left_under lane outstanding port
unfolding left_under
under_is lane outstanding port = refl

pub pairs_are : (lane : ℕ) (outstanding : Table Entry) → flat_map (left_under lane outstanding) (range_with_len 0 4) ≡ left_of_pairs lane outstanding
unfolding left_of_pairs
pairs_are lane outstanding = refl

-- The requests of the responses up to one, and of that one.
each_push : (f : Outgoing → Left) (xs : List Outgoing) (x : Outgoing) → each f (xs ++ x ∷ []) ≡ each f xs ++ f x ∷ []
each_push f [] x = refl
each_push f (y ∷ xs) x = ap (λ l. f y ∷ l) (each_push f xs x)

pub responses_more : (f : Outgoing → Left) (xs : List Outgoing) (i : ℕ) (x : Outgoing) (before after start : Option (List Left)) → i < length xs → x ≡ get_or xs i x → before ≡ left_with start (each f (take i xs)) → after ≡ left_with before (f x ∷ []) → after ≡ left_with start (each f (take (i + 1) xs))
responses_more f xs i x before after start lt here is told =
    let front : take (i + 1) xs ≡ take i xs ++ x ∷ [] = take_more xs i x lt ∙ ap (λ y. take i xs ++ y ∷ []) (sym here) in
    told ∙ ap (λ k. left_with k (f x ∷ [])) is ∙ left_append start (each f (take i xs)) (f x ∷ [])
    ∙ ap (λ l. left_with start l) (sym (ap (each f) front ∙ each_push f (take i xs) x))

pub responses_all : (f : Outgoing → Left) (xs : List Outgoing) (i : ℕ) (after start : Option (List Left)) → length xs ≤ i → after ≡ left_with start (each f (take i xs)) → after ≡ left_with start (each f xs)
responses_all f xs i after start le is = is ∙ ap (λ ys. left_with start (each f ys)) (take_all i xs le)

-- A record of the queue, and those behind it.
pub queue_onward : (lane n i : ℕ) (q rest : List Kept) (x : Kept) (before after start : Option (List Left)) (all : List Left) → i < n → q ≡ x ∷ rest → after ≡ left_with before (queued_left lane x.recorded ∷ []) → left_with before (left_of_queue lane (take (n - i) q)) ≡ left_with start all → left_with after (left_of_queue lane (take (n - (i + 1)) rest)) ≡ left_with start all
queue_onward lane n i q rest x before after start all h e t is =
    let one : n - i ≡ suc (n - (i + 1)) = omega arith in
    let first : take (n - i) q ≡ x ∷ take (n - (i + 1)) rest = ap (λ k. take k q) one ∙ ap (take (suc (n - (i + 1)))) e in
    left_onward before after start (queued_left lane x.recorded ∷ []) (left_of_queue lane (take (n - (i + 1)) rest)) (left_of_queue lane (take (n - i) q)) all t (ap (left_of_queue lane) first) is

pub queue_drops : (n i : ℕ) (q rest all : List Kept) (x : Kept) → i < n → q ≡ x ∷ rest → drop (n - i) q ≡ all → drop (n - (i + 1)) rest ≡ all
queue_drops n i q rest all x h e is =
    let one : n - i ≡ suc (n - (i + 1)) = omega arith in
    sym (ap (λ k. drop k q) one ∙ ap (drop (suc (n - (i + 1)))) e) ∙ is

abbrev none : List Kept
none = []

take-nil : (n : ℕ) → take n none ≡ []
take-nil zero = refl
take-nil (suc n) = refl

drop-nil : (n : ℕ) → drop n none ≡ []
drop-nil zero = refl
drop-nil (suc n) = refl

pub queue_empty : (lane n : ℕ) (q : List Kept) → q ≡ [] → left_of_queue lane (take n q) ≡ []
queue_empty lane n q e = ap (λ l. left_of_queue lane (take n l)) e ∙ ap (left_of_queue lane) (take-nil n)

pub queue_dropped : (n : ℕ) (q rest all : List Kept) → q ≡ [] → rest ≡ [] → drop n q ≡ all → rest ≡ all
queue_dropped n q rest all e none is = none ∙ sym (drop-nil n) ∙ ap (drop n) (sym e) ∙ is

pub queue_done : (lane n i : ℕ) (q : List Kept) → n ≤ i → left_of_queue lane (take (n - i) q) ≡ []
queue_done lane n i q h = let none : n - i ≡ 0 = omega arith in ap (λ k. left_of_queue lane (take k q)) none

pub queue_rest : (n i : ℕ) (q all : List Kept) → n ≤ i → drop (n - i) q ≡ all → q ≡ all
queue_rest n i q all h is = let none : n - i ≡ 0 = omega arith in sym (ap (λ k. drop k q) none) ∙ is

pub queue_start : (n : ℕ) → n - 0 ≡ n
queue_start n = omega arith

-- A lane, and those behind it.
pub lanes_onward : (ends : List LaneEnd) (i : ℕ) (end : LaneEnd) (q rest : List Kept) (before after start : Option (List Left)) (all : List Left) → i < length ends → end ≡ get_or ends i end → rest ≡ drop end.counts.queued q → after ≡ left_with before (left_of_lane end (take end.counts.queued q)) → left_with before (left_of_all (drop i ends) q) ≡ left_with start all → left_with after (left_of_all (drop (i + 1) ends) rest) ≡ left_with start all
lanes_onward ends i end q rest before after start all lt here r t is =
    let front : drop i ends ≡ end ∷ drop (i + 1) ends = drop_more ends i end lt ∙ ap (λ e. e ∷ drop (i + 1) ends) (sym here) in
    let more : left_of_all (drop i ends) q ≡ left_of_lane end (take end.counts.queued q) ++ left_of_all (drop (i + 1) ends) rest =
    ap (λ es. left_of_all es q) front ∙ ap (λ k. left_of_lane end (take end.counts.queued q) ++ left_of_all (drop (i + 1) ends) k) (sym r) in
    left_onward before after start (left_of_lane end (take end.counts.queued q)) (left_of_all (drop (i + 1) ends) rest) (left_of_all (drop i ends) q) all t more is

pub lanes_over : (ends : List LaneEnd) (i : ℕ) (q : List Kept) (after start : Option (List Left)) (all : List Left) → length ends ≤ i → left_with after (left_of_all (drop i ends) q) ≡ left_with start all → after ≡ left_with start all
lanes_over ends i q after start all le is =
    left_over after start (left_of_all (drop i ends) q) all (ap (λ es. left_of_all es q) (drop_of_length-le ends le)) is

-- The request that was sent as these octets.
pub restored_is : (head : RequestHead) (sent : List ℕ) → 32 ≤ length sent → length sent ≤ 4096 → restored head sent ≡ packet_text 4 head.identifier head.authenticator (take (length sent - 32) (drop 20 sent))
restored_is head sent least most =
    let a : nat_lt (length sent) 32 ≡ false = grind (arith, nat_tests) in
    let b : nat_lt 4096 (length sent) ≡ false = grind (arith, nat_tests) in
    rw (a, b) refl

-- A buffer to whose front a header, an Authenticator and attributes were copied.
pub request_is : (r0 r1 r2 r3 auth more : List ℕ) (a b c d e1 e2 e3 n : ℕ) → r1 ≡ take 0 r0 ++ (a ∷ b ∷ c ∷ d ∷ []) ++ drop e1 r0 → r2 ≡ take 4 r1 ++ auth ++ drop e2 r1 → r3 ≡ take 20 r2 ++ more ++ drop e3 r2 → 4 ≤ e1 → e2 ≡ 20 → length auth ≡ 16 → n ≡ 20 + length more → e3 ≡ n → take n r3 ≡ a ∷ b ∷ c ∷ d ∷ (auth ++ more)
request_is r0 r1 r2 r3 auth more a b c d e1 e2 e3 n p1 p2 p3 h1 h2 len total end =
    let head : take 20 r2 ≡ a ∷ b ∷ c ∷ d ∷ auth = ap (take 20) p2 ∙ (ap (λ ys. take 20 (take 4 ys ++ auth ++ drop e2 ys)) p1 ∙ header-is r0 auth a b c d e1 e2 h1 h2 len) in
    let fits : 20 ≤ length r2 = omega (arith, ap length head, length-take 20 r2, len) in
    ap (take n) (p3 ∙ ap (λ e. take 20 r2 ++ more ++ drop e r2) end)
    ∙ (take-put_behind r2 more 20 n fits total ∙ ap (λ ys. ys ++ more) head)
