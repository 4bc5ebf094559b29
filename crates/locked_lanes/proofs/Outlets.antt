-- The outlet after each call of its lane, and the order of what was taken.
use Rattle.std.proofs.Common.{◌≡◌, ℕ, zero, suc, ◌+◌, ◌≤◌, List, [], ◌∷◌, ◌++◌, length, refl, sym, ap, ◌∙◌, arith, add-zero, add-one, length-append, subst}
use Rattle.std.specs.Prelude.{slice_get, slice_index_or, All, MatchOption, Result, Ok, Err, Some, IfOk, OnErr}
use Rattle.std.specs.List.{range_with_len}
use Rattle.std.proofs.lemmas.List.{map-append}
use Rattle.std.proofs.lemmas.List.Elements.{All-push}
use Rattle.rtrb.specs.declared.errors.PopError.{PopError}
use Rattle.rad_auth.specs.Replied.{Replied}
use Rattle.rad_config.specs.declared.limits.LimitNumbers.{LimitNumbers}
use Rattle.rad_lane.specs.declared.stamp.Stamp.{Stamp}
use Rattle.rad_lane.specs.declared.outgoing.Outgoing.{Outgoing}
use Rattle.rad_lane.specs.Setup.{LaneSetup}
use Rattle.rad_lane.specs.Outstanding.{AnswerKept}
use Rattle.rad_lane.specs.Book.{Book}
use Rattle.rad_lane.specs.Empty.{empty_book}
use Rattle.rad_lane.specs.Hears.{HearsReply, GoesOut}
use Rattle.rad_lane.specs.Outgoing.{InOrder}
use Rattle.locked_lanes.specs.Outlet.{Agrees, AgreesAtItsSerial, IsOutlet}
use Rattle.locked_lanes.proofs.Answers.{answers_of, one_more_by_reply}

pub range_more : (from count : ℕ) → range_with_len from (count + 1) ≡ range_with_len from count ++ (from + count) ∷ []
range_more from zero = rw add-zero refl
range_more from (suc count) =
    let next : from + 1 + count ≡ from + suc count = omega arith in
    let rest : range_with_len (from + 1) (count + 1) ≡ range_with_len (from + 1) count ++ (from + suc count) ∷ [] = range_more (from + 1) count ∙ ap (λ n. range_with_len (from + 1) count ++ n ∷ []) next in
    rw (add-one (suc count)) (ap (λ numbers. from ∷ numbers) (rw (add-one count) at rest))

-- One response more, of the next serial.
pub in_order_more : (before : List Outgoing) (response : Outgoing) → InOrder before → response.serial ≡ length before → InOrder (before ++ response ∷ [])
in_order_more before response h next =
    let from_zero : response.serial ≡ 0 + length before = omega (arith, next) in
    map-append (λ r. r.serial) before (response ∷ [])
    ∙ ap (λ ns. ns ++ response.serial ∷ []) h
    ∙ ap (λ n. range_with_len 0 (length before) ++ n ∷ []) from_zero
    ∙ sym (range_more 0 (length before))
    ∙ ap (λ n. range_with_len 0 n) (sym (length-append before (response ∷ [])))

-- What was taken stays in order, whatever a pop finds.
pub in_order_taken : (Q R : Type 0) (S : Outgoing → Type 0) (before after : List Outgoing) (result : Result Outgoing PopError) → InOrder before → IfOk result (λ r. (after ≡ before ++ r ∷ []) × S r × (r.serial ≡ length before)) → OnErr result ((after ≡ before) × R) → InOrder after
in_order_taken Q R S before after (Ok r) h ok err = subst InOrder (sym ok.0) (in_order_more before r h ok.2)
in_order_taken Q R S before after (Err e) h ok err = subst InOrder (sym err.0) h

-- What stands at a place stays there.
at_still : (P : Outgoing → Type 0) (given more : List Outgoing) (place : ℕ) → MatchOption (slice_get given place) ⊥ P → MatchOption (slice_get (given ++ more) place) ⊥ P
at_still P [] more zero h = absurd h
at_still P [] more (suc place) h = absurd h
at_still P (r ∷ given) more zero h = h
at_still P (r ∷ given) more (suc place) h = at_still P given more place h

at_last : (given : List Outgoing) (response : Outgoing) → slice_get (given ++ response ∷ []) (length given) ≡ Some response
at_last [] response = refl
at_last (r ∷ given) response = at_last given response

agrees_by : (old new : Book) (now port : ℕ) (datagram : List ℕ) (answer : AnswerKept) (outgoing : Outgoing) → HearsReply old now port datagram answer new → GoesOut answer outgoing → Agrees answer outgoing
agrees_by old new now port datagram answer outgoing h out = record {
  client = out.client;
  port = out.port;
  identifier = ap (λ (r : Replied). r.head.identifier) out.reply ∙ h.keeps.head_identifier ∙ sym (ap (λ (s : Stamp). s.identifier) h.keeps.stamp);
  sending = ap (λ (r : Replied). r.sending) out.reply;
  reply = ap (λ (r : Replied). r.reply) out.reply;
  response = ap (λ (r : Replied). r.response) out.reply;
}

-- Nothing was served yet.
pub outlet_at_first : (setup : LaneSetup) → IsOutlet (empty_book setup) []
outlet_at_first setup = record { served = refl; in_order = refl; agree = λ k d below. absurd (omega arith) }

-- The answer's response goes in as the next.
pub outlet_answered : (old new : Book) (now port : ℕ) (datagram : List ℕ) (answer : AnswerKept) (outgoing : Outgoing) (given : List Outgoing) → HearsReply old now port datagram answer new → GoesOut answer outgoing → IsOutlet old given → IsOutlet new (given ++ outgoing ∷ [])
outlet_answered old new now port datagram answer outgoing given h out outlet =
    let more = one_more_by_reply old new now port datagram answer h in
    let kept : new.answered ≡ old.answered ++ answer ∷ [] = ap (λ (a : List AnswerKept × ℕ × LaneSetup). a.0) more in
    let count : new.served ≡ old.served + 1 = ap (λ (a : List AnswerKept × ℕ × LaneSetup). a.1) more in
    let next : answer.serial ≡ length given = h.keeps.serial ∙ sym outlet.served in
    let Agreed : AnswerKept → Type 0 = AgreesAtItsSerial (given ++ outgoing ∷ []) in
    let there : slice_get (given ++ outgoing ∷ []) answer.serial ≡ Some outgoing = ap (λ n. slice_get (given ++ outgoing ∷ []) n) next ∙ at_last given outgoing in
    let last : Agreed answer = subst (λ o. MatchOption o ⊥ (Agrees answer)) (sym there) (agrees_by old new now port datagram answer outgoing h out) in
    let still : All Agreed old.answered = λ k d within. at_still (Agrees (slice_index_or old.answered k d)) given (outgoing ∷ []) _ (outlet.agree k d within) in
    record {
      served = omega (arith, count, outlet.served, length-append given (outgoing ∷ []));
      in_order = in_order_more given outgoing outlet.in_order (out.serial ∙ next);
      agree = subst (All Agreed) (sym kept) (All-push Agreed old.answered answer still last);
    }

-- Nothing was answered.
pub outlet_same : (old new : Book) (given : List Outgoing) → answers_of new ≡ answers_of old → IsOutlet old given → IsOutlet new given
outlet_same old new given same outlet = record {
  served = outlet.served ∙ sym (ap (λ (a : List AnswerKept × ℕ × LaneSetup). a.1) same);
  in_order = outlet.in_order;
  agree = subst (All (AgreesAtItsSerial given)) (sym (ap (λ (a : List AnswerKept × ℕ × LaneSetup). a.0) same)) outlet.agree;
}

-- The queue has the same bound.
bounded_by : (old new : Book) → new.setup ≡ old.setup → old.setup.limits.queue ≤ 65536 → new.setup.limits.queue ≤ 65536
bounded_by old new kept h = subst (λ (s : LaneSetup). s.limits.queue ≤ 65536) (sym kept) h

-- The lane has the same number.
pub numbered_answered : (old new : Book) (number now port : ℕ) (datagram : List ℕ) (answer : AnswerKept) → HearsReply old now port datagram answer new → old.setup.lane ≡ number → new.setup.lane ≡ number
numbered_answered old new number now port datagram answer h is = ap (λ (a : List AnswerKept × ℕ × LaneSetup). a.2.lane) (one_more_by_reply old new now port datagram answer h) ∙ is

pub numbered_same : (old new : Book) (number : ℕ) → answers_of new ≡ answers_of old → old.setup.lane ≡ number → new.setup.lane ≡ number
numbered_same old new number same is = ap (λ (a : List AnswerKept × ℕ × LaneSetup). a.2.lane) same ∙ is

-- The lane has the same limits.
pub limited_answered : (old new : Book) (limits : LimitNumbers) (now port : ℕ) (datagram : List ℕ) (answer : AnswerKept) → HearsReply old now port datagram answer new → old.setup.limits ≡ limits → new.setup.limits ≡ limits
limited_answered old new limits now port datagram answer h is = ap (λ (a : List AnswerKept × ℕ × LaneSetup). a.2.limits) (one_more_by_reply old new now port datagram answer h) ∙ is

pub limited_same : (old new : Book) (limits : LimitNumbers) → answers_of new ≡ answers_of old → old.setup.limits ≡ limits → new.setup.limits ≡ limits
limited_same old new limits same is = ap (λ (a : List AnswerKept × ℕ × LaneSetup). a.2.limits) same ∙ is

pub bounded_answered : (old new : Book) (now port : ℕ) (datagram : List ℕ) (answer : AnswerKept) → HearsReply old now port datagram answer new → old.setup.limits.queue ≤ 65536 → new.setup.limits.queue ≤ 65536
bounded_answered old new now port datagram answer h = bounded_by old new (ap (λ (a : List AnswerKept × ℕ × LaneSetup). a.2) (one_more_by_reply old new now port datagram answer h))

pub bounded_same : (old new : Book) → answers_of new ≡ answers_of old → old.setup.limits.queue ≤ 65536 → new.setup.limits.queue ≤ 65536
bounded_same old new same h = bounded_by old new (ap (λ (a : List AnswerKept × ℕ × LaneSetup). a.2) same) h
