-- What is told of inlets that got room is what is told of them before.
use Rattle.std.proofs.Common.{◌≡◌, ℕ, ◌<◌, ◌≤◌, List, [], ◌++◌, length, get_or, take, drop, sym, ap, ◌∙◌, subst, arith, inl, inr}
use Rattle.std.proofs.Math.Seq.{take-append_seam}
use Rattle.std.specs.Prelude.{slice_get, Option, Some, None}
use Rattle.std.proofs.lemmas.Option.{slice_get_cases, slice_get_past, slice_get-get_or}
use Rattle.rtrb.specs.Ring.{received, consumer_capacity, SameConsumer}
use Rattle.rad_lane.specs.declared.outgoing.Outgoing.{Outgoing}
use Rattle.rad_lane.specs.Outstanding.{AnswerKept}
use Rattle.locked_lanes.specs.declared.desk.Desk.{Desk}
use Rattle.locked_lanes.specs.declared.inlet.Inlet.{Inlet}
use Rattle.locked_lanes.specs.declared.report.Report.{Report}
use Rattle.locked_lanes.specs.declared.report.Rest.{Rest}
use Rattle.locked_lanes.specs.declared.report.Rest.TheVariants.{Known, Unknown}
use Rattle.locked_lanes.specs.Inlet.{taken, seen, IsUntouched, Empties}
use Rattle.locked_lanes.specs.Desk.{book}
use Rattle.locked_lanes.specs.Refusing.{AreUntouched}
use Rattle.locked_lanes.specs.Ending.{IsTheRest, TellsRest, IsReport}
use Rattle.locked_lanes.proofs.Rests.{made_up_by}

empties_before : (old new : Inlet) (rest : List Outgoing) (after : Inlet) → IsUntouched old new → Empties new rest after → Empties old rest after
empties_before old new rest after u h = record {
  took = subst (λ t. taken after ≡ received t ++ rest) u.taker h.took;
  all = subst (λ t. length rest < consumer_capacity t → seen after ≡ []) u.taker h.all;
  same = record { lane = h.same.lane ∙ u.lane; ring = subst (λ t. SameConsumer t after.taker) u.taker h.same.ring };
}

the_rest_before : (answered : List AnswerKept) (served : ℕ) (old new : Inlet) (rest : List Outgoing) → new.taker ≡ old.taker → IsTheRest answered served (taken new) rest → IsTheRest answered served (taken old) rest
the_rest_before answered served old new rest same = subst (λ t. IsTheRest answered served (received t) rest) same

-- Both are there and untouched, or neither is.
abbrev UntouchedIfThere : Option Inlet → Option Inlet → Type 0
UntouchedIfThere None None = Unit {0}
UntouchedIfThere None (Some new) = ⊥
UntouchedIfThere (Some old) None = ⊥
UntouchedIfThere (Some old) (Some new) = IsUntouched old new

tells_before : (lane : ℕ) (answered : List AnswerKept) (served : ℕ) (old new : Option Inlet) (rest : Rest) → UntouchedIfThere old new → TellsRest lane answered served new rest → TellsRest lane answered served old rest
tells_before lane answered served None None rest u h = h
tells_before lane answered served None (Some new) rest u h = absurd u
tells_before lane answered served (Some old) None rest u h = absurd u
tells_before lane answered served (Some old) (Some new) (Known rest) u h =
    (sym u.lane ∙ h.0, (h.1.0, empties_before old new rest h.1.0 u h.1.1, the_rest_before answered served old new rest u.taker h.1.2))
tells_before lane answered served (Some old) (Some new) Unknown u h = λ is.
    let not_known = h (u.lane ∙ is) in
    (not_known.0, not_known.1, empties_before old new not_known.0 not_known.1 u not_known.2, λ whole. not_known.3 (the_rest_before answered served new old not_known.0 (sym u.taker) whole))

both_there : (old new : List Inlet) (lane : ℕ) → AreUntouched old new → UntouchedIfThere (slice_get old lane) (slice_get new lane)
both_there old new lane u =
    elim (slice_get_cases new lane).1 [
      | inl found ↦
          let x = found.0 in
          let within : lane < length old = omega (arith, found.1, u.counted) in
          let there : slice_get old lane ≡ Some (get_or old lane x) = slice_get-get_or old lane x within in
          let same : IsUntouched (get_or old lane x) x = subst (IsUntouched (get_or old lane x)) found.3 (u.each lane x within) in
          subst (λ o. UntouchedIfThere o (slice_get new lane)) (sym there) (subst (UntouchedIfThere (Some (get_or old lane x))) (sym found.2) same)
      | inr past ↦
          let beyond : length old ≤ lane = omega (arith, past.0, u.counted) in
          subst (λ o. UntouchedIfThere o (slice_get new lane)) (sym (slice_get_past old lane beyond)) (subst (UntouchedIfThere None) (sym past.1) tt)
    ]

pub report_before : (desks : List Desk) (old new : List Inlet) (report : Report) → AreUntouched old new → IsReport desks new report → IsReport desks old report
report_before desks old new report u h = record {
  counted = h.counted;
  ends = λ lane within.
      let at = h.ends lane within in
      let is = at.is_end in
      let told = tells_before lane (book at.desk).answered (book at.desk).served (slice_get old lane) (slice_get new lane) at.end.rest (both_there old new lane u) is.rest in
      record {
        desk = at.desk;
        end = at.end;
        of_desk = at.of_desk;
        there = at.there;
        is_end = record {
          lane_is = is.lane_is;
          lawful = is.lawful;
          counts = is.counts;
          accepted = is.accepted;
          answered = is.answered;
          outstanding = is.outstanding;
          ports = is.ports;
          allotted = is.allotted;
          accounts = is.accounts;
          rest = told;
        };
        accounted = at.accounted;
        made_up = made_up_by lane at.desk (slice_get old lane) at.end.rest told;
      };
  queued = h.queued;
}

-- All that is in a vector, once its inlets are replaced by as many.
pub all_of_them : (old new : List Inlet) (len : ℕ) → len ≡ length old → AreUntouched old new → take len (new ++ drop (length new) old) ≡ new
all_of_them old new len count u =
    let same : len ≡ length new = omega (arith, u.counted, count) in
    ap (λ n. take n (new ++ drop (length new) old)) same ∙ take-append_seam new (drop (length new) old)
