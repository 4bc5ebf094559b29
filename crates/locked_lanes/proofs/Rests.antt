-- The rest of a ring, and the answers of its serials.
use Rattle.std.proofs.Common.{◌≡◌, ℕ, zero, suc, ◌+◌, ◌<◌, ◌≤◌, List, [], ◌∷◌, ◌++◌, length, sym, ap, ◌∙◌, subst, arith, add-zero, zero-add, get_or, length-append, append_assoc, append-nil}
use Rattle.std.specs.Prelude.{slice_get, Option, Some, None}
use Rattle.std.specs.List.{range_with_len}
use Rattle.std.proofs.lemmas.Option.{get_or_from_slice_get, slice_get_within}
use Rattle.rad_lane.specs.declared.outgoing.Outgoing.{Outgoing}
use Rattle.rad_lane.specs.Outstanding.{AnswerKept}
use Rattle.rad_lane.specs.Outgoing.{InOrder}
use Rattle.locked_lanes.specs.Outlet.{Agrees}
use Rattle.locked_lanes.specs.declared.desk.Desk.{Desk}
use Rattle.locked_lanes.specs.declared.inlet.Inlet.{Inlet}
use Rattle.locked_lanes.specs.declared.report.Rest.{Rest}
use Rattle.locked_lanes.specs.declared.report.Rest.TheVariants.{Known, Unknown}
use Rattle.locked_lanes.specs.Desk.{book, given}
use Rattle.locked_lanes.specs.Inlet.{taken}
use Rattle.locked_lanes.specs.Ending.{GoOnFrom, AgreesAmong, TellsRest, MakesUp}
use Rattle.locked_lanes.proofs.Outlets.{in_order_more}

-- Of responses whose serials go on, the last ones go on where the first ones stop.
rest_from : (from : ℕ) (before rest : List Outgoing) → GoOnFrom from (before ++ rest) → GoOnFrom (from + length before) rest
rest_from from [] rest h = rw add-zero h
rest_from from (r ∷ before) rest h =
    let tail : GoOnFrom (from + 1) (before ++ rest) = cc in
    let next : from + 1 + length before ≡ from + suc (length before) = omega arith in
    subst (λ n. GoOnFrom n rest) next (rest_from (from + 1) before rest tail)

pub rest_goes_on : (before rest : List Outgoing) → InOrder (before ++ rest) → GoOnFrom (length before) rest
rest_goes_on before rest h = subst (λ n. GoOnFrom n rest) (zero-add (length before)) (rest_from 0 before rest h)

-- The serial at each place.
pub serial_at : (first : ℕ) (responses : List Outgoing) → GoOnFrom first responses → (k : ℕ) (d : Outgoing) → k < length responses → (get_or responses k d).serial ≡ first + k
serial_at first [] h k d within = absurd (omega arith)
serial_at first (r ∷ rest) h zero d within =
    let head : r.serial ≡ first = cc in rw add-zero head
serial_at first (r ∷ rest) h (suc k) d within =
    let tail : GoOnFrom (first + 1) rest = cc in
    let inside : k < length rest = omega arith in
    let at = serial_at (first + 1) rest tail k d inside in
    omega (arith, at)

-- An answer before the first serial, or after the last one, has no response among these.
pub agrees_before : (first : ℕ) (responses : List Outgoing) (answer : AnswerKept) → GoOnFrom first responses → answer.serial < first → AgreesAmong responses answer
agrees_before first responses answer h before = λ k d within is. absurd (omega (arith, serial_at first responses h k d within))

pub agrees_after : (first : ℕ) (responses : List Outgoing) (answer : AnswerKept) → GoOnFrom first responses → first + length responses ≤ answer.serial → AgreesAmong responses answer
agrees_after first responses answer h after = λ k d within is. absurd (omega (arith, serial_at first responses h k d within))

-- Else the one at its place decides.
pub agrees_at : (first : ℕ) (responses : List Outgoing) (answer : AnswerKept) (response : Outgoing) (place : ℕ) → GoOnFrom first responses → slice_get responses place ≡ Some response → answer.serial ≡ first + place → Agrees answer response → AgreesAmong responses answer
agrees_at first responses answer response place h there at agrees = λ k d within is.
    let serial = serial_at first responses h k d within in
    let same : place ≡ k = omega (arith, serial, is, at) in
    let found = get_or_from_slice_get responses place response d there in
    let here : get_or responses k d ≡ response = ap (λ n. get_or responses n d) (sym same) ∙ found in
    subst (Agrees answer) (sym here) agrees

pub agrees_there : (first : ℕ) (responses : List Outgoing) (answer : AnswerKept) (response : Outgoing) (place : ℕ) → GoOnFrom first responses → slice_get responses place ≡ Some response → answer.serial ≡ first + place → AgreesAmong responses answer → Agrees answer response
agrees_there first responses answer response place h there at all =
    let within = slice_get_within responses place response there in
    let here = get_or_from_slice_get responses place response response there in
    let serial : response.serial ≡ first + place = ap (λ (r : Outgoing). r.serial) (sym here) ∙ serial_at first responses h place response within in
    subst (Agrees answer) here (all place response within (ap (λ (r : Outgoing). r.serial) here ∙ serial ∙ sym at))

-- Responses in order, and those that go on from them, are in order together.
in_order_joined : (before rest : List Outgoing) → InOrder before → GoOnFrom (length before) rest → InOrder (before ++ rest)
in_order_joined before [] h on = subst InOrder (sym (append-nil before)) h
in_order_joined before (r ∷ rest) h on =
    let head : r.serial ≡ length before = cc in
    let tail : GoOnFrom (length before + 1) rest = cc in
    let count : length before + 1 ≡ length (before ++ r ∷ []) = sym (length-append before (r ∷ [])) in
    subst InOrder (append_assoc before (r ∷ []) rest)
    (in_order_joined (before ++ r ∷ []) rest (in_order_more before r h head) (subst (λ n. GoOnFrom n rest) count tail))

-- The rest that is known, and what was taken before it, have the serials of all that was given.
pub made_up_by : (lane : ℕ) (desk : Desk) (inlet : Option Inlet) (rest : Rest) → TellsRest lane (book desk).answered (book desk).served inlet rest → MakesUp (given desk) inlet rest
made_up_by lane desk None (Known rest) h = tt
made_up_by lane desk None Unknown h = tt
made_up_by lane desk (Some inlet) Unknown h = tt
made_up_by lane desk (Some inlet) (Known rest) h =
    let is = h.1.2 in
    let joined : InOrder (taken inlet ++ rest) = in_order_joined (taken inlet) rest inlet.in_order is.go_on in
    let count : length (taken inlet ++ rest) ≡ length (given desk) = length-append (taken inlet) rest ∙ is.all ∙ sym desk.outlet.served in
    joined ∙ ap (λ n. range_with_len 0 n) count ∙ sym desk.outlet.in_order
