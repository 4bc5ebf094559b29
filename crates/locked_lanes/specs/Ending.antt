-- The report of the lanes at the end (own).
use Rattle.std.specs.Prelude.{◌≡◌, ℕ, ◌+◌, ◌<◌, List, ◌++◌, length, map as each, slice_get, All, Option, Some, None, ⊤}
use Rattle.std.specs.List.{range_with_len, flat_map}
use Rattle.std.specs.List.Sorted.{IsPermutation}
use Rattle.std.specs.FinMap as map
use Rattle.rad_tables.specs.declared.slots.Slot.{Slot}
use Rattle.rad_lane.specs.declared.outgoing.Outgoing.{Outgoing}
use Rattle.rad_lane.specs.declared.stamp.Stamp.{Stamp}
use Rattle.rad_lane.specs.Stamp.{Recorded}
use Rattle.rad_lane.specs.Outstanding.{AnswerKept}
use Rattle.rad_lane.specs.Entries.{but_a_probe, sendings_in}
use Rattle.rad_lane.specs.Book.{Book}
use Rattle.rad_lane.specs.Lawful.{IsLawful}
use Rattle.rad_lane.specs.Counting.{counts_of}
use Rattle.locked_lanes.specs.declared.desk.Desk.{Desk}
use Rattle.locked_lanes.specs.declared.inlet.Inlet.{Inlet}
use Rattle.locked_lanes.specs.declared.report.Rest.{Rest}
use Rattle.locked_lanes.specs.declared.report.Rest.TheVariants.{Known, Unknown}
use Rattle.locked_lanes.specs.declared.report.LaneEnd.{LaneEnd}
use Rattle.locked_lanes.specs.declared.report.Report.{Report}
use Rattle.locked_lanes.specs.Outlet.{Agrees}
use Rattle.locked_lanes.specs.Fates.{AccountsForAll}
use Rattle.locked_lanes.specs.Desk.{book, given}
use Rattle.locked_lanes.specs.Inlet.{lane_of, taken, Empties}

-- The serials of the responses are `first` and the numbers that follow it.
abbrev pub GoOnFrom : ℕ → List Outgoing → Type 0
GoOnFrom first responses = each (λ r. r.serial) responses ≡ range_with_len first (length responses)

-- Each of the responses that has the answer's serial agrees with the answer.
abbrev pub AgreesAmong : List Outgoing → AnswerKept → Type 0
AgreesAmong responses answer = All (λ response. response.serial ≡ answer.serial → Agrees answer response) responses

-- `rest` follows the responses taken before: its serials continue from their number, both together are `served`
-- responses, and each kept answer agrees with the response of its serial, if that is in `rest`.
pub record IsTheRest (answered : List AnswerKept) (served : ℕ) (before rest : List Outgoing) : Type 0 where
  pub go_on : GoOnFrom (length before) rest
  pub all : length before + length rest ≡ served
  pub agree : All (AgreesAmong rest) answered

-- The inlet takes `rest` at the end, and that is the rest of the lane.
abbrev pub IsKnown : List AnswerKept → ℕ → Inlet → List Outgoing → Type 0
IsKnown answered served inlet rest = (after : Inlet) × Empties inlet rest after × IsTheRest answered served (taken inlet) rest

-- The inlet takes some responses at the end, and they are not the rest of the lane.
abbrev pub IsNotKnown : List AnswerKept → ℕ → Inlet → Type 0
IsNotKnown answered served inlet =
    (rest : List Outgoing) × (after : Inlet) × Empties inlet rest after × ¬ IsTheRest answered served (taken inlet) rest

-- What is reported of the rest of a lane. It is known if the inlet exists and is of this lane, and what it takes is the
-- rest; otherwise it is unknown.
abbrev pub TellsRest : ℕ → List AnswerKept → ℕ → Option Inlet → Rest → Type 0
TellsRest lane answered served None (Known rest) = ⊥
TellsRest lane answered served None Unknown = ⊤
TellsRest lane answered served (Some inlet) (Known rest) = (lane_of inlet ≡ lane) × IsKnown answered served inlet rest
TellsRest lane answered served (Some inlet) Unknown = lane_of inlet ≡ lane → IsNotKnown answered served inlet

-- An end accounts for each request: the counts equal the lengths (for accepted and answered after the opening is
-- added), and each request that was accepted is outstanding, answered or queued, once.
pub record Accounts (end : LaneEnd) (queued : List Recorded) : Type 0 where
  pub accepted : end.counts.accepted ≡ end.counts.opening + length end.accepted
  pub answered : end.counts.answered ≡ end.counts.opening + length end.answered
  pub outstanding : end.counts.outstanding ≡ map.len end.outstanding.entries
  pub queued_count : end.counts.queued ≡ length queued
  -- first the requests that were sent, then those that are queued
  pub sent : List Stamp
  pub in_order : end.accepted ≡ sent ++ each (λ r. r.stamp) queued
  pub once : IsPermutation sent (each (λ e. e.request.stamp) (sendings_in end.outstanding.entries) ++ each (λ a. a.stamp) end.answered)

-- The end of a lane that had this book, with this inlet.
pub record IsEnd (lane : ℕ) (book : Book) (inlet : Option Inlet) (end : LaneEnd) : Type 0 where
  pub lane_is : end.lane ≡ lane
  pub lawful : IsLawful book
  pub counts : end.counts ≡ counts_of book
  pub accepted : end.accepted ≡ book.accepted
  pub answered : end.answered ≡ book.answered
  pub outstanding : (slot : Slot) → map.get end.outstanding.entries slot ≡ but_a_probe (map.get book.held slot)
  pub ports : end.outstanding.ports ≡ book.setup.ports
  pub allotted : end.outstanding.allotted ≡ book.allotted
  pub accounts : Accounts end book.queued
  pub rest : TellsRest lane book.answered book.served inlet end.rest

-- If the rest is known, then what the inlet took before and the rest are as many as the responses given, and have the
-- same serials.
abbrev pub MakesUp : List Outgoing → Option Inlet → Rest → Type 0
MakesUp given (Some inlet) (Known rest) = each (λ r. r.serial) (taken inlet ++ rest) ≡ each (λ r. r.serial) given
MakesUp given None (Known rest) = ⊤
MakesUp given inlet Unknown = ⊤

-- The end at this place is that of the desk at the same place, with the inlet at that place, if there is one. Each request
-- that the lane ever accepted is queued, or outstanding, or answered by one of the responses given.
pub record EndsAt (desks : List Desk) (inlets : List Inlet) (ends : List LaneEnd) (lane : ℕ) : Type 0 where
  pub desk : Desk
  pub end : LaneEnd
  pub of_desk : slice_get desks lane ≡ Some desk
  pub there : slice_get ends lane ≡ Some end
  pub is_end : IsEnd lane (book desk) (slice_get inlets lane) end
  pub accounted : AccountsForAll (book desk) (given desk)
  pub made_up : MakesUp (given desk) (slice_get inlets lane) end.rest

-- The report of these desks, with these inlets: an end for each desk, and their queues joined in order.
pub record IsReport (desks : List Desk) (inlets : List Inlet) (report : Report) : Type 0 where
  pub counted : length report.ends ≡ length desks
  pub ends : (lane : ℕ) → lane < length desks → EndsAt desks inlets report.ends lane
  pub queued : each (λ k. k.recorded) report.queued.items ≡ flat_map (λ d. (book d).queued) desks

-- The report of `lanes` desks: those that closing the proxy finds behind its locks.
pub record IsReportOf (lanes : ℕ) (inlets : List Inlet) (report : Report) : Type 0 where
  pub desks : List Desk
  pub counted : length desks ≡ lanes
  pub report_is : IsReport desks inlets report
