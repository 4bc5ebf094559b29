-- What is left of a lane accounts for each of its requests.
use Rattle.std.proofs.Common.{◌≡◌, ◌+◌, List, ◌++◌, length, sym, ap, ◌∙◌, subst}
use Rattle.std.specs.Prelude.{map as each}
use Rattle.std.specs.List.Sorted.{IsPermutation}
use Rattle.std.proofs.lemmas.List.Sorted.{IsPermutation-trans, IsPermutation-append_left}
use Rattle.rad_lane.specs.declared.stamp.Stamp.{Stamp}
use Rattle.std.specs.FinMap as map
use Rattle.rad_tables.specs.Pairs.{Table}
use Rattle.rad_lane.specs.declared.counts.Counts.{Counts}
use Rattle.rad_lane.specs.declared.entry.Entry.{Entry}
use Rattle.rad_lane.specs.Outstanding.{Outstanding, AnswerKept}
use Rattle.rad_lane.specs.Book.{Book, outstanding_of, outstanding_count}
use Rattle.rad_lane.specs.Entries.{sendings_in}
use Rattle.rad_lane.specs.Lawful.{IsLawful}
use Rattle.rad_lane.specs.Counting.{counts_of}
use Rattle.rad_lane.specs.Closes.{Left, Leaves}
use Rattle.locked_lanes.specs.declared.report.LaneEnd.{LaneEnd}
use Rattle.locked_lanes.specs.Ending.{Accounts}

-- The end has the parts that the lane left.
pub record HasParts (end : LaneEnd) (left : Left) : Type 0 where
  pub accepted : end.accepted ≡ left.accepted
  pub answered : end.answered ≡ left.answered
  pub outstanding : end.outstanding ≡ left.outstanding

pub accounts : (book : Book) (left : Left) (end : LaneEnd) → IsLawful book → Leaves book left → HasParts end left → end.counts ≡ counts_of book → Accounts end book.queued
accounts book left end lawful leaves parts counts =
    let accepted : end.accepted ≡ book.accepted = parts.accepted ∙ leaves.accepted in
    let answered : end.answered ≡ book.answered = parts.answered ∙ leaves.answered in
    let out_count : map.len end.outstanding.entries ≡ outstanding_count book = ap (λ (t : Table Entry). map.len t.entries) parts.outstanding ∙ leaves.count in
    let asked = each (λ (e : Outstanding). e.request.stamp) (outstanding_of book) in
    let left_stamps : IsPermutation asked (each (λ (e : Outstanding). e.request.stamp) (sendings_in end.outstanding.entries)) =
    subst (λ (t : Table Entry). IsPermutation asked (each (λ (e : Outstanding). e.request.stamp) (sendings_in t.entries))) (sym parts.outstanding) leaves.stamps in
    let answered_stamps = each (λ (a : AnswerKept). a.stamp) end.answered in
    let placed : IsPermutation book.sent (asked ++ answered_stamps) =
    subst (λ (xs : List AnswerKept). IsPermutation book.sent (asked ++ each (λ (a : AnswerKept). a.stamp) xs)) (sym answered) lawful.placed_once in
    record {
      accepted = subst (λ (k : Counts). k.accepted ≡ k.opening + length end.accepted) (sym counts) (ap (λ (xs : List Stamp). book.opening + length xs) (sym accepted));
      answered = subst (λ (k : Counts). k.answered ≡ k.opening + length end.answered) (sym counts) (lawful.served_count ∙ ap (λ (xs : List AnswerKept). book.opening + length xs) (sym answered));
      outstanding = ap (λ (k : Counts). k.outstanding) counts ∙ sym out_count;
      queued_count = ap (λ (k : Counts). k.queued) counts;
      sent = book.sent;
      in_order = accepted ∙ lawful.in_order;
      once = IsPermutation-trans _ _ _ placed (IsPermutation-append_left answered_stamps _ _ left_stamps);
    }
