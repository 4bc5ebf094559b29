-- The stamps of the requests that were sent are the front of those accepted.
use Rattle.std.proofs.Common.{◌≡◌, ℕ, ◌-◌, ◌≤◌, List, length, take, Option, sym, ap, ◌∙◌, arith}
use Rattle.std.proofs.lemmas.List.{length-take-le}
use Rattle.rad_tables.specs.Pairs.{Table}
use Rattle.rad_lane.specs.declared.stamp.Stamp.{Stamp}
use Rattle.rad_lane.specs.declared.entry.Entry.{Entry}
use Rattle.rad_lane.specs.declared.watch.Watch.{Watch}
use Rattle.rad_lane.specs.Stamp.{Kept}
use Rattle.rad_lane.specs.Setup.{LaneSetup}
use Rattle.rad_lane.specs.Outstanding.{AnswerKept}
use Rattle.rad_lane.specs.Book.{Book}
use Rattle.rad_lane.specs.Lawful.{IsLawful}
use Rattle.rad_lane.specs.internal.Invariant.{book_of}
use Rattle.rad_lane.proofs.LawfulAfterAccept.{kept_fits}

module _ (setup : LaneSetup) (opening : ℕ) (accepted : List Stamp) (kept : List Kept) (answered : List AnswerKept) (served : ℕ) (slots : Table Entry) (drain : Option ℕ) (watch : Watch) (last : ℕ) where
  abbrev before : Book
  before = book_of setup opening accepted kept answered served slots drain watch last

  module _ (value : Book) (same : before ≡ value) (l : IsLawful before) (all : List Stamp) (all_are : all ≡ value.accepted) (count : ℕ) (counted : count ≡ length kept) where
    here : all ≡ accepted
    here = all_are ∙ ap (λ (b : Book). b.accepted) (sym same)

    pub queued_within : count ≤ length all
    queued_within =
        let fits = kept_fits setup opening accepted kept answered served slots drain watch last l in
        let as_many = ap length here in
        omega (arith, fits, as_many, counted)

    pub front_length : length all - count ≡ length (take (length all - count) all)
    front_length = sym (length-take-le (length all - count) all (omega arith))

    pub front_is : take (length all - count) all ≡ value.sent
    front_is =
        ap (λ (xs : List Stamp). take (length xs - count) xs) here
        ∙ ap (λ n. take (length accepted - n) accepted) counted
        ∙ ap (λ (b : Book). b.sent) same
