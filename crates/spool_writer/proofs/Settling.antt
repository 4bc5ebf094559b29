-- What waits once the first request of a lane was settled.
use Rattle.std.proofs.Common.{◌≡◌, ◌∙◌, ap, sym, refl, Bool, true, false, ℕ, ◌<◌, inl, inr, List, [], ◌∷◌, length, Some, None, drop, cond, is_some}
use Rattle.std.proofs.lemmas.Bool.{false≢true}
use Rattle.std.proofs.lemmas.Option.{slice_get_cases}
use Rattle.spool_writer.specs.declared.offer_notes.Fate.{Fate}
use Rattle.spool_writer.specs.declared.offers.LaneOffers.{LaneOffers}
use Rattle.spool_writer.specs.declared.waiting_keys.WaitingRequest.{WaitingRequest}
use Rattle.spool_writer.specs.Offers.{BecomesFor, Settles, first_of, is_done_with, requests_of, waiting_at, waiting_for}

-- the lane is done with it
pub settles_done : (fate : Fate) (lane : ℕ) (old new : List LaneOffers)
    → is_done_with fate ≡ true → BecomesFor old new lane (drop 1 (waiting_for old lane)) → Settles fate lane (Some old) (Some new)
settles_done fate lane old new done becomes = record {
  its = becomes.its ∙ sym (ap (λ b. cond b (drop 1 (waiting_for old lane)) (waiting_for old lane)) done);
  others = becomes.others;
}

-- it waits on
pub settles_not : (fate : Fate) (lane : ℕ) (old new : List LaneOffers)
    → is_done_with fate ≡ false → ((other : ℕ) → waiting_for new other ≡ waiting_for old other) → Settles fate lane (Some old) (Some new)
settles_not fate lane old new not_done same = record {
  its = same lane ∙ sym (ap (λ b. cond b (drop 1 (waiting_for old lane)) (waiting_for old lane)) not_done);
  others = λ other _. same other;
}

nothing_left : (is_done : Bool) (none : List WaitingRequest) → drop 1 none ≡ none → none ≡ cond is_done (drop 1 none) none
nothing_left true none same = sym same
nothing_left false none same = refl

-- none waited
pub settles_nothing : (fate : Fate) (lane : ℕ) → Settles fate lane None None
settles_nothing fate lane = record {
  its = nothing_left (is_done_with fate) [] refl;
  others = λ other _. refl;
}

-- none waits any more
pub settles_all : (fate : Fate) (lane : ℕ) (old new : List LaneOffers)
    → Settles fate lane (Some old) (Some new) → ((other : ℕ) → waiting_for new other ≡ []) → Settles fate lane (Some old) None
settles_all fate lane old new settles none = record {
  its = sym (none lane) ∙ settles.its;
  others = λ other differs. sym (none other) ∙ settles.others other differs;
}

none_of : (requests : List WaitingRequest) → is_some (first_of requests) ≡ false → requests ≡ []
none_of [] none = refl
none_of (request ∷ more) none = absurd (false≢true (sym none))

-- no lane has one that waits first, so none waits
pub none_waits : (lanes : List LaneOffers) (lane : ℕ)
    → (lane < length lanes → is_some (waiting_at lanes lane) ≡ false) → waiting_for lanes lane ≡ []
none_waits lanes lane none =
    elim (slice_get_cases lanes lane).1 [
      | inl within ↦ none_of (waiting_for lanes lane) (none within.1)
      | inr past ↦ ap requests_of past.1
    ]
