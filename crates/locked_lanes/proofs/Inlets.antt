-- An inlet through several looks at its ring, and what it takes at the end.
use Rattle.std.proofs.Common.{◌≡◌, ℕ, List, length, refl, sym, ap, ◌∙◌, subst, length-append}
use Rattle.std.specs.Prelude.{All}
use Rattle.rtrb.specs.Ring.{SameConsumer}
use Rattle.rad_lane.specs.declared.outgoing.Outgoing.{Outgoing}
use Rattle.rad_lane.specs.Outstanding.{AnswerKept}
use Rattle.locked_lanes.specs.declared.inlet.Inlet.{Inlet}
use Rattle.rad_lane.specs.Outgoing.{InOrder}
use Rattle.locked_lanes.specs.Inlet.{lane_of, taken, SameInlet, Empties}
use Rattle.locked_lanes.specs.Ending.{AgreesAmong, IsTheRest}
use Rattle.locked_lanes.proofs.Rests.{rest_goes_on}

pub same_by_taker : (old new : Inlet) → lane_of new ≡ lane_of old → new.taker ≡ old.taker → SameInlet old new
same_by_taker old new lane taker = record { lane = lane; ring = subst (λ t. SameConsumer old.taker t) (sym taker) ((refl, refl, refl, refl), refl) }

pub same_later : (a b c : Inlet) → SameInlet a b → SameInlet b c → SameInlet a c
same_later a b c h k = record {
  lane = k.lane ∙ h.lane;
  ring = ((k.ring.0.0 ∙ h.ring.0.0, k.ring.0.1 ∙ h.ring.0.1, k.ring.0.2 ∙ h.ring.0.2, k.ring.0.3 ∙ h.ring.0.3), k.ring.1 ∙ h.ring.1);
}

-- What is taken at the end is the rest, where it makes up the number and agrees.
pub is_the_rest : (answered : List AnswerKept) (served : ℕ) (before : Inlet) (rest : List Outgoing) (after : Inlet) → Empties before rest after → length (taken after) ≡ served → All (AgreesAmong rest) answered → IsTheRest answered served (taken before) rest
is_the_rest answered served before rest after h count agree = record {
  go_on = rest_goes_on (taken before) rest (subst InOrder h.took after.in_order);
  all = sym (length-append (taken before) rest) ∙ sym (ap length h.took) ∙ count;
  agree = agree;
}

-- If it were the rest, then so many had been taken.
pub all_taken : (answered : List AnswerKept) (served : ℕ) (before : Inlet) (rest : List Outgoing) (after : Inlet) → Empties before rest after → IsTheRest answered served (taken before) rest → length (taken after) ≡ served
all_taken answered served before rest after h is = ap length h.took ∙ length-append (taken before) rest ∙ is.all
