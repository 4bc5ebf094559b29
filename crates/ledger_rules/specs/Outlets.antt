-- What a tally shows of the outlet of a lane (own).
use Rattle.std.specs.Prelude.{◌≡◌, ℕ, List, length, map as each, Some}
use Rattle.rad_lane.specs.declared.outgoing.Outgoing.{Outgoing}
use Rattle.rad_lane.specs.Outgoing.{InOrder}
use Rattle.ledger_rules.specs.declared.tally.Tally.{Tally}

-- The serials of responses, in order.
abbrev pub serials_of : List Outgoing → List ℕ
serials_of responses = each (λ r. r.serial) responses

-- The end line counts as many as these, which are the responses that an outlet was given: their serials are 0, 1, 2 and so on.
pub record AreAllGiven (tally : Tally) (given : List Outgoing) : Type 0 where
  pub counted : tally.end ≡ Some (length given)
  pub in_order : InOrder given
