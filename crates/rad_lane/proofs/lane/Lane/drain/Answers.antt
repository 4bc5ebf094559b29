use Rattle.std.proofs.Common.{Some, ap}
use Rattle.rad_lane.specs.Book.{Book}
use Rattle.rad_lane.proofs.LawfulAfterDrain.{stands_drained_by}
use Rattle.rad_lane.proofs.lane.Lane.drain.Goals as goal

pub invariant_of-self : goal.invariant_of-self
invariant_of-self g c = record {
  consistent =
      stands_drained_by _ _ _ _ _ _ _ _ c.self.view_is c.drained_at-count.ensures c.self.invariant.consistent;
  bounded = c.self.invariant.bounded;
  none_before = c.self.invariant.none_before;
}

pub returns : goal.returns
returns g c = record {
  count_is = c.drained_at-count.ensures;
  book = ap (λ (b : Book). let drained : Book = record b { drain = Some c.drained_at-count.result } in drained) c.self.view_is;
}
