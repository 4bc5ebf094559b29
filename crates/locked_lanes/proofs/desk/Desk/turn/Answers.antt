use Rattle.locked_lanes.proofs.Fates.{accounts_by_turn}
use Rattle.locked_lanes.proofs.OutletAfterTurn.{outlet_turned, bounded_turned, numbered_turned, limited_turned}
use Rattle.locked_lanes.proofs.desk.Desk.turn.Goals as goal

pub invariant_of-self : goal.invariant_of-self
invariant_of-self c = record {
  outlet = outlet_turned _ _ _ _ _ c.turn.ensures.turns c.args.self.now.outlet;
  accounted = accounts_by_turn c.args.self.now.lane c.turn.new.self c.args.moment c.turn.result _ c.turn.ensures.turns c.args.self.now.accounted;
  bounded = bounded_turned c.args.self.now.lane c.turn.new.self c.args.moment c.turn.result c.turn.ensures.turns c.args.self.now.bounded;
  numbered = numbered_turned c.args.self.now.lane c.turn.new.self _ c.args.moment c.turn.result c.turn.ensures.turns c.args.self.now.numbered;
  limited = limited_turned c.args.self.now.lane c.turn.new.self _ c.args.moment c.turn.result c.turn.ensures.turns c.args.self.now.limited;
}
