use Rattle.std.proofs.Common.{ap}
use Rattle.locked_lanes.proofs.Answers.{answers_of}
use Rattle.locked_lanes.proofs.Fates.{accounts_by_drain}
use Rattle.locked_lanes.proofs.Outlets.{outlet_same, bounded_same, numbered_same, limited_same}
use Rattle.locked_lanes.proofs.desk.Desk.drain.Goals as goal

pub invariant_of-self : goal.invariant_of-self
invariant_of-self c =
    let same = ap answers_of c.drain.ensures.book in
    record { outlet = outlet_same _ _ _ same c.args.self.now.outlet; accounted = accounts_by_drain c.args.self.now.lane c.drain.new.self _ _ c.drain.ensures c.args.self.now.accounted; bounded = bounded_same c.args.self.now.lane c.drain.new.self same c.args.self.now.bounded; numbered = numbered_same c.args.self.now.lane c.drain.new.self _ same c.args.self.now.numbered; limited = limited_same c.args.self.now.lane c.drain.new.self _ same c.args.self.now.limited }
