use Rattle.rad_lane.specs.Datagrams.{Datagrams}
use Rattle.locked_lanes.proofs.Answers.{same_by_accept}
use Rattle.locked_lanes.proofs.Fates.{accounts_by_accept}
use Rattle.locked_lanes.proofs.Outlets.{outlet_same, bounded_same, numbered_same, limited_same}
use Rattle.locked_lanes.proofs.Wires.{returns as returns_verified}
use Rattle.locked_lanes.proofs.desk.Desk.accept.Goals as goal

pub invariant_of-self : goal.invariant_of-self
invariant_of-self c =
    let datagrams : Datagrams = record { before = c.args.datagram.now; after = c.accept-taken.new.datagram } in
    let same = same_by_accept c.args.self.now.lane c.accept-taken.new.self c.args.request.now c.args.moment c.accept-taken.result datagrams c.accept-taken.ensures in
    record { outlet = outlet_same _ _ _ same c.args.self.now.outlet; accounted = accounts_by_accept c.args.self.now.lane c.accept-taken.new.self c.args.request.now c.args.moment c.accept-taken.result datagrams _ c.accept-taken.ensures c.args.self.now.accounted; bounded = bounded_same c.args.self.now.lane c.accept-taken.new.self same c.args.self.now.bounded; numbered = numbered_same c.args.self.now.lane c.accept-taken.new.self _ same c.args.self.now.numbered; limited = limited_same c.args.self.now.lane c.accept-taken.new.self _ same c.args.self.now.limited }

pub returns-clause-returns : goal.returns-clause-returns
returns-clause-returns c =
    let datagrams : Datagrams = record { before = c.args.datagram.now; after = c.accept-taken.new.datagram } in
    returns_verified c.args.self.now.lane c.accept-taken.new.self c.args.request.now c.args.moment c.accept-taken.result datagrams c.keep_law.ensures c.accept-taken.ensures

pub returns-clause-lawful : goal.returns-clause-lawful
returns-clause-lawful c = record {
  old = c.args.self.now.lane;
  new = c.accept-taken.new.self;
  lawful = c.keep_law.ensures;
  stays = c.keep_law-2.ensures;
  taken = c.requires;
  accepts = c.accept-taken.ensures;
}
