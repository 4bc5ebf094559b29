use Rattle.std.proofs.Common.{◌≡◌, length, arith}
use Rattle.locked_lanes.proofs.Answers.{same_by_step}
use Rattle.locked_lanes.proofs.Fates.{accounts_by_step}
use Rattle.locked_lanes.proofs.Outlets.{outlet_same, bounded_same, numbered_same, limited_same}
use Rattle.locked_lanes.proofs.Wires.{departs}
use Rattle.locked_lanes.proofs.desk.Desk.step.Goals as goal

pub invariant_of-self : goal.invariant_of-self
invariant_of-self c =
    let stepped = c.step_lawfully.ensures in
    let old = c.args.self.now.lane in
    let new = c.step_lawfully.new.lane in
    let same = same_by_step old new _ _ _ _ stepped.steps in
    record {
      outlet = outlet_same _ _ _ same c.args.self.now.outlet;
      accounted = accounts_by_step old new _ _ _ _ _ stepped.lawful.0 stepped.lawful.1 stepped.steps c.args.self.now.accounted;
      bounded = bounded_same old new same c.args.self.now.bounded;
      numbered = numbered_same old new _ same c.args.self.now.numbered;
      limited = limited_same old new _ same c.args.self.now.limited;
    }

pub returns-clause-departs : goal.returns-clause-departs
returns-clause-departs c =
    let sixteen : length c.args.random ≡ 16 = omega arith in
    departs _ _ _ _ _ _ sixteen c.step_lawfully.ensures.lawful.0 c.step_lawfully.ensures.steps

pub returns-clause-some : goal.returns-clause-some
returns-clause-some c = record {
  old = c.args.self.now.lane;
  new = c.step_lawfully.new.lane;
  lawful = c.step_lawfully.ensures.lawful.0;
  stays = c.step_lawfully.ensures.lawful.1;
  steps = c.step_lawfully.ensures.steps;
}
