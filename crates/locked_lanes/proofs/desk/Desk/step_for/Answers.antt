use Rattle.std.proofs.Common.{◌≡◌, ℕ, ◌+◌, ◌-◌, ◌∙◌, ap, arith, length}
use Rattle.rad_lane.specs.declared.counts.Counts.{Counts}
use Rattle.locked_lanes.proofs.desk.Desk.step_for.Goals as goal

rest : (opening count : ℕ) → opening + count - opening ≡ count
rest opening count = omega arith

pub returns : goal.returns
returns c = record {
  steps = record {
    old = c.args.self.now.lane;
    new = c.step-action.new.self.lane;
    lawful = c.step-action.ensures.lawful.0;
    stays = c.step-action.ensures.lawful.1;
    is_of = c.is_of.ensures.0 c.if-not-is_of.false;
    steps = c.step-action.ensures.steps;
  };
  counted =
      ap (λ (k : Counts). k.accepted - k.opening) c.counts-counts.ensures.counts
      ∙ rest c.step-action.new.self.lane.opening (length c.step-action.new.self.lane.accepted);
}
