use Rattle.std.proofs.Common.{rules, [], ◌∷◌}
use Rattle.rad_audit.specs.Lanes.{RunEnds}
use Rattle.rad_audit.proofs.Stands.{ends_not, runs_go}
use Rattle.rad_audit.proofs.runs.Runs.end_lane.Goals as goal

pub returns : goal.returns
returns c =
    runs_go c.args.self.now.runs (c.get_mut.follows.lender c.end_lane.new.self) c.args.name c.in-Some.run'.now c.end_lane.new.self (λ run number. RunEnds c.args.name run number (c.args.count.now ∷ []))
    (search rules) (c.get_mut.follows.holds c.end_lane.new.self) (c.end_lane.ensures c.args.name) (ends_not c.args.name (c.args.count.now ∷ []))
