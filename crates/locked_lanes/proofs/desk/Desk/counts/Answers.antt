use Rattle.std.proofs.Common.{sym, subst}
use Rattle.locked_lanes.specs.Lawful.{AddUp}
use Rattle.locked_lanes.proofs.Fates.{add_up}
use Rattle.locked_lanes.proofs.desk.Desk.counts.Goals as goal

pub returns-clause-add_up : goal.returns-clause-add_up
returns-clause-add_up c = subst AddUp (sym c.counts.ensures.counts) (add_up c.args.self.now.lane c.counts.ensures.lawful)
