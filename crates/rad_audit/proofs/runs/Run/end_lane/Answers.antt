use Rattle.std.proofs.Common.{rules, sym, ◌∙◌}
use Rattle.rad_audit.proofs.Stands.{ends_nowhere, ends_to}
use Rattle.rad_audit.proofs.runs.Run.end_lane.Goals as goal

pub returns-in_default : goal.returns-in_default
returns-in_default c = ends_nowhere c.args.count.now c.args.self.now.lanes.items (sym c.place_of.ensures ∙ c.in_default.is)

pub returns : goal.returns
returns c = ends_to c.args.count.now c.args.self.now.lanes.items c.in-Some.place c.index_mut.result.now c.end.new.self (sym c.place_of.ensures ∙ c.in-Some.is) (search rules) c.end.ensures.number c.end.ensures.makes
