use Rattle.std.proofs.Common.{rules, sym, ◌∙◌}
use Rattle.rad_audit.specs.Lanes.{Makes}
use Rattle.rad_audit.specs.declared.judging.Content.TheVariants as content
use Rattle.rad_audit.proofs.Stands.{goes_by, goes_nowhere, goes_to}
use Rattle.rad_audit.proofs.runs.Run.take_earlier.Goals as goal

pub returns-in_default : goal.returns-in_default
returns-in_default c = λ config. goes_nowhere c.args.count.now.run c.args.count.now.lane c.args.count.now.home.now (λ m. Makes config m (content.AgainEarlier c.args.count.now)) c.args.self.now.lanes.items (sym c.place_of.ensures ∙ c.in_default.is)

pub returns-then-ne : goal.returns-then-ne
returns-then-ne c = λ config. goes_by c.args.count.now.run c.args.count.now.lane c.args.count.now.home.now (λ m. Makes config m (content.AgainEarlier c.args.count.now)) c.args.self.now.lanes.items c.in-Some.place c.index_mut-lane.result.now (sym c.place_of.ensures ∙ c.in-Some.is) (search rules) (search rules)

pub returns : goal.returns
returns c = λ config. goes_to c.args.count.now.run c.args.count.now.lane c.args.count.now.home.now (λ m. Makes config m (content.AgainEarlier c.args.count.now)) c.args.self.now.lanes.items c.in-Some.place c.index_mut-lane.result.now c.take_earlier.new.self (sym c.place_of.ensures ∙ c.in-Some.is) (search rules) (search rules) c.take_earlier.ensures.number c.take_earlier.ensures.makes
