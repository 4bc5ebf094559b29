use Rattle.std.proofs.Common.{rules, sym, ◌∙◌}
use Rattle.std.proofs.lemmas.Result.{on_ok_weaker}
use Rattle.rad_audit.specs.Lanes.{Makes}
use Rattle.rad_audit.specs.declared.judging.Content.TheVariants as content
use Rattle.rad_audit.proofs.Stands.{goes_by, goes_nowhere, goes_to}
use Rattle.rad_audit.proofs.runs.Run.take_left.Goals as goal

pub returns-in_default : goal.returns-in_default
returns-in_default c = λ config secret. goes_nowhere c.args.left.now.about.run c.args.left.now.about.lane c.args.left.now.about.home.now (λ m. Makes config m (content.Left c.args.left.now)) c.args.self.now.lanes.items (sym c.place_of.ensures ∙ c.in_default.is)

pub returns-then-ne : goal.returns-then-ne
returns-then-ne c = λ config secret. goes_by c.args.left.now.about.run c.args.left.now.about.lane c.args.left.now.about.home.now (λ m. Makes config m (content.Left c.args.left.now)) c.args.self.now.lanes.items c.in-Some.place c.index_mut-lane.result.now (sym c.place_of.ensures ∙ c.in-Some.is) (search rules) (search rules)

pub returns : goal.returns
returns c = on_ok_weaker c.take_left.result (λ makes config secret. goes_to c.args.left.now.about.run c.args.left.now.about.lane c.args.left.now.about.home.now (λ m. Makes config m (content.Left c.args.left.now)) c.args.self.now.lanes.items c.in-Some.place c.index_mut-lane.result.now c.take_left.new.self (sym c.place_of.ensures ∙ c.in-Some.is) (search rules) (search rules) c.take_left.ensures.number (makes config secret)) c.take_left.ensures.makes
