use Rattle.std.proofs.Common.{rules, refl, sym, ◌∙◌}
use Rattle.rad_audit.proofs.Stands.{stands_same}
use Rattle.rad_audit.proofs.runs.Run.hide.Goals as goal

pub returns-in-Some : goal.returns-in-Some
returns-in-Some c =
    stands_same c.in-Some-Some.number c.args.self.now.lanes.items c.in-Some.place c.index_mut.result.now (record c.index_mut.result.now { hidden = c.take.new.self }) (sym c.place_of.ensures ∙ c.in-Some.is) (search rules) refl refl
