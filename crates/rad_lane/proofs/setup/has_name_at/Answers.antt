use Rattle.std.proofs.Common.{Some, None, sym, ap, ◌∙◌}
use Rattle.rad_realms.specs.Realm.{same_name, is_at}
use Rattle.rad_lane.proofs.ItemsFound.{tested_at}
use Rattle.rad_lane.proofs.setup.has_name_at.Goals as goal

pub returns-in_default : goal.returns-in_default
returns-in_default c = ap (λ rank. is_at (λ other. same_name other c.args.name.now) c.args.names.now rank) (sym c.in_default.is)

pub returns-in-Some-get : goal.returns-in-Some-get
returns-in-Some-get c =
    c.is_same_name.ensures
    ∙ ap (λ name. same_name name c.args.name.now) c.as_slice.ensures
    ∙ sym (tested_at (λ other. same_name other c.args.name.now) c.args.names.now c.args.rank _ (Some c.in-Some-get.other) c.in-Some.is c.in-Some-get.ensures.lookup)

pub returns-in-None : goal.returns-in-None
returns-in-None c = sym (tested_at (λ other. same_name other c.args.name.now) c.args.names.now c.args.rank _ None c.in-Some.is c.in-None.ensures.lookup)
