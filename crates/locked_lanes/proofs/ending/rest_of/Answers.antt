use Rattle.std.proofs.Common.{sym, subst}
use Rattle.locked_lanes.specs.Ending.{TellsRest}
use Rattle.locked_lanes.proofs.ending.rest_of.Goals as goal

pub rest_in-requires : goal.rest_in-requires
rest_in-requires c = c.requires c.in-Some.inlet c.in-Some.is

pub returns : goal.returns
returns c = subst (λ i. TellsRest c.args.lane c.args.answered.now c.args.served i c.rest_in.result) (sym c.in-Some.is) c.rest_in.ensures
