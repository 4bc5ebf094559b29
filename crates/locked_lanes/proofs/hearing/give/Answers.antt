use Rattle.std.proofs.Common.{arith}
use Rattle.locked_lanes.proofs.hearing.give.Goals as goal

pub push_reserved-requires : goal.push_reserved-requires
push_reserved-requires c = (c.requires.place, c.requires.next)

pub returns-clause-sent : goal.returns-clause-sent
returns-clause-sent c = cc

pub returns-clause-free : goal.returns-clause-free
returns-clause-free c = omega arith
