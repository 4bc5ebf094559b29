use Rattle.std.proofs.Common.{arith}
use Rattle.raw_lists.proofs.Places.{no_items}
use Rattle.raw_lists.proofs.row.Row.drop.Goals as goal

pub free-requires : goal.free-requires
free-requires g c = no_items c.loop.self.items (omega (arith, c.loop.invariant))
