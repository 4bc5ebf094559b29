use Rattle.std.proofs.Common.{◌^◌, arith}
use Rattle.std.specs.Mem.{type_size}
use Rattle.core.proofs.ptr.Rows.{times_below}
use Rattle.raw_lists.proofs.region.Region.with_places.Goals as goal

pub allocate-requires : goal.allocate-requires
allocate-requires g c = times_below c.args.count 4294967296 (type_size g.row.T) (2 ^ 63) (omega arith) (c.is_small.ensures c.if-not-is_small.false)
