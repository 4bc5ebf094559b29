use Rattle.std.proofs.Common.{◌≡◌, None, vec_capacity, vec_len, replicate}
use Rattle.rad_tables.specs.internal.Kept.{contents_of}
use Rattle.rad_tables.proofs.cells.free_cells.Given as goal

abbrev pub invariant-loop : goal.invariant-loop
invariant-loop g l = record {
  free : contents_of l.cells.items ≡ replicate (vec_len l.cells) None;
  room : vec_capacity l.cells ≡ l.count;
  made : vec_len l.cells ≡ l.counter;
}
