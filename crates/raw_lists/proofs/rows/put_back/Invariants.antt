use Rattle.std.proofs.Common.{◌≡◌, ◌+◌, ◌++◌}
use Rattle.std.specs.Prelude.{vec_len, vec_capacity}
use Rattle.raw_lists.proofs.rows.put_back.Given as goal

abbrev pub invariant-loop : goal.invariant-loop
invariant-loop g l = record {
  row : l.kept.items ++ l.row.items ≡ l.fn.kept.items ++ l.fn.row.items;
  left : vec_len l.kept + l.counter ≡ vec_len l.fn.kept;
  before : l.row.before + l.counter ≡ l.fn.row.before;
  room : vec_capacity l.kept ≡ vec_capacity l.fn.kept;
}
