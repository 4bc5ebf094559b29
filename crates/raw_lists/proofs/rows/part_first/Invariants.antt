use Rattle.std.proofs.Common.{◌≡◌, ◌+◌, ◌≤◌, ◌++◌, take, drop}
use Rattle.std.specs.Prelude.{vec_len, vec_capacity}
use Rattle.raw_lists.specs.Sliding.{below, since}
use Rattle.raw_lists.proofs.rows.part_first.Given as goal

abbrev pub invariant-loop : goal.invariant-loop
invariant-loop g l = record {
  row : l.row.items ≡ drop l.counter l.fn.row.items;
  before : l.row.before ≡ l.fn.row.before + l.counter;
  taken : l.taken.items ≡ l.fn.taken.items ++ below g.T.Numbered.number_of l.number (take l.counter l.fn.row.items);
  kept : l.kept.items ≡ l.fn.kept.items ++ since g.T.Numbered.number_of l.number (take l.counter l.fn.row.items);
  taken_len : vec_len l.taken ≤ vec_len l.fn.taken + l.counter;
  kept_len : vec_len l.kept ≤ vec_len l.fn.kept + l.counter;
  taken_room : vec_capacity l.taken ≡ vec_capacity l.fn.taken;
  kept_room : vec_capacity l.kept ≡ vec_capacity l.fn.kept;
}
