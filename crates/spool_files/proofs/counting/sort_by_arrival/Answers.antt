use Rattle.std.proofs.Common.{rules}
use Rattle.std.proofs.lemmas.List.Sorted.{IsNonDecreasingBy-from_sort_by_key}
use Rattle.spool_files.proofs.counting.sort_by_arrival.Goals as goal

pub returns : goal.returns
returns c = record {
  same = c.sort_unstable_by_key.ensures.permutation;
  in_order = IsNonDecreasingBy-from_sort_by_key (λ r. r.came.arrival) _ c.sort_unstable_by_key.ensures.sorted (λ a r q k. search rules);
}
