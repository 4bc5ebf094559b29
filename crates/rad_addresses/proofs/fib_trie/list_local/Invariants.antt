use Rattle.std.proofs.Common.{◌≡◌, map}
use Rattle.rad_addresses.specs.FibTrie.{listing, nothing_listed}
use Rattle.rad_addresses.proofs.fib_trie.list_local.Given as goal

abbrev pub invariant-loop-line : goal.invariant-loop-line
invariant-loop-line l = record {
  can_next : (goal.iterator-loop-line).can_next l.line-iterator;
  finite : (goal.iterator-loop-line).is_finite l.line-iterator;
  listed : l.listed.items ≡ (listing nothing_listed (map (λ line. line.now) l.yielded)).listed;
  named : l.named ≡ (listing nothing_listed (map (λ line. line.now) l.yielded)).named;
}
