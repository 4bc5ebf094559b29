use Rattle.std.proofs.Common.{◌≡◌, map}
use Rattle.std.specs.List.{filter_map}
use Rattle.rad_server.specs.Ports.{reserved_item}
use Rattle.rad_server.proofs.sockets.port_range.read_reserved.Given as goal

abbrev pub invariant-loop-item : goal.invariant-loop-item
invariant-loop-item l = record {
  can_next : (goal.iterator-loop-item).can_next l.item-iterator;
  finite : (goal.iterator-loop-item).is_finite l.item-iterator;
  listed : l.ranges.items ≡ filter_map reserved_item (map (λ item. item.now) l.yielded);
}
