use Rattle.std.proofs.Common.{◌≡◌, ◌-◌, take, drop}
use Rattle.rad_desk.specs.Leaving.{left_with, left_of_queue}
use Rattle.rad_desk.proofs.leaving.tell_queued.Given as goal

-- What is left to tell, behind what was told, is all that is left.
abbrev pub invariant-loop : goal.invariant-loop
invariant-loop g l = record {
  told : left_with (g.L.Ledger.left l.ledger) (left_of_queue l.lane (take (l.count - l.counter) l.queued.items))
      ≡ left_with (g.L.Ledger.left l.initial.ledger) (left_of_queue l.lane (take l.count l.initial.queued.items));
  queued : drop (l.count - l.counter) l.queued.items ≡ drop l.count l.initial.queued.items;
}
