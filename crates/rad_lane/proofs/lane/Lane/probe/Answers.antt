use Rattle.std.proofs.Common.{◌≡◌, length, ap, ◌∙◌, arith}
use Rattle.rad_tables.specs.Pairs.{Table}
use Rattle.rad_lane.specs.Book.{Book}
use Rattle.rad_lane.specs.declared.entry.Entry.{Entry}
use Rattle.rad_lane.proofs.NextDueFound.{before_freed, before_put}
use Rattle.rad_lane.proofs.ProbeSent.{probes_so}
use Rattle.rad_lane.proofs.LawfulAfterWatch.{few_free, stands_probed, is_probe}
use Rattle.rad_lane.proofs.lane.Lane.probe.Goals as goal

pub free_slot-slot-requires-clause-fits : goal.free_slot-slot-requires-clause-fits
free_slot-slot-requires-clause-fits g c =
    rw c.free.ensures (few_free _ _ _ _ _ _ c.self.inside.slots _ _ _ _ c.self.view_is c.args.now c.requires.later _ _ _ c.self.invariant.consistent _ _ c.args.out c.requires.is_down.1)

pub invariant_of-self : goal.invariant_of-self
invariant_of-self g c = record {
  consistent =
      let free = rw c.free.ensures at c.free_slot-slot.ensures.free.free in
      let in_range = rw c.free.ensures at c.free_slot-slot.ensures.in_range in
      let sixteen : length c.args.random ≡ 16 = omega arith in
      let made = is_probe c.self.inside.setup c.free_slot-slot.result _ _ c.args.random _ sixteen c.of.ensures c.make_status.ensures.made c.home.ensures in
      rw (c.put.ensures, c.free.ensures)
      (stands_probed _ _ _ _ _ _ c.self.inside.slots _ _ _ _ c.self.view_is c.args.now c.requires.later _ _ _ c.self.invariant.consistent _ _ c.args.out c.requires.is_down.1 c.free_slot-slot.result _ _ _ free in_range made);
  bounded = c.self.invariant.bounded;
  none_before = rw (c.put.ensures, c.free.ensures) (before_put _ _ _ _ _ (before_freed _ c.args.out _ c.self.invariant.none_before) (omega arith) (omega arith));
}

pub free_slot-slot-requires-clause-pairs : goal.free_slot-slot-requires-clause-pairs
free_slot-slot-requires-clause-pairs g c = ap (λ (t : Table Entry). t.ports) c.free.ensures ∙ c.self.invariant.consistent.ports_are

pub put-requires-clause-in_range : goal.put-requires-clause-in_range
put-requires-clause-in_range g c = c.free_slot-slot.ensures.in_range

pub put-requires-clause-free : goal.put-requires-clause-free
put-requires-clause-free g c = c.free_slot-slot.ensures.free.free

pub returns-clause-another : goal.returns-clause-another
returns-clause-another g c = λ is.
    c.free_slot-slot.ensures.another (ap (λ (t : Table Entry). t.allotted) c.free.ensures ∙ ap (λ (b : Book). b.allotted) c.self.view_is ∙ is)

pub returns-clause-probes : goal.returns-clause-probes
returns-clause-probes g c =
    probes_so c.self.inside.setup c.self.inside.opening c.self.inside.accepted.items (g.Q.Fifo.items c.self.inside.queued) c.self.inside.answered.items c.self.inside.served c.self.inside.slots c.self.inside.drain c.self.inside.watch c.self.inside.last c.args.self.now c.self.view_is c.self.invariant.consistent.ports_are c.args.now c.args.until c.args.out c.free_slot-slot.result c.free.new.slots c.free.ensures
    c.free_slot-slot.ensures.free c.args.random c.make_status.new.datagram c.home.result.now c.make_status.ensures.made c.home.ensures c.of.result c.of.ensures c.put.new.self c.put.ensures
    c.numbers-every.result (c.numbers-every.ensures.value ∙ c.limits.ensures.value) c.get.result c.from.result c.get.ensures.value c.from.ensures c.args.datagram.now
