use Rattle.std.proofs.Common.{ap, sym, ◌∙◌, arith}
use Rattle.std.specs.FinMap as map
use Rattle.std.proofs.lemmas.List.Elements.{All-head}
use Rattle.rad_lane.specs.Book.{Book}
use Rattle.rad_lane.specs.internal.Invariant.{HasRoom}
use Rattle.rad_lane.specs.Outstanding.{Outstanding}
use Rattle.rad_lane.proofs.NextDueFound.{before_put}
use Rattle.rad_lane.proofs.LawfulAfterWatch.{few_up}
use Rattle.rad_lane.proofs.LawfulAfterSend.{stands_sent, sends}
use Rattle.rad_lane.proofs.lane.Lane.send_first.Goals as goal

pub free_slot-slot-requires-clause-fits : goal.free_slot-slot-requires-clause-fits
free_slot-slot-requires-clause-fits g c =
    few_up _ _ _ _ _ _ c.self.inside.slots _ _ _ _ c.self.view_is c.args.now c.requires.later _ _ _ c.self.invariant.consistent c.requires.is_up

pub first-sending-requires : goal.first-sending-requires
first-sending-requires g c =
    let queue = rw c.unwrap-record.ensures at c.pop_front.ensures.items in
    All-head HasRoom _ _ (rw queue at c.self.invariant.consistent.rooms)

pub overflow_add-self : goal.overflow_add-self
overflow_add-self g c =
    let counted = c.self.invariant.consistent.counted in
    let bounded = c.self.invariant.consistent.lawful.outstanding_bounded in
    let few = c.free_slot-slot.ensures.few in
    omega (arith, counted, bounded, few)

pub invariant_of-self : goal.invariant_of-self
invariant_of-self g c = record {
  consistent =
      let queue = rw c.unwrap-record.ensures at c.pop_front.ensures.items in
      let same = rw queue at c.self.view_is in
      let stands = rw queue at c.self.invariant.consistent in
      let free = ap (λ (b : Book). map.get b.held c.free_slot-slot.result) (sym c.self.view_is) ∙ c.free_slot-slot.ensures.free.free in
      rw (c.put.ensures, c.first-sending.ensures.sending)
      (stands_sent _ _ _ c.unwrap-record.result (g.Q.Fifo.items c.pop_front.new.self) _ _ c.self.inside.slots _ _ _ c.args.now c.free_slot-slot.result _ same c.requires.later c.requires.is_up free c.requires.may.room _ c.free_slot-slot.ensures.in_range _ _ _ stands);
  bounded = c.self.invariant.bounded;
  none_before =
      let due = ap (λ (e : Outstanding). e.due) c.first-sending.ensures.sending in
      rw (c.put.ensures, c.min-self-inside.ensures)
      (before_put _ _ _ _ _ c.self.invariant.none_before (omega arith) (omega (arith, c.due.ensures)));
}

pub returns-clause-steps : goal.returns-clause-steps
returns-clause-steps g c =
    let queue = rw c.unwrap-record.ensures at c.pop_front.ensures.items in
    let same = rw queue at c.self.view_is in
    let stands = rw queue at c.self.invariant.consistent in
    rw (c.put.ensures, c.first-sending.ensures.sending, c.first-sending.ensures.octets, c.stamp-number.ensures.value)
    (sends _ _ _ c.unwrap-record.result (g.Q.Fifo.items c.pop_front.new.self) _ _ c.self.inside.slots _ _ _ c.args.now c.free_slot-slot.result _ same stands.lawful c.requires.fresh c.requires.spent c.requires.may.room c.self.invariant.consistent.ports_are c.free_slot-slot.ensures.free c.args.datagram.now)
