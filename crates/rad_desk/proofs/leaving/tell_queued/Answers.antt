use Rattle.std.proofs.Common.{◌-◌, [], ◌∷◌, ◌∙◌, take, drop, ap}
use Rattle.rad_desk.specs.Leaving.{left_with, left_of_queue}
use Rattle.rad_desk.proofs.LeftTold.{left_over, queue_onward, queue_drops, queue_empty, queue_dropped, queue_done, queue_rest, queue_start}
use Rattle.rad_desk.proofs.leaving.tell_queued.Goals as goal

pub loop-init : goal.loop-init
loop-init g c = record {
  told = ap (λ k. left_with (g.L.Ledger.left c.args.ledger.now) (left_of_queue c.args.lane (take k c.args.queued.now.items))) (queue_start c.args.count);
  queued = ap (λ k. drop k c.args.queued.now.items) (queue_start c.args.count);
}

pub returns-in_default-clause-told : goal.returns-in_default-clause-told
returns-in_default-clause-told g c =
    left_over _ _ (left_of_queue c.args.lane (take (c.args.count - c.loop.counter) c.loop.queued.items)) _
    (queue_empty c.args.lane (c.args.count - c.loop.counter) c.loop.queued.items c.in_default.ensures.items.0) c.loop.invariant.told

pub returns-in_default-clause-queued : goal.returns-in_default-clause-queued
returns-in_default-clause-queued g c =
    queue_dropped (c.args.count - c.loop.counter) c.loop.queued.items c.pop_front.new.self.items _ c.in_default.ensures.items.0 c.in_default.ensures.items.1 c.loop.invariant.queued

pub loop-preserved : goal.loop-preserved
loop-preserved g c =
    record {
      told =
          queue_onward c.args.lane c.args.count c.loop.counter c.loop.queued.items c.pop_front.new.self.items c.in-Some.kept _ _ _ _ c.loop-test.true c.in-Some.ensures.items
          (c.leave.ensures ∙ ap (λ t. left_with (g.L.Ledger.left c.loop.ledger) (t ∷ [])) c.of_record.ensures.told) c.loop.invariant.told;
      queued =
          queue_drops c.args.count c.loop.counter c.loop.queued.items c.pop_front.new.self.items _ c.in-Some.kept c.loop-test.true c.in-Some.ensures.items c.loop.invariant.queued;
    }

pub returns-clause-told : goal.returns-clause-told
returns-clause-told g c =
    left_over _ _ (left_of_queue c.args.lane (take (c.args.count - c.loop.counter) c.loop.queued.items)) _
    (queue_done c.args.lane c.args.count c.loop.counter c.loop.queued.items c.loop-test.false) c.loop.invariant.told

pub returns-clause-queued : goal.returns-clause-queued
returns-clause-queued g c = queue_rest c.args.count c.loop.counter c.loop.queued.items _ c.loop-test.false c.loop.invariant.queued
