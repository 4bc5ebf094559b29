use Rattle.std.proofs.Common.{◌∙◌, arith}
use Rattle.rad_server.specs.internal.Keeping.{kept_in, sent_departure}
use Rattle.rad_server.proofs.Keeping.{below_most, none_put, one_for_one, one_put, one_replaced}
use Rattle.rad_server.proofs.sending.kept.Kept.keep.Goals as goal

pub invariant_of-self : goal.invariant_of-self
invariant_of-self c = record {
  counted =
      c.args.self.now.counted
      ∙ none_put (kept_in c.args.self.now.queues.list.items) (kept_in c.keep.new.self.list.items) (sent_departure c.args.sent) c.keep.result _ c.keep.ensures.order c.in_err-lost.was;
  bound = c.args.self.now.bound;
}

pub invariant_of-self-in-Some-1 : goal.invariant_of-self-in-Some-1
invariant_of-self-in-Some-1 c = record {
  counted =
      c.args.self.now.counted
      ∙ one_replaced (kept_in c.args.self.now.queues.list.items) (kept_in c.keep.new.self.list.items) (sent_departure c.args.sent) c.in_ok-lost.field-0 c.in-Some.lost c.in-Some.is c.in_ok-lost.ensures.order;
  bound = c.args.self.now.bound;
}

pub invariant_of-self-then-self-lt-MOST : goal.invariant_of-self-then-self-lt-MOST
invariant_of-self-then-self-lt-MOST c = record {
  counted =
      one_put c.args.self.now.count (kept_in c.args.self.now.queues.list.items) (kept_in c.keep.new.self.list.items) (sent_departure c.args.sent) c.in_ok-lost.field-0
      c.args.self.now.counted c.in-None.is c.in_ok-lost.ensures.order;
  bound = below_most c.args.self.now.count (omega (arith, c.if-self-lt-MOST.true));
}

pub invariant_of-self-2 : goal.invariant_of-self-2
invariant_of-self-2 c =
    let mid = kept_in c.keep.new.self.list.items in
    let more = one_put c.args.self.now.count (kept_in c.args.self.now.queues.list.items) mid (sent_departure c.args.sent) c.in_ok-lost.field-0
    c.args.self.now.counted c.in-None.is c.in_ok-lost.ensures.order in
    record {
      counted = one_for_one c.args.self.now.count mid (kept_in c.lose_of_most.new.self.list.items) c.lose_of_most.result more c.lose_of_most.ensures.some c.lose_of_most.ensures.order;
      bound = c.args.self.now.bound;
    }
