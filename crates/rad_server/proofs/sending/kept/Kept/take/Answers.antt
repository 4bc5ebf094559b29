use Rattle.std.proofs.Common.{◌∙◌}
use Rattle.rad_server.specs.internal.Keeping.{kept_in}
use Rattle.rad_server.proofs.Keeping.{at_most_less, none_taken, one_taken}
use Rattle.rad_server.proofs.sending.kept.Kept.take.Goals as goal

pub invariant_of-self : goal.invariant_of-self
invariant_of-self c = record {
  counted = c.args.self.now.counted ∙ none_taken (kept_in c.args.self.now.queues.list.items) (kept_in c.take.new.self.list.items) c.take.result c.in_err-datagram.was c.take.ensures.order;
  bound = c.args.self.now.bound;
}

pub invariant_of-self-2 : goal.invariant_of-self-2
invariant_of-self-2 c = record {
  counted =
      c.saturating_sub-self.ensures
      ∙ one_taken c.args.self.now.count (kept_in c.args.self.now.queues.list.items) (kept_in c.take.new.self.list.items) c.take.result c.in_ok-datagram.datagram c.args.self.now.counted c.in_ok-datagram.was c.take.ensures.order;
  bound = at_most_less c.args.self.now.count c.saturating_sub-self.result c.saturating_sub-self.ensures c.args.self.now.bound;
}
