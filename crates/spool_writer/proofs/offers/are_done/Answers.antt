use Rattle.std.proofs.Common.{arith}
use Rattle.spool_writer.proofs.Settling.{none_waits}
use Rattle.spool_writer.proofs.offers.are_done.Goals as goal

pub returns : goal.returns
returns c = λ _ lane. none_waits c.args.lanes.now lane (λ below. c.loop-lane.invariant lane (omega arith))
