use Rattle.spool_runs.proofs.InOrder.{accepted_in_order}
use Rattle.spool_runs.proofs.offering.in_order_of_arrival.Goals as goal

pub returns : goal.returns
returns c = accepted_in_order
