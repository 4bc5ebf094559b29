use Rattle.rtrb.specs.Ring.{ProducerLooked}
use Rattle.spool_writer.proofs.room.wait_for_room.Given as goal

abbrev pub invariant-loop : goal.invariant-loop
invariant-loop g l = ProducerLooked l.fn.ring l.ring
