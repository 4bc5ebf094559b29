use Rattle.ledger_files.proofs.SealSteps.{SealedSoFar}
use Rattle.ledger_files.proofs.batch.Batch.seal.Given as goal

abbrev pub invariant-loop-place : goal.invariant-loop-place
invariant-loop-place l = SealedSoFar l.initial.self l.self l.fn.before.sum l.chain.sum l.place
