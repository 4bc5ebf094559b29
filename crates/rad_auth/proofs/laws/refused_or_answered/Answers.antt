use Rattle.rad_auth.proofs.Exclusive.{one_fault, only_memory}
use Rattle.rad_auth.proofs.laws.refused_or_answered.Goals as goal

pub returns-clause-fault : goal.returns-clause-fault
returns-clause-fault c = one_fault

pub returns-clause-answered : goal.returns-clause-answered
returns-clause-answered c = only_memory
