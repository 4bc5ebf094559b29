use Rattle.rad_packet.proofs.Exclusive.{read_or_refused, one_fault}
use Rattle.rad_packet.proofs.laws.refused_or_read.Goals as goal

pub returns-clause-read : goal.returns-clause-read
returns-clause-read c = read_or_refused

pub returns-clause-fault : goal.returns-clause-fault
returns-clause-fault c = one_fault
