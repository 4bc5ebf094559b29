use Rattle.rad_network.proofs.InLife.{stands_in_life, received_alike}
use Rattle.rad_network.proofs.sending.one_mark_one_datagram.Goals as goal

pub returns-clause-departed : goal.returns-clause-departed
returns-clause-departed c = λ world octets life there. (stands_in_life world life).received octets there

pub returns-clause-alike : goal.returns-clause-alike
returns-clause-alike c = λ world mark a b life. received_alike world (stands_in_life world life) mark a b
