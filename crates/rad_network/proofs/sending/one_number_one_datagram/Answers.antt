use Rattle.rad_network.proofs.InLife.{stands_in_life}
use Rattle.rad_network.proofs.sending.one_number_one_datagram.Goals as goal

pub returns : goal.returns
returns c = λ world number a b life there_a there_b is_a is_b. (stands_in_life world life).alike a b number there_a there_b is_a is_b
