use Rattle.rad_network.proofs.InLife.{stands_in_life, call_acknowledged}
use Rattle.rad_network.proofs.acknowledging.an_answer_was_acknowledged.Goals as goal

pub returns : goal.returns
returns c = λ old event outgoing d new life h. call_acknowledged old (stands_in_life old life) event outgoing d new h
