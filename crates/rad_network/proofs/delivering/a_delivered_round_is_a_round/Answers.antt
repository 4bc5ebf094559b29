use Rattle.rad_network.proofs.Delivered.{is_round, rounds_serve}
use Rattle.rad_network.proofs.InLife.{stands_in_life}
use Rattle.rad_network.proofs.delivering.a_delivered_round_is_a_round.Goals as goal

pub returns-clause-round : goal.returns-clause-round
returns-clause-round c = λ old new life r. (is_round old new (stands_in_life old life) r).0

pub returns-clause-served : goal.returns-clause-served
returns-clause-served c = λ n old new life. rounds_serve n old new (stands_in_life old life)
