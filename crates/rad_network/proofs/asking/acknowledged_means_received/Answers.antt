use Rattle.rad_network.proofs.Apart.{are_apart}
use Rattle.rad_network.proofs.Serves.{acknowledged_received}
use Rattle.rad_network.proofs.asking.acknowledged_means_received.Goals as goal

pub returns-clause-received : goal.returns-clause-received
returns-clause-received c = λ asked world life are one no_key. acknowledged_received asked world life are one no_key

pub returns-clause-apart : goal.returns-clause-apart
returns-clause-apart c = are_apart
