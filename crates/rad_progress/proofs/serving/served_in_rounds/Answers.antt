use Rattle.rad_progress.proofs.ServedInRounds.{served, each_once}
use Rattle.rad_progress.proofs.serving.served_in_rounds.Goals as goal

pub returns-clause-all : goal.returns-clause-all
returns-clause-all c = λ n old new lawful range h. served old lawful.probe_apart range n new h

pub returns-clause-each_once : goal.returns-clause-each_once
returns-clause-each_once c = λ n old first new before r after lawful range h. each_once old lawful.probe_apart range n first new before r after lawful h
