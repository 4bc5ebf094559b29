use Rattle.rad_progress.proofs.AfterCalls.{setup_in_run}
use Rattle.rad_progress.proofs.StaysOutstanding.{stays_in_run}
use Rattle.rad_progress.proofs.hearing.it_can_be_heard_until_it_is_answered.Goals as goal

pub returns-clause-stays : goal.returns-clause-stays
returns-clause-stays c = λ old slot entry new lawful there calls. stays_in_run old calls.before calls.events calls.gives new lawful.probe_apart calls.runs slot entry there

pub returns-clause-setup : goal.returns-clause-setup
returns-clause-setup c = λ old new calls. setup_in_run old calls.before calls.events calls.gives new calls.runs
