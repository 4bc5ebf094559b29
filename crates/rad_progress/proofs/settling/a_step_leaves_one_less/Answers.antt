use Rattle.rad_progress.proofs.OneLess.{settles, most, lawful_tries}
use Rattle.rad_progress.proofs.TakenAtOnce.{taken_at_once, taken_until_idle}
use Rattle.rad_progress.proofs.settling.a_step_leaves_one_less.Goals as goal

pub returns-clause-settles : goal.returns-clause-settles
returns-clause-settles c = settles

pub returns-clause-at_once : goal.returns-clause-at_once
returns-clause-at_once c = λ old new moment lawful range calls at. taken_at_once old new moment lawful.probe_apart (lawful_tries old lawful) range calls.before calls.events calls.gives calls.runs at

pub returns-clause-until_idle : goal.returns-clause-until_idle
returns-clause-until_idle c = λ old new moment lawful range calls at. taken_until_idle old new moment lawful.probe_apart (lawful_tries old lawful) range calls.before calls.events calls.gives calls.runs at

pub returns-clause-most : goal.returns-clause-most
returns-clause-most c = λ book now lawful. most book now lawful
