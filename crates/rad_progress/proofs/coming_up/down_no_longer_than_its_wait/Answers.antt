use Rattle.rad_progress.proofs.WatchAfter.{comes_up, not_at_once}
use Rattle.rad_progress.proofs.coming_up.down_no_longer_than_its_wait.Goals as goal

pub returns-clause-comes_up : goal.returns-clause-comes_up
returns-clause-comes_up c = λ old moment random d marked later_book later octets action e new went calls. comes_up old moment random d marked later_book later octets action e new went calls.before calls.events calls.gives calls.runs

pub returns-clause-not_at_once : goal.returns-clause-not_at_once
returns-clause-not_at_once c = λ old moment random d marked new range went calls. not_at_once old moment random d marked new range went calls.before calls.events calls.gives calls.runs
