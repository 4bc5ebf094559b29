use Rattle.rad_progress.proofs.WatchAfter as after
use Rattle.rad_progress.proofs.coming_up.probed_in_time.Goals as goal

pub returns : goal.returns
returns c = λ old moment random slot d probed later_book then octets named e idle later other action f new went calls. after.probed_in_time old moment random slot d probed later_book then octets named e idle later other action f new went calls.before calls.events calls.gives calls.runs
