use Rattle.std.proofs.Common.{refl}
use Rattle.rad_progress.proofs.WrittenOut.{behind_lawful, not_in_one}
use Rattle.rad_progress.proofs.reaching.a_queue_behind_a_full_window_takes_all_its_rounds.Goals as goal

pub returns : goal.returns
returns c = λ setup first next range narrow roomy fits fits_next later other. (
  behind_lawful setup range first next fits fits_next later other roomy,
  refl,
  not_in_one setup range first next fits fits_next later other roomy narrow,
)
