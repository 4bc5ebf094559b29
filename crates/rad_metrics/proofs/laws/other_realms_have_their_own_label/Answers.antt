use Rattle.rad_metrics.proofs.Labels.{own_label}
use Rattle.rad_metrics.proofs.laws.other_realms_have_their_own_label.Goals as goal

pub returns : goal.returns
returns c = own_label
