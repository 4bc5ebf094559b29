use Rattle.rad_config.proofs.Ranges.{in_range, no_fault}
use Rattle.rad_config.proofs.laws.no_fault_in_range.Goals as goal

pub returns : goal.returns
returns c = λ n. (in_range n, no_fault n)
