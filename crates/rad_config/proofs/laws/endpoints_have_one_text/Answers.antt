use Rattle.rad_config.proofs.Addresses.{endpoint_from_text, endpoint_only}
use Rattle.rad_config.proofs.laws.endpoints_have_one_text.Goals as goal

pub returns-clause-read : goal.returns-clause-read
returns-clause-read c = endpoint_from_text

pub returns-clause-only : goal.returns-clause-only
returns-clause-only c = endpoint_only
