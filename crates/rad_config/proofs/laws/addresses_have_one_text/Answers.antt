use Rattle.rad_config.proofs.Addresses.{address_from_text, address_only}
use Rattle.rad_config.proofs.laws.addresses_have_one_text.Goals as goal

pub returns-clause-read : goal.returns-clause-read
returns-clause-read c = address_from_text

pub returns-clause-only : goal.returns-clause-only
returns-clause-only c = address_only
