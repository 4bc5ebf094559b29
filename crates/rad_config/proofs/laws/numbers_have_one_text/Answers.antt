use Rattle.rad_config.proofs.Numbers.{number_read, number_text}
use Rattle.rad_config.proofs.laws.numbers_have_one_text.Goals as goal

pub returns-clause-read : goal.returns-clause-read
returns-clause-read c = number_read

pub returns-clause-only : goal.returns-clause-only
returns-clause-only c = number_text
