use Rattle.rad_config.proofs.LastSigns.{behind_the_last, no_sign}
use Rattle.rad_config.proofs.laws.realm_follows_the_last_sign.Goals as goal

pub returns-clause-follows : goal.returns-clause-follows
returns-clause-follows c = behind_the_last

pub returns-clause-none : goal.returns-clause-none
returns-clause-none c = no_sign
