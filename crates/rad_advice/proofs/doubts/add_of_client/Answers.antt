use Rattle.std.proofs.Common.{◌∙◌}
use Rattle.rad_advice.proofs.doubts.add_of_client.Goals as goal

pub returns : goal.returns
returns c = rw (c.octets.ensures.value ∙ c.secret.ensures) at c.add_of_secret.ensures
