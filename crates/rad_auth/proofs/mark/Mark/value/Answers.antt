use Rattle.std.proofs.Common.{refl}
use Rattle.rad_auth.specs.Mark.{mark_value}
use Rattle.rad_auth.proofs.mark.Mark.value.Goals as goal

pub returns : goal.returns
unfolding mark_value
returns c = rw (c.put-2.ensures, c.put.ensures, c.to_be_bytes.ensures, c.to_be_bytes-2.ensures) refl
