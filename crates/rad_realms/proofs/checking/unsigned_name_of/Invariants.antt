use Rattle.std.specs.Prelude.{option_copied}
use Rattle.rad_realms.proofs.UserNames.{Unsigned}
use Rattle.rad_realms.proofs.checking.unsigned_name_of.Given as goal

abbrev pub invariant-loop-attribute : goal.invariant-loop-attribute
invariant-loop-attribute l = Unsigned l.packet l.attribute-iterator (option_copied l.name)
