use Rattle.std.proofs.Common.{◌≡◌, ◌++◌, drop}
use Rattle.rad_advice.specs.Doubts.{each_doubt, realm_doubts}
use Rattle.rad_advice.proofs.doubts.add_of_realms.Given as goal

abbrev pub invariant-loop-realm : goal.invariant-loop-realm
invariant-loop-realm l =
    (l.index ≡ l.realm-index)
    × (l.doubts.items ++ each_doubt realm_doubts l.realm-index (drop l.realm-index l.realms) ≡ l.fn.doubts.items ++ each_doubt realm_doubts 0 l.realms)
