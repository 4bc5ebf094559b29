use Rattle.std.proofs.Common.{◌≡◌, take}
use Rattle.rad_realms.specs.Realm.{realms_of}
use Rattle.rad_lane.proofs.setup.realms_of.Given as goal

abbrev pub invariant-loop-realm : goal.invariant-loop-realm
invariant-loop-realm l = l.names.items ≡ realms_of (take l.realm-index l.realms) l.lane
