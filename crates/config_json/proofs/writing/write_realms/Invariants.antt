use Rattle.std.proofs.Common.{◌∷◌, take}
use Rattle.json.specs.Token.{begin_array}
use Rattle.config_json.specs.Written.{realm_value}
use Rattle.json_objects.specs.Adding.{Adds}
use Rattle.json_objects.proofs.Adding.{each_tokens}
use Rattle.config_json.proofs.writing.write_realms.Given as goal

abbrev pub invariant-loop-realm : goal.invariant-loop-realm
invariant-loop-realm l = Adds l.fn.writer l.writer (begin_array ∷ each_tokens (realm_value l.homes) (take l.realm-index l.realms))
