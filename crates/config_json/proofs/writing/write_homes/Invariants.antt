use Rattle.std.proofs.Common.{◌∷◌, take}
use Rattle.json.specs.Token.{begin_array}
use Rattle.config_json.specs.Written.{home_value}
use Rattle.json_objects.specs.Adding.{Adds}
use Rattle.json_objects.proofs.Adding.{each_tokens}
use Rattle.config_json.proofs.writing.write_homes.Given as goal

abbrev pub invariant-loop-home : goal.invariant-loop-home
invariant-loop-home l = Adds l.fn.writer l.writer (begin_array ∷ each_tokens (home_value l.with_secrets) (take l.home-index l.homes))
