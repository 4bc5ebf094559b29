use Rattle.std.proofs.Common.{◌∷◌, take}
use Rattle.json.specs.Token.{begin_array}
use Rattle.config_json.specs.Written.{client_value}
use Rattle.json_objects.specs.Adding.{Adds}
use Rattle.json_objects.proofs.Adding.{each_tokens}
use Rattle.config_json.proofs.writing.write_clients.Given as goal

abbrev pub invariant-loop-client : goal.invariant-loop-client
invariant-loop-client l = Adds l.fn.writer l.writer (begin_array ∷ each_tokens (client_value l.with_secrets) (take l.client-index l.clients))
