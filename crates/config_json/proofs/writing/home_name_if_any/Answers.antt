use Rattle.config_json.specs.Written.{name_at}
use Rattle.config_json.proofs.Names.{no_name}
use Rattle.config_json.proofs.Secrets.{nothing_told}
use Rattle.config_json.proofs.writing.home_name_if_any.Goals as goal

pub returns-in-None : goal.returns-in-None
returns-in-None c =
    let homes = c.args.homes.now in
    nothing_told c.args.writer.now c.args.key.now (name_at homes c.args.lane) (no_name homes c.from.result c.in-Some.lane c.args.lane c.in-Some.is c.from.ensures c.in-None.ensures.lookup.0)
