use Rattle.toml.proofs.Views.{table_get}
use Rattle.rad_config.proofs.reading.document.member.Goals as goal

pub returns : goal.returns
returns c = rw (← c.name.ensures) (table_get c.get.result c.name.result.now c.args.doc.now.entries c.get.ensures.value)
