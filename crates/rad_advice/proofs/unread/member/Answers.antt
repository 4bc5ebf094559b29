use Rattle.toml.proofs.Views.{table_get}
use Rattle.rad_advice.proofs.unread.member.Goals as goal

pub returns : goal.returns
returns c = table_get c.get.result c.args.name.now c.args.document.now.entries c.get.ensures.value
