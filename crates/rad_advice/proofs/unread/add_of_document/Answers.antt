use Rattle.std.proofs.Common.{map}
use Rattle.std.proofs.lemmas.Result.{on_ok_weaker}
use Rattle.toml.specs.View.{table_view}
use Rattle.rad_advice.specs.Keys.{entry_found}
use Rattle.rad_advice.proofs.Items.{document_joined}
use Rattle.rad_advice.proofs.unread.add_of_document.Goals as goal

pub returns : goal.returns
returns c =
    let found = document_joined (table_view c.args.document.now) (map entry_found c.args.found.now.items) (map entry_found c.add_of_table.new.found.items)
    (map entry_found c.add_of_part.new.found.items) (map entry_found c.add_of_part-2.new.found.items) (map entry_found c.add_of_part-3.new.found.items)
    c.in_ok-add_of_table.ensures c.in_ok-add_of_part.ensures c.in_ok-add_of_part-2.ensures in
    on_ok_weaker c.add_of_part-3.result found c.add_of_part-3.ensures
