use Rattle.rad_config.proofs.ArrayTables.{all_or_none}
use Rattle.rad_config.proofs.reading.arrays.are_tables.Goals as goal

pub returns : goal.returns
returns c = all_or_none c.is_each_table.result c.args.values.now c.is_each_table.ensures
