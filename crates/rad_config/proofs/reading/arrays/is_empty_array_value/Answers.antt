use Rattle.std.proofs.Common.{◌≡◌, ◌==◌, ◌∙◌, length, rules}
use Rattle.rad_config.proofs.ArrayTables.{empty_from}
use Rattle.rad_config.proofs.reading.arrays.is_empty_array_value.Goals as goal

pub returns-in-Some : goal.returns-in-Some
returns-in-Some c =
    let empty : c.is_empty.result ≡ (length c.in-Some.values.now.items == 0) = search rules in
    empty ∙ empty_from _ c.in-Some.values.now.items c.in-Some.ensures
