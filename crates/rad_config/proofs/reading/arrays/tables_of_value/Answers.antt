use Rattle.rad_config.proofs.TablesRead.{not_an_array, no_tables, too_many_tables, all_tables}
use Rattle.rad_config.proofs.ArrayTables.{length_tables}
use Rattle.rad_config.specs.internal.Values.{IsTable, tables_of_values}
use Rattle.rad_config.specs.Walk.{tables_in}
use Rattle.toml.specs.declared.value.Value.{Value}
use Rattle.toml.specs.View.{view, items_view}
use Rattle.std.proofs.Common.{◌≡◌, List, Some, None, All, sym, subst, ◌∙◌, arith}
use Rattle.rad_config.proofs.reading.arrays.tables_of_value.Goals as goal

pub returns-in_default-clause-tables : goal.returns-in_default-clause-tables
returns-in_default-clause-tables c = not_an_array c.args.most c.args.spot (view c.args.value.now) c.in_default.ensures

pub returns-then-not-are_tables-clause-tables : goal.returns-then-not-are_tables-clause-tables
returns-then-not-are_tables-clause-tables c =
    let none = subst (λ (l : List Value). tables_in (items_view l) ≡ None) c.deref.ensures.value c.if-not-are_tables.ensures in
    no_tables c.args.most c.args.spot (view c.args.value.now) _ c.in-Some.ensures none

pub returns-then-len-most-clause-tables : goal.returns-then-len-most-clause-tables
returns-then-len-most-clause-tables c =
    let values = c.in-Some.values.now.items in
    let are = subst (λ (l : List Value). tables_in (items_view l) ≡ Some (tables_of_values l)) c.deref.ensures.value c.if-not-are_tables.ensures.1 in
    too_many_tables c.args.most c.args.spot (view c.args.value.now) _ c.in-Some.ensures (tables_of_values values) are (omega (arith, length_tables values, c.len.ensures, c.in-Some.values.now.ok.0))

pub returns-clause-tables : goal.returns-clause-tables
returns-clause-tables c =
    let values = c.in-Some.values.now.items in
    let are = subst (λ (l : List Value). tables_in (items_view l) ≡ Some (tables_of_values l)) c.deref.ensures.value c.if-not-are_tables.ensures.1 in
    let each = subst (λ (l : List Value). All IsTable l) (c.deref.ensures.value ∙ sym c.as_slice.ensures.value) c.if-not-are_tables.ensures.0 in
    let read = all_tables c.args.most c.args.spot (view c.args.value.now) _ c.in-Some.ensures (tables_of_values values) are (omega (arith, length_tables values, c.len.ensures, c.in-Some.values.now.ok.0)) in
    (each, rw c.as_slice.ensures.value read)

pub returns-clause-most : goal.returns-clause-most
returns-clause-most c = omega (arith, c.as_slice.ensures.len, c.len.ensures)
