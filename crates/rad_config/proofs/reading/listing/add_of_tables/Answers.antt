use Rattle.std.proofs.Common.{◌≡◌, ℕ, ◌+◌, length, take, refl, ap, arith}
use Rattle.std.proofs.lemmas.List.{length-take}
use Rattle.rad_config.specs.internal.Values.{tables_of_values}
use Rattle.rad_config.proofs.Listing.{tables_onward, tables_end}
use Rattle.rad_config.proofs.reading.listing.add_of_tables.Goals as goal

pub slice_bounds-add_of_table-end : goal.slice_bounds-add_of_table-end
slice_bounds-add_of_table-end c = simp length-take (omega (arith, c.loop-value.invariant.0, c.loop-value-test.true))

pub loop-value-init : goal.loop-value-init
loop-value-init c = (refl, refl)

pub loop-value-preserved : goal.loop-value-preserved
loop-value-preserved c =
    let i = c.loop-value.value-index in
    let same : c.loop-value.index ≡ i = c.loop-value.invariant.0 in
    let long : length (take i c.args.tables.now) ≡ i = simp length-take (omega (arith, c.loop-value-test.true)) in
    let one = rw (same, long) at c.in_ok-add_of_table.ensures in (
      ap (λ (k : ℕ). k + 1) same,
      tables_onward c.args.part (tables_of_values c.args.homes.now) c.args.tables.now i c.value-item.result c.loop-value.faults.items c.add_of_table.new.faults.items _ c.loop-value-test.true c.value-item.is one c.loop-value.invariant.1,
    )

pub returns : goal.returns
returns c =
    tables_end c.args.part (tables_of_values c.args.homes.now) c.args.tables.now c.loop-value.value-index c.loop-value.faults.items _ c.loop-value-test.false c.loop-value.invariant.1
