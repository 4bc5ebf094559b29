use Rattle.std.proofs.Common.{◌≡◌, ◌*◌, length, None, ap, ◌∙◌, arith}
use Rattle.rad_tables.specs.internal.Kept.{entries_of}
use Rattle.rad_tables.proofs.ContentsLemmas.{entries_of-free}
use Rattle.rad_tables.proofs.KeptLemmas.{kept_made, table}
use Rattle.rad_tables.proofs.slots.Slots.new.Goals as goal

pub invariant_of-result : goal.invariant_of-result
invariant_of-result g c =
    let pairs = 256 * c.from-pairs.result in
    let count : pairs ≡ 256 * c.args.ports = omega arith in
    let back : length c.in_ok-vec.field-0.items ≡ pairs = omega (arith, c.in_ok-vec.ensures.len, c.in_ok-vec.field-0.ok.0) in
    kept_made pairs _ c.args.ports _ _ _ c.requires.least c.requires.most count c.in_ok-free_cells.ensures c.in_ok-with_capacity.ensures.items c.in_ok-with_capacity.ensures.exact back

pub returns : goal.returns
returns g c =
    ap (λ entries. table c.args.ports entries None) (ap entries_of c.in_ok-free_cells.ensures ∙ entries_of-free (256 * c.from-pairs.result))
