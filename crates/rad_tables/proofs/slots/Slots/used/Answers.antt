use Rattle.std.proofs.Common.{ap, arith}
use Rattle.rad_tables.specs.internal.Kept.{contents_of}
use Rattle.rad_tables.proofs.ContentsLemmas.{len_at_most}
use Rattle.rad_tables.proofs.slots.Slots.used.Goals as goal

pub returns-clause-most : goal.returns-clause-most
returns-clause-most g c =
    let kept = c.self.invariant in
    let ports = ap (λ t. t.ports) c.self.view_is in
    omega (arith, len_at_most (contents_of c.self.inside.cells.items), kept.count, kept.pairs, c.self.inside.places.ok.0)
