use Rattle.std.proofs.Common.{List, length, sym, subst}
use Rattle.std.specs.Option.{MatchOption}
use Rattle.rad_tables.specs.declared.cells.Cell.{Cell}
use Rattle.rad_tables.specs.Pairs.{Table}
use Rattle.rad_tables.specs.Dues.{IsEarliest, NoneInUse}
use Rattle.rad_tables.specs.internal.Least.{AreInUse, IsEarliestAmong}
use Rattle.rad_tables.specs.internal.Kept.{contents_of}
use Rattle.rad_tables.proofs.DueLemmas.{earliest_seen}
use Rattle.rad_tables.proofs.slots.Slots.earliest_due.Goals as goal

pub returns : goal.returns
returns g c =
    let due_of = g.T.Timed.due_of in
    let places = c.self.inside.places.items in
    let among =
    subst (λ (l : List (Cell g.row.T.Denot)). IsEarliestAmong due_of (contents_of l) places (length places) c.earliest_of.result) c.deref.ensures.value
    (subst (λ l. IsEarliestAmong due_of (contents_of c.deref.result.now) l (length l) c.earliest_of.result) c.deref-2.ensures.value c.earliest_of.ensures) in
    subst (λ (s : Table g.row.T.Denot). MatchOption c.earliest_of.result (NoneInUse s.entries) (IsEarliest due_of s.entries)) c.self.view_is
    (earliest_seen (contents_of c.self.inside.cells.items) places _ c.self.invariant.index due_of c.earliest_of.result among)

pub earliest_of-requires : goal.earliest_of-requires
earliest_of-requires g c =
    subst (λ (l : List (Cell g.row.T.Denot)). AreInUse (contents_of l) c.deref-2.result.now) (sym c.deref.ensures.value)
    (subst (λ l. AreInUse (contents_of c.self.inside.cells.items) l) (sym c.deref-2.ensures.value) c.self.invariant.index.in_use)
