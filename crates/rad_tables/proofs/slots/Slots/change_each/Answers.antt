use Rattle.std.proofs.Common.{List, sym, ap, subst, ◌∙◌, arith}
use Rattle.std.specs.Option.{option_map}
use Rattle.std.specs.FinMap as map
use Rattle.rad_tables.specs.declared.cells.Cell.{Cell}
use Rattle.rad_tables.specs.internal.Kept.{AreChanged, contents_of, entries_of}
use Rattle.rad_tables.proofs.ChangeLemmas.{get_changed, kept_changed_each, rewritten}
use Rattle.rad_tables.proofs.slots.Slots.change_each.Goals as goal

pub invariant_of-self : goal.invariant_of-self
invariant_of-self g c =
    let f = g.C.Change.changed c.args.change.now in
    let old = c.self.inside.cells in
    let is = rewritten old.len c.change_each.new.cells old.items (omega (arith, c.change_each.auto.cells, c.deref_mut.ensures.len)) in
    let changed : AreChanged f (contents_of old.items) (contents_of c.change_each.new.cells) =
    subst (λ (l : List (Cell g.row.T.Denot)). AreChanged f (contents_of l) (contents_of c.change_each.new.cells)) c.deref_mut.ensures.value c.change_each.ensures in
    kept_changed_each f (contents_of old.items) _ (subst (λ (l : List (Cell g.row.T.Denot)). AreChanged f (contents_of old.items) (contents_of l)) (sym is) changed) _ _ _ _ _ c.self.invariant

pub returns-clause-changed : goal.returns-clause-changed
returns-clause-changed g c = λ slot.
    let f = g.C.Change.changed c.args.change.now in
    let old = c.self.inside.cells in
    let is = rewritten old.len c.change_each.new.cells old.items (omega (arith, c.change_each.auto.cells, c.deref_mut.ensures.len)) in
    let changed : AreChanged f (contents_of old.items) (contents_of c.change_each.new.cells) =
    subst (λ (l : List (Cell g.row.T.Denot)). AreChanged f (contents_of l) (contents_of c.change_each.new.cells)) c.deref_mut.ensures.value c.change_each.ensures in
    ap (λ (l : List (Cell g.row.T.Denot)). map.get (entries_of (contents_of l)) slot) is
    ∙ get_changed f (contents_of old.items) (contents_of c.change_each.new.cells) changed slot
    ∙ ap (λ t. option_map f (map.get t.entries slot)) c.self.view_is
