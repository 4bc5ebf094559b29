use Rattle.std.proofs.Common.{List, length, Option, sym, subst, arith, ◌<◌}
use Rattle.std.specs.Option.{MatchOption}
use Rattle.rad_tables.specs.declared.slots.Due.{Due}
use Rattle.rad_tables.specs.declared.cells.Cell.{Cell}
use Rattle.rad_tables.specs.Pairs.{Table}
use Rattle.rad_tables.specs.Dues.{NoneIs, IsFirstDue}
use Rattle.rad_tables.specs.internal.Least.{NoneAmong, IsLeastAmong, AreInUse}
use Rattle.rad_tables.specs.internal.Kept.{slot_at, contents_of}
use Rattle.rad_tables.proofs.DueLemmas.{none_is, first_is, least_below}
use Rattle.rad_tables.proofs.slots.Slots.first_due.Goals as goal

pub returns-in_err-waiting : goal.returns-in_err-waiting
returns-in_err-waiting g c =
    let t = g.T.Timed in
    let cells = c.self.inside.cells.items in
    let places = c.self.inside.places.items in
    let spent = c.args.spent in
    let none =
    subst (λ (l : List (Cell g.row.T.Denot)). NoneAmong t.spent_of (contents_of l) places spent (length places)) c.deref.ensures.value
    (subst (λ l. NoneAmong t.spent_of (contents_of c.deref.result.now) l spent (length l)) c.deref-2.ensures.value c.in_err-waiting.ensures) in
    subst (λ (o : Option Due). MatchOption o (NoneIs t.spent_of c.args.self.now.entries spent) (IsFirstDue t.due_of t.number_of t.spent_of c.args.self.now.entries spent)) (sym c.from_residual.ensures)
    (subst (λ (s : Table g.row.T.Denot). NoneIs t.spent_of s.entries spent) c.self.view_is
    (none_is t.due_of t.number_of t.spent_of (contents_of cells) places _ c.self.invariant.index spent none))

pub returns : goal.returns
returns g c =
    let t = g.T.Timed in
    let cells = c.self.inside.cells.items in
    let places = c.self.inside.places.items in
    let spent = c.args.spent in
    let waiting = c.in_ok-waiting.waiting in
    let least =
    subst (λ (l : List (Cell g.row.T.Denot)). IsLeastAmong t.due_of t.number_of t.spent_of (contents_of l) places spent (length places) waiting) c.deref.ensures.value
    (subst (λ l. IsLeastAmong t.due_of t.number_of t.spent_of (contents_of c.deref.result.now) l spent (length l) waiting) c.deref-2.ensures.value c.in_ok-waiting.ensures) in
    subst (λ slot. IsFirstDue t.due_of t.number_of t.spent_of c.args.self.now.entries spent (record { slot = slot; due = waiting.due })) (sym c.slot_at.ensures)
    (subst (λ (s : Table g.row.T.Denot). IsFirstDue t.due_of t.number_of t.spent_of s.entries spent (record { slot = slot_at waiting.place; due = waiting.due })) c.self.view_is
    (first_is t.due_of t.number_of t.spent_of (contents_of cells) places _ c.self.invariant.index spent waiting least))

pub least_of-requires : goal.least_of-requires
least_of-requires g c =
    subst (λ (l : List (Cell g.row.T.Denot)). AreInUse (contents_of l) c.deref-2.result.now) (sym c.deref.ensures.value)
    (subst (λ l. AreInUse (contents_of c.self.inside.cells.items) l) (sym c.deref-2.ensures.value) c.self.invariant.index.in_use)

pub slot_at-requires : goal.slot_at-requires
slot_at-requires g c =
    let kept = c.self.invariant in
    let waiting = c.in_ok-waiting.waiting in
    let t = g.T.Timed in
    let below : waiting.place < length (contents_of c.deref.result.now) = least_below t.due_of t.number_of t.spent_of (contents_of c.deref.result.now) _ c.args.spent _ waiting c.in_ok-waiting.ensures in
    let here = subst (λ (l : List (Cell g.row.T.Denot)). waiting.place < length (contents_of l)) c.deref.ensures.value below in
    omega (arith, here, kept.pairs, kept.most)
