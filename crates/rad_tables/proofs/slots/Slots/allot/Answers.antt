use Rattle.std.proofs.Common.{List, length, is_some, sym, ap, subst, ◌∙◌, arith, ◌≤◌, refl}
use Rattle.std.proofs.lemmas.Bool.{false≢true}
use Rattle.std.proofs.lemmas.List.{length-map}
use Rattle.std.specs.FinMap as map
use Rattle.rad_tables.specs.declared.cells.Cell.{Cell}
use Rattle.rad_tables.specs.Pairs.{Table, AllInUse, IsFirstFree, IsInRange}
use Rattle.rad_tables.specs.internal.Kept.{slot_at, contents_of, entry_of, start_of, InUseBetween, IsFirstFreeBehind}
use Rattle.rad_tables.proofs.AllotLemmas.{found, found_inside, found_free, all_in_use, full, not_all, again, start_within}
use Rattle.rad_tables.proofs.slots.Slots.allot.Goals as goal

pub returns-in_err-place-clause-none : goal.returns-in_err-place-clause-none
returns-in_err-place-clause-none g c =
    let cells = c.self.inside.cells.items in
    let kept = c.self.invariant in
    let used : InUseBetween (contents_of cells) 0 (length (contents_of cells)) =
    subst (λ (l : List (Cell g.row.T.Denot)). InUseBetween (contents_of l) 0 (length (contents_of l))) c.deref.ensures.value
    (λ p low high. c.in_err-place.ensures p low (omega (arith, length-map c.deref.result.now entry_of))) in
    let all = subst (λ (t : Table g.row.T.Denot). AllInUse t) c.self.view_is (all_in_use (contents_of cells) _ _ kept.pairs kept.last used) in
    (λ _. all, λ _. ap is_some c.from_residual.ensures)

pub returns-in_err-place-clause-room : goal.returns-in_err-place-clause-room
returns-in_err-place-clause-room g c = λ room.
    let cells = c.self.inside.cells.items in
    let kept = c.self.invariant in
    let used : InUseBetween (contents_of cells) 0 (length (contents_of cells)) =
    subst (λ (l : List (Cell g.row.T.Denot)). InUseBetween (contents_of l) 0 (length (contents_of l))) c.deref.ensures.value
    (λ p low high. c.in_err-place.ensures p low (omega (arith, length-map c.deref.result.now entry_of))) in
    let len = ap (λ t. map.len t.entries) c.self.view_is in
    let ports = ap (λ t. t.ports) c.self.view_is in
    absurd (omega (arith, full (contents_of cells) _ _ kept.pairs kept.last used))

pub returns-clause-none : goal.returns-clause-none
returns-clause-none g c =
    let cells = c.self.inside.cells.items in
    let kept = c.self.invariant in
    let is : IsFirstFreeBehind (contents_of cells) (start_of c.self.inside.allotted) c.in_ok-place.place =
    subst (λ (l : List (Cell g.row.T.Denot)). IsFirstFreeBehind (contents_of l) (start_of c.self.inside.allotted) c.in_ok-place.place) c.deref.ensures.value
    (subst (λ start. IsFirstFreeBehind (contents_of c.deref.result.now) start c.in_ok-place.place) c.start_of.ensures c.in_ok-place.ensures) in (
      λ wrong. absurd (false≢true (sym wrong)),
      λ all.
          absurd (not_all (contents_of cells) _ _ kept.pairs kept.last c.in_ok-place.place
          (found_inside (contents_of cells) _ _ kept.pairs kept.last c.in_ok-place.place is)
          (found_free (contents_of cells) _ _ kept.pairs kept.last c.in_ok-place.place is)
          (subst (λ (t : Table g.row.T.Denot). AllInUse t) (sym c.self.view_is) all)),
    )

pub returns-clause-first : goal.returns-clause-first
returns-clause-first g c =
    let cells = c.self.inside.cells.items in
    let kept = c.self.invariant in
    let is : IsFirstFreeBehind (contents_of cells) (start_of c.self.inside.allotted) c.in_ok-place.place =
    subst (λ (l : List (Cell g.row.T.Denot)). IsFirstFreeBehind (contents_of l) (start_of c.self.inside.allotted) c.in_ok-place.place) c.deref.ensures.value
    (subst (λ start. IsFirstFreeBehind (contents_of c.deref.result.now) start c.in_ok-place.place) c.start_of.ensures c.in_ok-place.ensures) in
    subst (λ slot. IsFirstFree c.args.self.now slot) (sym c.slot_at.ensures)
    (subst (λ (t : Table g.row.T.Denot). IsFirstFree t (slot_at c.in_ok-place.place)) c.self.view_is
    (found (contents_of cells) _ _ kept.pairs kept.last c.in_ok-place.place is))

pub returns-clause-again : goal.returns-clause-again
returns-clause-again g c = λ same.
    let cells = c.self.inside.cells.items in
    let kept = c.self.invariant in
    let is : IsFirstFreeBehind (contents_of cells) (start_of c.self.inside.allotted) c.in_ok-place.place =
    subst (λ (l : List (Cell g.row.T.Denot)). IsFirstFreeBehind (contents_of l) (start_of c.self.inside.allotted) c.in_ok-place.place) c.deref.ensures.value
    (subst (λ start. IsFirstFreeBehind (contents_of c.deref.result.now) start c.in_ok-place.place) c.start_of.ensures c.in_ok-place.ensures) in
    let len = ap (λ t. map.len t.entries) c.self.view_is in
    let ports = ap (λ t. t.ports) c.self.view_is in
    let last = ap (λ t. t.allotted) c.self.view_is ∙ same in
    omega (arith, again (contents_of cells) _ _ kept.pairs kept.last c.in_ok-place.place c.slot_at.result is last (sym c.slot_at.ensures))

pub first_free_behind-requires : goal.first_free_behind-requires
first_free_behind-requires g c =
    let kept = c.self.invariant in
    let cells = c.self.inside.cells.items in
    subst (λ (l : List (Cell g.row.T.Denot)). c.start_of.result ≤ length l) (sym c.deref.ensures.value)
    (omega (arith, start_within c.self.inside.allotted c.self.inside.ports kept.last, c.start_of.ensures, kept.pairs, length-map cells entry_of))

pub returns-in_err-place-clause-first : goal.returns-in_err-place-clause-first
returns-in_err-place-clause-first g c = rw c.from_residual.ensures tt

pub returns-in_err-place-clause-in_range : goal.returns-in_err-place-clause-in_range
returns-in_err-place-clause-in_range g c = rw c.from_residual.ensures tt

pub returns-in_err-place-clause-again : goal.returns-in_err-place-clause-again
returns-in_err-place-clause-again g c = rw c.from_residual.ensures tt

pub slot_at-requires : goal.slot_at-requires
slot_at-requires g c =
    let cells = c.self.inside.cells.items in
    let kept = c.self.invariant in
    let is : IsFirstFreeBehind (contents_of cells) (start_of c.self.inside.allotted) c.in_ok-place.place =
    subst (λ (l : List (Cell g.row.T.Denot)). IsFirstFreeBehind (contents_of l) (start_of c.self.inside.allotted) c.in_ok-place.place) c.deref.ensures.value
    (subst (λ start. IsFirstFreeBehind (contents_of c.deref.result.now) start c.in_ok-place.place) c.start_of.ensures c.in_ok-place.ensures) in
    let inside = found_inside (contents_of cells) _ _ kept.pairs kept.last c.in_ok-place.place is in
    omega (arith, inside, kept.pairs, kept.most)

pub returns-clause-in_range : goal.returns-clause-in_range
returns-clause-in_range g c =
    let cells = c.self.inside.cells.items in
    let kept = c.self.invariant in
    let is : IsFirstFreeBehind (contents_of cells) (start_of c.self.inside.allotted) c.in_ok-place.place =
    subst (λ (l : List (Cell g.row.T.Denot)). IsFirstFreeBehind (contents_of l) (start_of c.self.inside.allotted) c.in_ok-place.place) c.deref.ensures.value
    (subst (λ start. IsFirstFreeBehind (contents_of c.deref.result.now) start c.in_ok-place.place) c.start_of.ensures c.in_ok-place.ensures) in
    let inside = found_inside (contents_of cells) _ _ kept.pairs kept.last c.in_ok-place.place is in
    let range : IsInRange c.self.inside.ports (slot_at c.in_ok-place.place) = (omega (arith, inside, kept.pairs), omega arith) in
    subst (λ n. IsInRange n c.slot_at.result) (ap (λ t. t.ports) c.self.view_is) (subst (λ slot. IsInRange c.self.inside.ports slot) (sym c.slot_at.ensures) range)

pub returns-clause-room : goal.returns-clause-room
returns-clause-room g c = λ _. refl
