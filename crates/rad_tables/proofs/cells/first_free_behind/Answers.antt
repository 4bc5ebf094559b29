use Rattle.rad_tables.proofs.AllotLemmas.{free_behind}
use Rattle.rad_tables.specs.internal.Kept.{contents_of, entry_of, IsFirstFreeBetween}
use Rattle.std.proofs.lemmas.List.{length-map}
use Rattle.std.proofs.Common.{sym, subst, arith, inl}
use Rattle.rad_tables.proofs.cells.first_free_behind.Goals as goal

pub first_free-requires : goal.first_free-requires
first_free-requires g c = omega arith

pub first_free-requires-in-None : goal.first_free-requires-in-None
first_free-requires-in-None g c = c.requires

pub returns-in-Some : goal.returns-in-Some
returns-in-Some g c =
    let cells = c.args.cells.now in
    inl (subst (λ n. IsFirstFreeBetween (contents_of cells) c.args.start n c.in-Some.place) (sym (length-map cells entry_of)) c.in-Some.ensures)

pub returns-in-None : goal.returns-in-None
returns-in-None g c =
    let cells = c.args.cells.now in
    free_behind (contents_of cells) c.args.start _ (length-map cells entry_of) _ c.in-None.ensures c.first_free-in-None.ensures
