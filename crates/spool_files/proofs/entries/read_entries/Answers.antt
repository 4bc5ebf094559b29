use Rattle.std.proofs.Common.{◌≡◌, ◌∷◌, [], ◌++◌, List, sym, ap, ◌∙◌, subst, arith}
use Rattle.std.proofs.lemmas.List.{map_push}
use Rattle.spool_files.specs.Entries.{Entry, AreEntries, octets_of, entry_octets, FitsEntry, views}
use Rattle.spool_files.specs.internal.Fields.{entry_at}
use Rattle.spool_files.proofs.EntryLemmas.{entry_field, no_entry, entry-long}
use Rattle.spool_files.proofs.Rows.{steps, no_row, some_left}
use Rattle.spool_files.proofs.entries.read_entries.Goals as goal

pub returns-in_default-clause-malformed : goal.returns-in_default-clause-malformed
returns-in_default-clause-malformed c = λ _ entries spells. no_row entry_at entry_octets FitsEntry entry_field no_entry c.args.octets.now (views c.loop-rest.entries.items) entries c.loop-rest.rest.now c.loop-rest.invariant.fit c.loop-rest.invariant.read (sym c.in_default.ensures) (λ e. some_left c.loop-rest.rest.now c.is_empty.result c.is_empty.ensures c.loop-rest-test.true e) spells.fit spells.are

pub loop-rest-smaller : goal.loop-rest-smaller
loop-rest-smaller c =
    let s = steps entry_at entry_octets FitsEntry entry_field no_entry c.args.octets.now (views c.loop-rest.entries.items) c.loop-rest.rest.now (c.in-Some.head, c.in-Some.text.now) c.in-Some.after.now (λ i. omega (arith, c.type_inv.octets i)) c.loop-rest.invariant.fit c.loop-rest.invariant.read (sym c.in-Some.ensures) in
    s.shorter entry-long

pub loop-rest-preserved : goal.loop-rest-preserved
loop-rest-preserved c =
    let s = steps entry_at entry_octets FitsEntry entry_field no_entry c.args.octets.now (views c.loop-rest.entries.items) c.loop-rest.rest.now (c.in-Some.head, c.in-Some.text.now) c.in-Some.after.now (λ i. omega (arith, c.type_inv.octets i)) c.loop-rest.invariant.fit c.loop-rest.invariant.read (sym c.in-Some.ensures) in
    let pushed : views c.push.new.self.items ≡ views c.loop-rest.entries.items ++ (c.in-Some.head, c.in-Some.text.now) ∷ [] = rw c.in_ok-push.ensures.items (map_push _ c.loop-rest.entries.items (c.in-Some.head, c.in-Some.text)) in
    record { fit = subst AreEntries (sym pushed) s.fit; read = ap (λ (l : List Entry). octets_of l ++ c.in-Some.after.now) pushed ∙ s.read }
