-- What is read from what a crash left, and what a start makes of it.
use Rattle.std.proofs.Common.{◌≡◌, ℕ, ◌<◌, ◌≤◌, List, [], ◌∷◌, ◌++◌, length, get_or, map, reverse, refl, sym, ap, subst, ◌∙◌, inl, inr, arith}
use Rattle.std.specs.List.Sorted.{IsPermutation, IsNonDecreasingBy}
use Rattle.std.proofs.lemmas.List.{append-nil, reverse-reverse, get_or-map, length-map}
use Rattle.std.proofs.lemmas.List.Sorted.{IsPermutation-map, IsPermutation-reverse, IsPermutation-trans}
use Rattle.spool_files.specs.declared.entry.Head.TheVariants as heads
use Rattle.spool_files.specs.declared.counting.OpenRequest.{OpenRequest}
use Rattle.spool_files.specs.Batches.{Batch, Has, FitsBatch, batch_octets}
use Rattle.spool_files.specs.Entries.{Entry, Spells, FitsEntry, entry_octets, octets_of}
use Rattle.spool_files.specs.Counting.{answers_of, open_of, request_entries}
use Rattle.spool_files.specs.internal.Fields.{batch_at, entry_at}
use Rattle.spool_files.proofs.BatchLemmas.{batch_field, no_batch}
use Rattle.spool_files.proofs.EntryLemmas.{entry_field, no_entry}
use Rattle.spool_files.proofs.Rows.{ends_nothing, same_rows}
use Rattle.spool_runs.specs.World.{arrival_of}
use Rattle.spool_runs.specs.Files.{ACrashLeavesWholeBatches, AStartCounts, HaveEntries}

-- ---- one list of entries, and one of batches

one_list : (octets : List ℕ) (one other : List Entry) → Spells octets one → Spells octets other → one ≡ other
one_list octets one other is is' =
    let ends = ends_nothing entry_at entry_octets FitsEntry entry_field no_entry in
    same_rows entry_at entry_octets FitsEntry entry_field no_entry one other [] [] is.fit is'.fit ends ends
    (append-nil (octets_of one) ∙ sym is.are ∙ is'.are ∙ sym (append-nil (octets_of other)))

one_batches : (file : List ℕ) (one other : List Batch) → Has file one → Has file other → one ≡ other
one_batches file one other is is' = same_rows batch_at batch_octets FitsBatch batch_field no_batch one other is.rest is'.rest is.fit is'.fit is.ends is'.ends (sym is.split ∙ is'.split)

same_entries : (batches : List Batch) (one other : List (List Entry)) → HaveEntries batches one → HaveEntries batches other → one ≡ other
same_entries [] [] [] a b = refl
same_entries [] [] (e ∷ other) a b = absurd b
same_entries [] (e ∷ one) other a b = absurd a
same_entries (batch ∷ batches) [] other a b = absurd a
same_entries (batch ∷ batches) (e ∷ one) [] a b = absurd b
same_entries (batch ∷ batches) (e ∷ one) (e' ∷ other) a b =
    ap (λ x. x ∷ one) (one_list batch.1 e e' a.0 b.0) ∙ ap (λ xs. e' ∷ xs) (same_entries batches one other a.1 b.1)

with_last : (batches : List Batch) (batch : Batch) (entries : List (List Entry)) (more : List Entry) → HaveEntries batches entries → Spells batch.1 more → HaveEntries (batches ++ batch ∷ []) (entries ++ more ∷ [])
with_last [] batch [] more a b = (b, tt)
with_last [] batch (e ∷ entries) more a b = absurd a
with_last (first ∷ batches) batch [] more a b = absurd a
with_last (first ∷ batches) batch (e ∷ entries) more a b = (a.0, with_last batches batch entries more a.1 b)

pub whole_batches : ACrashLeavesWholeBatches
whole_batches batches batch entries more file read had spells left reads = elim left [
  | inl before ↦ inl (same_entries batches read entries (subst (λ bs. HaveEntries bs read) (one_batches file reads.batches batches reads.has before) reads.are) had)
  | inr after ↦ inr (same_entries (batches ++ batch ∷ []) read (entries ++ more ∷ []) (subst (λ bs. HaveEntries bs read) (one_batches file reads.batches (batches ++ batch ∷ []) reads.has after) reads.are) (with_last batches batch entries more had spells))
]

-- ---- what was counted and sorted

abbrev as_entry : OpenRequest → Entry
as_entry r = (heads.Came r.came, r.octets.items)

by_arrival : (sorted : List OpenRequest) → IsNonDecreasingBy (λ r. r.came.arrival) sorted → IsNonDecreasingBy arrival_of (request_entries sorted)
by_arrival [] rises i j d le within = absurd (omega (arith, within))
by_arrival (first ∷ sorted) rises i j d le within =
    let all : List OpenRequest = first ∷ sorted in
    let in_j : j < length all = omega (arith, within, length-map all as_entry) in
    let in_i : i < length all = omega (arith, in_j, le) in
    let same : (k : ℕ) → k < length all → arrival_of (get_or (map as_entry all) k d) ≡ (get_or all k first).came.arrival = λ k in_k. ap arrival_of (get_or-map as_entry all k first d in_k) in
    subst (λ n. n ≤ arrival_of (get_or (map as_entry all) j d)) (sym (same i in_i)) (subst (λ n. (get_or all i first).came.arrival ≤ n) (sym (same j in_j)) (rises i j first le in_j))

pub start_counts : AStartCounts
start_counts now span disk counted sorted c s = record {
  offers = record {
    same =
        IsPermutation-trans (open_of disk) (reverse (open_of disk)) (request_entries sorted) (IsPermutation-reverse (open_of disk))
        (subst (λ es. IsPermutation es (request_entries sorted)) c.requests (IsPermutation-map as_entry counted.requests.items sorted s.same));
    in_order = by_arrival sorted s.in_order;
  };
  remembers = ap reverse c.answers ∙ reverse-reverse (answers_of now span disk);
}
