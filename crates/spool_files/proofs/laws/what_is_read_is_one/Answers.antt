use Rattle.std.proofs.Common.{[], sym, ◌∙◌}
use Rattle.std.proofs.lemmas.List.{append-nil}
use Rattle.spool_files.specs.Entries.{entry_octets, FitsEntry, octets_of}
use Rattle.spool_files.specs.Batches.{batch_octets, FitsBatch}
use Rattle.spool_files.specs.internal.Fields.{entry_at, batch_at}
use Rattle.spool_files.proofs.EntryLemmas.{entry_field, no_entry}
use Rattle.spool_files.proofs.BatchLemmas.{batch_field, no_batch}
use Rattle.spool_files.proofs.Rows.{same_rows, ends_nothing}
use Rattle.spool_files.proofs.laws.what_is_read_is_one.Goals as goal

pub returns-clause-entries : goal.returns-clause-entries
returns-clause-entries c = λ octets one other is is'.
    let ends = ends_nothing entry_at entry_octets FitsEntry entry_field no_entry in
    same_rows entry_at entry_octets FitsEntry entry_field no_entry one other [] [] is.fit is'.fit ends ends
    (append-nil (octets_of one) ∙ sym is.are ∙ is'.are ∙ sym (append-nil (octets_of other)))

pub returns-clause-batches : goal.returns-clause-batches
returns-clause-batches c = λ file one other is is'. same_rows batch_at batch_octets FitsBatch batch_field no_batch one other is.rest is'.rest is.fit is'.fit is.ends is'.ends (sym is.split ∙ is'.split)
