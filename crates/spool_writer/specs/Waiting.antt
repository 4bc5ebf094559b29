-- The entries that are in no batch that is on disk. Own.
use Rattle.std.specs.Prelude.{List, map}
use Rattle.spool_files.specs.Entries.{Entry}
use Rattle.spool_writer.specs.declared.waiting.Waiting.{Waiting}

abbrev pub entries_of : List Waiting → List Entry
entries_of waiting = map (λ w. (w.parcel.head, w.parcel.octets)) waiting
