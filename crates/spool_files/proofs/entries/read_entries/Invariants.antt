use Rattle.std.proofs.Common.{◌≡◌, ◌++◌, length}
use Rattle.spool_files.specs.Entries.{AreEntries, octets_of, views}
use Rattle.spool_files.proofs.entries.read_entries.Given as goal

abbrev pub invariant-loop-rest : goal.invariant-loop-rest
invariant-loop-rest l = record { fit : AreEntries (views l.entries.items); read : octets_of (views l.entries.items) ++ l.rest ≡ l.octets }

abbrev pub decreases-loop-rest : goal.decreases-loop-rest
decreases-loop-rest l = length l.rest
