use Rattle.std.proofs.Common.{◌≡◌, ◌++◌, take}
use Rattle.spool_files.specs.Entries.{octets_of}
use Rattle.spool_writer.specs.Waiting.{entries_of}
use Rattle.spool_writer.proofs.waiting.put_entries.Given as goal

abbrev pub invariant-loop-place : goal.invariant-loop-place
invariant-loop-place l = l.octets.items ≡ l.fn.octets.items ++ octets_of (entries_of (take l.place l.waiting))
