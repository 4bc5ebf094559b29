use Rattle.std.proofs.Common.{◌≡◌, ◌≤◌, length}
use Rattle.std.specs.List.{slice_range}
use Rattle.ledger_files.specs.Files.{wrote}
use Rattle.ledger_files.proofs.pending.write_rest.Given as goal

abbrev pub invariant-loop : goal.invariant-loop
invariant-loop g l = record {
  from : l.done ≤ l.at;
  within : l.at ≤ length l.octets;
  written : g.D.LedgerDisk.files l.disk ≡ wrote (g.D.LedgerDisk.files l.initial.disk) (slice_range l.octets l.done l.at);
  none : l.done ≡ length l.octets → l.disk ≡ l.initial.disk;
}
