use Rattle.std.proofs.Common.{◌≡◌, ℕ, List, length}
use Rattle.std.specs.Prelude.{vec_len}
use Rattle.ledger_files.specs.Runs.{IsRun}
use Rattle.ledger_writer.specs.Fills.{Fills, HasPassed, Taken, last_day}
use Rattle.ledger_writer.proofs.writer.LineSource.fill.Given as goal

-- The line that ends the run is not made, and each parcel that was passed has its line.
abbrev pub invariant-loop-made : goal.invariant-loop-made
invariant-loop-made g l = record {
  goes_on : vec_len l.files.last.octets ≡ 0;
  names : l.self.names ≡ l.fn.self.names;
  fills : (before : List Taken) → HasPassed l.fn.self.entries before → (lines : List (List ℕ)) → IsRun (g.D.LedgerDisk.files l.fn.files.disk) l.fn.files lines
      → (so : Fills l.fn.self.names l.fn.day before lines l.self.entries (λ all. IsRun (g.D.LedgerDisk.files l.files.disk) l.files all)) × (length so.more ≡ l.made) × (l.day ≡ last_day l.fn.day so.more);
}
