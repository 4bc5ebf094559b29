use Rattle.ledger_state.proofs.file_sums.FileSumDisplay.fmt.Goals as goal

pub returns-clause-writes : goal.returns-clause-writes
returns-clause-writes g c = c.write.ensures.writes
