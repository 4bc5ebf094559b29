use Rattle.std.specs.Prelude.{List}
use Rattle.spool_files.specs.Calls.{Call}
use Rattle.spool_files.specs.declared.logged_file.LoggedFile.{LoggedFile}

-- the calls of a file so far, the newest first
abbrev pub log_of : {C : Type 0} → LoggedFile C → List Call
log_of file = file.log.calls
