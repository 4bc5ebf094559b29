use Rattle.std.proofs.Common.{sym, ◌∙◌}
use Rattle.spool_files.proofs.CountLemmas.{noted}
use Rattle.spool_files.proofs.counting.note.Goals as goal

pub returns-in_ok-replace-in-Some-clause-known : goal.returns-in_ok-replace-in-Some-clause-known
returns-in_ok-replace-in-Some-clause-known c = λ entries text knows.
    noted c.args.known.now c.replace.new.self c.in-Some.key entries c.args.head.now text (sym c.key.ensures ∙ c.in-Some.is) c.in_ok-replace-in-Some.ensures.ok knows
