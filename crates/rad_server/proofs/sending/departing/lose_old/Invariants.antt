use Rattle.std.proofs.Common.{◌≡◌, []}
use Rattle.rad_server.specs.internal.Accounts.{GoesOn, kept_list}
use Rattle.rad_server.specs.internal.Taken.{given, taken}
use Rattle.rad_server.proofs.sending.departing.lose_old.Given as goal

-- So far, what is lost is gone.
abbrev pub invariant-loop : goal.invariant-loop
invariant-loop g l = record {
  order : GoesOn (given l.fn.account.gone.passed) (kept_list l.fn.kept) [] (given l.account.gone.passed) (kept_list l.kept);
  lost : taken l.account.gone.passed ≡ taken l.fn.account.gone.passed;
  handed : l.account.handed ≡ l.fn.account.handed;
}
