use Rattle.std.proofs.Common.{◌≡◌, []}
use Rattle.rad_server.specs.internal.Accounts.{GoesOn, kept_list}
use Rattle.rad_server.specs.internal.Taken.{HaveTaken, given, taken}
use Rattle.rad_server.proofs.sending.departing.hand_kept.Given as goal

-- So far, each client's kept ones are gone in order, or are kept, and the sockets took what is gone to them.
abbrev pub invariant-loop : goal.invariant-loop
invariant-loop g l = record {
  order : GoesOn (given l.fn.account.gone.passed) (kept_list l.fn.kept) [] (given l.account.gone.passed) (kept_list l.kept);
  taken : HaveTaken g.S.DatagramSocket.took l.fn.sockets (taken l.fn.account.gone.passed) → HaveTaken g.S.DatagramSocket.took l.sockets (taken l.account.gone.passed);
  handed : l.account.handed ≡ l.fn.account.handed;
}
