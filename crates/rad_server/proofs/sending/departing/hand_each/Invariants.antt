use Rattle.std.proofs.Common.{◌≡◌, ◌++◌, map, take}
use Rattle.rad_server.specs.internal.Accounts.{AreInOrder, kept_of}
use Rattle.rad_server.specs.internal.Keeping.{departure_of}
use Rattle.rad_server.specs.internal.Taken.{HaveTaken, given, taken}
use Rattle.rad_server.proofs.sending.departing.hand_each.Given as goal

-- So far, the first of them were handed over, and all is in order.
abbrev pub invariant-loop-waiting : goal.invariant-loop-waiting
invariant-loop-waiting g l = record {
  order : AreInOrder (taken l.fn.account.handed.passed) (given l.fn.account.gone.passed) (kept_of l.fn.kept) → AreInOrder (taken l.account.handed.passed) (given l.account.gone.passed) (kept_of l.kept);
  taken : HaveTaken g.S.DatagramSocket.took l.fn.sockets (taken l.fn.account.gone.passed) → HaveTaken g.S.DatagramSocket.took l.sockets (taken l.account.gone.passed);
  handed : given l.account.handed.passed ≡ given l.fn.account.handed.passed ++ map departure_of (take l.waiting-index l.datagrams);
}
