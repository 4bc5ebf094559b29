use Rattle.std.proofs.Common.{◌≡◌, Some, refl}
use Rattle.rad_replay.proofs.PieceLemmas.{cuts_at}
use Rattle.rad_replay.proofs.pieces.PiecesIterator.next.Goals as goal

pub returns-in-Some-clause-steps : goal.returns-in-Some-clause-steps
returns-in-Some-clause-steps c =
    let was : c.args.self.now.rest ≡ Some c.in_ok-rest.rest = c.in_ok-rest.was in
    let found = c.in-Some.ensures in
    rw was (cuts_at c.args.self.now.separator c.in_ok-rest.rest.now c.in-Some.end found, refl)
