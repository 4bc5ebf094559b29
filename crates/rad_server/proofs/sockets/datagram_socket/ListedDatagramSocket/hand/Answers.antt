use Rattle.std.proofs.Common.{[], ◌∷◌, Some, ap, ◌∙◌, map}
use Rattle.std.proofs.lemmas.List.{map-append}
use Rattle.rad_desk.specs.declared.wire.Delivery.TheVariants.{Sent}
use Rattle.rad_server.specs.internal.Taken.{given, listed_in, plain}
use Rattle.rad_server.proofs.Accounts.{given_one}
use Rattle.rad_server.proofs.sockets.datagram_socket.ListedDatagramSocket.hand.Goals as goal

pub returns-in-Accepted : goal.returns-in-Accepted
returns-in-Accepted g c =
    let was = c.args.self.now.taken.passed in
    ap (λ l. Some l)
    (ap listed_in c.departed.ensures
    ∙ (ap (map plain) (given_one was 0 c.args.to c.args.octets.now Sent)
    ∙ map-append plain (given was) (record { socket = 0; to = c.args.to; octets = c.args.octets.now } ∷ [])))
