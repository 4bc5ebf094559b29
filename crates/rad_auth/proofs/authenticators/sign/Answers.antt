use Rattle.rad_auth.proofs.Signing.{accounting_request-signed}
use Rattle.rad_auth.proofs.authenticators.sign.Goals as goal

pub returns : goal.returns
returns c =
    rw c.copy_from_slice.ensures.after
    (accounting_request-signed c.args.packet.now c.args.identifier c.args.secret.now c.digest-authenticator.result c.requires.packet c.requires.request c.digest-authenticator.ensures)
