use Rattle.std.proofs.Common.{◌∙◌, ap}
use Rattle.rad_auth.specs.Authenticator.{request_authenticator}
use Rattle.rad_auth.proofs.Signing.{request_authenticator-taken}
use Rattle.rad_auth.proofs.authenticators.request_authenticator.Goals as goal

pub returns : goal.returns
returns c =
    request_authenticator-taken c.args.secret.now c.octets.result.now c.digest.result c.digest.ensures
    ∙ ap (request_authenticator c.args.secret.now) c.octets.ensures.value
