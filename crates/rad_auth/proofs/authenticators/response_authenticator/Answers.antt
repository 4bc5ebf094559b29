use Rattle.std.proofs.Common.{◌∙◌, ap}
use Rattle.rad_auth.specs.Authenticator.{response_authenticator}
use Rattle.rad_auth.proofs.Signing.{response_authenticator-taken}
use Rattle.rad_auth.proofs.authenticators.response_authenticator.Goals as goal

pub returns : goal.returns
returns c =
    response_authenticator-taken c.args.secret.now c.args.authenticator.now c.octets.result.now c.digest.result c.digest.ensures
    ∙ ap (response_authenticator c.args.secret.now c.args.authenticator.now) c.octets.ensures.value
