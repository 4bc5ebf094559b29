use Rattle.std.proofs.Common.{◌∙◌, ap}
use Rattle.rad_packet.specs.Packet.{packet_text, code_of, identifier_of, attribute_octets}
use Rattle.rad_auth.specs.Authenticator.{response_authenticator}
use Rattle.rad_auth.proofs.Signing.{response_authenticator-taken}
use Rattle.rad_auth.proofs.authenticators.sign_datagram.Goals as goal

pub returns : goal.returns
returns c =
    let text = c.args.datagram.now in
    let secret = c.args.secret.now in
    let authenticator = c.args.authenticator.now in
    let signature =
    response_authenticator-taken secret authenticator c.bytes.result.now c.digest-signature.result c.digest-signature.ensures
    ∙ ap (response_authenticator secret authenticator) c.bytes.ensures.value in
    c.set_authenticator.ensures ∙ ap (λ x. packet_text (code_of text) (identifier_of text) x (attribute_octets text)) signature
