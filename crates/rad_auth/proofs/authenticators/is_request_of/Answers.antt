use Rattle.std.proofs.Common.{◌≡◌, length, arith}
use Rattle.rad_auth.proofs.Signing.{IsRequestOf-by, IsRequestOf-digest}
use Rattle.rad_auth.proofs.authenticators.is_request_of.Goals as goal

pub returns : goal.returns
returns c =
    let made = c.digest_of_parts-right.result in
    let start = c.packet_start-start.result in
    let sixteen : length c.args.authenticator.now ≡ 16 = omega arith in (
      λ t. IsRequestOf-by c.args.identifier c.args.authenticator.now c.args.attributes.now c.args.secret.now start made sixteen c.packet_start-start.ensures c.digest_of_parts-right.ensures (c.is_same.ensures.0 t),
      λ is. c.is_same.ensures.1 (IsRequestOf-digest c.args.identifier c.args.authenticator.now c.args.attributes.now c.args.secret.now start made sixteen c.packet_start-start.ensures c.digest_of_parts-right.ensures is),
    )
