use Rattle.std.proofs.Common.{◌≡◌, ◌∙◌, length, ap, arith}
use Rattle.rad_auth.specs.Hmac.{hmac_md5}
use Rattle.rad_auth.proofs.Statuses.{status_server-made, IsRightStatus-status_server}
use Rattle.rad_auth.proofs.status.make_status.Goals as goal

pub returns-clause-made : goal.returns-clause-made
returns-clause-made c =
    status_server-made c.args.identifier c.args.authenticator c.args.secret.now c.write_status.new.datagram c.hmac_md5-value.result _
    c.write_status.ensures
    (c.hmac_md5-value.ensures ∙ ap (λ key. hmac_md5 key c.bytes.result.now) c.octets.ensures.value ∙ ap (hmac_md5 c.args.secret.now) c.bytes.ensures.value)
    c.write_status-2.ensures

pub returns-clause-right : goal.returns-clause-right
returns-clause-right c =
    let sixteen : length c.args.authenticator ≡ 16 = omega arith in
    rw (returns-clause-made c) (IsRightStatus-status_server c.args.identifier c.args.authenticator c.args.secret.now sixteen)
