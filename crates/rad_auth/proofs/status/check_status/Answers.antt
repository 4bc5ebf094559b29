use Rattle.std.proofs.Common.{◌≡◌, arith}
use Rattle.rad_auth.proofs.Statuses.{status-decided, none-wrong, other-length-wrong}
use Rattle.rad_auth.proofs.status.check_status.Goals as goal

pub returns-in-Some : goal.returns-in-Some
returns-in-Some c =
    let counted : c.in-Some.at.length ≡ 18 = omega arith in
    status-decided c.args.secret.now c.args.packet.now c.octets.result.now c.in-Some.at.place c.in-Some.at.length c.is_right_value.result c.octets.ensures.value c.octets.ensures.packet
    c.in-Some.ensures.0 c.in-Some.ensures.1 counted c.is_right_value.ensures

pub returns-in_default : goal.returns-in_default
returns-in_default c = other-length-wrong c.args.secret.now c.args.packet.now c.in-Some.at.place c.in-Some.at.length c.in-Some.ensures.1 c.if-at-eq-MESSAGE_AUTHENTICATOR_LENGTH.false

pub returns-in_default-2 : goal.returns-in_default-2
returns-in_default-2 c = none-wrong c.args.secret.now c.args.packet.now c.in_default.ensures
