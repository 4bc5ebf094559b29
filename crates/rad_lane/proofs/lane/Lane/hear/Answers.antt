use Rattle.std.proofs.Common.{refl, sym, ◌∙◌}
use Rattle.rad_lane.specs.declared.hearing.HearFault.TheVariants.{Unread}
use Rattle.rad_lane.proofs.HearingRefused.{hears_fault}
use Rattle.rad_lane.proofs.lane.Lane.hear.Goals as goal

pub returns-in_err-packet : goal.returns-in_err-packet
returns-in_err-packet g c =
    hears_fault _ _ _ _ _ (Unread c.in_err-packet.field-0.0) _ c.from_residual.result c.in_err-packet.ensures refl refl c.from_residual.ensures

pub returns-then-code-ne-ACCOUNTING_RESPONSE : goal.returns-then-code-ne-ACCOUNTING_RESPONSE
returns-then-code-ne-ACCOUNTING_RESPONSE g c =
    ((c.in_ok-packet.packet, c.in_ok-packet.ensures, λ is. c.if-code-ne-ACCOUNTING_RESPONSE.true (c.code.ensures ∙ is)), refl)

pub hear_response-requires-clause-later : goal.hear_response-requires-clause-later
hear_response-requires-clause-later g c = c.moment_of-now.ensures.later

pub hear_response-requires-clause-code : goal.hear_response-requires-clause-code
hear_response-requires-clause-code g c = sym c.code.ensures ∙ c.if-code-ne-ACCOUNTING_RESPONSE.false

pub hear_response-requires-clause-identifier : goal.hear_response-requires-clause-identifier
hear_response-requires-clause-identifier g c = c.identifier.ensures

pub returns : goal.returns
returns g c = c.hear_response.ensures c.args.moment c.args.datagram.now c.moment_of-now.ensures.value c.in_ok-packet.ensures
