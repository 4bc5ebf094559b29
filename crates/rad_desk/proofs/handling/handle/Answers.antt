use Rattle.std.proofs.Common.{ℕ, List, [], ap, ◌∙◌}
use Rattle.rad_packet.specs.Packet.{identifier_of, authenticator_of}
use Rattle.rad_auth.specs.Authenticator.{accounting_response}
use Rattle.rad_desk.proofs.handling.handle.Goals as goal

pub returns-in_ok-taken-in-Request : goal.returns-in_ok-taken-in-Request
returns-in_ok-taken-in-Request g c =
    let ensures = c.in_ok-taken-in-Request.ensures in
    (record { request = c.in-Request.request; is = c.in-Request.is; nowhere = ensures.lane; returns = ensures.returns; accepts = ensures.accepts }, c.lane.ensures.value)

pub returns-in-Status : goal.returns-in-Status
returns-in-Status g c =
    let status = c.in-Status.status in
    record {
      status = status;
      is = c.in-Status.is;
      sent =
          c.answer_status.ensures.answer
          ∙ ap (λ (t : List ℕ). accounting_response (identifier_of t) (authenticator_of t) [] c.secret.result.now) c.packet.ensures.text
          ∙ ap (λ (s : List ℕ). accounting_response (identifier_of status.text) (authenticator_of status.text) [] s) c.secret.ensures;
    }
