use Rattle.std.proofs.Common.{◌≡◌, ◌∙◌, [], length, ap, sym, arith}
use Rattle.rad_packet.specs.Packet.{identifier_of, authenticator_of}
use Rattle.rad_auth.specs.Authenticator.{accounting_response}
use Rattle.rad_auth.proofs.Signing.{accounting_response-made, IsRightResponse-accounting_response}
use Rattle.rad_auth.proofs.status.answer_status.Goals as goal

-- the packet's Authenticator has sixteen octets
sixteen : (c : goal.After-sign_datagram) → length c.authenticator-authenticator.result ≡ 16
sixteen c = omega arith

pub returns-clause-answer : goal.returns-clause-answer
returns-clause-answer c =
    let secret = c.args.secret.now in
    let authenticator = c.authenticator-authenticator.result in
    accounting_response-made c.identifier.result authenticator [] secret c.begin.new.self c.sign_datagram.new.datagram (sixteen c) c.begin.ensures c.sign_datagram.ensures
    ∙ ap (λ n. accounting_response n authenticator [] secret) c.identifier.ensures
    ∙ ap (λ a. accounting_response (identifier_of c.args.packet.now) a [] secret) c.authenticator-authenticator.ensures

pub returns-clause-signed : goal.returns-clause-signed
returns-clause-signed c =
    let n : length (authenticator_of c.args.packet.now) ≡ 16 = ap length (sym c.authenticator-authenticator.ensures) ∙ sixteen c in
    rw (returns-clause-answer c) (IsRightResponse-accounting_response (identifier_of c.args.packet.now) (authenticator_of c.args.packet.now) [] c.args.secret.now n)
