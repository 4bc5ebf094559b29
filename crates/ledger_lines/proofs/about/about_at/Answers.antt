use Rattle.std.specs.Prelude.{option_copied}
use Rattle.ledger_lines.proofs.Lines.{part}
use Rattle.ledger_lines.proofs.about.about_at.Goals as goal

pub returns-in_err-run : goal.returns-in_err-run
returns-in_err-run c = part _ _ _ c.from_residual.result c.in_err-run.field-0.0 c.from_residual.ensures.1 c.in_err-run.ensures (λ p. (p.0.run, p.1.run))

pub returns-in_err-time : goal.returns-in_err-time
returns-in_err-time c = part _ _ _ c.from_residual-in_err-time.result c.in_err-time.field-0.0 c.from_residual-in_err-time.ensures.1 c.in_err-time.ensures (λ p. (p.0.time.now, p.1.time))

pub returns-in_err-home : goal.returns-in_err-home
returns-in_err-home c = part _ _ _ c.from_residual-in_err-home.result c.in_err-home.field-0.0 c.from_residual-in_err-home.ensures.1 c.in_err-home.ensures (λ p. (p.0.home.now, p.1.home))

pub returns-in_err-lane : goal.returns-in_err-lane
returns-in_err-lane c = part _ _ _ c.from_residual-in_err-lane.result c.in_err-lane.field-0.0 c.from_residual-in_err-lane.ensures.1 c.in_err-lane.ensures (λ p. (p.0.lane, p.1.lane))

pub returns-in_err-number : goal.returns-in_err-number
returns-in_err-number c = part _ _ _ c.from_residual-in_err-number.result c.in_err-number.field-0.0 c.from_residual-in_err-number.ensures.1 c.in_err-number.ensures (λ p. (p.0.number, p.1.record_is))

pub returns-in_err-client : goal.returns-in_err-client
returns-in_err-client c = part _ _ _ c.from_residual-in_err-client.result c.in_err-client.field-0.0 c.from_residual-in_err-client.ensures.1 c.in_err-client.ensures (λ p. (p.0.client, p.1.client))

pub returns-in_err-port : goal.returns-in_err-port
returns-in_err-port c = part _ _ _ c.from_residual-in_err-port.result c.in_err-port.field-0.0 c.from_residual-in_err-port.ensures.1 c.in_err-port.ensures (λ p. (p.0.port, p.1.port))

pub returns-in_err-identifier : goal.returns-in_err-identifier
returns-in_err-identifier c = part _ _ _ c.from_residual-in_err-identifier.result c.in_err-identifier.field-0.0 c.from_residual-in_err-identifier.ensures.1 c.in_err-identifier.ensures (λ p. (p.0.identifier, p.1.identifier))

pub returns-in_err-authenticator : goal.returns-in_err-authenticator
returns-in_err-authenticator c = part _ _ _ c.from_residual-in_err-authenticator.result c.in_err-authenticator.field-0.0 c.from_residual-in_err-authenticator.ensures.1 c.in_err-authenticator.ensures (λ p. (p.0.authenticator, p.1.authenticator))

pub returns-in_err-realm : goal.returns-in_err-realm
returns-in_err-realm c = part _ _ _ c.from_residual-in_err-realm.result c.in_err-realm.field-0.0 c.from_residual-in_err-realm.ensures.1 c.in_err-realm.ensures (λ p. (option_copied p.0.realm, p.1.realm))

pub returns-in_err-session : goal.returns-in_err-session
returns-in_err-session c = part _ _ _ c.from_residual-in_err-session.result c.in_err-session.field-0.0 c.from_residual-in_err-session.ensures.1 c.in_err-session.ensures (λ p. (option_copied p.0.session, p.1.session))

pub returns-in_err-status : goal.returns-in_err-status
returns-in_err-status c = part _ _ _ c.from_residual-in_err-status.result c.in_err-status.field-0.0 c.from_residual-in_err-status.ensures.1 c.in_err-status.ensures (λ p. (p.0.status, p.1.status))

pub returns-in_err-user : goal.returns-in_err-user
returns-in_err-user c = part _ _ _ c.from_residual-in_err-user.result c.in_err-user.field-0.0 c.from_residual-in_err-user.ensures.1 c.in_err-user.ensures (λ p. (option_copied p.0.user, p.1.user))
