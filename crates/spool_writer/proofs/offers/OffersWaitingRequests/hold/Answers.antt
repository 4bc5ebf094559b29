use Rattle.std.proofs.Common.{inl, inr, option_map, subst, sym}
use Rattle.rad_desk.specs.Resuming.{is_held}
use Rattle.rad_realms.specs.Incoming.{Takes}
use Rattle.spool_writer.specs.Offers.{HasWaiting, Waits, number_at}
use Rattle.spool_writer.proofs.HoldsWaiting.{as_its_request}
use Rattle.spool_writer.proofs.offers.OffersWaitingRequests.hold.Goals as goal

pub returns-in-Ok-Request-clause-waits : goal.returns-in-Ok-Request-clause-waits
returns-in-Ok-Request-clause-waits g c =
    subst (λ config. Waits config.now (HasWaiting (option_map (λ lanes. lanes.items) c.hold_request.new.self.lanes)) (number_at c.hold_request.new.self.keys.numbers) c.args.from c.args.octets.now (is_held c.hold_request.result)) (sym c.hold_request.ensures.config)
    (as_its_request c.args.self.now.config.now (HasWaiting (option_map (λ lanes. lanes.items) c.hold_request.new.self.lanes)) (number_at c.hold_request.new.self.keys.numbers) c.args.from c.args.octets.now c.in-Ok-Request.request (is_held c.hold_request.result)
    (subst (Takes c.args.self.now.config.now c.args.from.address c.args.from.port c.args.octets.now) c.in-Ok-Request.field-0-is c.in-Ok-Request.ensures)
    c.hold_request.ensures.waits)

pub returns-in-Ok-Status-clause-waits : goal.returns-in-Ok-Status-clause-waits
returns-in-Ok-Status-clause-waits g c =
    inr (inr (inl (
      c.in-Ok-Status.status,
      subst (Takes c.args.self.now.config.now c.args.from.address c.args.from.port c.args.octets.now) c.in-Ok-Status.field-0-is c.in-Ok-Status.ensures,
    )))
