use Rattle.std.proofs.Common.{refl}
use Rattle.rad_desk.specs.Traffic.{departed}
use Rattle.rad_desk.specs.Calls.{IsSent}
use Rattle.rad_desk.proofs.CallsJoined.{passes_one}
use Rattle.rad_desk.proofs.shift.Shift.send_of.Goals as goal

pub returns-in-Sent-clause-sends : goal.returns-in-Sent-clause-sends
returns-in-Sent-clause-sends g c =
    passes_one (IsSent c.args.socket c.args.to c.args.octets.now) (departed c.args.socket c.args.to c.args.octets.now c.send-delivery.result) _ _
    (record { delivery = c.send-delivery.result; is = refl }) c.send-delivery.ensures

pub returns-in-Fault-clause-sends : goal.returns-in-Fault-clause-sends
returns-in-Fault-clause-sends g c =
    passes_one (IsSent c.args.socket c.args.to c.args.octets.now) (departed c.args.socket c.args.to c.args.octets.now c.send-delivery.result) _ _
    (record { delivery = c.send-delivery.result; is = refl }) c.send-delivery.ensures
