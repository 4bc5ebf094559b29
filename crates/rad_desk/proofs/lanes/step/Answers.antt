use Rattle.std.proofs.Common.{refl, inl}
use Rattle.rad_desk.specs.Calls.{IsALook}
use Rattle.rad_desk.specs.Working.{IsGiven, IsStep, OncePassed}
use Rattle.rad_desk.proofs.CallsJoined.{passes_none}
use Rattle.rad_desk.proofs.HomeWork.{part_rested, part_stepped}
use Rattle.rad_desk.proofs.lanes.step.Goals as goal

pub returns-then-not-may-clause-steps : goal.returns-then-not-may-clause-steps
returns-then-not-may-clause-steps g c = passes_none (OncePassed IsStep c.args.lane c.args.home.now) _ _ (inl refl) refl

pub returns-in_default-clause-steps : goal.returns-in_default-clause-steps
returns-in_default-clause-steps g c =
    part_rested c.args.lane c.args.home.now c.now-now.result c.random-random.result _ _ _ _ c.now-now.ensures c.random-random.ensures (passes_none IsALook _ _ (inl refl) refl)

pub returns-in_default-port_of-clause-steps : goal.returns-in_default-port_of-clause-steps
returns-in_default-port_of-clause-steps g c =
    part_rested c.args.lane c.args.home.now c.now-now.result c.random-random.result _ _ _ _ c.now-now.ensures c.random-random.ensures c.follow.ensures.looks

pub returns-clause-steps : goal.returns-clause-steps
returns-clause-steps g c =
    let octets = c.step_for-stepped.new.datagram in
    let gives : IsGiven c.args.lane c.args.home.now c.now-now.result c.random-random.result c.in-Some-port_of.port octets = record {
      action = c.in-Some.stepped.action;
      from_port = c.in-Some-port_of.ensures;
      before = c.args.buffers.now.datagram;
      steps = c.in-Some.ensures.steps;
    } in
    part_stepped c.args.lane c.args.home.now c.now-now.result c.random-random.result c.in-Some-port_of.port octets gives _ _ _ _ c.now-now.ensures c.random-random.ensures c.send_home.ensures.sends
