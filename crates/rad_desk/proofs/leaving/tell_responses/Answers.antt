use Rattle.std.proofs.Common.{◌∙◌, [], ◌∷◌, sym, ap, arith}
use Rattle.rad_desk.specs.Leaving.{left_with, untaken_left}
use Rattle.rad_desk.proofs.LeftTold.{left_none, number_at_end, responses_more, responses_all}
use Rattle.rad_desk.proofs.leaving.tell_responses.Goals as goal

pub loop-outgoing-init : goal.loop-outgoing-init
loop-outgoing-init g c = sym (left_none _)

pub loop-outgoing-preserved : goal.loop-outgoing-preserved
loop-outgoing-preserved g c =
    let number = number_at_end _ c.mark-number.result c.mark-number.ensures.packet c.mark-number.ensures.ends (omega arith) in
    let told = c.of_outgoing.ensures.told number c.restore-request.ensures in
    responses_more (untaken_left c.args.end.now.lane) c.args.responses.now c.loop-outgoing.outgoing-index c.outgoing-item.result _ _ _ c.loop-outgoing-test.true c.outgoing-item.is c.loop-outgoing.invariant
    (c.leave.ensures ∙ ap (λ t. left_with (g.L.Ledger.left c.loop-outgoing.ledger) (t ∷ [])) told)

pub returns : goal.returns
returns g c =
    responses_all (untaken_left c.args.end.now.lane) c.args.responses.now c.loop-outgoing.outgoing-index _ _ c.loop-outgoing-test.false c.loop-outgoing.invariant
