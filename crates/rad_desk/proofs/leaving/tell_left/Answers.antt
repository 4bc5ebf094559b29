use Rattle.std.proofs.Common.{◌∙◌, refl, ap}
use Rattle.rad_desk.specs.Leaving.{left_with, left_of_all}
use Rattle.rad_desk.proofs.LeftTold.{lanes_onward, lanes_over}
use Rattle.rad_desk.proofs.leaving.tell_left.Goals as goal

pub loop-end-init : goal.loop-end-init
loop-end-init g c = refl

pub loop-end-preserved : goal.loop-end-preserved
loop-end-preserved g c =
    lanes_onward c.as_slice-end-items.result.now c.loop-end.end-index c.end-item.result c.loop-end.queued.items c.tell_lane.new.queued.items _ _ _ _ c.loop-end-test.true c.end-item.is
    c.tell_lane.ensures.queued c.tell_lane.ensures.told c.loop-end.invariant

pub returns : goal.returns
returns g c =
    lanes_over c.as_slice-end-items.result.now c.loop-end.end-index c.loop-end.queued.items _ _ _ c.loop-end-test.false c.loop-end.invariant
    ∙ ap (λ es. left_with (g.L.Ledger.left c.args.ledger.now) (left_of_all es c.args.report.queued.items)) c.as_slice-end-items.ensures
