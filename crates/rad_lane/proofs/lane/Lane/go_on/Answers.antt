use Rattle.std.proofs.Common.{◌≤◌, sym, subst}
use Rattle.rad_lane.specs.Book.{Book}
use Rattle.rad_lane.proofs.lane.Lane.go_on.Goals as goal

pub send_first-requires-clause-may : goal.send_first-requires-clause-may
send_first-requires-clause-may g c = c.if-may_send.ensures.may

pub returns-then-may_send-clause-steps : goal.returns-then-may_send-clause-steps
returns-then-may_send-clause-steps g c = c.send_first.ensures.steps

pub returns-then-may_send-clause-another : goal.returns-then-may_send-clause-another
returns-then-may_send-clause-another g c = c.send_first.ensures.another

pub set_last-requires : goal.set_last-requires
set_last-requires g c = subst (λ (b : Book). b.last ≤ c.args.now) (sym c.note_earliest-earliest.ensures.same) c.requires.later
