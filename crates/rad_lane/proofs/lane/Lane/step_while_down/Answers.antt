use Rattle.std.proofs.Common.{refl, arith}
use Rattle.rad_lane.proofs.lane.Lane.step_while_down.Goals as goal

pub returns-then-next_probe-get-clause-steps : goal.returns-then-next_probe-get-clause-steps
returns-then-next_probe-get-clause-steps g c =
    (omega (arith, c.if-until-get.false, c.get.ensures.value), omega (arith, c.if-next_probe-get.true, c.get-else-until-get.ensures.value), c.probe.ensures.probes)

pub returns-else-next_probe-get-clause-steps : goal.returns-else-next_probe-get-clause-steps
returns-else-next_probe-get-clause-steps g c = (
  omega (arith, c.if-until-get.false, c.get.ensures.value),
  omega (arith, c.if-next_probe-get.false, c.get-else-until-get.ensures.value),
  rw (c.moment_at.ensures, c.min.ensures) refl,
  refl,
  c.set_last.ensures,
)

pub go_up-requires : goal.go_up-requires
go_up-requires g c = record { later = c.requires.later }

pub probe-requires-clause-later : goal.probe-requires-clause-later
probe-requires-clause-later g c = c.requires.later

pub set_last-requires : goal.set_last-requires
set_last-requires g c = c.requires.later

pub probe-requires-clause-is_down : goal.probe-requires-clause-is_down
probe-requires-clause-is_down g c = (c.args.next_probe, c.requires.is_down)

pub returns-then-until-get-clause-steps : goal.returns-then-until-get-clause-steps
returns-then-until-get-clause-steps g c = (omega (arith, c.if-until-get.true, c.get.ensures.value), refl, c.go_up.ensures)

pub returns-then-next_probe-get-clause-another : goal.returns-then-next_probe-get-clause-another
returns-then-next_probe-get-clause-another g c = c.probe.ensures.another
