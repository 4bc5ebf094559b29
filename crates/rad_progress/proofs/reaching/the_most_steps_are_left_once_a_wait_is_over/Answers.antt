use Rattle.std.proofs.Common.{refl, sym, ◌∙◌, arith}
use Rattle.std.specs.Prelude.{None}
use Rattle.rad_progress.proofs.WrittenOut.{wait_over, waiting_lawful, waiting_steps}
use Rattle.rad_progress.specs.Examples.{waiting}
use Rattle.rad_progress.proofs.reaching.the_most_steps_are_left_once_a_wait_is_over.Goals as goal

pub returns-clause-each : goal.returns-clause-each
returns-clause-each c = wait_over

pub returns-clause-written_out : goal.returns-clause-written_out
returns-clause-written_out c = λ setup r range fits.
    let lawful = waiting_lawful setup range r fits in
    let steps = waiting_steps setup range r fits in
    (lawful, steps, sym (wait_over (waiting setup r) r.stamp.moment r.stamp.moment r.stamp.moment None lawful refl (omega arith)) ∙ steps)
