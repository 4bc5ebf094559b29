use Rattle.std.proofs.Common.{◌∙◌, ap, sym}
use Rattle.rad_lane.specs.Repeat.{repeats}
use Rattle.rad_lane.proofs.RepeatFound.{repeat_accepted}
use Rattle.rad_lane.proofs.lane.Lane.accept_repeat.Goals as goal

pub returns : goal.returns
returns g c =
    let told = ap (λ key. repeats c.args.self.now key c.moment_of-now.result) (sym c.key_of.ensures) ∙ sym c.find_repeat.ensures in
    repeat_accepted c.args.self.now c.args.request.now _ _ c.moment_of-now.ensures.value _ told _ _ _ c.in-Some.ensures c.set_last.ensures
