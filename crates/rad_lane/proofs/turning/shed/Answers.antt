use Rattle.std.proofs.Common.{◌∙◌, ap, arith}
use Rattle.rad_lane.specs.internal.Keys.{IsBelow, merged}
use Rattle.rad_lane.proofs.KeysByAge.{merged-shed}
use Rattle.rad_lane.proofs.turning.shed.Goals as goal

pub returns-clause-merged : goal.returns-clause-merged
returns-clause-merged c since later =
    let below : IsBelow since c.args.earlier.now.numbers = λ key number is. (let under = c.if-not-is_below.ensures.below key number is in omega (arith, under, later)) in
    (λ i. merged since ((c.replace.ensures.after ∙ c.new.ensures) i) ((ap (λ e. e.numbers) c.replace-2.ensures.after ∙ c.over-keys.ensures.numbers ∙ c.replace.ensures.value) i))
    ∙ merged-shed since c.args.recent.now c.args.earlier.now.numbers below

pub returns-clause-shed : goal.returns-clause-shed
returns-clause-shed c within = (c.replace.ensures.after ∙ c.new.ensures, ap (λ e. e.end) c.replace-2.ensures.after ∙ c.over-keys.ensures.end)
