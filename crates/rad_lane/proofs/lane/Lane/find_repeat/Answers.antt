use Rattle.std.proofs.Common.{◌∙◌, sym, ap}
use Rattle.std.specs.FinMap as map
use Rattle.rad_lane.specs.internal.Keys.{number_since, option_or, merged}
use Rattle.rad_lane.proofs.KeysByAge.{get-merged}
use Rattle.rad_lane.proofs.RepeatFound.{repeats_seen, since_opening}
use Rattle.rad_lane.proofs.lane.Lane.find_repeat.Goals as goal

pub repeat_of-requires : goal.repeat_of-requires
repeat_of-requires g c =
    let l = c.self.inside in
    let is = c.last_number.ensures ∙ ap (λ o. number_since l.opening (option_or o (map.get l.earlier.numbers c.args.key.now))) c.find-recent.ensures ∙ sym (get-merged l.opening l.recent l.earlier.numbers c.args.key.now) in
    rw c.since-seen.ensures.opening
    (since_opening (merged l.opening l.recent l.earlier.numbers) _ c.self.invariant.consistent.since_opening _ _ is)

pub returns : goal.returns
returns g c =
    let l = c.self.inside in
    let is = c.last_number.ensures ∙ ap (λ o. number_since l.opening (option_or o (map.get l.earlier.numbers c.args.key.now))) c.find-recent.ensures ∙ sym (get-merged l.opening l.recent l.earlier.numbers c.args.key.now) in
    sym (repeats_seen _ _ c.self.view_is (merged l.opening l.recent l.earlier.numbers) c.self.invariant.consistent.last_numbers _ _ _ _ _ _ is c.since-seen.ensures.span c.since-seen.ensures.answered c.repeat_of.ensures)
