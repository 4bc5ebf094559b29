use Rattle.std.proofs.Common.{◌≡◌, ◌-◌, List, length, ap, ◌∙◌, arith}
use Rattle.std.specs.Prelude.{slice_get, option_map}
use Rattle.rad_lane.specs.declared.counts.Counts.{Counts}
use Rattle.rad_lane.specs.declared.stamp.Stamp.{Stamp}
use Rattle.locked_lanes.specs.Desk.{book}
use Rattle.locked_lanes.proofs.Standings.{queued_within, first_queued_at}
use Rattle.locked_lanes.proofs.desk.Desk.first_queued.Goals as goal

pub overflow_sub-sent : goal.overflow_sub-sent
overflow_sub-sent c =
    let queued = ap (λ (k : Counts). k.queued) c.counts.ensures.counts in
    omega (arith, queued, ap length c.accepted-accepted.ensures.value, queued_within (book c.args.self.now) c.counts.ensures.lawful)

pub returns : goal.returns
returns c =
    let its = book c.args.self.now in
    let accepted = c.accepted-accepted.result.now in
    let place = length accepted - c.counts.result.queued in
    let queued = ap (λ (k : Counts). k.queued) c.counts.ensures.counts in
    let there : place ≡ length its.sent = omega (arith, queued, ap length c.accepted-accepted.ensures.value, queued_within its c.counts.ensures.lawful) in
    c.moment_at.ensures
    ∙ ap (λ (stamps : List Stamp). option_map (λ (s : Stamp). s.moment) (slice_get stamps place)) c.accepted-accepted.ensures.value
    ∙ first_queued_at its place c.counts.ensures.lawful there
