use Rattle.std.proofs.lemmas.Result.{on_ok_weaker}
use Rattle.rad_audit.proofs.Tells.{lane_told}
use Rattle.rad_audit.proofs.auditing.tell_lane.Goals as goal

pub returns-clause-printed : goal.returns-clause-printed
returns-clause-printed g c =
    let of = c.of-counts.ensures in
    on_ok_weaker c.tell_some-5.result
    (λ last.
    lane_told c.args.run_name c.args.run.now c.args.lane.now c.of-counts.result c.of_part.result c.of_fates.result c.of_ranges.result c.of_back.result c.of_resumed.result _ _ _ _ _ _ _
    (record { name_is = of.name; home = of.home; entries = of.counts; verdict = of.verdict })
    c.of_part.ensures c.of_fates.ensures c.of_ranges.ensures c.of_back.ensures c.of_resumed.ensures
    c.in_ok-tell.ensures.printed c.in_ok-tell_some.ensures.printed c.in_ok-tell_some-2.ensures.printed c.in_ok-tell_some-3.ensures.printed c.in_ok-tell_some-4.ensures.printed last)
    c.tell_some-5.ensures.printed
