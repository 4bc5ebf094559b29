use Rattle.std.proofs.Common.{◌++◌, take, drop, refl, ap, ◌∙◌, subst}
use Rattle.std.proofs.lemmas.List.{take-append-drop}
use Rattle.rad_config.specs.declared.limits.LimitNumbers.{LimitNumbers}
use Rattle.rad_lane.specs.declared.turning.Volume.{Volume}
use Rattle.rad_lane.specs.Book.{Book}
use Rattle.rad_lane.specs.Repeat.{repeats}
use Rattle.rad_lane.specs.Volumes.{BeginsUnended}
use Rattle.rad_lane.proofs.ConsistentAfterCut.{cut_within, cut_is, cut_some, none_over}
use Rattle.rad_lane.proofs.VolumeLeaves.{volume_answered, volume_repeats}
use Rattle.rad_lane.proofs.lane.Lane.turn.Goals as goal

pub cut-requires-clause-is_cut : goal.cut-requires-clause-is_cut
cut-requires-clause-is_cut g c =
    let span = ap (λ (n : LimitNumbers). n.span) (c.numbers-span.ensures.value ∙ c.limits.ensures.value) in
    let found = c.count_over-count.ensures in
    cut_is _ _ c.self.view_is _ _ _ _ _ c.self.invariant.consistent _ c.as_slice.ensures _ span c.moment_of-now.result c.count_over-count.result found.within found.over found.longest

pub returns-in-Ok-clause-turns : goal.returns-in-Ok-clause-turns
returns-in-Ok-clause-turns g c =
    let span = ap (λ (n : LimitNumbers). n.span) (c.numbers-span.ensures.value ∙ c.limits.ensures.value) in
    let found = c.count_over-count.ensures in
    rw (← c.moment_of-now.ensures.value) (
      take c.count_over-count.result c.args.self.now.accepted,
      drop c.count_over-count.result c.args.self.now.accepted,
      cut_is _ _ c.self.view_is _ _ _ _ _ c.self.invariant.consistent _ c.as_slice.ensures _ span c.moment_of-now.result c.count_over-count.result found.within found.over found.longest,
      cut_some _ _ c.self.view_is _ _ _ _ _ c.self.invariant.consistent _ c.as_slice.ensures _ span c.moment_of-now.result c.count_over-count.result found.within found.over found.longest c.if-count-eq0.false,
      c.in-Ok.ensures.ok.0,
      c.in-Ok.ensures.ok.1,
    )

pub returns-in-Ok-clause-answered_once : goal.returns-in-Ok-clause-answered_once
returns-in-Ok-clause-answered_once g c =
    let span = ap (λ (n : LimitNumbers). n.span) (c.numbers-span.ensures.value ∙ c.limits.ensures.value) in
    let found = c.count_over-count.ensures in
    volume_answered _ _ c.self.view_is c.self.invariant.consistent.lawful _ c.moment_of-now.ensures.later _ _
    (cut_is _ _ c.self.view_is _ _ _ _ _ c.self.invariant.consistent _ c.as_slice.ensures _ span c.moment_of-now.result c.count_over-count.result found.within found.over found.longest)
    _ _ c.in-Ok.ensures.ok.0 c.in-Ok.ensures.ok.1

pub returns-in-Ok-clause-repeats : goal.returns-in-Ok-clause-repeats
returns-in-Ok-clause-repeats g c =
    let span = ap (λ (n : LimitNumbers). n.span) (c.numbers-span.ensures.value ∙ c.limits.ensures.value) in
    let found = c.count_over-count.ensures in
    rw (← c.moment_of-now.ensures.value)
    (volume_repeats _ _ c.self.view_is c.self.invariant.consistent.lawful _ c.moment_of-now.ensures.later _ _
    (cut_is _ _ c.self.view_is _ _ _ _ _ c.self.invariant.consistent _ c.as_slice.ensures _ span c.moment_of-now.result c.count_over-count.result found.within found.over found.longest)
    _ _ c.in-Ok.ensures.ok.0 c.in-Ok.ensures.ok.1)

pub returns-in-Err-clause-turns : goal.returns-in-Err-clause-turns
returns-in-Err-clause-turns g c =
    let span = ap (λ (n : LimitNumbers). n.span) (c.numbers-span.ensures.value ∙ c.limits.ensures.value) in
    let found = c.count_over-count.ensures in
    rw (← c.moment_of-now.ensures.value) (
      take c.count_over-count.result c.args.self.now.accepted,
      drop c.count_over-count.result c.args.self.now.accepted,
      cut_is _ _ c.self.view_is _ _ _ _ _ c.self.invariant.consistent _ c.as_slice.ensures _ span c.moment_of-now.result c.count_over-count.result found.within found.over found.longest,
      cut_some _ _ c.self.view_is _ _ _ _ _ c.self.invariant.consistent _ c.as_slice.ensures _ span c.moment_of-now.result c.count_over-count.result found.within found.over found.longest c.if-count-eq0.false,
      c.in-Err.ensures.err,
    )

pub returns-then-count-eq0-clause-turns : goal.returns-then-count-eq0-clause-turns
returns-then-count-eq0-clause-turns g c =
    let span = ap (λ (n : LimitNumbers). n.span) (c.numbers-span.ensures.value ∙ c.limits.ensures.value) in
    let found = c.count_over-count.ensures in (
      subst (λ m. BeginsUnended c.args.self.now m c.args.self.now.accepted) c.moment_of-now.ensures.value
          (none_over _ _ c.self.view_is _ _ _ _ _ c.self.invariant.consistent _ c.as_slice.ensures _ span c.moment_of-now.result c.count_over-count.result found.within found.over found.longest c.if-count-eq0.true),
      refl,
    )

pub returns-then-count-eq0-clause-repeats : goal.returns-then-count-eq0-clause-repeats
returns-then-count-eq0-clause-repeats g c = λ key later after. refl

pub cut-requires-clause-later : goal.cut-requires-clause-later
cut-requires-clause-later g c = c.moment_of-now.ensures.later

pub cut-requires-clause-within : goal.cut-requires-clause-within
cut-requires-clause-within g c =
    let span = ap (λ (n : LimitNumbers). n.span) (c.numbers-span.ensures.value ∙ c.limits.ensures.value) in
    let found = c.count_over-count.ensures in
    cut_within _ _ c.self.view_is _ _ _ _ _ c.self.invariant.consistent _ c.as_slice.ensures _ span c.moment_of-now.result c.count_over-count.result found.within found.over found.longest

pub returns-in-Ok-clause-joined : goal.returns-in-Ok-clause-joined
returns-in-Ok-clause-joined g c =
    ap (λ (v : Volume). v.stamps ++ c.cut.new.self.accepted) c.in-Ok.ensures.ok.0
    ∙ ap (λ (b : Book). take c.count_over-count.result c.args.self.now.accepted ++ b.accepted) c.in-Ok.ensures.ok.1
    ∙ take-append-drop c.count_over-count.result c.args.self.now.accepted

pub returns-in-Err-clause-repeats : goal.returns-in-Err-clause-repeats
returns-in-Err-clause-repeats g c = λ key later after. ap (λ (b : Book). repeats b key later) c.in-Err.ensures.err
