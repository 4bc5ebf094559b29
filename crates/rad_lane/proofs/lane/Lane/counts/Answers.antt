use Rattle.std.proofs.Common.{◌≡◌, refl, sym, ap, ◌∙◌, subst}
use Rattle.rad_lane.specs.Watch.{is_up}
use Rattle.rad_lane.specs.Book.{Book}
use Rattle.rad_lane.specs.Lawful.{IsLawful}
use Rattle.rad_lane.proofs.CountsSeen.{counts_seen}
use Rattle.rad_lane.proofs.lane.Lane.counts.Goals as goal
use Rattle.rad_lane.proofs.lane.Lane.counts.Goals.{in-Up, in_default}

pub returns-clause-counts : goal.returns-clause-counts
returns-clause-counts g c =
    let marked = elim c.match-matches.branch as (λ b. c.match-matches.matches ≡ is_up c.self.inside.watch) [
      | in-Up w ↦ w.matches-is ∙ ap (λ watch. is_up watch) (sym w.in-Up.is)
      | in_default w ↦ w.matches-is ∙ ap (λ watch. is_up watch) (sym w.in_default.is)
    ]
    in
    counts_seen _ _ c.self.view_is _ refl c.next_number.result c.len.result c.self.inside.outstanding c.match-matches.matches c.is_draining.result c.next_number.ensures.value c.len.ensures c.self.invariant.consistent.counted marked c.is_draining.ensures

pub returns-clause-lawful : goal.returns-clause-lawful
returns-clause-lawful g c = subst (λ (b : Book). IsLawful b) c.self.view_is c.self.invariant.consistent.lawful
