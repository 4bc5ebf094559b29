use Rattle.std.proofs.Common.{refl, subst}
use Rattle.rad_lane.specs.Book.{Book}
use Rattle.rad_lane.specs.Lawful.{IsLawful}
use Rattle.rad_lane.proofs.LawfulAfterAccept.{kept_fits}
use Rattle.rad_lane.proofs.LawfulAfterWatch.{leaves_freed}
use Rattle.rad_lane.proofs.lane.Lane.close.Goals as goal

pub returns-clause-leaves : goal.returns-clause-leaves
returns-clause-leaves g c =
    leaves_freed _ _ _ _ _ _ c.self.inside.slots _ _ _ _ c.self.view_is _ _ _ _ c.self.invariant.consistent refl _ c.probe.ensures _ c.free.ensures _ c.lane.ensures _ refl

pub invariant_of-result : goal.invariant_of-result
invariant_of-result g c = kept_fits _ _ _ _ _ _ c.self.inside.slots _ _ _ c.self.invariant.consistent.lawful

pub returns-clause-lawful : goal.returns-clause-lawful
returns-clause-lawful g c = subst (λ (b : Book). IsLawful b) c.self.view_is c.self.invariant.consistent.lawful
