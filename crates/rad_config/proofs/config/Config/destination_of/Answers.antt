use Rattle.std.proofs.Common.{◌<◌, length, IfSome, subst}
use Rattle.std.specs.Arc.{arc_value}
use Rattle.rad_config.specs.Configuration.{Configuration}
use Rattle.rad_config.specs.Realm.{lane_in}
use Rattle.rad_config.proofs.Lanes.{lane_within, destination_within}
use Rattle.rad_config.proofs.config.Config.destination_of.Goals as goal

pub returns-in-Some-clause-within : goal.returns-in-Some-clause-within
returns-in-Some-clause-within c =
    let inside = lane_within (length c.self.inside.homes) (arc_value c.self.inside.realms) c.self.inside.other_lane c.in-Some.name.now c.self.invariant.lanes c.self.invariant.other_lane in
    destination_within (length c.args.self.now.homes) c.destination_of_name.result _ c.destination_of_name.ensures.lane
    (subst (λ (k : Configuration). IfSome (lane_in k.realms k.other_lane c.in-Some.name.now) (λ lane. lane < length k.homes)) c.self.view_is inside)
