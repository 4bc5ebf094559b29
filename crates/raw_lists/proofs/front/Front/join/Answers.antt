use Rattle.raw_lists.proofs.JoinedFronts.{fronts_joined, both_joined, first_joined, second_joined}
use Rattle.raw_lists.proofs.front.Front.join.Goals as goal

pub returns-in-Some-Some : goal.returns-in-Some-Some
returns-in-Some-Some g c =
    fronts_joined c.first.inside.first.block c.others.inside.first.block c.first.inside.middle c.others.inside.middle c.args.self c.args.others c.add.result _ c.first.view_is c.add.ensures c.others.view_is
    (both_joined _ _ _ _ _ c.join.ensures c.in-Some-Some.is-0 c.in-Some-Some.is-1)

pub returns-in-Some-None : goal.returns-in-Some-None
returns-in-Some-None g c =
    fronts_joined c.first.inside.first.block c.others.inside.first.block c.first.inside.middle c.others.inside.middle c.args.self c.args.others c.add.result _ c.first.view_is c.add.ensures c.others.view_is
    (first_joined _ _ _ c.in-Some-None.is-0 c.in-Some-None.is-1)

pub returns-in-None-default : goal.returns-in-None-default
returns-in-None-default g c =
    fronts_joined c.first.inside.first.block c.others.inside.first.block c.first.inside.middle c.others.inside.middle c.args.self c.args.others c.add.result _ c.first.view_is c.add.ensures c.others.view_is
    (second_joined c.first.inside.middle c.others.inside.middle c.in-None-default.is-0)
