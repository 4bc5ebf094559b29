use Rattle.raw_lists.proofs.JoinedFronts.{blocks_prepended, both_joined, first_joined, second_joined, some_with_last}
use Rattle.raw_lists.proofs.linked_blocks.LinkedBlocks.prepend.Goals as goal

pub returns-in-Some-Some-clause-blocks : goal.returns-in-Some-Some-clause-blocks
returns-in-Some-Some-clause-blocks g c =
    blocks_prepended c.args.others c.split_last-front.result.0 _ c.split_last-front.result.1.block c.args.self _ c.from_front.ensures c.split_last-front.ensures
    (both_joined _ _ _ _ _ c.join.ensures c.in-Some-Some.is-0 c.in-Some-Some.is-1)

pub returns-in-Some-Some-clause-some : goal.returns-in-Some-Some-clause-some
returns-in-Some-Some-clause-some g c = some_with_last _ c.split_last-front.result.1.block _ c.split_last-front.ensures

pub returns-in-Some-None-clause-blocks : goal.returns-in-Some-None-clause-blocks
returns-in-Some-None-clause-blocks g c =
    blocks_prepended c.args.others c.split_last-front.result.0 _ c.split_last-front.result.1.block c.args.self _ c.from_front-in-Some-None.ensures c.split_last-front.ensures
    (first_joined _ _ _ c.in-Some-None.is-0 c.in-Some-None.is-1)

pub returns-in-Some-None-clause-some : goal.returns-in-Some-None-clause-some
returns-in-Some-None-clause-some g c = some_with_last _ c.split_last-front.result.1.block _ c.split_last-front.ensures

pub returns-in-None-default-clause-blocks : goal.returns-in-None-default-clause-blocks
returns-in-None-default-clause-blocks g c =
    blocks_prepended c.args.others c.split_last-front.result.0 _ c.split_last-front.result.1.block c.args.self _ c.from_front-in-None-default.ensures c.split_last-front.ensures
    (second_joined c.args.others c.split_last-front.result.0 c.in-None-default.is-0)

pub returns-in-None-default-clause-some : goal.returns-in-None-default-clause-some
returns-in-None-default-clause-some g c = some_with_last _ c.split_last-front.result.1.block _ c.split_last-front.ensures
