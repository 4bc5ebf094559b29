use Rattle.std.proofs.Common.{arith}
use Rattle.rad_auth.proofs.Returns.{read-fits, read-before, read-after, read-others}
use Rattle.rad_auth.proofs.responding.attributes_around.Goals as goal

pub slice_bounds-result-end : goal.slice_bounds-result-end
slice_bounds-result-end c =
    omega (arith, read-fits c.args.packet.now c.octets-octets.result.now c.args.at.place c.args.at.length c.octets-octets.ensures.value c.octets-octets.ensures.packet c.requires)

pub overflow_add-result : goal.overflow_add-result
overflow_add-result c =
    omega (arith, read-fits c.args.packet.now c.octets-octets.result.now c.args.at.place c.args.at.length c.octets-octets.ensures.value c.octets-octets.ensures.packet c.requires)

pub slice_bounds-result-count-2 : goal.slice_bounds-result-count-2
slice_bounds-result-count-2 c =
    read-fits c.args.packet.now c.octets-octets.result.now c.args.at.place c.args.at.length c.octets-octets.ensures.value c.octets-octets.ensures.packet c.requires

pub slice_bounds-result-start-2 : goal.slice_bounds-result-start-2
slice_bounds-result-start-2 c =
    read-fits c.args.packet.now c.octets-octets.result.now c.args.at.place c.args.at.length c.octets-octets.ensures.value c.octets-octets.ensures.packet c.requires

pub returns-clause-before : goal.returns-clause-before
returns-clause-before c =
    read-before c.args.packet.now c.octets-octets.result.now c.args.at.place c.args.at.length c.octets-octets.ensures.value c.octets-octets.ensures.packet c.requires

pub returns-clause-after : goal.returns-clause-after
returns-clause-after c =
    read-after c.args.packet.now c.octets-octets.result.now c.args.at.place c.args.at.length c.octets-octets.ensures.value c.octets-octets.ensures.packet c.requires

pub returns-clause-others : goal.returns-clause-others
returns-clause-others c =
    read-others c.args.packet.now c.octets-octets.result.now c.args.at.place c.args.at.length c.octets-octets.ensures.value c.octets-octets.ensures.packet c.requires
