use Rattle.std.proofs.Common.{◌∙◌, sym}
use Rattle.raw_lists.proofs.Places.{laid-one}
use Rattle.raw_lists.proofs.region.Region.free_single.Goals as goal

pub release-requires : goal.release-requires
release-requires g c = (c.requires.empty ∙ sym laid-one, c.requires.heap)
