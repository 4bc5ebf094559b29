use Rattle.std.proofs.Common.{arith}
use Rattle.rad_lane.proofs.stepping.free_slot.Goals as goal

pub returns-clause-free : goal.returns-clause-free
returns-clause-free c = rw c.unwrap.ensures at c.allot.ensures.first

pub returns-clause-in_range : goal.returns-clause-in_range
returns-clause-in_range c = rw c.unwrap.ensures at c.allot.ensures.in_range

-- the pair last allotted is allotted again only if all others are in use
pub returns-clause-another : goal.returns-clause-another
returns-clause-another c =
    let again = rw c.unwrap.ensures at c.allot.ensures.again in
    let range = rw c.limits.ensures.value at c.numbers-limits.ensures.in_range in
    λ same. omega (arith, again same, c.requires.fits, c.requires.pairs, c.limits.ensures.ports, range.window.1)
