use Rattle.std.proofs.Common.{length, ◌-◌}
use Rattle.rad_packet.proofs.Scan.{IsValidUpTo}
use Rattle.rad_packet.proofs.reading.first_invalid.Given as goal

abbrev pub invariant-loop-place : goal.invariant-loop-place
invariant-loop-place l = IsValidUpTo l.octets l.place

abbrev pub decreases-loop-place : goal.decreases-loop-place
decreases-loop-place l = length l.octets - l.place
