use Rattle.std.proofs.Common.{◌≡◌, ◌+◌, ◌≤◌, ◌++◌, length, take, vec_len}
use Rattle.std.specs.Vec.{vec_capacity}
use Rattle.rad_replay.specs.Hex.{octets_of}
use Rattle.rad_replay.proofs.hex.Hex.push_to.Given as goal

abbrev pub invariant-loop-index : goal.invariant-loop-index
invariant-loop-index l = record {
  items : l.octets.items ≡ l.fn.octets.items ++ take l.index (octets_of l.self);
  len : vec_len l.octets ≡ vec_len l.fn.octets + l.index;
  room : vec_len l.fn.octets + length (octets_of l.self) ≤ vec_capacity l.octets;
}
