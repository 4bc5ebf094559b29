use Rattle.std.proofs.Common.{◌≡◌, ℕ, ◌<◌, ◌≤◌, get_or, bit_xor}
use Rattle.rad_auth.proofs.hmac.padded.Given as goal

abbrev pub invariant-loop-octet : goal.invariant-loop-octet
invariant-loop-octet l = record {
  done : (k : ℕ) → k < l.octet-index → get_or l.octet-items k 0 ≡ bit_xor (get_or l.fn.block k 0) l.pad;
  others : (k : ℕ) → l.octet-index ≤ k → get_or l.octet-items k 0 ≡ get_or l.fn.block k 0;
}
