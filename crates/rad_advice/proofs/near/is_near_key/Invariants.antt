use Rattle.std.proofs.Common.{◌≡◌, map, drop}
use Rattle.rad_advice.specs.Telling.{is_near_one_of}
use Rattle.rad_advice.proofs.near.is_near_key.Given as goal

abbrev pub invariant-loop-known : goal.invariant-loop-known
invariant-loop-known l =
    is_near_one_of (map (λ n. n.now) (drop l.known-index l.known-items)) l.name ≡ is_near_one_of (map (λ n. n.now) l.known-items) l.name
