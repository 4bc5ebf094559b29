-- The desks and the inlets of the lanes, one more.
use Rattle.std.proofs.Common.{◌≡◌, ℕ, ◌+◌, List, [], ◌∷◌, ◌++◌, length, sym, ap, ◌∙◌, subst, arith}
use Rattle.std.specs.Prelude.{map as each}
use Rattle.std.specs.List.{range_with_len}
use Rattle.std.proofs.lemmas.List.{map-append}
use Rattle.rad_realms.specs.Configuration.{Configuration}
use Rattle.locked_lanes.specs.declared.desk.Desk.{Desk}
use Rattle.locked_lanes.specs.declared.inlet.Inlet.{Inlet}
use Rattle.locked_lanes.specs.Desk.{IsNewOf, AreNewOf}
use Rattle.locked_lanes.specs.Inlet.{lane_of}
use Rattle.locked_lanes.proofs.Outlets.{range_more}

pub lanes_more : (inlets : List Inlet) (inlet : Inlet) (lane : ℕ) → each lane_of inlets ≡ range_with_len 0 lane → lane_of inlet ≡ lane → each lane_of (inlets ++ inlet ∷ []) ≡ range_with_len 0 (lane + 1)
lanes_more inlets inlet lane h is =
    let next : lane_of inlet ≡ 0 + lane = omega (arith, is) in
    map-append lane_of inlets (inlet ∷ [])
    ∙ ap (λ lanes. lanes ++ lane_of inlet ∷ []) h
    ∙ ap (λ n. range_with_len 0 lane ++ n ∷ []) next
    ∙ sym (range_more 0 lane)

pub new_more : (config : Configuration) (from lane : ℕ) (desks : List Desk) (desk : Desk) → lane ≡ from + length desks → AreNewOf config from desks → IsNewOf config lane desk → AreNewOf config from (desks ++ desk ∷ [])
new_more config from lane [] desk at are is =
    let here : lane ≡ from = omega (arith, at) in
    (subst (λ n. IsNewOf config n desk) here is, tt)
new_more config from lane (first ∷ desks) desk at are is = (are.0, new_more config (from + 1) lane desks desk (omega (arith, at)) are.1 is)
