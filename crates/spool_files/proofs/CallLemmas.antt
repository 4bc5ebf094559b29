-- Time goes on with each call.
use Rattle.std.proofs.Common.{ℕ, ◌≤◌, ◌⊎◌, List, ◌∷◌, length, inl, inr, arith}
use Rattle.spool_files.specs.Devices.{Elapses}
use Rattle.spool_files.specs.Calls.{Call, MayLeave, MayHaveLeft}

pub elapses : (call : Call) (calls : List Call) → Elapses (length calls) (length (call ∷ calls)) (MayHaveLeft calls) (MayHaveLeft (call ∷ calls)) (MayLeave (call ∷ calls))
elapses call calls = record {
  later = omega arith;
  nothing_else = nothing;
  keeps = λ t c le past. inr (le, past);
}
  where
    nothing : (t : ℕ) (c : List ℕ) → t ≤ length calls → MayHaveLeft (call ∷ calls) t c → MayHaveLeft calls t c ⊎ MayLeave (call ∷ calls) c
    nothing t c le (inl now) = inr now
    nothing t c le (inr before) = inl before.1
