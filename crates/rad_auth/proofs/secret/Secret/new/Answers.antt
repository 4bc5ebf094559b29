use Rattle.std.proofs.Common.{◌≡◌, ℕ, ◌-◌, ◌<◌, ◌≤◌, List, ◌++◌, length, take, drop, replicate, refl, ◌∙◌, arith, length-append}
use Rattle.std.proofs.lemmas.List.{drop-replicate, length-replicate, take_at}
use Rattle.rad_auth.specs.internal.KeptSecret.{IsFilled}
use Rattle.rad_auth.proofs.secret.Secret.new.Goals as goal

-- a buffer of zeros with octets at its front
IsFilled_of : (n : ℕ) (octets filled : List ℕ) → n ≡ 128 → 0 < length octets → length octets ≤ 128 → filled ≡ octets ++ drop (length octets) (replicate n 0) → IsFilled filled (length octets)
IsFilled_of n octets filled size least most is =
    let whole : filled ≡ octets ++ replicate (n - length octets) 0 = is ∙ rw (drop-replicate {X = ℕ} (length octets) n 0) refl in
    let front : take (length octets) filled ≡ octets = rw whole (take_at octets (replicate (n - length octets) 0) (length octets) refl) in
    record {
      least = least;
      most = most;
      room = rw whole (rw (length-append, length-replicate) (omega arith));
      zeros = rw front (whole ∙ rw size refl);
    }

pub invariant_of-result : goal.invariant_of-result
invariant_of-result c = IsFilled_of 128 c.args.octets.now _ refl (omega arith) (omega arith) c.put.ensures
