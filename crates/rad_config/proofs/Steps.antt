-- One step of a reading behind another.
use Rattle.std.proofs.Common.{◌≡◌, Bool, true, false, cond, Option, Some, None, Result, Ok, Err, refl, ap, ◌∙◌}
use Rattle.std.specs.Prelude.{ok_or}
use Rattle.rad_config.specs.declared.reading.faults.ConfigFault.{ConfigFault}
use Rattle.rad_config.specs.Walk.{◌>>=◌, refuse_if}

pub same_ok : {X : Type 0} (x y : X) (r : Result X ConfigFault) → r ≡ Ok x → r ≡ Ok y → x ≡ y
same_ok x y r a b = cc

-- where the whole is read, its first step is, and the rest behind it
pub bound : {A B : Type 0} (r : Result A ConfigFault) (f : A → Result B ConfigFault) (y : B) → (r >>= f) ≡ Ok y → (x : A) × (r ≡ Ok x) × (f x ≡ Ok y)
bound (Ok x) f y e = (x, refl, e)
bound (Err fault) f y e = absurd cc

pub not_refused : (b : Bool) (fault : ConfigFault) (u : Unit {0}) → refuse_if b fault ≡ Ok u → b ≡ false
not_refused true fault u e = absurd cc
not_refused false fault u e = refl

pub known : {A : Type 0} (o : Option A) (fault : ConfigFault) (x : A) → ok_or o fault ≡ Ok x → o ≡ Some x
known {A} None fault x e = absurd cc
known {A} (Some y) fault x e = ap (λ (z : A). Some z) (same_ok y x (Ok y) refl e)

pub kept_by : {A : Type 0} (b : Bool) (x y : A) (fault : ConfigFault) → cond b (Ok x) (Err fault) ≡ Ok y → (b ≡ true) × (x ≡ y)
kept_by true x y fault e = (refl, same_ok x y (Ok x) refl e)
kept_by false x y fault e = absurd cc

-- a step that was read, with the rest behind it; and a step that told of a fault, behind which nothing is read
pub read_on : {A B : Type 0} (r : Result A ConfigFault) (f : A → Result B ConfigFault) (x : A) (whole : Result B ConfigFault) → Ok x ≡ r → whole ≡ f x → whole ≡ (r >>= f)
read_on r f x whole read rest = rest ∙ ap (λ q. q >>= f) read

pub stops_here : {A B : Type 0} (r : Result A ConfigFault) (f : A → Result B ConfigFault) (fault told : ConfigFault) (whole : Result B ConfigFault) → whole ≡ Err told → told ≡ fault → Err fault ≡ r → whole ≡ (r >>= f)
stops_here r f fault told whole is same stopped = is ∙ ap Err same ∙ ap (λ q. q >>= f) stopped
