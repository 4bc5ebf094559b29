-- What a contract says of a result that is an error, and of a test.
use Rattle.std.proofs.Common.{◌≡◌, Bool, true, false, Result, Ok, Err, IfOk, IfErr, OnErr, refl, sym, subst}
use Rattle.std.specs.Prelude.{IsErr}
use Rattle.std.specs.Bool.{OnTrue, OnFalse}
use Rattle.std.specs.Result.{IsErrAnd}
use Rattle.std.proofs.lemmas.Bool.{false≢true}

pub not_done : {T E : Type 0} (result : Result T E) (P : T → Type 0) → IsErr result → IfOk result P
not_done (Ok value) P is = absurd (false≢true is)
not_done (Err fault) P is = tt

pub stays_so : {T E : Type 0} (result : Result T E) (P : Type 0) → P → OnErr result P
stays_so (Ok value) P h = tt
stays_so (Err fault) P h = h

-- a fault that is handed on has what is known of it
pub told_fault : {T E : Type 0} (result : Result T E) (P : E → Type 0) (fault : E) → IsErr result × IsErrAnd result (λ f. f ≡ fault) → P fault → IfErr result P
told_fault (Ok value) P fault is h = absurd (false≢true is.0)
told_fault (Err f) P fault is h = subst P (sym is.1) h

pub on_true : (b : Bool) (P : Type 0) → (b ≡ true → P) → OnTrue b P
on_true true P h = h refl
on_true false P h = tt

pub on_false : (b : Bool) (P : Type 0) → (b ≡ false → P) → OnFalse b P
on_false true P h = tt
on_false false P h = h refl

-- what holds in any case holds if it is done
pub done_so : {T E : Type 0} (result : Result T E) (P : Type 0) → P → IfOk result (λ _. P)
done_so (Ok value) P h = h
done_so (Err fault) P h = tt
