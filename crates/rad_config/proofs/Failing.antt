-- One step of a reading behind another, where memory may be refused.
use Rattle.std.proofs.Common.{◌≡◌, Result, Ok, Err, refl, sym}
use Rattle.rad_config.specs.declared.reading.faults.ConfigFault.{ConfigFault}
use Rattle.rad_config.specs.declared.reading.faults.ConfigFault.TheVariants.{Toml, OutOfMemory, Missing, WrongType, OutOfRange, DoubleName, UnknownHome, BadAddress, TooMany}
use Rattle.rad_config.specs.Gives.{Fails}
use Rattle.rad_config.specs.Walk.{◌>>=◌}
use Rattle.rad_config.proofs.Turns.{fails_with}

-- a fault that is told is one that reading gives
pub fails_is : {X : Type 0} (e : ConfigFault) (r : Result X ConfigFault) → Err e ≡ r → Fails e r
fails_is Toml r is = sym is
fails_is OutOfMemory r is = tt
fails_is (Missing s) r is = sym is
fails_is (WrongType s) r is = sym is
fails_is (OutOfRange s) r is = sym is
fails_is (DoubleName s) r is = sym is
fails_is (UnknownHome s) r is = sym is
fails_is (BadAddress s) r is = sym is
fails_is (TooMany s) r is = sym is

-- a step that fails, with nothing read behind it; and a step that was read, behind which reading fails
module _ {A B : Type 0} (r : Result A ConfigFault) (f : A → Result B ConfigFault) where
  pub fails_here : (e : ConfigFault) → Fails e r → Fails e (r >>= f)
  fails_here e fails = fails_with e r (r >>= f) (λ g step. rw step refl) fails

  pub fails_later : (x : A) (e : ConfigFault) → r ≡ Ok x → Fails e (f x) → Fails e (r >>= f)
  fails_later x e read fails = rw read fails
