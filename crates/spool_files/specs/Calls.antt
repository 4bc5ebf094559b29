-- What the calls of a file tell of it, and of what a crash may leave. Own.
use Rattle.std.specs.Prelude.{◌≡◌, ℕ, suc, ◌+◌, ◌≤◌, ◌⊎◌, Bool, true, List, [], ◌∷◌, ◌++◌, length, take, drop, if◌then◌else◌}
use mathlib.Core.Logic.{inl, inr}
use Rattle.std.proofs.Math.Nat.{not-suc-le_self}
use Rattle.spool_files.specs.Devices.{Torn}
use Rattle.spool_files.specs.declared.call_log.CallHead.{CallHead}
use Rattle.spool_files.specs.declared.call_log.CallHead.TheVariants as heads

-- a call, with its octets
pub data Call : Type 0 where
  -- the file was made, empty, and kept
  Made : Call
  -- the file was found, with these octets
  Found : (octets : List ℕ) → Call
  -- octets were written at a place, all of them or, if it failed, some
  Wrote : (at : ℕ) → (done : Bool) → (octets : List ℕ) → Call
  -- what was written was to be kept
  Synced : (done : Bool) → Call

abbrev pub call_of : CallHead → List ℕ → Call
call_of heads.Made octets = Made
call_of heads.Found octets = Found octets
call_of (heads.Wrote at done) octets = Wrote at done octets
call_of (heads.Synced done) octets = Synced done

-- The lists have the newest call first.

-- what the file has
abbrev pub octets_after : List Call → List ℕ
octets_after [] = []
octets_after (Made ∷ earlier) = []
octets_after (Found octets ∷ earlier) = octets
octets_after (Wrote at done octets ∷ earlier) = take at (octets_after earlier) ++ octets ++ drop (at + length octets) (octets_after earlier)
octets_after (Synced done ∷ earlier) = octets_after earlier

-- what a crash may leave. Of a file that was found nothing is known before its first sync
abbrev pub MayLeave : List Call → List ℕ → Type 0
MayLeave [] c = Unit {0}
MayLeave (Made ∷ earlier) c = c ≡ []
MayLeave (Found octets ∷ earlier) c = Unit {0}
MayLeave (Wrote at done octets ∷ earlier) c = (d : List ℕ) × MayLeave earlier d × Torn at (length octets) d c
MayLeave (Synced done ∷ earlier) c = MayLeave earlier c × (done ≡ true → c ≡ octets_after earlier)

-- what a crash might have left since a number of calls
abbrev pub MayHaveLeft : List Call → ℕ → List ℕ → Type 0
MayHaveLeft [] t c = MayLeave [] c
MayHaveLeft (call ∷ earlier) t c = MayLeave (call ∷ earlier) c ⊎ ((t ≤ length earlier) × MayHaveLeft earlier t c)

-- how many of the calls failed
abbrev pub failed_in : List Call → ℕ
failed_in [] = 0
failed_in (Made ∷ earlier) = failed_in earlier
failed_in (Found octets ∷ earlier) = failed_in earlier
failed_in (Wrote at done octets ∷ earlier) = if done then failed_in earlier else suc (failed_in earlier)
failed_in (Synced done ∷ earlier) = if done then failed_in earlier else suc (failed_in earlier)

pub left_now : (calls : List Call) (t : ℕ) (c : List ℕ) → t ≤ length calls → MayLeave calls c → MayHaveLeft calls t c
left_now [] t c le now = now
left_now (call ∷ earlier) t c le now = inl now

pub now_alone : (calls : List Call) (c : List ℕ) → MayHaveLeft calls (length calls) c → MayLeave calls c
now_alone [] c left = left
now_alone (call ∷ earlier) c (inl now) = now
now_alone (call ∷ earlier) c (inr before) = absurd (not-suc-le_self (length earlier) before.0)
