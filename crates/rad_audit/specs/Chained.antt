-- The chain of a run's lines, as the auditor reads them (own).
use Rattle.std.specs.Prelude.{◌≡◌, ◌≢◌, ℕ, ◌⊎◌, false, List, [], ◌∷◌, ◌++◌, Option, Some, None, IfSome, MatchOption, is_some, if◌then◌else◌, option_map}
use Rattle.sha2.specs.Sha256.{sha256}
use Rattle.ledger_files.specs.Chains.{chain_after}
use Rattle.ledger_files.specs.Tails.{HasTail, tail_of}
use Rattle.rad_audit.specs.declared.chains.LineSum.{LineSum}
use Rattle.rad_audit.specs.declared.chains.RunChain.{RunChain}

-- What the end of a line says, which is given without its line end, if it ends with a sum.
abbrev pub HasLineSum : List ℕ → Option LineSum → Type 0
HasLineSum line its =
    MatchOption its (¬ HasTail (line ++ 10 ∷ [])) (λ its. (body : List ℕ) × (line ++ 10 ∷ [] ≡ body ++ tail_of its.sum) × (its.digest ≡ Some (sha256 body)))

-- The sum of a line is right behind a line of this sum. Any is, where that is not known, or where the line or a part of it is left out.
abbrev pub Fits : Option (List ℕ) → LineSum → Type 0
Fits last line = IfSome last (λ sum. IfSome line.digest (λ digest. chain_after sum digest ≡ line.sum))

-- The sum that a line has, and how many lines are left out with it.
abbrev pub sum_of : Option LineSum → Option (List ℕ)
sum_of line = option_map (λ its. its.sum) line

abbrev pub left_out : Option LineSum → ℕ
left_out None = 0
left_out (Some line) = if is_some line.digest then 0 else 1

-- In a file whose `begin` has a sum, each line has one, which is right behind the line before it.
abbrev pub IsRightLine : RunChain → Option LineSum → Type 0
IsRightLine chain None = chain.sealed ≡ false
IsRightLine chain (Some line) = (chain.sealed ≡ false) ⊎ Fits chain.last line

-- A `begin` has a sum, unless it is the first one that is read or the one before has none. It is right behind the last line of the file
-- before. The first `begin` that is read may be of any file, and files may be missing: then any sum is right.
abbrev pub IsRightBegin : RunChain → ℕ → Option LineSum → Type 0
IsRightBegin chain file None = (chain.next ≡ 0) ⊎ (chain.sealed ≡ false)
IsRightBegin chain file (Some line) = (chain.next ≢ file) ⊎ ((chain.sealed ≡ false) ⊎ Fits chain.last line)
