-- Lines that are passed as written whole.
use Rattle.std.specs.Prelude.{◌≡◌, ℕ, Bool, true, false, IsTrue, ◌↔◌, ◌⊎◌, List, [], ◌∷◌, length}
use Rattle.ledger_files.specs.Chains.{chain_of}
use Rattle.ledger_files.specs.Tails.{body_in}
use Rattle.ledger_files.specs.declared.pending.Pending.{Pending}
use Rattle.ledger_files.specs.declared.run_files.RunFiles.{RunFiles}

-- A line is passed once it is written whole.
pub record Passes (old new : Pending) : Type 0 where
  pub octets : new.octets ≡ old.octets
  pub done : new.done ≡ old.done
  pub passed : IsTrue new.is_passed ↔ (IsTrue old.is_passed ⊎ (old.done ≡ length old.octets.items))

-- The body of the line, if it is passed now and was not before.
abbrev pub if_passed : Bool → Bool → List ℕ → List (List ℕ)
if_passed false true line = body_in line ∷ []
if_passed was is line = []

abbrev pub newly_passed : Pending → Pending → List (List ℕ)
newly_passed old new = if_passed old.is_passed new.is_passed new.octets.items

-- The chain of the files is that of the lines of these bodies, which were passed in this order.
abbrev pub HasPassed : {D : Type 0} → RunFiles D → List (List ℕ) → Type 0
HasPassed run bodies = run.chain.sum ≡ chain_of bodies
