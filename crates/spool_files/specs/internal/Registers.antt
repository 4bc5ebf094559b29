-- The register of a CRC-32 after octets that are all zero, and several registers as one.
use Rattle.std.specs.Prelude.{ℕ, zero, suc, ◌+◌, List, [], ◌∷◌, take, drop, get_or, bit_xor}
use Rattle.std.specs.Int.{w32, from_le_bytes}
use Rattle.spool_files.specs.CheckSums.{shifted_by_eight, register_after}

abbrev pub after_octets : ℕ → ℕ → ℕ
after_octets zero register = register
after_octets (suc count) register = after_octets count (shifted_by_eight register)

-- the register after octets, where each of further registers comes in before the next four octets
abbrev pub joined_after : ℕ → List ℕ → List ℕ → ℕ
joined_after register [] octets = register_after register octets
joined_after register (next ∷ others) octets = joined_after (register_after (bit_xor register next) (take 4 octets)) others (drop 4 octets)

-- four octets as a register takes them
abbrev pub word_in : List ℕ → ℕ → ℕ
word_in octets at = from_le_bytes w32 (get_or octets at 0 ∷ get_or octets (at + 1) 0 ∷ get_or octets (at + 2) 0 ∷ get_or octets (at + 3) 0 ∷ [])
