-- The chain of the lines of a run (own), by SHA-256 (FIPS 180-4): of their bodies, which are the lines before their tails.
use Rattle.std.specs.Prelude.{ℕ, List, ◌++◌, map, replicate}
use Rattle.std.specs.List.{fold}
use Rattle.sha2.specs.Sha256.{sha256}

-- The sum behind a line: the SHA-256 of the sum before it and of the SHA-256 of its body.
abbrev pub chain_after : List ℕ → List ℕ → List ℕ
chain_after before digest = sha256 (before ++ digest)

-- The sum behind lines that come after this sum, by the SHA-256 of the body of each of them, in order.
abbrev pub chain_from : List ℕ → List (List ℕ) → List ℕ
chain_from before digests = fold chain_after before digests

-- Before the first line of a run the sum is 32 zero octets.
abbrev pub chain_start : List ℕ
chain_start = replicate 32 0

-- The sum behind the lines of a run that have these bodies.
abbrev pub chain_of : List (List ℕ) → List ℕ
chain_of bodies = chain_from chain_start (map sha256 bodies)
