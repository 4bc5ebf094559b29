-- The end of a line of a run, which has the sum behind the line (own).
use Rattle.std.specs.Prelude.{◌≡◌, ℕ, ◌-◌, List, [], ◌∷◌, ◌++◌, length, map, take, replicate, codes}
use Rattle.std.specs.List.{concat}
use Rattle.hex.specs.Hex.{IsBytes, encode_lower}
use Rattle.sha2.specs.Sha256.{sha256}
use Rattle.ledger_files.specs.Chains.{chain_after, chain_from}

-- The key `sum`, its value in lower-case digits, the brace that closes the line's object, and the line end.
unfoldable pub tail_of : List ℕ → List ℕ
tail_of sum = codes ",\"sum\":\"" ++ (encode_lower sum ++ (codes "\"}" ++ 10 ∷ []))

-- The line is a body and the tail of some sum.
pub record HasTail (line : List ℕ) : Type 0 where
  pub body : List ℕ
  pub sum : List ℕ
  pub long : length sum ≡ 32
  pub octets : IsBytes sum
  pub is : line ≡ body ++ tail_of sum

-- What stands before the tail of a line, of lines; and the room of a tail that is not made yet.
abbrev pub body_in : List ℕ → List ℕ
body_in line = take (length line - 75) line

abbrev pub bodies_in : List (List ℕ) → List (List ℕ)
bodies_in lines = map body_in lines

abbrev pub no_tail : List ℕ
no_tail = replicate 75 0

-- The sum behind a body that follows this sum, and behind bodies that do, in order.
abbrev pub sum_after : List ℕ → List ℕ → List ℕ
sum_after before body = chain_after before (sha256 body)

abbrev pub sums_after : List ℕ → List (List ℕ) → List ℕ
sums_after before bodies = chain_from before (map sha256 bodies)

-- The line of a body that follows this sum; those of bodies that do, each sealed behind the one before; and their octets.
abbrev pub line_after : List ℕ → List ℕ → List ℕ
line_after before body = body ++ tail_of (sum_after before body)

abbrev pub lines_after : List ℕ → List (List ℕ) → List (List ℕ)
lines_after before [] = []
lines_after before (body ∷ bodies) = line_after before body ∷ lines_after (sum_after before body) bodies

abbrev pub text_after : List ℕ → List (List ℕ) → List ℕ
text_after before bodies = concat (lines_after before bodies)

-- The line follows one that has the first of these sums, and has the other.
pub record IsSealed (before line after : List ℕ) : Type 0 where
  pub body : List ℕ
  pub sum : after ≡ sum_after before body
  pub is : line ≡ body ++ tail_of after
