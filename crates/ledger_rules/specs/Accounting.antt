-- What became of the requests that a lane accepted in a run (own): each was answered or left.
use Rattle.std.specs.Prelude.{◌≡◌, ℕ, Bool, ⊤, ◌⊎◌, ◌+◌, List, Option, Some, MatchOption, IsTrue}
use Rattle.ledger_rules.specs.Counting.{IsOpen, IsPassed, IsWhole, Tells}
use Rattle.ledger_rules.specs.Numbers.{IsEachOnce}
use Rattle.ledger_rules.specs.declared.account.Account.{Account}
use Rattle.ledger_rules.specs.declared.ending.Ending.{Ending}
use Rattle.ledger_rules.specs.declared.ending.EndCounts.{EndCounts}
use Rattle.ledger_rules.specs.declared.tally.Tally.{Tally}
use Rattle.ledger_rules.specs.declared.tally.Verdict.{Verdict}
use Rattle.ledger_rules.specs.declared.tally.Verdict.TheVariants.{Whole, Open, Missing, Unaccounted, Part, Contradicted}

-- Of each request it is known whether its number stands in a line. If an end line says how many were accepted and how many of them were
-- left, the lines of those that were left are as many as it says, and the responses up to the last entry and these are as many as were
-- accepted. If the entries begin with the serial 0, each number below that of the accepted stands once in the lines, and no other does.
abbrev pub IsSettled : Account → ℕ → ℕ → List ℕ → Type 0
IsSettled account first entries numbers =
    (account.numbers.exact_from ≡ 0)
    × MatchOption account.told ⊤ (λ told. (first ≡ 0 → IsEachOnce told.accepted numbers) × (told.left ≡ account.left) × (first + entries + account.left ≡ told.accepted))

-- What an end line says is not what another one said.
abbrev pub Differs : Option EndCounts → EndCounts → Type 0
Differs said counts = MatchOption said ⊥ (λ its. ¬ (its ≡ counts))

-- A line behind an end line contradicts it, or it counts fewer responses than there are.
abbrev pub IsContradicted : Tally → Ending → List ℕ → Type 0
IsContradicted tally ending serials = IsTrue ending.contradicted ⊎ IsPassed tally serials

-- What the lines of a lane show together, by the serials of its entries, and by the numbers of these and of the requests that were left,
-- where nothing contradicts an end line. It is a part where the run begins before it, or not all of it was judged.
abbrev pub TellsLane : Tally → Account → Type 0 → List ℕ → List ℕ → Verdict → Type 0
TellsLane tally account IsPart serials numbers Whole = IsWhole tally serials × IsSettled account tally.first tally.entries numbers × ¬ IsPart
TellsLane tally account IsPart serials numbers Open = IsOpen tally serials
TellsLane tally account IsPart serials numbers (Missing gap) = Tells tally serials (Missing gap)
TellsLane tally account IsPart serials numbers Unaccounted = IsWhole tally serials × ¬ IsSettled account tally.first tally.entries numbers
TellsLane tally account IsPart serials numbers Part = IsWhole tally serials × IsSettled account tally.first tally.entries numbers × IsPart
TellsLane tally account IsPart serials numbers Contradicted = ⊥

-- Something contradicts an end line, or nothing does, and that is told.
abbrev pub JudgesLane : Tally → Account → Ending → Type 0 → List ℕ → List ℕ → Verdict → Type 0
JudgesLane tally account ending IsPart serials numbers verdict =
    (IsContradicted tally ending serials × (verdict ≡ Contradicted))
    ⊎ ((¬ IsContradicted tally ending serials) × TellsLane tally account IsPart serials numbers verdict)
