-- The addresses that /proc/net/fib_trie, Linux's text of its routes, lists as this machine's own (own). A line that,
-- after its leading spaces, has `|-- ADDRESS` names an address. A line below it that, after its leading spaces, begins
-- with `/32 host LOCAL` says that this address alone is one of the machine's.
use Rattle.std.specs.Prelude.{ℕ, List, [], ◌∷◌, ◌++◌, codes, Option, Some, None, Bool, true, false, nat_eq, if◌then◌else◌}
use Rattle.std.specs.Str.{trim_start}
use Rattle.std.specs.Str.Lines.{lines}
use Rattle.std.specs.List.{starts_with}
use Rattle.std.specs.Cmp.Lexicographic.{pointwise}
use Rattle.rad_realms.specs.Address.{around_first, address_in}

-- The text of the address that a line names, from the parts before and after its first space: the second part, if the
-- first is `|--`.
abbrev pub name_of : Option (List ℕ × List ℕ) → Option (List ℕ)
name_of (Some parts) = if pointwise nat_eq parts.0 (codes "|--") then Some parts.1 else None
name_of None = None

abbrev pub named_in : List ℕ → Option (List ℕ)
named_in line = name_of (around_first 32 line)

-- Whether a line says that the address above it is local.
unfoldable pub is_local : List ℕ → Bool
is_local line = starts_with nat_eq line (codes "/32 host LOCAL")

-- The addresses listed so far, and the address that was named last.
pub record Listing : Type 0 where
  pub listed : List (List ℕ)
  pub named : Option (List ℕ)

-- The addresses that a line adds: the one named last, if there is one and the line says that it is local.
abbrev pub local_by : Option (List ℕ) → Bool → List (List ℕ)
local_by (Some address) true = address ∷ []
local_by (Some address) false = []
local_by None told = []

abbrev pub after_name : Listing → List ℕ → Option (List ℕ) → Listing
after_name so_far line (Some address) = record { listed = so_far.listed; named = address_in address }
after_name so_far line None = record { listed = so_far.listed ++ local_by so_far.named (is_local line); named = so_far.named }

-- The listing after one more line.
abbrev pub after_line : Listing → List ℕ → Listing
after_line so_far line = after_name so_far line (named_in line)

-- The listing after these lines.
abbrev pub listing : Listing → List (List ℕ) → Listing
listing so_far [] = so_far
listing so_far (line ∷ more) = listing (after_line so_far (trim_start line)) more

abbrev pub nothing_listed : Listing
nothing_listed = record { listed = []; named = None }

-- The local addresses that a text lists, in its order.
abbrev pub local_addresses : List ℕ → List (List ℕ)
local_addresses text = (listing nothing_listed (lines text)).listed
