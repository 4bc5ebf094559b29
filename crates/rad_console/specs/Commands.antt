-- The commands on the lines of standard input while the proxy runs (own).
use Rattle.std.specs.Prelude.{◌≡◌, ◌≢◌, ℕ, Bool, true, false, List, [], ◌∷◌, ◌++◌, ◌⊎◌, ◌≤◌, take, length, slice_get, codes, All, Option, None, Some, Result, Ok, Err, ⊤}
use Rattle.std.specs.Io.KnownBytes.{Consumes, IsAtEnd}
use Rattle.rad_console.specs.declared.commands.Command.{Command}
use Rattle.rad_console.specs.declared.commands.Command.TheVariants.{State, Drain, Unknown}

-- The command of a line without its line feed.
abbrev pub Asks : List ℕ → Command → Type 0
Asks line State = line ≡ codes "state"
Asks line Drain = line ≡ codes "drain"
Asks line Unknown = (line ≢ codes "state") × (line ≢ codes "drain")

-- The octets have no line feed.
abbrev pub HasNoFeed : List ℕ → Type 0
HasNoFeed octets = All (λ octet. octet ≢ 10) octets

-- The octet is at this place, and at none before it.
pub record IsFirstAt (text : List ℕ) (wanted place : ℕ) : Type 0 where
  pub there : slice_get text place ≡ Some wanted
  pub before : All (λ octet. octet ≢ wanted) (take place text)

-- What is kept of a line that has not ended: its first octets, at most 64.
abbrev pub IsFront : List ℕ → Type 0
IsFront octets = (length octets ≤ 64) × HasNoFeed octets

-- The line that begins with `front` ends in `next` and is this command; `left` is what follows its line feed. Only the
-- first 64 octets of the line count, so a line of 64 octets or more is no command.
pub record EndsLine (front next : List ℕ) (command : Command) (left : List ℕ) : Type 0 where
  pub rest : List ℕ
  pub split : next ≡ rest ++ 10 ∷ left
  pub first : HasNoFeed rest
  pub asks : Asks (take 64 (front ++ rest)) command

-- The octets that a read returned; `false` means that the end of the input was reached.
abbrev pub ReadsMore : Option (List ℕ) → List ℕ → Option (List ℕ) → Bool → Type 0
ReadsMore old given new true = Consumes old new given
ReadsMore old given new false = Consumes old new given × (given ≡ []) × IsAtEnd new

-- The first line is this command, and `left` is what follows its line feed. The last line may have no line feed.
pub record AsksFirst (before : List ℕ) (command : Command) (left : List ℕ) : Type 0 where
  pub line : List ℕ
  pub first : HasNoFeed line
  pub asks : Asks line command
  pub ends : (before ≡ line ++ 10 ∷ left) ⊎ ((before ≡ line) × (line ≢ []) × (left ≡ []))

-- The front of a line was read. At most 64 of its octets are kept, before the rest.
pub record KeepsFront (before left : List ℕ) : Type 0 where
  pub front : List ℕ
  pub rest : List ℕ
  pub split : before ≡ front ++ rest
  pub kept : left ≡ take 64 front ++ rest
  pub unended : HasNoFeed front

-- The next command of what remains to be read, if that is known, and what remains after it.
abbrev pub ReadsNext : {E : Type 0} → Option (List ℕ) → Result (Option Command) E → Option (List ℕ) → Type 0
ReadsNext None result after = ⊤
ReadsNext (Some before) result None = ⊥
ReadsNext (Some before) (Ok (Some command)) (Some left) = AsksFirst before command left
ReadsNext (Some before) (Ok None) (Some left) = (before ≡ []) × (left ≡ [])
ReadsNext (Some before) (Err error) (Some left) = KeepsFront before left
