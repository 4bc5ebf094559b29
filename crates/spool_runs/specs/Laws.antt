-- What one run leaves to the next (own).
use Rattle.std.specs.Prelude.{◌≡◌, ◌⊎◌, ℕ, ◌-◌, ◌≤◌, true, List, ◌∷◌, ◌++◌, Some, AllPairs}
use Rattle.std.specs.List.{Contains}
use Rattle.spool_files.specs.declared.entry.Answered.{Answered}
use Rattle.spool_files.specs.declared.entry.Head.TheVariants as heads
use Rattle.spool_files.specs.Entries.{Entry}
use Rattle.spool_files.specs.Counting.{key_of, is_last, is_request, open_of}
use Rattle.spool_runs.specs.World.{World, of_lane}
use Rattle.spool_runs.specs.Happens.{Happens, IsAnsweredIn, IsClosedAmong}
use Rattle.spool_runs.specs.Happens.Happening.{ends}

-- The run has the request: it waits for its lane, or was dropped by name, or its lane accepted it, which has it queued,
-- outstanding or answered.
abbrev pub IsHeld : World → Entry → Type 0
IsHeld world request = Contains world.waiting request ⊎ (Contains world.dropped request ⊎ Contains world.accepted request)

-- The request, or another one with its key, is open on the disk, so the next start offers it; and while a run is up, this
-- run has it.
pub record IsKept (world : World) (request : Entry) : Type 0 where
  pub it : Entry
  pub about : key_of it.0 ≡ key_of request.0
  pub is_open : Contains (open_of world.disk) it
  pub held : world.up ≡ true → IsHeld world it

-- Each request that was ever synced was answered or given up in some run after it was accepted, or is kept.
abbrev pub NoneIsLost : World → Type 0
NoneIsLost world =
    (request : Entry)
    → Contains world.synced request
    → is_request request ≡ true
    → IsAnsweredIn world.told request ⊎ IsKept world request

-- When a run ends in order, each request that it had is among those that were not handed over, or was synced, or was answered.
abbrev pub AStopLosesNone : World → World → Type 0
AStopLosesNone old new =
    Happens old ends new
    → (request : Entry) → IsHeld old request
    → Contains old.lost request ⊎ (Contains new.synced request ⊎ IsClosedAmong old.answered request)

-- Of the requests that are offered no two have one key.
abbrev pub AreOfferedOnce : List Entry → Type 0
AreOfferedOnce offered = AllPairs (λ one other. key_of one.0 ≡ key_of other.0 → ⊥) offered

-- The entry was written, and nothing about its request was written after it.
pub record IsLastAbout (written : List Entry) (entry : Entry) : Type 0 where
  pub before : List Entry
  pub later : List Entry
  pub split : written ≡ before ++ entry ∷ later
  pub last : is_last entry.0 later ≡ true

-- What a run offers: none twice, and none of which an answer was written after it.
pub record OffersOnce (old : World) (offered : List Entry) : Type 0 where
  pub once : AreOfferedOnce offered
  pub unanswered : (request : Entry) → Contains offered request → IsLastAbout old.written request

-- A request with the key of an answer that was synced in an earlier run is accepted only once the lane's span is over since then.
abbrev pub IsAcceptedAfterItsSpan : World → Entry → ℕ → Type 0
IsAcceptedAfterItsSpan old request moment =
    (answered : Answered) (text : List ℕ) (lane : ℕ)
    → IsLastAbout old.found (heads.Answered answered, text)
    → Contains old.found_synced (heads.Answered answered, text)
    → key_of request.0 ≡ Some answered.key
    → old.setup.lane_of request ≡ Some lane
    → old.setup.span_of lane ≤ moment - answered.moment

-- the one request came before the other
abbrev pub CameBefore : List Entry → Entry → Entry → Type 0
CameBefore came one other = (first : List Entry) × (middle : List Entry) × (last : List Entry) × (came ≡ first ++ one ∷ (middle ++ other ∷ last))

-- Each lane of a run accepts requests in the order in which they first came, those of earlier runs before those of this one.
abbrev pub AreAcceptedInOrder : World → Type 0
AreAcceptedInOrder world = (lane : ℕ) → AllPairs (CameBefore world.came) (of_lane world.setup lane (world.accepted ++ world.waiting))

-- This answer is remembered, and no other to a request of its key.
pub record IsRecalled (remembered : List Entry) (answered : Answered) (text : List ℕ) : Type 0 where
  pub there : Contains remembered (heads.Answered answered, text)
  pub alone : (other : Entry) → Contains remembered other → key_of other.0 ≡ Some answered.key → other ≡ (heads.Answered answered, text)

-- A run recalls each answer that was synced in an earlier run, with its octets, for the greatest span of its configuration.
abbrev pub AnswersAreRecalled : World → Type 0
AnswersAreRecalled world =
    (answered : Answered) (text : List ℕ)
    → world.up ≡ true
    → IsLastAbout world.found (heads.Answered answered, text)
    → Contains world.found_synced (heads.Answered answered, text)
    → world.now - answered.moment ≤ world.span
    → IsRecalled world.remembered answered text
