-- What happens to one request over a crash, as an example (own).
use Rattle.std.specs.Prelude.{◌≡◌, ℕ, ◌+◌, ◌≤◌, true, List, [], ◌∷◌, Some}
use Rattle.spool_files.specs.declared.entry.Came.{Came}
use Rattle.spool_files.specs.declared.entry.Answered.{Answered}
use Rattle.spool_files.specs.declared.entry.Head.TheVariants as heads
use Rattle.spool_files.specs.Entries.{Entry}
use Rattle.spool_runs.specs.World.{Setup, World, new_world, arrival_of}
use Rattle.spool_runs.specs.Happens.{Happening, Lives}
use Rattle.spool_runs.specs.Happens.Happening.{starts, accepts, closes, syncs, crashes}

-- A run starts, accepts a request and syncs it, and a crash ends it. The next run starts, and offers the request.
abbrev pub crash_and_start : Setup → Entry → List Happening
crash_and_start setup request =
    starts setup 0 [] 0 ∷ accepts request true 0 (arrival_of request + 1) ∷ syncs 1 ∷ crashes 0
    ∷ starts setup 0 (request ∷ []) (arrival_of request + 1) ∷ []

-- The same, but the request is answered, and the answer synced, before the crash. The next run offers nothing.
abbrev pub answer_crash_and_start : Setup → Entry → Entry → List Happening
answer_crash_and_start setup request answer =
    starts setup 0 [] 0 ∷ accepts request true 0 (arrival_of request + 1) ∷ syncs 1 ∷ closes answer true ∷ syncs 1 ∷ crashes 0
    ∷ starts setup 0 [] (arrival_of request + 1) ∷ []

abbrev pub FitsSpan : ℕ → Setup → Type 0
FitsSpan span setup = ((lane : ℕ) → setup.span_of lane ≤ setup.greatest_span) × (setup.greatest_span ≤ span)

-- After a crash a request that a lane takes waits for this lane again.
abbrev pub ComesAgain : Type 0
ComesAgain =
    (span : ℕ) (setup : Setup) (came : Came) (text : List ℕ) (lane : ℕ)
    → FitsSpan span setup
    → setup.lane_of (heads.Came came, text) ≡ Some lane
    → (world : World) × Lives (new_world span) (crash_and_start setup (heads.Came came, text)) world × (world.waiting ≡ (heads.Came came, text) ∷ [])

-- One that was answered does not, and its answer is remembered.
abbrev pub ComesNotAgain : Type 0
ComesNotAgain =
    (span : ℕ) (setup : Setup) (came : Came) (text : List ℕ) (lane : ℕ) (answered : Answered) (response : List ℕ)
    → FitsSpan span setup
    → setup.lane_of (heads.Came came, text) ≡ Some lane
    → answered.key ≡ came.key
    → (world : World) × Lives (new_world span) (answer_crash_and_start setup (heads.Came came, text) (heads.Answered answered, response)) world
    × (world.waiting ≡ []) × (world.remembered ≡ (heads.Answered answered, response) ∷ [])
