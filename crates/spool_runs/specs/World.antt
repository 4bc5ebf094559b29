-- Runs of the proxy over one spool, one after the other (own). A run reads the spool at its start, and ends by a stop or a
-- crash. Between two runs there is the spool alone.
use Rattle.std.specs.Prelude.{ℕ, Bool, true, false, List, [], Option, Some, None, ◌==◌, is_some}
use Rattle.std.specs.List.{filter}
use Rattle.spool_files.specs.declared.entry.Head.TheVariants as heads
use Rattle.spool_files.specs.Entries.{Entry}

-- What a configuration says: which lane takes a request, if one does; for how many milliseconds each lane remembers an answer; and
-- the greatest of these spans.
pub record Setup : Type 0 where
  pub lane_of : Entry → Option ℕ
  pub span_of : ℕ → ℕ
  pub greatest_span : ℕ

-- What there is at one moment. Each list has the earliest item first.
pub record World : Type 0 where
  -- the greatest span of the last run's configuration, in milliseconds
  pub span : ℕ
  -- the wall clock, in milliseconds since 1970, when it was last read
  pub now : ℕ
  -- all entries that were ever written to the disk, or may have been
  pub written : List Entry
  -- those that are there: the others were in segments that were removed
  pub disk : List Entry
  -- those of them that were synced: their batch was, or a start read them and offers them
  pub synced : List Entry
  -- the new requests that were accepted in any run, in the order in which they came
  pub came : List Entry
  -- the requests that were handed over in any run, and the answers and givings-up, in their order
  pub told : List Entry
  -- whether a run is up; the rest is of this run
  pub up : Bool
  pub setup : Setup
  -- when it started, what had ever been written until then, and what of it had been synced
  pub started : ℕ
  pub found : List Entry
  pub found_synced : List Entry
  -- the answers of earlier runs that it remembers
  pub remembered : List Entry
  -- the requests of earlier runs that wait for their lanes
  pub waiting : List Entry
  -- those that were dropped by name
  pub dropped : List Entry
  -- all requests that lanes accepted, in this order: the lane has each queued, outstanding or answered
  pub accepted : List Entry
  -- those of them that were counted as not on disk, or whose key is open there already
  pub lost : List Entry
  -- the answers and givings-up of this run, handed over or not
  pub answered : List Entry
  -- entries that were handed over and are in no batch that is on disk
  pub unwritten : List Entry
  -- no request on disk or handed over has this place among those of all runs, or a later one
  pub next : ℕ

abbrev pub no_setup : Setup
no_setup = record { lane_of = λ entry. None; span_of = λ lane. 0; greatest_span = 0 }

-- A spool that nothing was ever written to, and no run.
abbrev pub new_world : ℕ → World
new_world span = record {
  span = span;
  now = 0;
  written = [];
  disk = [];
  synced = [];
  came = [];
  told = [];
  up = false;
  setup = no_setup;
  started = 0;
  found = [];
  found_synced = [];
  remembered = [];
  waiting = [];
  dropped = [];
  accepted = [];
  lost = [];
  answered = [];
  unwritten = [];
  next = 0;
}

-- the place of a request among those of all runs
abbrev pub arrival_of : Entry → ℕ
arrival_of (heads.Begun b, text) = 0
arrival_of (heads.Came c, text) = c.arrival
arrival_of (heads.Answered a, text) = 0
arrival_of (heads.GivenUp g, text) = 0

-- an answer or a giving-up: it closes the request that it is about
abbrev pub is_closing : Entry → Bool
is_closing (heads.Begun b, text) = false
is_closing (heads.Came c, text) = false
is_closing (heads.Answered a, text) = true
is_closing (heads.GivenUp g, text) = true

abbrev pub is_lane : ℕ → Option ℕ → Bool
is_lane lane None = false
is_lane lane (Some other) = other == lane

-- the request is of this lane
abbrev pub is_of : Setup → ℕ → Entry → Bool
is_of setup lane entry = is_lane lane (setup.lane_of entry)

-- the requests of one lane
abbrev pub of_lane : Setup → ℕ → List Entry → List Entry
of_lane setup lane entries = filter (is_of setup lane) entries

-- a lane takes the request
abbrev pub has_lane : Setup → Entry → Bool
has_lane setup entry = is_some (setup.lane_of entry)
