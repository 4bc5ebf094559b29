-- What happens in runs over one spool, one thing at a time (own). The words for what counts of the entries on disk are those
-- of spool_files.
use Rattle.std.specs.Prelude.{◌≡◌, ℕ, ◌-◌, ◌<◌, ◌≤◌, Bool, true, false, not, List, [], ◌∷◌, ◌++◌, take, drop, Some}
use Rattle.std.specs.List.{Contains, filter}
use Rattle.std.specs.List.Sorted.{IsPermutation, IsNonDecreasingBy}
use Rattle.spool_files.specs.declared.entry.Begun.{Begun}
use Rattle.spool_files.specs.declared.entry.Answered.{Answered}
use Rattle.spool_files.specs.declared.entry.Head.TheVariants as heads
use Rattle.spool_files.specs.Entries.{Entry}
use Rattle.spool_files.specs.Counting.{key_of, is_request, open_before, answers_before, open_of, answers_of}
use Rattle.spool_runs.specs.World.{Setup, World, new_world, no_setup, arrival_of, is_closing, of_lane, has_lane}

pub data Happening : Type 0 where
  -- a run starts with this configuration at this moment. It offers these requests, and numbers new ones from here on
  starts : Setup → (moment : ℕ) → (offered : List Entry) → (next : ℕ) → Happening
  -- a lane accepts a request that was offered, or it is dropped by name
  takes : Entry → Happening
  drops : Entry → Happening
  -- a lane accepts a new request at this moment. It is handed over, or counted as not on disk, or one with its key is open there
  accepts : Entry → (handed : Bool) → (moment : ℕ) → (next : ℕ) → Happening
  -- an answer, or a giving-up, is handed over or lost
  closes : Entry → (handed : Bool) → Happening
  -- the thread lets go of the entries that do not pass a test: they need not be written any more
  lets_go : (kept : Entry → Bool) → Happening
  -- so many of the entries that were handed over are written and synced as a batch
  syncs : ℕ → Happening
  -- the write of a batch fails, and leaves so many of its entries: none, or all
  fails : ℕ → Happening
  -- the batch with which a segment begins is synced. One that is removed again, since no other could be written to it, is none
  begins : Begun → Happening
  -- of these oldest entries those that are open and pass a test are written once more, where these newer ones follow them
  writes_again : (oldest newer : List Entry) → (kept : Entry → Bool) → Happening
  -- the oldest segment, of these entries, is removed at this moment
  removes : (oldest newer : List Entry) → (moment : ℕ) → Happening
  -- the run ends in order
  ends : Happening
  -- the run ends by a crash, which leaves so many entries of the batch under way: none, or the whole batch
  crashes : ℕ → Happening

-- Among these later entries is an answer to the request, or its giving-up.
pub record IsClosedAmong (later : List Entry) (request : Entry) : Type 0 where
  pub closing : Entry
  pub there : Contains later closing
  pub is : is_closing closing ≡ true
  pub about : key_of closing.0 ≡ key_of request.0

-- The request was handed over, and its answer later, or its giving-up.
pub record IsAnsweredIn (told : List Entry) (request : Entry) : Type 0 where
  pub before : List Entry
  pub later : List Entry
  pub split : told ≡ before ++ request ∷ later
  pub closed : IsClosedAmong later request

-- the world after entries were written to the disk
abbrev pub written_more : World → List Entry → World
written_more world entries = record world { written = world.written ++ entries; disk = world.disk ++ entries }

-- the world after the end of a run, which leaves the spool
abbrev pub run_over : World → World
run_over world = record world {
  up = false;
  setup = no_setup;
  found = [];
  found_synced = [];
  remembered = [];
  waiting = [];
  dropped = [];
  accepted = [];
  lost = [];
  answered = [];
  unwritten = [];
}

-- What is offered are the open requests, each once, in the order of their places among the requests of all runs.
pub record IsOffered (disk offered : List Entry) : Type 0 where
  pub same : IsPermutation (open_of disk) offered
  pub in_order : IsNonDecreasingBy arrival_of offered

-- each request among the entries has a place before this one
abbrev pub AreBelow : ℕ → List Entry → Type 0
AreBelow next entries = (entry : Entry) → Contains entries entry → is_request entry ≡ true → arrival_of entry < next

-- the world after a run started
abbrev pub after_start : World → Setup → ℕ → List Entry → ℕ → World
after_start old setup moment offered next = record old {
  span = setup.greatest_span;
  now = moment;
  up = true;
  setup = setup;
  started = moment;
  found = old.written;
  found_synced = old.synced;
  synced = old.synced ++ offered;
  remembered = answers_of moment setup.greatest_span old.disk;
  waiting = filter (has_lane setup) offered;
  dropped = filter (λ entry. not (has_lane setup entry)) offered;
  next = next;
}

-- A run starts: it offers what is open, and remembers the answers of its greatest span. A request that no lane takes is
-- dropped by name, and stays in the spool. The wall clock has not gone back, and the greatest span is not greater than before.
pub record IsStarted (old : World) (setup : Setup) (moment : ℕ) (offered : List Entry) (next : ℕ) (new : World) : Type 0 where
  pub down : old.up ≡ false
  pub later : old.now ≤ moment
  pub spans : (lane : ℕ) → setup.span_of lane ≤ setup.greatest_span
  pub no_greater : setup.greatest_span ≤ old.span
  pub offers : IsOffered old.disk offered
  pub below : AreBelow next old.disk
  pub world : new ≡ after_start old setup moment offered next

-- The request waits, and is the first of those that wait for its lane.
pub record IsFirst (world : World) (request : Entry) : Type 0 where
  pub up : world.up ≡ true
  pub lane : ℕ
  pub of : world.setup.lane_of request ≡ Some lane
  pub before : List Entry
  pub after : List Entry
  pub split : world.waiting ≡ before ++ request ∷ after
  pub first : of_lane world.setup lane before ≡ []

-- Its lane accepts it, as new. It has its place in the spool already.
pub record IsTaken (old : World) (request : Entry) (new : World) : Type 0 where
  pub is : IsFirst old request
  pub world : new ≡ record old { waiting = is.before ++ is.after; accepted = old.accepted ++ request ∷ [] }

pub record IsDropped (old : World) (request : Entry) (new : World) : Type 0 where
  pub is : IsFirst old request
  pub world : new ≡ record old { waiting = is.before ++ is.after; dropped = old.dropped ++ request ∷ [] }

-- the world after a lane accepted a new request
abbrev pub after_accepted : World → Entry → Bool → ℕ → ℕ → World
after_accepted old request true moment next = record old {
  now = moment;
  came = old.came ++ request ∷ [];
  accepted = old.accepted ++ request ∷ [];
  told = old.told ++ request ∷ [];
  unwritten = old.unwritten ++ request ∷ [];
  next = next;
}
after_accepted old request false moment next = record old {
  now = moment;
  came = old.came ++ request ∷ [];
  accepted = old.accepted ++ request ∷ [];
  lost = old.lost ++ request ∷ [];
  next = next;
}

-- A lane accepts a new request: none waits for this lane, and no answer to it is remembered for the lane's span. The request
-- has the next place.
pub record IsAccepted (old : World) (request : Entry) (handed : Bool) (moment next : ℕ) (new : World) : Type 0 where
  pub up : old.up ≡ true
  pub later : old.now ≤ moment
  pub is : is_request request ≡ true
  pub lane : ℕ
  pub of : old.setup.lane_of request ≡ Some lane
  pub none_waits : of_lane old.setup lane old.waiting ≡ []
  pub not_recalled : (answered : Answered) (text : List ℕ)
      → Contains old.remembered (heads.Answered answered, text)
      → key_of request.0 ≡ Some answered.key
      → old.setup.span_of lane ≤ moment - answered.moment
  pub place : old.next ≤ arrival_of request
  pub next_place : arrival_of request < next
  pub world : new ≡ after_accepted old request handed moment next

abbrev pub after_closed : World → Entry → Bool → World
after_closed old closing true = record old { answered = old.answered ++ closing ∷ []; told = old.told ++ closing ∷ []; unwritten = old.unwritten ++ closing ∷ [] }
after_closed old closing false = record old { answered = old.answered ++ closing ∷ []; told = old.told ++ closing ∷ [] }

-- An answer to a request that a lane accepted, or its giving-up.
pub record IsClosed (old : World) (closing : Entry) (handed : Bool) (new : World) : Type 0 where
  pub up : old.up ≡ true
  pub is : is_closing closing ≡ true
  pub request : Entry
  pub accepted : Contains old.accepted request
  pub about : key_of request.0 ≡ key_of closing.0
  pub world : new ≡ after_closed old closing handed

-- What is let go of is about requests that were answered in this run.
pub record IsLetGo (old : World) (kept : Entry → Bool) (new : World) : Type 0 where
  pub up : old.up ≡ true
  pub answered : (entry : Entry) → Contains old.unwritten entry → kept entry ≡ false → IsClosedAmong old.answered entry
  pub world : new ≡ record old { unwritten = filter kept old.unwritten }

pub record IsSynced (old : World) (count : ℕ) (new : World) : Type 0 where
  pub up : old.up ≡ true
  pub world : new ≡ record (written_more old (take count old.unwritten)) { synced = old.synced ++ take count old.unwritten; unwritten = drop count old.unwritten }

-- What the write of a batch left that failed is known only to the next start: the thread has its entries still to write.
pub record IsFailed (old : World) (count : ℕ) (new : World) : Type 0 where
  pub up : old.up ≡ true
  pub world : new ≡ written_more old (take count old.unwritten)

pub record IsBegun (old : World) (begun : Begun) (new : World) : Type 0 where
  pub up : old.up ≡ true
  pub world : new ≡ written_more old ((heads.Begun begun, []) ∷ [])

pub record IsWrittenAgain (old : World) (oldest newer : List Entry) (kept : Entry → Bool) (new : World) : Type 0 where
  pub up : old.up ≡ true
  pub disk : old.disk ≡ oldest ++ newer
  pub world : new ≡ written_more old (filter kept (open_before oldest newer))

-- The oldest segment is removed: no request is open in it that was synced and not answered, and no answer is remembered in it
-- that was synced. So it is where nothing in it counts. Of what a failed write left there the thread knows nothing.
pub record IsRemoved (old : World) (oldest newer : List Entry) (moment : ℕ) (new : World) : Type 0 where
  pub up : old.up ≡ true
  pub later : old.now ≤ moment
  pub disk : old.disk ≡ oldest ++ newer
  pub none_open : (it request : Entry)
      → Contains (open_before oldest newer) it
      → Contains old.synced request → is_request request ≡ true → key_of request.0 ≡ key_of it.0
      → IsAnsweredIn old.told request
  pub none_remembered : (answer : Entry) → Contains (answers_before moment old.span oldest newer) answer → Contains old.synced answer → ⊥
  pub world : new ≡ record old { now = moment; disk = newer }

-- The run ends in order: all that was handed over is on disk.
pub record IsEnded (old new : World) : Type 0 where
  pub up : old.up ≡ true
  pub all : old.unwritten ≡ []
  pub world : new ≡ run_over old

-- What was handed over and not synced is lost, but for a batch that was under way.
pub record IsCrashed (old : World) (count : ℕ) (new : World) : Type 0 where
  pub up : old.up ≡ true
  pub world : new ≡ run_over (written_more old (take count old.unwritten))

abbrev pub Happens : World → Happening → World → Type 0
Happens old (starts setup moment offered next) new = IsStarted old setup moment offered next new
Happens old (takes request) new = IsTaken old request new
Happens old (drops request) new = IsDropped old request new
Happens old (accepts request handed moment next) new = IsAccepted old request handed moment next new
Happens old (closes closing handed) new = IsClosed old closing handed new
Happens old (lets_go kept) new = IsLetGo old kept new
Happens old (syncs count) new = IsSynced old count new
Happens old (fails count) new = IsFailed old count new
Happens old (begins begun) new = IsBegun old begun new
Happens old (writes_again oldest newer kept) new = IsWrittenAgain old oldest newer kept new
Happens old (removes oldest newer moment) new = IsRemoved old oldest newer moment new
Happens old ends new = IsEnded old new
Happens old (crashes count) new = IsCrashed old count new

-- These happenings, the earliest first.
abbrev pub Lives : World → List Happening → World → Type 0
Lives old [] new = new ≡ old
Lives old (happening ∷ later) new = (next : World) × Happens old happening next × Lives next later new

-- How a world came to be: by some happenings, from a new spool on.
pub record Life (world : World) : Type 0 where
  pub span : ℕ
  pub happenings : List Happening
  pub lives : Lives (new_world span) happenings world
