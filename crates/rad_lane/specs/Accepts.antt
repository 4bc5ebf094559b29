-- The results that accepting a request may have, and the book after it (own). Of the refusals, the first one that
-- applies is returned. Lack of memory is the last, and the only free choice. A refusal leaves the book and the
-- datagram unchanged.
use Rattle.std.specs.Prelude.{◌≡◌, ℕ, ◌^◌, ◌<◌, ◌≤◌, ◌⊎◌, [], ◌∷◌, ◌++◌, length, IsSome, IsNone, Result, Ok, Err}
use Rattle.rad_packet.specs.Packet.{identifier_of, authenticator_of}
use Rattle.rad_realms.specs.Checking.{Request}
use Rattle.rad_tables.specs.declared.duplicates.Key.{Key}
use Rattle.rad_lane.specs.declared.stamp.Stamp.{Stamp}
use Rattle.rad_lane.specs.declared.accepting.Taken.{Taken}
use Rattle.rad_lane.specs.declared.accepting.Taken.TheVariants.{New, Waiting, Again}
use Rattle.rad_lane.specs.declared.accepting.Refusal.{Refusal}
use Rattle.rad_lane.specs.declared.accepting.Refusal.TheVariants.{Draining, BookFull, QueueFull, TooLong, OutOfMemory, WrongLane}
use Rattle.rad_lane.specs.Stamp.{Recorded}
use Rattle.rad_lane.specs.Book.{Book, moment_in, next_number}
use Rattle.rad_lane.specs.Datagrams.{Datagrams}
use Rattle.rad_lane.specs.Setup.{IsOfItsRealms}
use Rattle.rad_lane.specs.Repeat.{fresh, waits, again, repeats}

abbrev pub request_key : Request → Key
request_key request = record {
  client = request.client;
  port = request.port;
  identifier = identifier_of request.text;
  authenticator = authenticator_of request.text;
}

-- The request leads to this lane, by the lane's own realms.
pub record IsTaken (book : Book) (request : Request) : Type 0 where
  pub lane : request.lane ≡ book.setup.lane
  pub realm : IsOfItsRealms book.setup request.text

-- The stamp that a request gets, with this number and at this moment; and its record.
abbrev pub stamp_of : ℕ → Request → ℕ → Stamp
stamp_of number request now = record {
  number = number;
  client = request.client;
  port = request.port;
  identifier = identifier_of request.text;
  authenticator = authenticator_of request.text;
  moment = now;
}

abbrev pub record_of : ℕ → Request → ℕ → Recorded
record_of number request now = record { stamp = stamp_of number request now; text = request.text; client_secret = request.secret }

-- The book holds as many requests as it may, or no number below 2 ^ 62 is left.
abbrev pub IsBookFull : Book → Type 0
IsBookFull book = (book.setup.limits.book ≤ length book.accepted) ⊎ (2 ^ 62 ≤ next_number book)

abbrev pub IsQueueFull : Book → Type 0
IsQueueFull book = book.setup.limits.queue ≤ length book.queued

-- The mark does not fit.
abbrev pub IsTooLong : Request → Type 0
IsTooLong request = 4084 < length request.text

-- Why a request that is not a repeat is refused: the first reason that applies.
abbrev pub IsRefused : Book → Request → Refusal → Type 0
IsRefused book request Draining = IsSome book.drain
IsRefused book request BookFull = IsNone book.drain × IsBookFull book
IsRefused book request QueueFull = IsNone book.drain × (¬ IsBookFull book) × IsQueueFull book
IsRefused book request TooLong = IsNone book.drain × (¬ IsBookFull book) × (¬ IsQueueFull book) × IsTooLong request
IsRefused book request OutOfMemory = IsNone book.drain × (¬ IsBookFull book) × (¬ IsQueueFull book) × (¬ IsTooLong request)
IsRefused book request WrongLane = ⊥

-- The book with this request accepted and queued.
abbrev pub with_request : Book → Request → ℕ → Book
with_request book request now = record book {
  accepted = book.accepted ++ stamp_of (next_number book) request now ∷ [];
  queued = book.queued ++ record_of (next_number book) request now ∷ [];
  last = now;
}

abbrev pub Accepts : Book → Request → ℕ → Result Taken Refusal → Datagrams → Book → Type 0
Accepts old request moment (Ok (New number)) d new =
    let now = moment_in old moment in
    (repeats old (request_key request) now ≡ fresh) × IsRefused old request OutOfMemory
    × (number ≡ next_number old) × (new ≡ with_request old request now) × (d.after ≡ d.before)
Accepts old request moment (Ok (Waiting number)) d new =
    let now = moment_in old moment in
    (repeats old (request_key request) now ≡ waits number) × (new ≡ record old { last = now }) × (d.after ≡ d.before)
Accepts old request moment (Ok (Again number)) d new =
    let now = moment_in old moment in
    (repeats old (request_key request) now ≡ again number d.after) × (new ≡ record old { last = now })
Accepts old request moment (Err refusal) d new =
    (repeats old (request_key request) (moment_in old moment) ≡ fresh) × IsRefused old request refusal
    × (new ≡ old) × (d.after ≡ d.before)
