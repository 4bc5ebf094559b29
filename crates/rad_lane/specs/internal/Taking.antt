-- How a request is taken that repeats another, and how a new one is added to the lists of a lane (own). No public clause cites this module.
use Rattle.std.specs.Prelude.{◌≡◌, ℕ, List, [], ◌∷◌, ◌++◌, Option, Some, None}
use Rattle.rad_realms.specs.Checking.{Request}
use Rattle.rad_lane.specs.declared.stamp.Stamp.{Stamp}
use Rattle.rad_lane.specs.declared.accepting.Taken.{Taken}
use Rattle.rad_lane.specs.declared.accepting.Taken.TheVariants.{New, Waiting, Again}
use Rattle.rad_lane.specs.Stamp.{Kept, IsRecord}
use Rattle.rad_lane.specs.Accepts.{record_of}
use Rattle.rad_lane.specs.Datagrams.{Datagrams}
use Rattle.rad_lane.specs.Repeat.{Repeats, fresh, waits, again}
use Rattle.rad_lane.specs.internal.Invariant.{HasRoom}

-- A request that repeats none is not taken. Only the response to an answered one is written into the datagram.
abbrev pub TakesRepeat : Repeats → Option Taken → Datagrams → Type 0
TakesRepeat told None d = (told ≡ fresh) × (d.after ≡ d.before)
TakesRepeat told (Some (Waiting number)) d = (told ≡ waits number) × (d.after ≡ d.before)
TakesRepeat told (Some (Again number)) d = told ≡ again number d.after
TakesRepeat told (Some (New number)) d = ⊥

-- The request of a number is added: its stamp to the accepted ones, and its record, which has room for the octets to be
-- sent, to the queue.
pub record AddsRequest (request : Request) (number now : ℕ) (accepted all : List Stamp) (kept queue : List Kept) : Type 0 where
  pub added : Kept
  pub record_is : added.recorded ≡ record_of number request now
  pub is_record : IsRecord added.recorded
  pub room : HasRoom added
  pub accepted_are : all ≡ accepted ++ added.recorded.stamp ∷ []
  pub queue_is : queue ≡ kept ++ added ∷ []
