-- What is made of the parcels that are taken from the buffer (own): a line of each, in order.
use Rattle.std.specs.Prelude.{◌≡◌, ◌≤◌, ◌/◌, ℕ, max, ⊤, List, [], ◌∷◌, ◌++◌, map, take, Option, Some, None}
use Rattle.std.specs.List.{flat_map}
use Rattle.rtrb.specs.Ring.{received}
use Rattle.ledger_writer.specs.Entries.{HasParcelBehind}
use Rattle.ledger_writer.specs.Parcels.{HasPackets, octets_of}
use Rattle.ledger_writer.specs.declared.entry_buffer.EntryBuffer.{EntryBuffer}
use Rattle.ledger_writer.specs.declared.parcel.Parcel.{Parcel}
use Rattle.ledger_writer.specs.declared.parcel.ParcelHead.{ParcelHead}
use Rattle.ledger_writer.specs.declared.run_names.RunNames.{RunNames}

-- A parcel that was taken: its head, and its packets, one behind the other.
pub record Taken : Type 0 where
  pub head : ParcelHead
  pub octets : List ℕ

-- These are all parcels that were taken, in order; and all but the one that is held.
pub record HasTaken (buffer : EntryBuffer) (parcels : List Taken) : Type 0 where
  pub heads : received buffer.heads ≡ map (λ taken. taken.head) parcels
  pub packets : received buffer.packets ≡ flat_map (λ taken. taken.octets) parcels

abbrev pub held_as : ParcelHead → List ℕ → Taken
held_as its room = record { head = its; octets = take (octets_of its) room }

abbrev pub HasPassedBut : Option ParcelHead → EntryBuffer → List Taken → Type 0
HasPassedBut None buffer parcels = HasTaken buffer parcels
HasPassedBut (Some head) buffer parcels = HasTaken buffer (parcels ++ held_as head buffer.room.items ∷ [])

abbrev pub HasPassed : EntryBuffer → List Taken → Type 0
HasPassed buffer parcels = HasPassedBut buffer.held buffer parcels

-- This is the body of the line of a parcel; and these are those of each of some parcels.
pub record IsLineOf (names : RunNames) (taken : Taken) (line : List ℕ) : Type 0 where
  pub parcel : Parcel
  pub packets : HasPackets taken.head taken.octets parcel
  pub is : HasParcelBehind names parcel [] line

abbrev pub AreLinesOf : RunNames → List Taken → List (List ℕ) → Type 0
AreLinesOf names [] [] = ⊤
AreLinesOf names [] (line ∷ lines) = ⊥
AreLinesOf names (taken ∷ parcels) [] = ⊥
AreLinesOf names (taken ∷ parcels) (line ∷ lines) = IsLineOf names taken line × AreLinesOf names parcels lines

-- The last day of these parcels, counted from 1970-01-01: this one, or that of the first of them, whichever is later. None is of a later
-- day.
abbrev pub day_at : Taken → ℕ
day_at taken = taken.head.time / 86400000

abbrev pub last_day : ℕ → List Taken → ℕ
last_day day [] = day
last_day day (first ∷ parcels) = max day (day_at first)

abbrev pub AreUntil : ℕ → List Taken → Type 0
AreUntil day [] = ⊤
AreUntil day (taken ∷ parcels) = (day_at taken ≤ day) × AreUntil day parcels

-- Behind these parcels others were passed, and behind these lines of a run stand theirs.
pub record Fills (names : RunNames) (day : ℕ) (parcels : List Taken) (lines : List (List ℕ)) (buffer : EntryBuffer) (Runs : List (List ℕ) → Type 0) : Type 0 where
  pub more : List Taken
  pub made : List (List ℕ)
  pub passed : HasPassed buffer (parcels ++ more)
  pub are : AreLinesOf names more made
  pub days : AreUntil (last_day day more) more
  pub runs : Runs (lines ++ made)
