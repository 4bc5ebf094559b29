-- The buffer (own): a ring of heads, and a ring of their packets. What was put into it, and what was taken from it, are a list of heads
-- and a list of octets, which are the packets of these heads, in order.
use Rattle.std.specs.Prelude.{◌≡◌, ◌<◌, ◌⊎◌, ℕ, [], ◌∷◌, ◌++◌, length, take, MatchBool, Some}
use mathlib.Core.List.{IsPrefix}
use Rattle.rtrb.specs.Ring.{known_free, known_items, received, sent}
use Rattle.rad_lane.specs.declared.outgoing.Outgoing.{Outgoing}
use Rattle.ledger_writer.specs.Parcels.{Fits, HasPackets, IsParcelOf, octets_of, packets_of}
use Rattle.ledger_writer.specs.declared.entry_buffer.EntryBuffer.{EntryBuffer}
use Rattle.ledger_writer.specs.declared.giving.ParcelGiver.{ParcelGiver}
use Rattle.ledger_writer.specs.declared.inlet.LedgerInlet.{LedgerInlet}
use Rattle.ledger_writer.specs.declared.parcel.Parcel.{Parcel}
use Rattle.ledger_writer.specs.declared.parcel.ParcelHead.{ParcelHead}

-- Nothing was put into the buffer, which has room for so many octets of packets, and so many heads.
pub record HasRoom (octets places : ℕ) (giver : ParcelGiver) : Type 0 where
  pub heads : sent giver.heads ≡ []
  pub packets : sent giver.packets ≡ []
  pub free_places : known_free giver.heads ≡ places
  pub free_octets : known_free giver.packets ≡ octets

-- A parcel is put into the buffer, whole, or nothing of it is.
pub record Gives (old : ParcelGiver) (parcel : Parcel) (new : ParcelGiver) : Type 0 where
  pub heads : sent new.heads ≡ sent old.heads ++ parcel.head ∷ []
  pub packets : sent new.packets ≡ sent old.packets ++ packets_of parcel

pub record GivesNothing (old new : ParcelGiver) : Type 0 where
  pub heads : sent new.heads ≡ sent old.heads
  pub packets : sent new.packets ≡ sent old.packets

-- The entry of a response is put into it, at the time that was read last.
pub record PutsEntry {R : Type 0} (old : LedgerInlet R) (outgoing : Outgoing) (new : LedgerInlet R) : Type 0 where
  pub parcel : Parcel
  pub is : IsParcelOf new.time outgoing parcel
  pub given : Gives old.accounted.giver parcel new.accounted.giver

-- The next parcel is taken from the buffer: its head, and then its packets, which are the front of the room. Or nothing is.
pub record TakesParcel (old : EntryBuffer) (head : ParcelHead) (new : EntryBuffer) : Type 0 where
  pub heads : received new.heads ≡ received old.heads ++ head ∷ []
  pub packets : received new.packets ≡ received old.packets ++ take (octets_of head) new.room.items

pub record SameTaken (old new : EntryBuffer) : Type 0 where
  pub heads : received new.heads ≡ received old.heads
  pub packets : received new.packets ≡ received old.packets

pub record TakesNothing (old new : EntryBuffer) : Type 0 where
  pub same : SameTaken old new
  pub held : new.held ≡ old.held
  pub room : new.room.items ≡ old.room.items

-- No parcel is there to be taken: no head is. Or a head is without its packets, which is recorded: less than all of them are there, or it
-- tells of packets that are too long.
abbrev pub HasNone : EntryBuffer → Type 0
HasNone buffer = MatchBool buffer.is_parted
    ((head : ParcelHead) × IsPrefix (head ∷ []) (known_items buffer.heads) × ((length (known_items buffer.packets) < octets_of head) ⊎ (¬ Fits head)))
    (length (known_items buffer.heads) ≡ 0)

-- The parcel that was taken last.
pub record HoldsParcel (buffer : EntryBuffer) (parcel : Parcel) : Type 0 where
  pub held : buffer.held ≡ Some parcel.head
  pub packets : HasPackets parcel.head (take (octets_of parcel.head) buffer.room.items) parcel
