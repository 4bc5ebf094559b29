-- The share of a client (own): how much of the buffer its entries may take once less than half of it is left free.
use Rattle.std.specs.Prelude.{ℕ, ◌+◌, ◌-◌, ◌/◌, ◌<◌, ◌⊎◌, max}
use Rattle.ledger_writer.specs.Parcels.{octets_of}
use Rattle.ledger_writer.specs.declared.parcel.ParcelHead.{ParcelHead}
use Rattle.ledger_writer.specs.declared.shares.Taking.{Taking}

-- The share of a client, one of so many, where so much of a room is left free: of a quarter of the room the part of each of the other
-- clients, or all that is left free besides this quarter, whichever is more.
abbrev pub share : ℕ → ℕ → ℕ → ℕ
share room clients left = max (room / 4 / (clients - 1)) (left - room / 4)

-- An entry that takes so much more is beyond the share of its client, which holds so much: there are others, less than half of the room
-- is left free, and the client would hold more than its share.
pub record IsBeyond (room clients free held more : ℕ) : Type 0 where
  pub others : 1 < clients
  pub half : free - more < room / 2
  pub beyond : share room clients (free - more) < held + more

-- Of the places for heads, or of the octets of packets.
abbrev pub IsBeyondEither : ℕ → Taking → ParcelHead → ℕ → ℕ → Type 0
IsBeyondEither clients held head places octets =
    IsBeyond 180000 clients places held.places 1 ⊎ IsBeyond 67108864 clients octets held.octets (octets_of head)
