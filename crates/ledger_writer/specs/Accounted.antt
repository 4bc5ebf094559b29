-- What became of what the front handed over and told as left (own): it was put into the buffer, or dropped. Counts are put there too.
use Rattle.std.specs.Prelude.{◌≡◌, ℕ, List, [], ◌∷◌, ⊤, All, Option, Some, None, MatchOption}
use Rattle.std.specs.List.{flat_map}
use Rattle.rtrb.specs.Ring.{sent}
use Rattle.rad_desk.specs.HandOver.{Handing}
use Rattle.rad_desk.specs.Leaving.{Left, as_left}
use Rattle.rad_desk.specs.declared.leaving.LeftRecord.{LeftRecord}
use Rattle.ledger_writer.specs.Parcels.{IsParcelOf, IsParcelOfCount, IsParcelOfLeft, packets_of}
use Rattle.ledger_writer.specs.declared.giving.ParcelGiver.{ParcelGiver}
use Rattle.ledger_writer.specs.declared.parcel.CountKey.{CountKey}
use Rattle.ledger_writer.specs.declared.parcel.Parcel.{Parcel}
use Rattle.ledger_writer.specs.declared.parcel.ParcelHead.{ParcelHead}

-- What contracts see of the front's end of the buffer: the rings, the responses handed over and the requests told as left.
pub record Accounted : Type 0 where
  pub giver : ParcelGiver
  pub handed : List Handing
  pub left : List Left

-- A response that was handed over, a request that was told as left, or so many that are counted of a record.
pub data Subject : Type 0 where
  response : Handing → Subject
  request : LeftRecord → Subject
  counted : CountKey → ℕ → Subject

-- It, and the parcel as which it was put into the buffer. Without a parcel it was dropped.
pub record Fate : Type 0 where
  pub subject : Subject
  pub put : Option Parcel

abbrev pub response_of : Subject → List Handing
response_of (response handing) = handing ∷ []
response_of (request told) = []
response_of (counted key count) = []

abbrev pub request_of : Subject → List Left
request_of (response handing) = []
request_of (request told) = as_left told ∷ []
request_of (counted key count) = []

abbrev pub heads_of : Option Parcel → List ParcelHead
heads_of None = []
heads_of (Some parcel) = parcel.head ∷ []

abbrev pub packets_in : Option Parcel → List ℕ
packets_in None = []
packets_in (Some parcel) = packets_of parcel

-- The parcel is that of the subject, at some time.
abbrev pub IsItsParcel : Subject → Parcel → Type 0
IsItsParcel (response handing) parcel = (time : ℕ) × IsParcelOf time handing.outgoing parcel
IsItsParcel (request told) parcel = (time : ℕ) × IsParcelOfLeft time told parcel
IsItsParcel (counted key count) parcel = (time : ℕ) × IsParcelOfCount time key count parcel

abbrev pub IsRight : Fate → Type 0
IsRight fate = MatchOption fate.put ⊤ (IsItsParcel fate.subject)

-- Each response that was handed over, and each request that was told as left, has one fate, in order. So has each count that is told. What was put into the
-- buffer is the parcels of those that were put there, in order, and nothing else.
pub record AreAccountedFor (giver : ParcelGiver) (handed : List Handing) (left : List Left) : Type 0 where
  pub fates : List Fate
  pub responses : handed ≡ flat_map (λ fate. response_of fate.subject) fates
  pub requests : left ≡ flat_map (λ fate. request_of fate.subject) fates
  pub heads : sent giver.heads ≡ flat_map (λ fate. heads_of fate.put) fates
  pub packets : sent giver.packets ≡ flat_map (λ fate. packets_in fate.put) fates
  pub right : All IsRight fates
