-- A parcel (own): a response, a request that is left, or a count, as it passes through the buffer.
use Rattle.std.specs.Prelude.{◌≡◌, ℕ, ◌+◌, ◌-◌, ◌≤◌, List, [], ◌∷◌, ◌++◌, length, Option, Some, None, option_map, ⊤}
use Rattle.rad_auth.specs.Mark.{EndsWithMark}
use Rattle.ledger_files.specs.declared.batch.LineHead.{LineHead}
use Rattle.rad_lane.specs.declared.outgoing.Outgoing.{Outgoing}
use Rattle.rad_desk.specs.declared.leaving.LeftRecord.{LeftRecord}
use Rattle.ledger_writer.specs.declared.parcel.CountKey.{CountKey}
use Rattle.ledger_writer.specs.declared.parcel.ParcelKind.{ParcelKind}
use Rattle.ledger_writer.specs.declared.parcel.ParcelKind.TheVariants.{Count, Left, Response}
use Rattle.ledger_writer.specs.declared.parcel.Parcel.{Parcel}
use Rattle.ledger_writer.specs.declared.parcel.ParcelHead.{ParcelHead}

-- How many octets the packets of a parcel have together, by its head; and no packet is longer than 4096 octets.
abbrev pub octets_by : ParcelKind → ℕ
octets_by (Response serial sent_count reply_count response_count) = sent_count + reply_count + response_count
octets_by (Left state is_kept request_count) = request_count
octets_by (Count kind count) = 0

abbrev pub octets_of : ParcelHead → ℕ
octets_of head = octets_by head.its

abbrev pub FitsBy : ParcelKind → Type 0
FitsBy (Response serial sent_count reply_count response_count) = (sent_count ≤ 4096) × (reply_count ≤ 4096) × (response_count ≤ 4096)
FitsBy (Left state is_kept request_count) = request_count ≤ 4096
FitsBy (Count kind count) = ⊤

abbrev pub Fits : ParcelHead → Type 0
Fits head = FitsBy head.its

-- How many octets the packets of this parcel have, if there is one; and those of all these parcels.
abbrev pub octets_held : Option ParcelHead → ℕ
octets_held None = 0
octets_held (Some head) = octets_of head

abbrev pub all_octets : List ParcelHead → ℕ
all_octets [] = 0
all_octets (head ∷ heads) = octets_of head + all_octets heads

-- The head has the lengths of these packets. A request that is left is one packet, and a count has none.
abbrev pub AreCounted : ParcelKind → List ℕ → List ℕ → List ℕ → Type 0
AreCounted (Response serial sent_count reply_count response_count) its_sent its_reply its_response =
    (sent_count ≡ length its_sent) × (reply_count ≡ length its_reply) × (response_count ≡ length its_response)
AreCounted (Left state is_kept request_count) its_sent its_reply its_response =
    (request_count ≡ length its_sent) × (its_reply ≡ []) × (its_response ≡ [])
AreCounted (Count kind count) its_sent its_reply its_response = (its_sent ≡ []) × (its_reply ≡ []) × (its_response ≡ [])

abbrev pub IsCounted : Parcel → Type 0
IsCounted parcel = AreCounted parcel.head.its parcel.sent.now parcel.reply.now parcel.response.now

-- The packets of a parcel, one behind the other.
abbrev pub packets_of : Parcel → List ℕ
packets_of parcel = parcel.sent.now ++ (parcel.reply.now ++ parcel.response.now)

-- This is the parcel of a response that was handed over at this time. Its lane and its number are those of the mark.
pub record IsParcelOf (now : ℕ) (outgoing : Outgoing) (parcel : Parcel) : Type 0 where
  pub its : parcel.head.its ≡ Response outgoing.serial (length outgoing.reply.sending) (length outgoing.reply.reply) (length outgoing.reply.response)
  pub time : parcel.head.time ≡ now
  pub mark : EndsWithMark (record { lane = parcel.head.lane; number = parcel.head.number }) outgoing.reply.sending
  pub client : parcel.head.client ≡ outgoing.client
  pub port : parcel.head.port ≡ outgoing.port
  pub identifier : parcel.head.identifier ≡ outgoing.reply.head.identifier
  pub authenticator : parcel.head.authenticator ≡ outgoing.reply.head.authenticator
  pub sending : parcel.sent.now ≡ outgoing.reply.sending
  pub reply : parcel.reply.now ≡ outgoing.reply.reply
  pub response : parcel.response.now ≡ outgoing.reply.response

-- This is the parcel of a request that was told as left at this time. Its age tells when it was accepted.
pub record IsParcelOfLeft (now : ℕ) (told : LeftRecord) (parcel : Parcel) : Type 0 where
  pub its : parcel.head.its ≡ Left told.state told.kept (length told.request.now)
  pub sendings : parcel.head.handling.sendings ≡ told.sendings
  pub accepted : parcel.head.handling.accepted ≡ option_map (λ age. now - age) told.age
  pub time : parcel.head.time ≡ now
  pub number : parcel.head.number ≡ told.number
  pub lane : parcel.head.lane ≡ told.lane
  pub client : parcel.head.client ≡ told.client
  pub port : parcel.head.port ≡ told.port
  pub identifier : parcel.head.identifier ≡ told.identifier
  pub authenticator : parcel.head.authenticator ≡ told.authenticator
  pub request : parcel.sent.now ≡ told.request.now

-- This is the parcel of so many that are counted of a record, at this time.
pub record IsParcelOfCount (now : ℕ) (key : CountKey) (count : ℕ) (parcel : Parcel) : Type 0 where
  pub its : parcel.head.its ≡ Count key.kind count
  pub time : parcel.head.time ≡ now
  pub number : parcel.head.number ≡ key.number
  pub lane : parcel.head.lane ≡ key.lane

-- The parcel has this head, and these octets are its packets, one behind the other.
pub record HasPackets (head : ParcelHead) (octets : List ℕ) (parcel : Parcel) : Type 0 where
  pub its_head : parcel.head ≡ head
  pub counted : IsCounted parcel
  pub packets : packets_of parcel ≡ octets

-- What a batch keeps of a head: a response alone has a serial.
abbrev pub serial_by : ParcelKind → Option ℕ
serial_by (Response serial sent_count reply_count response_count) = Some serial
serial_by (Left state is_kept request_count) = None
serial_by (Count kind count) = None

pub record IsLineHead (head : ParcelHead) (line : LineHead) : Type 0 where
  pub time : line.time ≡ head.time
  pub lane : line.lane ≡ head.lane
  pub serial : line.serial ≡ serial_by head.its
