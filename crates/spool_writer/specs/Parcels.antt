-- What passes from the front to the thread that writes a spool. Own.
use Rattle.std.specs.Prelude.{◌≡◌, ℕ, List, [], ◌∷◌, ◌++◌, Result, Ok, Err}
use Rattle.rad_packet.specs.Packet.{identifier_of, authenticator_of}
use Rattle.rad_auth.specs.Mark.{EndsWithMark}
use Rattle.rad_tables.specs.declared.duplicates.Key.{Key}
use Rattle.rad_realms.specs.Checking.{Request}
use Rattle.rad_realms.specs.declared.checking.Incoming.{Incoming}
use Rattle.rad_realms.specs.declared.checking.Incoming.TheVariants as incoming
use Rattle.rad_lane.specs.declared.accepting.Refusal.{Refusal}
use Rattle.rad_lane.specs.declared.accepting.Taken.TheVariants as taking
use Rattle.rad_lane.specs.declared.outgoing.Outgoing.{Outgoing}
use Rattle.rad_desk.specs.Handling.{Outcome}
use Rattle.rad_desk.specs.declared.handling.Handled.{Handled}
use Rattle.rad_desk.specs.declared.handling.Handled.TheVariants as handled
use Rattle.spool_files.specs.declared.entry.Came.{Came}
use Rattle.spool_files.specs.declared.entry.Answered.{Answered}
use Rattle.spool_files.specs.declared.entry.Head.{Head}
use Rattle.spool_files.specs.declared.entry.Head.TheVariants as heads
use Rattle.spool_writer.specs.declared.parcel.Parcel.{Parcel}

-- a request that a lane took as new, and the number that the lane gave it
pub record New : Type 0 where
  pub request : Request
  pub lane : ℕ
  pub number : ℕ

abbrev pub news_by : Incoming → Result Handled Refusal → List New
news_by (incoming.Status status) result = []
news_by (incoming.Request request) (Err refusal) = []
news_by (incoming.Request request) (Ok handled.Answered) = []
news_by (incoming.Request request) (Ok (handled.Taken lane (taking.New number))) = record { request = request; lane = lane; number = number } ∷ []
news_by (incoming.Request request) (Ok (handled.Taken lane (taking.Waiting number))) = []
news_by (incoming.Request request) (Ok (handled.Taken lane (taking.Again number))) = []

-- the request of an outcome that a lane took as new, if it is one
abbrev pub news_of : Outcome → List New
news_of outcome = news_by outcome.asked outcome.result

abbrev pub key_of : Request → Key
key_of r = record { authenticator = authenticator_of r.text; client = r.client; port = r.port; identifier = identifier_of r.text }

abbrev pub key_answered : Outgoing → Key
key_answered o = record { authenticator = o.reply.head.authenticator; client = o.client; port = o.port; identifier = o.reply.head.identifier }

-- This is the parcel of a request that a lane took as new.
pub record IsCameOf (its : New) (parcel : Parcel) : Type 0 where
  pub came : Came
  pub head : parcel.head ≡ heads.Came came
  pub key : came.key ≡ key_of its.request
  pub lane : came.lane ≡ its.lane
  pub number : came.number ≡ its.number
  pub octets : parcel.octets ≡ its.request.text

-- This is the parcel of a response. Its lane is that of the mark, and the mark's number is the request's.
pub record IsAnsweredOf (outgoing : Outgoing) (parcel : Parcel) : Type 0 where
  pub answered : Answered
  pub number : ℕ
  pub head : parcel.head ≡ heads.Answered answered
  pub key : answered.key ≡ key_answered outgoing
  pub mark : EndsWithMark (record { lane = answered.lane; number = number }) outgoing.reply.sending
  pub serial : answered.serial ≡ outgoing.serial
  pub octets : parcel.octets ≡ outgoing.reply.response

-- The parcel of an entry that has this text was put into a ring, behind those before it.
pub record IsPutInto (its : Head) (text : List ℕ) (old new : List Parcel) : Type 0 where
  pub parcel : Parcel
  pub head : parcel.head ≡ its
  pub octets : parcel.octets ≡ text
  pub put : new ≡ old ++ parcel ∷ []
