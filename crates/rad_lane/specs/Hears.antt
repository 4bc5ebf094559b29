-- Which datagrams from the home server are heard as the answer to a request or to the probe, why others are not, and
-- the book after the call (own). Of the faults, the first one that applies is returned; lack of memory is the last. A
-- fault leaves the book unchanged.
use Rattle.std.specs.Prelude.{◌≡◌, ◌≢◌, ℕ, ◌+◌, List, [], ◌∷◌, ◌++◌, Some, None, Result, Ok, Err}
use Rattle.std.specs.FinMap as map
use Rattle.rad_packet.specs.Packet.{code_of, identifier_of, authenticator_of}
use Rattle.rad_packet.specs.Reading.{ReadsAs, Refuses}
use Rattle.rad_auth.specs.Authenticator.{IsRightResponse}
use Rattle.rad_auth.specs.Answers.{Answers}
use Rattle.rad_auth.specs.Refusing.{RefusesReply}
use Rattle.rad_auth.specs.declared.responding.ReplyFault.{ReplyFault}
use Rattle.rad_auth.specs.declared.responding.ReplyFault.TheVariants as reply
use Rattle.rad_tables.specs.declared.slots.Slot.{Slot}
use Rattle.rad_lane.specs.declared.hearing.Heard.{Heard}
use Rattle.rad_lane.specs.declared.hearing.Heard.TheVariants.{Answer, ProbeAnswered}
use Rattle.rad_lane.specs.declared.outgoing.Outgoing.{Outgoing}
use Rattle.rad_lane.specs.declared.hearing.HearFault.{HearFault}
use Rattle.rad_lane.specs.declared.hearing.HearFault.TheVariants.{Unread, WrongCode, Unknown, BadAuthenticator, MessageAuthenticatorHere, NoProxyState, OutOfMemory}
use Rattle.rad_lane.specs.Outstanding.{Outstanding, AnswerKept}
use Rattle.rad_lane.specs.declared.entry.Entry.{Entry}
use Rattle.rad_lane.specs.declared.entry.Entry.TheVariants.{Sending as sending, Probe as probe}
use Rattle.rad_lane.specs.Book.{Book, moment_in, outstanding_at}
use Rattle.rad_lane.specs.Watch.{GoesUpIfDown}

-- The fault of a lane for each fault of a reply.
abbrev pub fault_of : ReplyFault → HearFault
fault_of reply.BadAuthenticator = BadAuthenticator
fault_of reply.MessageAuthenticatorHere = MessageAuthenticatorHere
fault_of reply.NoProxyState = NoProxyState
fault_of reply.OutOfMemory = OutOfMemory

abbrev pub pair : ℕ → List ℕ → Slot
pair port packet = record { port = port; identifier = identifier_of packet }

-- The octets that were sent under a pair.
abbrev pub octets_in : Entry → List ℕ
octets_in (sending entry) = entry.octets
octets_in (probe octets) = octets

-- The packet's Response Authenticator is valid for the packet that was sent under the pair, under the home server's
-- secret.
abbrev pub IsRightAnswer : Book → Entry → List ℕ → Type 0
IsRightAnswer book kept packet = IsRightResponse book.setup.home_secret (authenticator_of (octets_in kept)) packet

-- Why a packet is not heard: the first reason that applies.
abbrev pub IsUnheard : Book → ℕ → List ℕ → HearFault → Type 0
IsUnheard book port packet (Unread fault) = ⊥
IsUnheard book port packet WrongCode = code_of packet ≢ 5
IsUnheard book port packet Unknown = (code_of packet ≡ 5) × (map.get book.held (pair port packet) ≡ None)
IsUnheard book port packet BadAuthenticator =
    (code_of packet ≡ 5) × (kept : Entry) × (map.get book.held (pair port packet) ≡ Some kept) × (¬ IsRightAnswer book kept packet)
IsUnheard book port packet MessageAuthenticatorHere =
    (code_of packet ≡ 5) × (entry : Outstanding) × outstanding_at book (pair port packet) entry
    × RefusesReply entry.octets packet book.setup.home_secret reply.MessageAuthenticatorHere
IsUnheard book port packet NoProxyState =
    (code_of packet ≡ 5) × (entry : Outstanding) × outstanding_at book (pair port packet) entry
    × RefusesReply entry.octets packet book.setup.home_secret reply.NoProxyState
IsUnheard book port packet OutOfMemory =
    (code_of packet ≡ 5) × (entry : Outstanding) × outstanding_at book (pair port packet) entry
    × RefusesReply entry.octets packet book.setup.home_secret reply.OutOfMemory

abbrev pub RefusesToHear : Book → ℕ → List ℕ → HearFault → Type 0
RefusesToHear book port datagram (Unread fault) = Refuses datagram fault
RefusesToHear book port datagram fault = (packet : List ℕ) × ReadsAs datagram packet × IsUnheard book port packet fault

-- The answer that is kept: of this sending and this reply, verified under this secret of the home server, with a
-- response that answers the request. `count` answers were given before it.
pub record KeepsAnswer (secret : List ℕ) (now count : ℕ) (entry : Outstanding) (packet : List ℕ) (answer : AnswerKept) : Type 0 where
  pub stamp : answer.stamp ≡ entry.request.stamp
  pub moment : answer.moment ≡ now
  pub serial : answer.serial ≡ count
  pub head_identifier : answer.reply.head.identifier ≡ entry.request.stamp.identifier
  pub head_authenticator : answer.reply.head.authenticator ≡ entry.request.stamp.authenticator
  pub sending : answer.reply.sending ≡ entry.octets
  pub reply : answer.reply.reply ≡ packet
  pub client : answer.reply.client ≡ entry.request.client_secret
  pub home : answer.reply.home ≡ secret
  pub answers : Answers answer.reply.head entry.octets packet entry.request.client_secret secret answer.reply.response

-- The book with one more answer, and with the pair free.
abbrev pub with_answer : Book → ℕ → Slot → AnswerKept → Book
with_answer book now slot answer = record book {
  held = map.remove book.held slot;
  answered = book.answered ++ answer ∷ [];
  served = book.served + 1;
  last = now;
}

-- A verified reply to a sending is kept as its answer. If the home server is marked down, it is marked up.
pub record HearsReply (old : Book) (now port : ℕ) (datagram : List ℕ) (answer : AnswerKept) (new : Book) : Type 0 where
  pub packet : List ℕ
  pub read : ReadsAs datagram packet
  pub code : code_of packet ≡ 5
  pub entry : Outstanding
  pub there : outstanding_at old (pair port packet) entry
  pub keeps : KeepsAnswer old.setup.home_secret now old.served entry packet answer
  pub book : GoesUpIfDown now (with_answer old now (pair port packet) answer) new old.watch

-- A valid answer to the probe. If the home server is marked down, it is marked up.
pub record HearsProbe (old : Book) (now port : ℕ) (datagram : List ℕ) (new : Book) : Type 0 where
  pub packet : List ℕ
  pub read : ReadsAs datagram packet
  pub code : code_of packet ≡ 5
  pub octets : List ℕ
  pub there : map.get old.held (pair port packet) ≡ Some (probe octets)
  pub right : IsRightAnswer old (probe octets) packet
  pub book : GoesUpIfDown now (record old { last = now }) new old.watch

-- The outgoing response is that of the answer: its serial, the client and port to which it goes, and the reply.
pub record GoesOut (answer : AnswerKept) (outgoing : Outgoing) : Type 0 where
  pub serial : outgoing.serial ≡ answer.serial
  pub client : outgoing.client ≡ answer.stamp.client
  pub port : outgoing.port ≡ answer.stamp.port
  pub reply : outgoing.reply ≡ answer.reply

abbrev pub Hears : Book → ℕ → ℕ → List ℕ → Result Heard HearFault → Book → Type 0
Hears old moment port datagram (Ok (Answer outgoing)) new =
    (answer : AnswerKept) × HearsReply old (moment_in old moment) port datagram answer new × GoesOut answer outgoing
Hears old moment port datagram (Ok ProbeAnswered) new = HearsProbe old (moment_in old moment) port datagram new
Hears old moment port datagram (Err fault) new = RefusesToHear old port datagram fault × (new ≡ old)
