-- What happens between a lane and its home server, one thing at a time, in any order (own).
use Rattle.std.specs.Prelude.{◌≡◌, ⊤, ℕ, List, [], ◌∷◌, ◌++◌, Some, None, Ok}
use Rattle.std.specs.List.{Contains}
use Rattle.rad_packet.specs.Attribute.{of_kind}
use Rattle.rad_packet.specs.Packet.{IsPacketText, code_of, identifier_of, authenticator_of, packet_attributes}
use Rattle.rad_packet.specs.Reading.{ReadsAs}
use Rattle.rad_auth.specs.Authenticator.{IsRightResponse}
use Rattle.rad_lane.specs.declared.accepting.Taken.TheVariants.{New, Again}
use Rattle.rad_lane.specs.declared.hearing.Heard.TheVariants.{Answer}
use Rattle.rad_lane.specs.declared.stepping.Action.TheVariants.{Sent, Resent, Probed}
use Rattle.rad_lane.specs.declared.running.Event.{Event}
use Rattle.rad_lane.specs.declared.running.Event.TheVariants.{Accept as accept, Hear as hear}
use Rattle.rad_lane.specs.declared.running.GivenAnswer.{GivenAnswer}
use Rattle.rad_lane.specs.declared.running.GivenAnswer.TheVariants.{Accept as accepted, Step as stepped, Hear as heard}
use Rattle.rad_lane.specs.Setup.{LaneSetup}
use Rattle.rad_lane.specs.Stamp.{Recorded}
use Rattle.rad_lane.specs.Book.{Book, moment_in, next_number}
use Rattle.rad_lane.specs.Accepts.{record_of}
use Rattle.rad_lane.specs.Datagrams.{Datagrams}
use Rattle.rad_lane.specs.Empty.{empty_book}
use Rattle.rad_lane.specs.Lawful.{IsLawful}
use Rattle.rad_lane.specs.Runs.{Gives}
use Rattle.rad_network.specs.World.{Departed, Response, World, new_world}

-- A call of the lane, with its result and the datagram before it and after it; or a datagram that departed comes to the
-- home server; or the home server replies to these octets, with this packet.
pub data Happening : Type 0 where
  called : Event → GivenAnswer → Datagrams → Happening
  came : Departed → Happening
  replied : List ℕ → List ℕ → Happening

-- The record that a call accepts, with the number that the lane gives it.
abbrev pub accepts : Book → Event → GivenAnswer → List Recorded
accepts book (accept request moment) (accepted (Ok (New number))) = record_of (next_number book) request.now (moment_in book moment) ∷ []
accepts book event answer = []

-- What a call sends to the home server, if this is in the datagram after it: a request for the first time or again, or
-- a probe.
abbrev pub departs : GivenAnswer → List ℕ → List Departed
departs (stepped (Sent number slot)) after = record { number = Some number; octets = after } ∷ []
departs (stepped (Resent number slot)) after = record { number = Some number; octets = after } ∷ []
departs (stepped (Probed slot)) after = record { number = None; octets = after } ∷ []
departs answer after = []

-- The response that a call gives: the one that a reply of the home server makes; or, to a request that repeats an
-- answered one, the response of that answer, which is then in the datagram.
abbrev pub responds : Event → GivenAnswer → List ℕ → List Response
responds (accept request moment) (accepted (Ok (Again number))) after =
    record { client = request.now.client; port = request.now.port; octets = after } ∷ []
responds event (heard (Ok (Answer outgoing))) after =
    record { client = outgoing.client; port = outgoing.port; octets = outgoing.reply.response } ∷ []
responds event answer after = []

-- Nobody but the home server makes a packet that is valid, under the secret that it shares with the lane, for a datagram
-- that the lane sent: if what the lane hears is one, the home server made it as a reply. It may have made it to another
-- datagram of this lane, and it may come late, and again.
abbrev pub OnlyHomeReplies : World → List ℕ → Type 0
OnlyHomeReplies world datagram =
    (sent : Departed) (packet : List ℕ)
    → Contains world.departed sent
    → ReadsAs datagram packet
    → IsRightResponse world.book.setup.home_secret (authenticator_of sent.octets) packet
    → (asked : List ℕ) × Contains world.replies (record { asked = asked; reply = packet })

-- What a call hears, if it hears something, is no forgery.
abbrev pub IsGenuine : World → Event → Type 0
IsGenuine world (hear moment port datagram) = OnlyHomeReplies world datagram.now
IsGenuine world event = ⊤

-- The world after a call.
abbrev pub after_call : World → Event → GivenAnswer → Datagrams → Book → World
after_call world event answer d next = record world {
  book = next;
  accepted = accepts world.book event answer ++ world.accepted;
  departed = departs answer d.after ++ world.departed;
  given = responds event answer d.after ++ world.given;
}

-- A call of the lane: it does what its definition says, and leaves a lawful book, as the type of a lane keeps it.
pub record IsCalled (old : World) (event : Event) (answer : GivenAnswer) (d : Datagrams) (new : World) : Type 0 where
  pub next : Book
  pub gives : Gives old.book event answer d next
  pub lawful : IsLawful next
  pub genuine : IsGenuine old event
  pub world : new ≡ after_call old event answer d next

-- One of the datagrams that departed comes to the home server, for the first time or again, sooner or later than others.
-- One that never comes is lost.
pub record Comes (old : World) (sent : Departed) (new : World) : Type 0 where
  pub departed : Contains old.departed sent
  pub world : new ≡ record old { received = sent.octets ∷ old.received }

-- The packet is a reply to these octets: an Accounting-Response with their Identifier (RFC 2866 section 4.2), valid
-- under the secret for their Authenticator (RFC 2866 section 3, RFC 5997 section 4.2). Its Proxy-States are theirs, in
-- order and unchanged (RFC 2865 section 5.33); it may have any other attributes.
pub record IsReplyTo (secret asked reply : List ℕ) : Type 0 where
  pub packet : IsPacketText reply
  pub code : code_of reply ≡ 5
  pub identifier : identifier_of reply ≡ identifier_of asked
  pub right : IsRightResponse secret (authenticator_of asked) reply
  pub states : of_kind 33 (packet_attributes reply) ≡ of_kind 33 (packet_attributes asked)

-- The home server replies to octets that it received, at any time, and as often as it likes.
pub record Replies (old : World) (asked reply : List ℕ) (new : World) : Type 0 where
  pub received : Contains old.received asked
  pub right : IsReplyTo old.book.setup.home_secret asked reply
  pub world : new ≡ record old { replies = record { asked = asked; reply = reply } ∷ old.replies }

abbrev pub Happens : World → Happening → World → Type 0
Happens old (called event answer d) new = IsCalled old event answer d new
Happens old (came sent) new = Comes old sent new
Happens old (replied asked reply) new = Replies old asked reply new

-- These happenings, the earliest first.
abbrev pub Lives : World → List Happening → World → Type 0
Lives old [] new = new ≡ old
Lives old (happening ∷ later) new = (next : World) × Happens old happening next × Lives next later new

-- How a world came to be: by some happenings, from the first moment of a lane on.
pub record Life (world : World) : Type 0 where
  pub setup : LaneSetup
  pub lawful : IsLawful (empty_book setup)
  pub happenings : List Happening
  pub lives : Lives (new_world setup) happenings world
