-- What a NAS asks, what it takes as the answer, and what that answer means (RFC 2866 sections 2 and 3, own).
use Rattle.std.specs.Prelude.{◌≡◌, ⊤, ℕ, List}
use Rattle.std.specs.List.{AllByRecursion, Contains}
use Rattle.rad_packet.specs.Packet.{identifier_of, authenticator_of}
use Rattle.rad_realms.specs.Checking.{Request}
use Rattle.rad_auth.specs.Answers.{Answers}
use Rattle.rad_lane.specs.declared.running.Event.TheVariants.{Accept as accept}
use Rattle.rad_lane.specs.Stamp.{Recorded, IsRecord}
use Rattle.rad_lane.specs.Outstanding.{octets_of}
use Rattle.rad_network.specs.World.{HomeReply, Response, World}
use Rattle.rad_network.specs.Happens.{Happening}
use Rattle.rad_network.specs.Happens.Happening.{called}
use Rattle.rad_network.specs.Acknowledged.{IsValidResponse, record_head}

-- An Accounting-Request of a NAS: the address and the UDP port that it comes from, the secret that the NAS shares with
-- the proxy, and the packet's octets.
pub record Asked : Type 0 where
  pub client : List ℕ
  pub port : ℕ
  pub secret : List ℕ
  pub text : List ℕ

abbrev pub asked_by : Request → Asked
asked_by request = record { client = request.client; port = request.port; secret = request.secret; text = request.text }

-- The NAS alone has its secret: a request that passed the checks and is given to the lane is one that the NAS asked. It
-- may come late, again, in any order, or never.
abbrev pub WasAsked : List Asked → Happening → Type 0
WasAsked asked (called (accept request moment) answer d) = Contains asked (asked_by request.now)
WasAsked asked happening = ⊤

abbrev pub OnlyTheNasAsks : List Asked → List Happening → Type 0
OnlyTheNasAsks asked happenings = AllByRecursion (WasAsked asked) happenings

-- The NAS takes the response as the answer to its request: it comes to the port from which the request was sent, and is an
-- Accounting-Response with the request's Identifier, valid under its secret for the request's Authenticator.
pub record Takes (request : Asked) (response : Response) : Type 0 where
  pub client : response.client ≡ request.client
  pub port : response.port ≡ request.port
  pub valid : IsValidResponse request.secret (authenticator_of request.text) (identifier_of request.text) response.octets

-- No response that the lane gave fits two requests with different Request Authenticators.
abbrev pub HaveOneAuthenticator : List Asked → World → Type 0
HaveOneAuthenticator asked world =
    (response : Response) (one other : Asked)
    → Contains world.given response
    → Contains asked one → Contains asked other
    → Takes one response → Takes other response
    → authenticator_of one.text ≡ authenticator_of other.text

-- One key is one packet: what a NAS asks from one port with one Identifier and one Authenticator has the same octets each
-- time. It may ask it again; two records of the same octets, as of two restarts, are one here.
abbrev pub UsesNoKeyTwice : List Asked → Type 0
UsesNoKeyTwice asked =
    (one other : Asked)
    → Contains asked one → Contains asked other
    → one.client ≡ other.client → one.port ≡ other.port
    → identifier_of one.text ≡ identifier_of other.text
    → authenticator_of one.text ≡ authenticator_of other.text
    → one.text ≡ other.text

-- The home server received this request, and replied to it, and the response is made of its reply. The lane accepted the
-- request as this record, which has its client, port and octets, so also its Identifier and Authenticator, and a number.
-- What the home server received are the octets that are made of this very record: they end with a mark that has this
-- number (RFC 2865 section 5.33). The response has the attributes of the reply but for this mark (RFC 2866 section 2.1).
pub record IsReceived (world : World) (request : Asked) (response : Response) : Type 0 where
  pub recorded : Recorded
  pub accepted : Contains world.accepted recorded
  pub is_record : IsRecord recorded
  pub client : recorded.stamp.client ≡ request.client
  pub port : recorded.stamp.port ≡ request.port
  pub text : recorded.text ≡ request.text
  pub identifier : ℕ
  pub octets : List ℕ
  pub made : octets ≡ octets_of world.book.setup recorded identifier
  pub received : Contains world.received octets
  pub reply : List ℕ
  pub replied : Contains world.replies (let x : HomeReply = record { asked = octets; reply = reply } in x)
  pub answers : Answers (record_head recorded) octets reply recorded.client_secret world.book.setup.home_secret response.octets

-- If a NAS takes a response that the lane gave as the answer to its request, then the home server received that request,
-- and the response is made of its reply.
abbrev pub AcknowledgedMeansReceived : List Asked → World → Type 0
AcknowledgedMeansReceived asked world =
    (request : Asked) (response : Response)
    → Contains asked request
    → Contains world.given response
    → Takes request response
    → IsReceived world request response

-- No octets are made of two different records that the lane accepted, even if their requests have equal attributes.
abbrev pub AreApart : World → Type 0
AreApart world =
    (one other : Recorded) (i j : ℕ)
    → Contains world.accepted one → Contains world.accepted other
    → octets_of world.book.setup one i ≡ octets_of world.book.setup other j
    → one ≡ other
