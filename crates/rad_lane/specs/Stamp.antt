-- Stamps and records (own): what a lane keeps of each request that it accepted.
use Rattle.std.specs.Prelude.{◌≡◌, ℕ, ◌≤◌, List, [], length, Option, Some, None}
use Rattle.rad_packet.specs.Attribute.{of_kind}
use Rattle.rad_packet.specs.Packet.{IsPacketText, code_of, identifier_of, authenticator_of, packet_attributes}
use Rattle.rad_auth.specs.Authenticator.{IsRightRequest}
use Rattle.rad_auth.specs.Buffer.{Filled}
use Rattle.rad_tables.specs.declared.duplicates.Key.{Key}
use Rattle.rad_lane.specs.declared.stamp.Stamp.{Stamp}

-- The key of a stamp: the client's address and port, and the request's Identifier and Authenticator (RFC 2866 section
-- 3, Identifier; the Authenticator is own). A retransmitted request has the same key.
abbrev pub key_of : Stamp → Key
key_of stamp = record {
  client = stamp.client;
  port = stamp.port;
  identifier = stamp.identifier;
  authenticator = stamp.authenticator;
}

-- A record: a stamp, the request's octets, and the secret of the client that sent it. Operators bill by the octets,
-- so they must be those of the stamp's own request.
pub record Recorded : Type 0 where
  pub stamp : Stamp
  pub text : List ℕ
  pub client_secret : List ℕ

-- The octets are an Accounting-Request with the stamp's Identifier and Authenticator, valid under the secret and
-- without a Message-Authenticator, and the mark fits.
pub record IsRecord (r : Recorded) : Type 0 where
  pub packet : IsPacketText r.text
  pub code : code_of r.text ≡ 4
  pub fits : length r.text ≤ 4084
  pub identifier : identifier_of r.text ≡ r.stamp.identifier
  pub authenticator : authenticator_of r.text ≡ r.stamp.authenticator
  pub unsigned : of_kind 80 (packet_attributes r.text) ≡ []
  pub right : IsRightRequest r.client_secret r.text

-- A record as a lane keeps it: with the room that it has for the octets to be sent.
pub record Kept : Type 0 where
  pub recorded : Recorded
  pub room : ℕ

-- the room of a buffer, if there is one
abbrev pub room_of : Option Filled → ℕ
room_of None = 0
room_of (Some buffer) = buffer.room
