-- What the home server received and replied to (own).
use Rattle.std.specs.Prelude.{◌≡◌, ℕ, List}
use Rattle.std.specs.List.{Contains}
use Rattle.rad_packet.specs.Packet.{IsPacketText, code_of, identifier_of}
use Rattle.rad_auth.specs.Answers.{Answers}
use Rattle.rad_auth.specs.Authenticator.{IsRightResponse}
use Rattle.rad_auth.specs.declared.reply.RequestHead.{RequestHead}
use Rattle.rad_tables.specs.declared.slots.Slot.{Slot}
use Rattle.rad_lane.specs.declared.outgoing.Outgoing.{Outgoing}
use Rattle.rad_lane.specs.Stamp.{Recorded, IsRecord}
use Rattle.rad_lane.specs.Outstanding.{Outstanding, octets_of}
use Rattle.rad_lane.specs.Book.{outstanding_at}
use Rattle.rad_network.specs.World.{World}

-- The octets are an Accounting-Response (RFC 2866 section 4.2) with this Identifier, valid under this secret for a
-- request with this Authenticator (RFC 2866 section 3).
pub record IsValidResponse (secret authenticator : List ℕ) (identifier : ℕ) (response : List ℕ) : Type 0 where
  pub packet : IsPacketText response
  pub code : code_of response ≡ 5
  pub identifier_is : identifier_of response ≡ identifier
  pub right : IsRightResponse secret authenticator response

-- The Identifier and the Authenticator of a record.
abbrev pub record_head : Recorded → RequestHead
record_head r = record { identifier = r.stamp.identifier; authenticator = r.stamp.authenticator }

-- The response that goes out is the home server's word for one record, which was outstanding: the home server had
-- received the octets that were made of this very record, and had replied to them with a reply of which the response is
-- made: it has the reply's attributes but for the mark (RFC 2866 section 2.1, RFC 2865 section 5.33). The response goes to
-- that record's client and port, and is valid for its Identifier and Authenticator under its client's secret.
pub record IsAcknowledged (world : World) (outgoing : Outgoing) : Type 0 where
  pub slot : Slot
  pub entry : Outstanding
  pub there : outstanding_at world.book slot entry
  pub is_record : IsRecord entry.request
  pub made : entry.octets ≡ octets_of world.book.setup entry.request slot.identifier
  pub received : Contains world.received entry.octets
  pub replied : Contains world.replies (record { asked = entry.octets; reply = outgoing.reply.reply })
  pub answers : Answers (record_head entry.request) entry.octets outgoing.reply.reply entry.request.client_secret world.book.setup.home_secret outgoing.reply.response
  pub client : outgoing.client ≡ entry.request.stamp.client
  pub port : outgoing.port ≡ entry.request.stamp.port
  pub valid : IsValidResponse entry.request.client_secret entry.request.stamp.authenticator entry.request.stamp.identifier outgoing.reply.response
