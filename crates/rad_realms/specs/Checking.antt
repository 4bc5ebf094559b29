-- Which datagrams pass the checks of the front, as a request or as a Status-Server, and for which reason each other one
-- is dropped. The sender of one that passes is a client; and it is either an Accounting-Request (RFC 2866 section 4.1)
-- that is valid under that client's secret, has no Message-Authenticator (own) and leads to a lane, or a Status-Server
-- (RFC 5997 section 3) that is valid under that secret.
use Rattle.std.specs.Prelude.{◌≡◌, ◌≢◌, ◌<◌, ℕ, List, [], length, Some, None}
use Rattle.rad_packet.specs.Attribute.{of_kind}
use Rattle.rad_packet.specs.Packet.{IsPacketText, code_of, packet_attributes}
use Rattle.rad_packet.specs.Reading.{ReadsAs, Refuses}
use Rattle.rad_auth.specs.Authenticator.{IsRightRequest}
use Rattle.rad_auth.specs.Status.{IsRightStatus}
use Rattle.rad_realms.specs.declared.checking.Dropped.{Dropped}
use Rattle.rad_realms.specs.declared.checking.Dropped.TheVariants.{UnknownClient, Unread, WrongCode, BadAuthenticator, BadMessageAuthenticator, MessageAuthenticatorHere, NoRealm}
use Rattle.rad_config.specs.Configuration.{ClientEntry, Configuration}
use Rattle.rad_config.specs.Realm.{client_of, lane_of_packet}

-- An Accounting-Request that passed the checks: the configuration, the packet's text without padding, the address and
-- port that it came from, the client's secret, and its lane.
pub record Request : Type 0 where
  pub config : Configuration
  pub text : List ℕ
  pub client : List ℕ
  pub port : ℕ
  pub secret : List ℕ
  pub lane : ℕ

-- A packet that is a valid Accounting-Request under a secret, without a Message-Authenticator.
pub record IsRequest (secret text : List ℕ) : Type 0 where
  pub packet : IsPacketText text
  pub code : code_of text ≡ 4
  pub right : IsRightRequest secret text
  pub unsigned : of_kind 80 (packet_attributes text) ≡ []

-- The properties of a request that passed the checks.
pub record IsChecked (r : Request) : Type 0 where
  pub request : IsRequest r.secret r.text
  pub client : client_of r.config r.client ≡ Some (record { address = r.client; secret = r.secret })
  pub lane : lane_of_packet r.config r.text ≡ Some r.lane
  pub within : r.lane < length r.config.homes

-- A Status-Server that passed the checks: its text, and the client's secret.
pub record Status : Type 0 where
  pub text : List ℕ
  pub secret : List ℕ

pub record IsCheckedStatus (s : Status) : Type 0 where
  pub packet : IsPacketText s.text
  pub code : code_of s.text ≡ 12
  pub right : IsRightStatus s.secret s.text

-- A datagram from this address is read as this packet, and the address is that of this client.
pub record Arrives (config : Configuration) (address datagram text : List ℕ) (client : ClientEntry) : Type 0 where
  pub sender : client_of config address ≡ Some client
  pub reads : ReadsAs datagram text

-- A packet from a client with this secret is dropped for this reason.
abbrev pub DropsPacket : Configuration → List ℕ → List ℕ → Dropped → Type 0
DropsPacket config secret text UnknownClient = ⊥
DropsPacket config secret text (Unread fault) = ⊥
DropsPacket config secret text WrongCode = (code_of text ≢ 4) × (code_of text ≢ 12)
DropsPacket config secret text BadAuthenticator = (code_of text ≡ 4) × ¬ IsRightRequest secret text
DropsPacket config secret text BadMessageAuthenticator = (code_of text ≡ 12) × ¬ IsRightStatus secret text
DropsPacket config secret text MessageAuthenticatorHere =
    (code_of text ≡ 4) × IsRightRequest secret text × (of_kind 80 (packet_attributes text) ≢ [])
DropsPacket config secret text NoRealm =
    IsRequest secret text × (lane_of_packet config text ≡ None)

-- A datagram from a client is read as a packet that is dropped for this reason.
abbrev pub DropsArrived : Configuration → List ℕ → List ℕ → Dropped → Type 0
DropsArrived config address datagram reason =
    (text : List ℕ) × (client : ClientEntry) × Arrives config address datagram text client × DropsPacket config client.secret text reason

-- A datagram from this address is dropped for this reason.
abbrev pub Drops : Configuration → List ℕ → List ℕ → Dropped → Type 0
Drops config address datagram UnknownClient = client_of config address ≡ None
Drops config address datagram (Unread fault) = (client : ClientEntry) × (client_of config address ≡ Some client) × Refuses datagram fault
Drops config address datagram reason = DropsArrived config address datagram reason
