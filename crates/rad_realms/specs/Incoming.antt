-- How a datagram that passes the checks is taken: as a request, or as a Status-Server.
use Rattle.std.specs.Prelude.{◌≡◌, ℕ, List}
use Rattle.rad_realms.specs.declared.checking.Incoming.{Incoming}
use Rattle.rad_realms.specs.declared.checking.Incoming.TheVariants as incoming
use Rattle.rad_config.specs.Configuration.{ClientEntry, Configuration}
use Rattle.rad_realms.specs.Checking.{Request, IsChecked, Status, IsCheckedStatus, Arrives}

-- A packet from this client and from this port is taken as this request.
pub record TakesRequest (config : Configuration) (client : ClientEntry) (port : ℕ) (text : List ℕ) (r : Request) : Type 0 where
  pub checked : IsChecked r
  pub same_config : r.config ≡ config
  pub same_text : r.text ≡ text
  pub same_client : r.client ≡ client.address
  pub same_port : r.port ≡ port
  pub same_secret : r.secret ≡ client.secret

-- A packet from this client is taken as this Status-Server.
pub record TakesStatus (client : ClientEntry) (text : List ℕ) (s : Status) : Type 0 where
  pub checked : IsCheckedStatus s
  pub same_text : s.text ≡ text
  pub same_secret : s.secret ≡ client.secret

abbrev pub TakesPacket : Configuration → ClientEntry → ℕ → List ℕ → Incoming → Type 0
TakesPacket config client port text (incoming.Request r) = TakesRequest config client port text r
TakesPacket config client port text (incoming.Status s) = TakesStatus client text s

-- A datagram from this address and port is taken: it is a packet, from the client of that address.
pub record Takes (config : Configuration) (address : List ℕ) (port : ℕ) (datagram : List ℕ) (taken : Incoming) : Type 0 where
  pub text : List ℕ
  pub client : ClientEntry
  pub arrives : Arrives config address datagram text client
  pub same_address : client.address ≡ address
  pub packet : TakesPacket config client port text taken
