-- Which home servers are reported since none can be at their address and port, and with which fault (RFC 1122
-- section 3.2.1.3, RFC 919 section 7, RFC 5771 section 3, RFC 1112 section 4). Which datagrams come to `listen` is own.
use Rattle.std.specs.Prelude.{ℕ, Bool, not, ◌&&◌, ◌||◌, ◌==◌, nat_le, if◌then◌else◌, List, [], ◌∷◌, Option, Some, None, option_map, slice_index}
use Rattle.std.specs.List.{list_any, filter_map}
use Rattle.std.specs.Str.{bytes_eq}
use Rattle.rad_config.specs.declared.reading.address.Endpoint.{Endpoint}
use Rattle.rad_realms.specs.Configuration.{HomeEntry, Configuration}
use Rattle.rad_advice.specs.declared.homes.AddressFault.{AddressFault}
use Rattle.rad_advice.specs.declared.homes.AddressFault.TheVariants.{Listen, Unspecified, Broadcast, Multicast, Reserved}
use Rattle.rad_advice.specs.declared.homes.HomeAdvice.{HomeAdvice}

-- What is reported about a home server.
pub record Advice : Type 0 where
  pub name : List ℕ
  pub endpoint : Endpoint
  pub fault : AddressFault

abbrev pub advice_told : HomeAdvice → Advice
advice_told a = record { name = a.name.now; endpoint = a.endpoint; fault = a.fault }

-- 0.0.0.0 and 255.255.255.255
abbrev pub unspecified : List ℕ
unspecified = 0 ∷ 0 ∷ 0 ∷ 0 ∷ []

abbrev pub broadcast : List ℕ
broadcast = 255 ∷ 255 ∷ 255 ∷ 255 ∷ []

-- An address of this machine: one of 127.0.0.0/8 (RFC 1122 section 3.2.1.3), or one of the list `own`.
abbrev pub is_local : List (List ℕ) → List ℕ → Bool
is_local own address = slice_index address 0 == 127 || list_any (λ a. bytes_eq a address) own

-- Whether a socket that is bound to `listen` receives a datagram that is sent to the address and port `to`.
abbrev pub is_served : Endpoint → List (List ℕ) → Endpoint → Bool
is_served listen own to =
    listen.port == to.port
    && (bytes_eq listen.address to.address || (bytes_eq listen.address unspecified && is_local own to.address))

-- The fault of an address: RFC 1122 section 3.2.1.3, RFC 919 section 7, RFC 5771 section 3, RFC 1112 section 4.
abbrev pub address_fault : List ℕ → Option AddressFault
address_fault address =
    if bytes_eq address unspecified then Some Unspecified
    else if bytes_eq address broadcast then Some Broadcast
    else if nat_le 240 (slice_index address 0) then Some Reserved
    else if nat_le 224 (slice_index address 0) then Some Multicast
    else None

-- The fault of a home server's address and port, for a proxy that listens on `listen`. 0.0.0.0 is no host's, also if it
-- is served.
abbrev pub endpoint_fault : Endpoint → List (List ℕ) → Endpoint → Option AddressFault
endpoint_fault listen own to = if not (bytes_eq to.address unspecified) && is_served listen own to then Some Listen else address_fault to.address

unfoldable pub advice_of : Endpoint → List (List ℕ) → HomeEntry → Option Advice
advice_of listen own home =
    option_map (λ f. record { name = home.name; endpoint = home.endpoint; fault = f }) (endpoint_fault listen own home.endpoint)

-- What is reported about the home servers of a configuration that have a fault, in their order.
abbrev pub advice_of_all : List (List ℕ) → Configuration → List Advice
advice_of_all own c = filter_map (advice_of c.listen own) c.homes
