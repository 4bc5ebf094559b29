-- The invariant of each configuration that is read (own).
use Rattle.std.specs.Prelude.{◌≡◌, ◌≢◌, ℕ, ◌<◌, ◌≤◌, List, length, All, IfSome, false}
use Rattle.std.specs.List.{AllPairs}
use Rattle.rad_config.specs.Limits.{AreInRange}
use Rattle.rad_config.specs.Configuration.{Configuration}
use Rattle.rad_config.specs.Realm.{same_name}

-- A realm's name: 1 to 252 octets, none of them `@`.
pub record IsRealmName (name : List ℕ) : Type 0 where
  pub some : 1 ≤ length name
  pub short : length name ≤ 252
  pub no_sign : All (λ octet. octet ≢ 64) name

-- There are 1 to 256 clients with different addresses; 1 to 64 home servers with different names, whose limits are in
-- their ranges; and at most 256 realms with valid names, no two of which are the same name. The lane of each realm,
-- and each of the lanes for requests without a realm and for all other realms, if there is one, is that of a home
-- server.
pub record IsWellFormed (c : Configuration) : Type 0 where
  pub clients : (1 ≤ length c.clients) × (length c.clients ≤ 256)
  pub addresses : AllPairs (λ a b. a.address ≢ b.address) c.clients
  pub homes : (1 ≤ length c.homes) × (length c.homes ≤ 64)
  pub home_names : AllPairs (λ a b. a.name ≢ b.name) c.homes
  pub limits : All (λ h. AreInRange h.limits) c.homes
  pub realms : length c.realms ≤ 256
  pub realm_forms : All (λ r. IsRealmName r.name) c.realms
  pub realm_names : AllPairs (λ a b. same_name a.name b.name ≡ false) c.realms
  pub lanes : All (λ r. r.lane < length c.homes) c.realms
  pub default_lane : IfSome c.default_lane (λ lane. lane < length c.homes)
  pub other_lane : IfSome c.other_lane (λ lane. lane < length c.homes)
