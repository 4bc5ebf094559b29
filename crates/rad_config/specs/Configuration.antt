-- The content of a configuration (own): the clients, the home servers and the realms, in the order of the text. The
-- lane of a home server is its index among them, counted from 0. `default_lane` is that of requests without a realm, and
-- `other_lane` that of the realms that are not listed.
use Rattle.std.specs.Prelude.{ℕ, List, Option}
use Rattle.rad_config.specs.declared.reading.address.Endpoint.{Endpoint}
use Rattle.rad_config.specs.declared.limits.LimitNumbers.{LimitNumbers}

pub record ClientEntry : Type 0 where
  pub address : List ℕ
  pub secret : List ℕ

pub record HomeEntry : Type 0 where
  pub name : List ℕ
  pub endpoint : Endpoint
  pub secret : List ℕ
  pub limits : LimitNumbers

pub record RealmEntry : Type 0 where
  pub name : List ℕ
  pub lane : ℕ

pub record Configuration : Type 0 where
  pub listen : Endpoint
  pub linger : ℕ
  pub clients : List ClientEntry
  pub homes : List HomeEntry
  pub realms : List RealmEntry
  pub default_lane : Option ℕ
  pub other_lane : Option ℕ
