-- A datagram that is a request has to wait exactly if that request has to.
use Rattle.std.proofs.Common.{inl, inr, Bool, true, false, ℕ, List, Option}
use Rattle.rad_config.specs.declared.reading.address.Endpoint.{Endpoint}
use Rattle.rad_realms.specs.Configuration.{Configuration}
use Rattle.rad_realms.specs.Checking.{Request}
use Rattle.rad_realms.specs.Incoming.{Takes}
use Rattle.rad_realms.specs.declared.checking.Incoming.TheVariants as incoming
use Rattle.rad_tables.specs.declared.duplicates.Key.{Key}
use Rattle.spool_writer.specs.Offers.{RequestWaits, Waits}

pub as_its_request : (config : Configuration) (Waiting : ℕ → Type 0) (number : Key → Option ℕ) (from : Endpoint) (octets : List ℕ) (request : Request) (held : Bool)
    → Takes config from.address from.port octets (incoming.Request request)
    → RequestWaits Waiting number request held → Waits config Waiting number from octets held
as_its_request config Waiting number from octets request true takes waits = (request, takes, waits)
as_its_request config Waiting number from octets request false takes waits = inr (inl (request, takes, waits))
