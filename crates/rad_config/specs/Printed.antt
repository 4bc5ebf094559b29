-- Addresses and the faults of limits, as they are printed.
use Rattle.std.specs.Prelude.{ℕ, List, ◌∷◌, ◌++◌, codes, slice_index}
use Rattle.std.specs.Fmt.{decimal}
use Rattle.rad_config.specs.declared.reading.address.Endpoint.{Endpoint}
use Rattle.rad_config.specs.declared.limits.LimitFault.{LimitFault}
use Rattle.rad_config.specs.declared.limits.LimitFault.TheVariants.{Window, Queue, Book, Tries, FirstWait, ProbeEvery, DownWait, Span, Ring, Ports}

-- The text of an address: its octets in decimal, joined by `.`
abbrev pub address_text : List ℕ → List ℕ
address_text octets =
    decimal (slice_index octets 0) ++ 46 ∷ (decimal (slice_index octets 1) ++ 46 ∷ (decimal (slice_index octets 2) ++ 46 ∷ decimal (slice_index octets 3)))

-- The text of an address and port: the address, `:`, and the port in decimal.
abbrev pub endpoint_text : Endpoint → List ℕ
endpoint_text endpoint = address_text endpoint.address ++ 58 ∷ decimal endpoint.port

abbrev pub limit_text : LimitFault → List ℕ
limit_text Window = codes "Window"
limit_text Queue = codes "Queue"
limit_text Book = codes "Book"
limit_text Tries = codes "Tries"
limit_text FirstWait = codes "FirstWait"
limit_text ProbeEvery = codes "ProbeEvery"
limit_text DownWait = codes "DownWait"
limit_text Span = codes "Span"
limit_text Ring = codes "Ring"
limit_text Ports = codes "Ports"
