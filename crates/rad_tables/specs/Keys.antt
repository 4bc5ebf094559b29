-- The key of a request: the client's address and port and the Identifier (RFC 2866 section 3, Identifier), and the
-- Request Authenticator (own). Requests with the same key are copies of one request.
use Rattle.std.specs.Prelude.{ℕ, List, Option, Some, None, refl}
use Rattle.std.specs.declared.cmp.Ordering.{Ordering}
use Rattle.std.specs.Ordering.{nat_cmp, ordering_then}
use Rattle.std.specs.Cmp.Lexicographic.{slice_cmp}
use Rattle.std.specs.Coded.{Coded, code_by, coded×, coded_ℕ, coded_list}
use Rattle.std.specs.FinMap.{FinMap, insert, remove}
use Rattle.rad_tables.specs.declared.duplicates.Key.{Key}

-- an order of the keys: by Authenticator, client, port and Identifier, in this order
abbrev pub key_cmp : Key → Key → Ordering
key_cmp a b = ordering_then (slice_cmp nat_cmp a.authenticator b.authenticator)
    (ordering_then (slice_cmp nat_cmp a.client b.client)
    (ordering_then (nat_cmp a.port b.port) (nat_cmp a.identifier b.identifier)))

-- a key by its parts
abbrev pub coded_key : Coded Key
coded_key = code_by (List ℕ × (List ℕ × (ℕ × ℕ)))
    (coded× (coded_list coded_ℕ) (coded× (coded_list coded_ℕ) (coded× coded_ℕ coded_ℕ)))
    (λ k. (k.authenticator, (k.client, (k.port, k.identifier))))
    (λ p. record { authenticator = p.0; client = p.1.0; port = p.1.1.0; identifier = p.1.1.1 })
    (λ _. refl)

-- the table in which a key has this last number or, if there is none, in which the key is missing
abbrev pub with_last : FinMap key_cmp ℕ → Key → Option ℕ → FinMap key_cmp ℕ
with_last numbers key None = remove numbers key
with_last numbers key (Some number) = insert numbers key number
