-- What the thread takes from the two rings: each response behind the requests that were put before it. Own.
use Rattle.std.specs.Prelude.{◌≡◌, ◌⊎◌, ◌+◌, ◌-◌, ◌^◌, ◌≤◌, min, [], ◌∷◌, ◌++◌, Option, MatchOption}
use mathlib.Core.List.{IsPrefix}
use Rattle.rtrb.specs.Ring.{known_items, received, ConsumerLooked}
use Rattle.spool_writer.specs.declared.outlet.SpoolOutlet.{SpoolOutlet}
use Rattle.spool_writer.specs.declared.parcel.Parcel.{Parcel}

-- the next response that was seen was put behind no more requests than were taken
pub record IsDue (outlet : SpoolOutlet) : Type 0 where
  pub next : Parcel
  pub seen : IsPrefix (next ∷ []) (known_items outlet.responses)
  pub due : next.before ≤ outlet.taken

-- a response is taken: the requests that were put before it were
pub record TakesResponse (old : SpoolOutlet) (parcel : Parcel) (new : SpoolOutlet) : Type 0 where
  pub requests : new.requests ≡ old.requests
  pub responses : received new.responses ≡ received old.responses ++ parcel ∷ []
  pub taken : new.taken ≡ old.taken
  pub due : parcel.before ≤ old.taken

-- a request is taken: no response is due
pub record TakesRequest (old : SpoolOutlet) (parcel : Parcel) (new : SpoolOutlet) : Type 0 where
  pub requests : received new.requests ≡ received old.requests ++ parcel ∷ []
  pub responses : new.responses ≡ old.responses
  pub taken : new.taken ≡ min (old.taken + 1) (2 ^ 64 - 1)
  pub none_due : ¬ IsDue old

-- nothing is taken: no request was seen, and no response is due
pub record TakesNothing (old new : SpoolOutlet) : Type 0 where
  pub same : new ≡ old
  pub none : known_items old.requests ≡ []
  pub none_due : ¬ IsDue old

abbrev pub Takes : SpoolOutlet → Option Parcel → SpoolOutlet → Type 0
Takes old result new = MatchOption result (TakesNothing old new) (λ parcel. TakesResponse old parcel new ⊎ TakesRequest old parcel new)

-- the thread looks what there is
pub record Looks (old new : SpoolOutlet) : Type 0 where
  pub requests : ConsumerLooked old.requests new.requests
  pub responses : ConsumerLooked old.responses new.responses
  pub taken : new.taken ≡ old.taken
