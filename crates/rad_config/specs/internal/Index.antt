-- The maps that are kept beside the lists (own): the place of an address in its list, and the lane and rank of a name.
-- No public clause cites this module, but the models of the lists do.
use Rattle.std.specs.Prelude.{◌≡◌, ℕ, suc, ◌≤◌, Bool, true, List, [], ◌∷◌, length, map, Option, Some, None, option_map, find, Vec, if◌then◌else◌}
use Rattle.std.specs.List.{AllByRecursion}
use Rattle.std.specs.Char.{to_ascii_lowercase}
use Rattle.std.specs.Str.{bytes_eq}
use Rattle.std.specs.Ordering.{nat_cmp}
use Rattle.std.specs.Cmp.Lexicographic.{slice_cmp}
use Rattle.std.specs.BTreeMap.{BTreeMap}
use Rattle.std.specs.BTreeMap as tree
use Rattle.std.specs.declared.alloc.Global.{Global}
use Rattle.rad_config.specs.Configuration.{ClientEntry, RealmEntry}
use Rattle.rad_config.specs.Realm.{realms_of, is_at}
use Rattle.rad_config.specs.declared.realms.Destination.{Destination}

-- the place of the first item that passes
abbrev pub place_of : {X : Type 0} → (X → Bool) → List X → Option ℕ
place_of p [] = None
place_of p (x ∷ xs) = if p x then Some 0 else option_map (λ i. suc i) (place_of p xs)

abbrev pub IndexesClients : BTreeMap (List ℕ) ℕ → List ClientEntry → Type 0
IndexesClients places clients =
    (address : List ℕ) → tree.get (slice_cmp nat_cmp) places address ≡ place_of (λ c. bytes_eq c.address address) clients

-- The map's keys are the realms' names in lower case, none of which is longer than 252 octets. Each has the lane of
-- its realm, and its rank: the place of its name among those of the lane's realms.
pub record IndexesRealms (places : BTreeMap (Vec ℕ Global) Destination) (realms : List RealmEntry) : Type 0 where
  pub finds : (name : List ℕ) → option_map (λ d. d.lane) (tree.get_by (λ k. slice_cmp nat_cmp name k.items) places) ≡ option_map (λ r. r.lane) (find (λ r. bytes_eq (map to_ascii_lowercase r.name) name) realms)
  pub ranks : (name : List ℕ) (d : Destination) → tree.get_by (λ k. slice_cmp nat_cmp name k.items) places ≡ Some d → is_at (λ n. bytes_eq (map to_ascii_lowercase n) name) (realms_of realms d.lane) d.rank ≡ true
  pub short : AllByRecursion (λ r. length r.name ≤ 252) realms
