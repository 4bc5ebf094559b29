-- The buckets of a histogram (own): the greatest number of microseconds in each but the last, and that bound as a label
-- in seconds.
use Rattle.std.specs.Prelude.{ℕ, List, [], ◌∷◌, codes, get_or}

abbrev pub bounds : List ℕ
bounds = 250 ∷ 500 ∷ 1000 ∷ 2500 ∷ 5000 ∷ 10000 ∷ 25000 ∷ 50000 ∷ 100000 ∷ 250000 ∷ 500000 ∷ 1000000 ∷ 2500000 ∷ 5000000 ∷ 10000000 ∷ 30000000 ∷ 60000000 ∷ []

abbrev pub labels : List (List ℕ)
labels = codes "0.00025" ∷ codes "0.0005" ∷ codes "0.001" ∷ codes "0.0025" ∷ codes "0.005" ∷ codes "0.01" ∷ codes "0.025" ∷ codes "0.05" ∷ codes "0.1" ∷ codes "0.25" ∷ codes "0.5" ∷ codes "1" ∷ codes "2.5" ∷ codes "5" ∷ codes "10" ∷ codes "30" ∷ codes "60" ∷ []

abbrev pub bound_of : ℕ → ℕ
bound_of bucket = get_or bounds bucket 0

abbrev pub bound_text : ℕ → List ℕ
bound_text bucket = get_or labels bucket (codes "+Inf")
