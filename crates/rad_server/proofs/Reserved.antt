-- What is listed behind one item more.
use Rattle.std.specs.Prelude.{◌≡◌, ℕ, List, [], ◌∷◌, ◌++◌, Option, Some, None, option_to_list}
use Rattle.std.specs.Borrow.{Bor}
use Rattle.std.specs.List.{filter_map, cons_option}
use Rattle.std.proofs.Common.{refl, ap, ◌∙◌, map}

alone : {X : Type 0} (o : Option X) → cons_option o [] ≡ option_to_list o
alone None = refl
alone (Some x) = refl

ahead : {X : Type 0} (o : Option X) (xs ys : List X) → cons_option o (xs ++ ys) ≡ cons_option o xs ++ ys
ahead None xs ys = refl
ahead (Some x) xs ys = refl

pub given_more : {X : Type 0} (h : List ℕ → Option X) (seen : List (Bor (List ℕ))) (item : Bor (List ℕ))
    → filter_map h (map (λ i. i.now) (seen ++ item ∷ [])) ≡ filter_map h (map (λ i. i.now) seen) ++ option_to_list (h item.now)
given_more h [] item = alone (h item.now)
given_more h (first ∷ seen) item =
    ap (cons_option (h first.now)) (given_more h seen item)
    ∙ ahead (h first.now) (filter_map h (map (λ i. i.now) seen)) (option_to_list (h item.now))
