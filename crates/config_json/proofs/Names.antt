-- A lane of no home server has no name.
use Rattle.std.proofs.Common.{◌≡◌, ℕ, zero, suc, ◌≤◌, ltb, false, List, [], ◌∷◌, length, Option, Some, None, option_map, refl, ap, ◌∙◌, arith}
use Rattle.std.proofs.lemmas.Bool.Decides.{nat_tests}
use Rattle.std.specs.List.{slice_get}
use Rattle.json.specs.Json.{string}
use Rattle.rad_realms.specs.Configuration.{HomeEntry}
use Rattle.config_json.specs.Written.{name_at}

none_past : {X : Type 0} (xs : List X) (n : ℕ) → length xs ≤ n → slice_get xs n ≡ None
none_past [] n le = refl
none_past (x ∷ xs) zero le = absurd (omega (arith, le))
none_past (x ∷ xs) (suc n) le = none_past xs n (omega (arith, le))

pub no_name : (homes : List HomeEntry) (n lane : ℕ) (o : Option ℕ) → o ≡ Some lane → n ≡ lane → false ≡ ltb n (length homes) → name_at homes o ≡ None
no_name homes n lane o is same e =
    let le : length homes ≤ lane = grind (arith, nat_tests, e, same) in
    ap (name_at homes) is ∙ ap (option_map (λ home. string home.name)) (none_past homes lane le)
