-- What an object of members has at its keys, and which keys it has.
use Rattle.std.proofs.Common.{◌≡◌, ℕ, suc, Bool, true, false, cond, not, List, [], ◌∷◌, ◌++◌, Option, Some, None, refl, ◌∙◌, ap, subst, arith}
use Rattle.std.specs.List.{AllByRecursion, Contains}
use Rattle.std.specs.Str.{bytes_eq}
use Rattle.std.proofs.lemmas.Bool.{and_parts}
use Rattle.std.proofs.lemmas.List.Elements.{All-from_recursion}
use Rattle.std.proofs.lemmas.Slice.Eq.{bytes_eq-Decides}
use Rattle.json.specs.Json.{Json, Members}
use Rattle.json.specs.Find.{get, get_member, later_or}
use Rattle.json.specs.Strict.{keys}
use Rattle.json_objects.specs.Written.{present, member_if, object_of}
use Rattle.json_objects.proofs.Fine.{names, differs_from, are_distinct, not_true, keys_all}
use Rattle.ledger_lines.specs.Lines.{HasOnly}

-- what stands at a name, from the first slot on
abbrev pub found : List ℕ → List (List ℕ × Option Json) → Option Json
found name [] = None
found name (slot ∷ slots) = cond (bytes_eq slot.0 name) slot.1 (found name slots)

-- the same without a slot of another name
pub found_without : (name other : List ℕ) (o : Option Json) → bytes_eq other name ≡ false → (ss us : List (List ℕ × Option Json)) → found name (ss ++ (other, o) ∷ us) ≡ found name (ss ++ us)
found_without name other o differs [] us = ap (λ b. cond b o (found name us)) differs
found_without name other o differs (s ∷ ss) us = ap (λ x. cond (bytes_eq s.0 name) s.1 x) (found_without name other o differs ss us)

get_later : (name key : List ℕ) (o : Option Json) (ms : Members) (b : Bool) → bytes_eq key name ≡ b → get_member name (member_if key o ms) ≡ later_or (get_member name ms) (cond b o None)
get_later name key None ms true e = or_none (get_member name ms)
  where
    or_none : (o : Option Json) → o ≡ later_or o None
    or_none None = refl
    or_none (Some j) = refl
get_later name key None ms false e = or_none (get_member name ms)
  where
    or_none : (o : Option Json) → o ≡ later_or o None
    or_none None = refl
    or_none (Some j) = refl
get_later name key (Some value) ms b e = ap (λ c. later_or (get_member name ms) (cond c (Some value) None)) e

later_none : (o : Option Json) → later_or o None ≡ o
later_none None = refl
later_none (Some j) = refl

none_at : (name : List ℕ) (slots : List (List ℕ × Option Json)) → differs_from name (names slots) ≡ true → get_member name (present slots) ≡ None
none_at name [] h = refl
none_at name (s ∷ ss) h =
    let parts = and_parts (not (bytes_eq s.0 name)) (differs_from name (names ss)) h in
    get_later name s.0 s.1 (present ss) false (not_true (bytes_eq s.0 name) parts.0) ∙ later_none (get_member name (present ss)) ∙ none_at name ss parts.1

at_first : (name key : List ℕ) (o : Option Json) (slots : List (List ℕ × Option Json)) (b : Bool) → bytes_eq key name ≡ b → differs_from key (names slots) ≡ true → get_member name (present slots) ≡ found name slots → get_member name (present ((key, o) ∷ slots)) ≡ cond b o (found name slots)
at_first name key o slots true e h ih =
    let same : key ≡ name = (bytes_eq-Decides key name).0 e in
    get_later name key o (present slots) true e ∙ ap (λ x. later_or x o) (none_at name slots (subst (λ k. differs_from k (names slots) ≡ true) same h))
at_first name key o slots false e h ih = get_later name key o (present slots) false e ∙ later_none (get_member name (present slots)) ∙ ih

pub get_found : (name : List ℕ) (slots : List (List ℕ × Option Json)) → are_distinct (names slots) ≡ true → get name (object_of slots) ≡ found name slots
get_found name [] h = refl
get_found name (s ∷ ss) h =
    let parts = and_parts (differs_from s.0 (names ss)) (are_distinct (names ss)) h in
    at_first name s.0 s.1 ss (bytes_eq s.0 name) refl parts.0 (get_found name ss parts.1)

-- ---- the keys that are there

contains_next : (known : List (List ℕ)) (k : List ℕ) (more : List (List ℕ)) → AllByRecursion (Contains known) more → AllByRecursion (Contains (k ∷ known)) more
contains_next known k [] all = tt
contains_next known k (m ∷ ms) all = ((suc all.0.0, omega (arith, all.0.1), all.0.2), contains_next known k ms all.1)

contains_each : (known : List (List ℕ)) → AllByRecursion (Contains known) known
contains_each [] = tt
contains_each (k ∷ ks) = ((0, omega arith, refl), contains_next ks k ks (contains_each ks))

pub only_names : (slots : List (List ℕ × Option Json)) → HasOnly (names slots) (object_of slots)
only_names slots = All-from_recursion (Contains (names slots)) (keys (present slots)) (keys_all (Contains (names slots)) slots (contains_each (names slots)))
