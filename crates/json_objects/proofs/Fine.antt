-- An object that has no key twice, and is not deep; and a list of such. Proofs of the crates above cite these.
use Rattle.std.proofs.Common.{◌≡◌, ◌≢◌, ℕ, ◌+◌, ◌≤◌, Bool, true, false, ◌&&◌, not, List, [], ◌∷◌, ◌++◌, map, Option, Some, None, refl, sym, arith}
use Rattle.std.specs.Prelude.{⊤}
use Rattle.std.specs.List.{AllByRecursion}
use Rattle.std.specs.Str.{bytes_eq}
use Rattle.std.proofs.lemmas.Bool.{and_parts}
use Rattle.std.proofs.lemmas.List.Elements.{All-from_recursion}
use Rattle.std.proofs.lemmas.List.Kept.{AllPairs-cons}
use Rattle.std.proofs.lemmas.Slice.Eq.{bytes_eq-Decides}
use Rattle.json.specs.Json.{Json, Members, array}
use Rattle.json.specs.Strict.{keys, AreDistinct, HasUniqueKeys, ItemsHaveUniqueKeys, MembersHaveUniqueKeys}
use Rattle.json.specs.Tree.{depth, items_depth, members_depth}
use Rattle.json_objects.specs.Written.{present, member_if, object_of, items_of}

abbrev pub names : List (List ℕ × Option Json) → List (List ℕ)
names slots = map (λ s. s.0) slots

-- ---- names that differ

abbrev pub differs_from : List ℕ → List (List ℕ) → Bool
differs_from name [] = true
differs_from name (other ∷ others) = not (bytes_eq other name) && differs_from name others

abbrev pub are_distinct : List (List ℕ) → Bool
are_distinct [] = true
are_distinct (name ∷ others) = differs_from name others && are_distinct others

pub not_true : (b : Bool) → not b ≡ true → b ≡ false
not_true true h = absurd cc
not_true false h = refl

-- ---- the keys that are there

keys_if : (P : List ℕ → Type 0) (key : List ℕ) (o : Option Json) (ms : Members) → P key → AllByRecursion P (keys ms) → AllByRecursion P (keys (member_if key o ms))
keys_if P key None ms p all = all
keys_if P key (Some value) ms p all = (p, all)

pub keys_all : (P : List ℕ → Type 0) (slots : List (List ℕ × Option Json)) → AllByRecursion P (names slots) → AllByRecursion P (keys (present slots))
keys_all P [] all = tt
keys_all P (s ∷ ss) all = keys_if P s.0 s.1 (present ss) all.0 (keys_all P ss all.1)

-- ---- no key twice, and not deep

differ_each : (name : List ℕ) (others : List (List ℕ)) → differs_from name others ≡ true → AllByRecursion (λ o. name ≢ o) others
differ_each name [] h = tt
differ_each name (o ∷ os) h =
    let parts = and_parts (not (bytes_eq o name)) (differs_from name os) h in
    let other : bytes_eq o name ≡ false = not_true (bytes_eq o name) parts.0 in
    let apart : name ≢ o = λ e. (let same : bytes_eq o name ≡ true = (bytes_eq-Decides o name).1 (sym e) in cc) in
    (apart, differ_each name os parts.1)

distinct_if : (key : List ℕ) (o : Option Json) (ms : Members) → AllByRecursion (λ k. key ≢ k) (keys ms) → AreDistinct (keys ms) → AreDistinct (keys (member_if key o ms))
distinct_if key None ms apart d = d
distinct_if key (Some value) ms apart d = AllPairs-cons (λ a b. a ≢ b) key (keys ms) (All-from_recursion (λ k. key ≢ k) (keys ms) apart) d

pub distinct_keys : (slots : List (List ℕ × Option Json)) → are_distinct (names slots) ≡ true → AreDistinct (keys (present slots))
distinct_keys [] h = λ i j d lt within. absurd (omega arith)
distinct_keys (s ∷ ss) h =
    let parts = and_parts (differs_from s.0 (names ss)) (are_distinct (names ss)) h in
    distinct_if s.0 s.1 (present ss) (keys_all (λ k. s.0 ≢ k) ss (differ_each s.0 (names ss) parts.0)) (distinct_keys ss parts.1)

-- a value that nests no deeper than this, and has no key twice
abbrev pub IsFine : ℕ → Json → Type 0
IsFine most value = (depth value ≤ most) × HasUniqueKeys value

abbrev pub MayBeFine : ℕ → Option Json → Type 0
MayBeFine most None = ⊤
MayBeFine most (Some value) = IsFine most value

abbrev pub AreFine : ℕ → List (List ℕ × Option Json) → Type 0
AreFine most [] = ⊤
AreFine most (slot ∷ slots) = MayBeFine most slot.1 × AreFine most slots

pub fine_both : (most : ℕ) (ss us : List (List ℕ × Option Json)) → AreFine most ss → AreFine most us → AreFine most (ss ++ us)
fine_both most [] us fine more = more
fine_both most (s ∷ ss) us fine more = (fine.0, fine_both most ss us fine.1 more)

fine_if : (most : ℕ) (key : List ℕ) (o : Option Json) (ms : Members) → MayBeFine most o → (members_depth ms ≤ most) × MembersHaveUniqueKeys ms → (members_depth (member_if key o ms) ≤ most) × MembersHaveUniqueKeys (member_if key o ms)
fine_if most key None ms fine all = all
fine_if most key (Some value) ms fine all = (omega (arith, fine.0, all.0), (fine.1, all.1))

fine_each : (most : ℕ) (slots : List (List ℕ × Option Json)) → AreFine most slots → (members_depth (present slots) ≤ most) × MembersHaveUniqueKeys (present slots)
fine_each most [] fine = (omega arith, tt)
fine_each most (s ∷ ss) fine = fine_if most s.0 s.1 (present ss) fine.0 (fine_each most ss fine.1)

pub fine_object : (most : ℕ) (slots : List (List ℕ × Option Json)) → are_distinct (names slots) ≡ true → AreFine most slots → IsFine (most + 1) (object_of slots)
fine_object most slots distinct fine =
    let all = fine_each most slots fine in
    (omega (arith, all.0), (distinct_keys slots distinct, all.1))

-- ---- lists, and what nests less deep

fine_items : {X : Type 0} (value : X → Json) (most : ℕ) → ((x : X) → IsFine most (value x)) → (xs : List X) → (items_depth (items_of value xs) ≤ most) × ItemsHaveUniqueKeys (items_of value xs)
fine_items value most fine [] = (omega arith, tt)
fine_items value most fine (x ∷ xs) =
    let here = fine x in
    let rest = fine_items value most fine xs in
    (omega (arith, here.0, rest.0), (here.1, rest.1))

pub fine_array : {X : Type 0} (value : X → Json) (most : ℕ) → ((x : X) → IsFine most (value x)) → (xs : List X) → IsFine (most + 1) (array (items_of value xs))
fine_array value most fine xs = let all = fine_items value most fine xs in (omega (arith, all.0), all.1)

pub deeper : (less most : ℕ) (j : Json) → less ≤ most → IsFine less j → IsFine most j
deeper less most j le fine = (omega (arith, fine.0, le), fine.1)
