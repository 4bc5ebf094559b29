-- A value whose numbers are numbers of JSON. Proofs of the crates above cite these.
use Rattle.std.proofs.Common.{ℕ, List, [], ◌∷◌, ◌++◌, Option, Some, None}
use Rattle.std.specs.Prelude.{⊤}
use Rattle.std.specs.List.{AllByRecursion}
use Rattle.json.specs.Json.{Json, Members}
use Rattle.json.specs.Tree.{HasNumbers, ItemsHaveNumbers, MembersHaveNumbers}
use Rattle.json_objects.specs.Written.{present, member_if, object_of, items_of}

abbrev pub MayBeNumbered : Option Json → Type 0
MayBeNumbered None = ⊤
MayBeNumbered (Some value) = HasNumbers value

abbrev pub AreNumbered : List (List ℕ × Option Json) → Type 0
AreNumbered [] = ⊤
AreNumbered (slot ∷ slots) = MayBeNumbered slot.1 × AreNumbered slots

pub numbered_both : (ss us : List (List ℕ × Option Json)) → AreNumbered ss → AreNumbered us → AreNumbered (ss ++ us)
numbered_both [] us all more = more
numbered_both (s ∷ ss) us all more = (all.0, numbered_both ss us all.1 more)

numbered_if : (key : List ℕ) (o : Option Json) (ms : Members) → MayBeNumbered o → MembersHaveNumbers ms → MembersHaveNumbers (member_if key o ms)
numbered_if key None ms its all = all
numbered_if key (Some value) ms its all = (its, all)

pub numbered_object : (slots : List (List ℕ × Option Json)) → AreNumbered slots → HasNumbers (object_of slots)
numbered_object [] all = tt
numbered_object (s ∷ ss) all = numbered_if s.0 s.1 (present ss) all.0 (numbered_object ss all.1)

pub numbered_items : {X : Type 0} (value : X → Json) (P : X → Type 0) → ((x : X) → P x → HasNumbers (value x)) → (xs : List X) → AllByRecursion P xs → ItemsHaveNumbers (items_of value xs)
numbered_items value P is [] all = tt
numbered_items value P is (x ∷ xs) all = (is x all.0, numbered_items value P is xs all.1)
