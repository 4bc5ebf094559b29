-- What one call after the other adds to the tokens of a writer. Proofs of the crates above cite these.
use Rattle.std.proofs.Common.{◌≡◌, ℕ, ◌+◌, ◌<◌, ◌≤◌, List, [], ◌∷◌, ◌++◌, length, get_or, take, Option, Some, None, Result, Ok, Err, refl, sym, ap, ◌∙◌, subst, append_assoc, append-nil}
use Rattle.std.specs.Prelude.{OnOk}
use Rattle.std.proofs.lemmas.List.{take_all, take_more}
use Rattle.json.specs.Json.{Json, array}
use Rattle.json.specs.Token.{Token, begin_array, end_array, begin_object, end_object, key}
use Rattle.json.specs.Tree.{json_tokens, items_tokens, members_tokens}
use Rattle.json.specs.Written.{Written, Writes}
use Rattle.json_objects.specs.Written.{present, object_of, items_of}
use Rattle.json_objects.specs.Adding.{Adds, AddsSlots, Opens, slot_tokens, slots_tokens}

abbrev pub Slots : Type 0
Slots = List (List ℕ × Option Json)

-- ---- members of an object

pub slots_both : (ss us : Slots) → slots_tokens (ss ++ us) ≡ slots_tokens ss ++ slots_tokens us
slots_both [] us = refl
slots_both (s ∷ ss) us = ap (λ ts. slot_tokens s.0 s.1 ++ ts) (slots_both ss us) ∙ sym (append_assoc (slot_tokens s.0 s.1) (slots_tokens ss) (slots_tokens us))

slot_then : (name : List ℕ) (o : Option Json) (ss : Slots) → members_tokens (present ((name, o) ∷ ss)) ≡ slot_tokens name o ++ members_tokens (present ss)
slot_then name None ss = refl
slot_then name (Some value) ss = refl

pub slots_end : (ss : Slots) → members_tokens (present ss) ≡ slots_tokens ss ++ end_object ∷ []
slots_end [] = refl
slots_end (s ∷ ss) =
    slot_then s.0 s.1 ss ∙ ap (λ ts. slot_tokens s.0 s.1 ++ ts) (slots_end ss) ∙ sym (append_assoc (slot_tokens s.0 s.1) (slots_tokens ss) (end_object ∷ []))

-- members behind members
pub slots_then : {a b c : Written} {ss us : Slots} → AddsSlots a b ss → AddsSlots b c us → AddsSlots a c (ss ++ us)
slots_then {a} {b} {c} {ss} {us} p q = record {
  before = q.before ∙ p.before;
  added = q.added ∙ ap (λ ts. ts ++ slots_tokens us) p.added ∙ append_assoc a.tokens (slots_tokens ss) (slots_tokens us) ∙ ap (λ ts. a.tokens ++ ts) (sym (slots_both ss us));
}

-- an object is begun, and gets members
pub opened : (old new : Written) → new.before ≡ old.before → new.tokens ≡ old.tokens ++ begin_object ∷ [] → Opens old new []
opened old new b e = record { before = b; added = e }

pub opens_then : {a b c : Written} {ss us : Slots} → Opens a b ss → AddsSlots b c us → Opens a c (ss ++ us)
opens_then {a} {b} {c} {ss} {us} p q = record {
  before = q.before ∙ p.before;
  added =
      q.added ∙ ap (λ ts. ts ++ slots_tokens us) p.added ∙ append_assoc a.tokens (begin_object ∷ slots_tokens ss) (slots_tokens us)
      ∙ ap (λ ts. a.tokens ++ begin_object ∷ ts) (sym (slots_both ss us));
}

pub opens_last : {E : Type 0} (r : Result (Unit {0}) E) (a b c : Written) (ss us : Slots) → Opens a b ss → OnOk r (AddsSlots b c us) → OnOk r (Opens a c (ss ++ us))
opens_last (Ok x) a b c ss us p q = opens_then p q
opens_last (Err e) a b c ss us p q = tt

pub slots_last : {E : Type 0} (r : Result (Unit {0}) E) (a b c : Written) (ss us : Slots) → AddsSlots a b ss → OnOk r (AddsSlots b c us) → OnOk r (AddsSlots a c (ss ++ us))
slots_last (Ok x) a b c ss us p q = slots_then p q
slots_last (Err e) a b c ss us p q = tt

-- a member of any value
pub keyed : (a b c : Written) (name : List ℕ) (value : Json) → b.before ≡ a.before → b.tokens ≡ a.tokens ++ key name ∷ [] → Adds b c (json_tokens value) → AddsSlots a c ((name, Some value) ∷ [])
keyed a b c name value same e p = record {
  before = p.before ∙ same;
  added =
      p.added ∙ ap (λ ts. ts ++ json_tokens value) e ∙ append_assoc a.tokens (key name ∷ []) (json_tokens value)
      ∙ ap (λ ts. a.tokens ++ key name ∷ ts) (sym (append-nil (json_tokens value)));
}

pub keyed_last : {E : Type 0} (r : Result (Unit {0}) E) (a b c : Written) (name : List ℕ) (value : Json) → b.before ≡ a.before → b.tokens ≡ a.tokens ++ key name ∷ [] → OnOk r (Adds b c (json_tokens value)) → OnOk r (AddsSlots a c ((name, Some value) ∷ []))
keyed_last (Ok x) a b c name value same e p = keyed a b c name value same e p
keyed_last (Err f) a b c name value same e p = tt

-- a list, item by item
pub listed : {X : Type 0} (value : X → Json) (a b c : Written) (name : List ℕ) (xs ys : List X) → xs ≡ ys → b.before ≡ a.before → b.tokens ≡ a.tokens ++ key name ∷ [] → Adds b c (json_tokens (array (items_of value xs))) → AddsSlots a c ((name, Some (array (items_of value ys))) ∷ [])
listed value a b c name xs ys is same e p = subst (λ zs. AddsSlots a c ((name, Some (array (items_of value zs))) ∷ [])) is (keyed a b c name (array (items_of value xs)) same e p)

-- the same members
pub slots_are : {a b : Written} (ss us : Slots) → ss ≡ us → AddsSlots a b ss → AddsSlots a b us
slots_are {a} {b} ss us e p = subst (λ (xs : Slots). AddsSlots a b xs) e p

pub adds_nothing : (w : Written) (slots : Slots) → slots_tokens slots ≡ [] → AddsSlots w w slots
adds_nothing w slots e = record { before = refl; added = sym (ap (λ ts. w.tokens ++ ts) e ∙ append-nil w.tokens) }

-- the object is ended
closed : (a c d : Written) (slots : Slots) → Opens a c slots → d.before ≡ c.before → d.tokens ≡ c.tokens ++ end_object ∷ [] → Adds a d (json_tokens (object_of slots))
closed a c d slots p b e = record {
  before = b ∙ p.before;
  added =
      e ∙ ap (λ ts. ts ++ end_object ∷ []) p.added ∙ append_assoc a.tokens (begin_object ∷ slots_tokens slots) (end_object ∷ [])
      ∙ ap (λ ts. a.tokens ++ begin_object ∷ ts) (sym (slots_end slots));
}

pub closes : {E : Type 0} (r : Result (Unit {0}) E) (a c d : Written) (slots : Slots) → Opens a c slots → Writes r c d end_object → OnOk r (Adds a d (json_tokens (object_of slots)))
closes (Ok x) a c d slots p w = closed a c d slots p w.room.0 w.ok
closes (Err e) a c d slots p w = tt

-- ---- items of a list

abbrev pub each_tokens : {X : Type 0} → (X → Json) → List X → List Token
each_tokens value [] = []
each_tokens value (x ∷ xs) = json_tokens (value x) ++ each_tokens value xs

module _ {X : Type 0} (value : X → Json) where
  each_push : (xs : List X) (x : X) → each_tokens value (xs ++ x ∷ []) ≡ each_tokens value xs ++ json_tokens (value x)
  each_push [] x = append-nil (json_tokens (value x))
  each_push (y ∷ ys) x = ap (λ ts. json_tokens (value y) ++ ts) (each_push ys x) ∙ sym (append_assoc (json_tokens (value y)) (each_tokens value ys) (json_tokens (value x)))

  each_end : (xs : List X) → items_tokens (items_of value xs) ≡ each_tokens value xs ++ end_array ∷ []
  each_end [] = refl
  each_end (x ∷ xs) = ap (λ ts. json_tokens (value x) ++ ts) (each_end xs) ∙ sym (append_assoc (json_tokens (value x)) (each_tokens value xs) (end_array ∷ []))

  -- the items so far, and one more
  pub item_next : (a b c : Written) (xs : List X) (i : ℕ) (x : X) → take (i + 1) xs ≡ take i xs ++ x ∷ [] → Adds a b (begin_array ∷ each_tokens value (take i xs)) → Adds b c (json_tokens (value x)) → Adds a c (begin_array ∷ each_tokens value (take (i + 1) xs))
  item_next a b c xs i x front p q =
      record {
        before = q.before ∙ p.before;
        added =
            q.added ∙ ap (λ ts. ts ++ json_tokens (value x)) p.added ∙ append_assoc a.tokens (begin_array ∷ each_tokens value (take i xs)) (json_tokens (value x))
            ∙ ap (λ ts. a.tokens ++ begin_array ∷ ts) (sym (ap (each_tokens value) front ∙ each_push (take i xs) x));
      }

  pub item_added : (a b c : Written) (xs : List X) (i : ℕ) (x : X) → i < length xs → x ≡ get_or xs i x → Adds a b (begin_array ∷ each_tokens value (take i xs)) → Adds b c (json_tokens (value x)) → Adds a c (begin_array ∷ each_tokens value (take (i + 1) xs))
  item_added a b c xs i x lt here p q = item_next a b c xs i x (take_more xs i x lt ∙ ap (λ y. take i xs ++ y ∷ []) (sym here)) p q

  -- all items, and the bracket
  pub items_added : {E : Type 0} (r : Result (Unit {0}) E) (a b c : Written) (xs : List X) (i : ℕ) → length xs ≤ i → Adds a b (begin_array ∷ each_tokens value (take i xs)) → Writes r b c end_array → OnOk r (Adds a c (json_tokens (array (items_of value xs))))
  items_added (Err e) a b c xs i le p w = tt
  items_added (Ok x) a b c xs i le p w = record {
    before = w.room.0 ∙ p.before;
    added =
        w.ok ∙ ap (λ ts. ts ++ end_array ∷ []) p.added ∙ append_assoc a.tokens (begin_array ∷ each_tokens value (take i xs)) (end_array ∷ [])
        ∙ ap (λ ts. a.tokens ++ begin_array ∷ ts) (ap (λ ys. each_tokens value ys ++ end_array ∷ []) (take_all i xs le) ∙ sym (each_end xs));
  }
