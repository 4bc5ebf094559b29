-- Realms by their names, and the look-up beside them.
use Rattle.std.proofs.Common.{◌≡◌, ℕ, zero, suc, ◌<◌, ◌≤◌, ◌==◌, Bool, true, false, cond, List, [], ◌∷◌, ◌++◌, length, map, filter, Option, Some, None, is_some, option_map, refl, sym, ap, subst, ◌∙◌, arith, inl, inr, Vec, BTreeMap, Global, nat_cmp, is_eq, Ordering}
use Rattle.std.specs.Prelude.{find, IfSome}
use Rattle.std.specs.List.{AllByRecursion}
use Rattle.std.specs.Str.{bytes_eq}
use Rattle.std.specs.Char.{to_ascii_lowercase}
use Rattle.std.specs.Ordering.{eq_by_cmp}
use Rattle.std.specs.Cmp.Lexicographic.{slice_cmp}
use Rattle.std.specs.Map.{lookup, KeepsOthers, IsKeyTest, AreApart}
use Rattle.std.specs.BTreeMap as tree
use Rattle.std.proofs.lemmas.Bool.{cases_Bool, false≢true, eq-eqb}
use Rattle.std.proofs.lemmas.Cmp.{nat_list_cmp_total, eq_by_cmp_equiv}
use Rattle.std.proofs.lemmas.List.{length-map, map-append}
use Rattle.std.proofs.lemmas.List.Elements.{filter-append}
use Rattle.std.proofs.lemmas.Slice.Eq.{bytes_eq-Decides}
use Rattle.std.proofs.lemmas.Map.Text.{is_eq-slice_cmp}
use Rattle.rad_config.specs.Configuration.{RealmEntry}
use Rattle.rad_config.specs.declared.realms.Destination.{Destination}
use Rattle.rad_config.specs.Realm.{same_name, or_else, realms_of, is_at, IsRank}
use Rattle.rad_config.specs.internal.Index.{IndexesRealms}
use Rattle.rad_config.proofs.Places.{or_none, find-push, same_some}

-- names that are the same are as long
same_length : (a b : List ℕ) → same_name a b ≡ true → length a ≡ length b
same_length a b same =
    let e = (bytes_eq-Decides (map to_ascii_lowercase a) (map to_ascii_lowercase b)).0 same in
    sym (length-map a to_ascii_lowercase) ∙ ap length e ∙ length-map b to_ascii_lowercase

-- a name that is longer than each realm's is none of them
pub too_long : (realms : List RealmEntry) (name : List ℕ) → AllByRecursion (λ r. length r.name ≤ 252) realms → 252 < length name → find (λ r. same_name r.name name) realms ≡ None
too_long [] name short long = refl
too_long (r ∷ rs) name short long =
    elim (cases_Bool (same_name r.name name)) [
      | inl same ↦ let as_long = same_length r.name name same in absurd (omega (arith, as_long, short.0))
      | inr other ↦ rw other (too_long rs name short.1 long)
    ]

pub is_some_mapped : {A B : Type 0} (f : A → B) (o : Option A) → is_some (option_map f o) ≡ is_some o
is_some_mapped f None = refl
is_some_mapped f (Some x) = refl

-- ---- the look-up after a change

abbrev Key : Type 0
Key = Vec ℕ Global

abbrev pub key_cmp : Key → Key → Ordering
key_cmp a b = slice_cmp nat_cmp a.items b.items

abbrev at_name : List ℕ → Key → Ordering
at_name name k = slice_cmp nat_cmp name k.items

kept_elsewhere : {V : Type 0} (old new : List (Key × V)) (test other : Key → Bool) → KeepsOthers (eq_by_cmp key_cmp) test old new → IsKeyTest (eq_by_cmp key_cmp) other → AreApart test other → lookup other new ≡ lookup other old
unfolding KeepsOthers
kept_elsewhere old new test other keeps is_test apart = keeps other is_test apart

apart_names : (a b : List ℕ) → bytes_eq a b ≡ false → AreApart (λ k. is_eq (at_name a k)) (λ k. is_eq (at_name b k))
apart_names a b other k same =
    let e : bytes_eq a k.items ≡ true = sym (is_eq-slice_cmp a k.items) ∙ same in
    is_eq-slice_cmp b k.items ∙ elim (cases_Bool (bytes_eq b k.items)) [
      | inl same_b ↦
          let ab : a ≡ b = (bytes_eq-Decides a k.items).0 e ∙ sym ((bytes_eq-Decides b k.items).0 same_b) in
          absurd (false≢true (sym other ∙ (bytes_eq-Decides a b).1 ab))
      | inr other_b ↦ other_b
    ]

updated_at : {V : Type 0} (m n : BTreeMap Key V) (key : Key) (kept : V) (name : List ℕ) → tree.UpdatesBy key_cmp (key_cmp key) m n (Some kept)
    → tree.get_by (at_name name) n ≡ cond (bytes_eq key.items name) (Some kept) (tree.get_by (at_name name) m)
updated_at {V} m n key kept name updates =
    elim (cases_Bool (bytes_eq key.items name)) [
      | inl same ↦
          let e : key.items ≡ name = (bytes_eq-Decides key.items name).0 same in
          subst (λ (x : List ℕ). tree.get_by (at_name x) n ≡ cond (bytes_eq key.items name) (Some kept) (tree.get_by (at_name name) m)) e (updates.1 ∙ rw same refl)
      | inr other ↦
          rw other (kept_elsewhere _ _ _ _ updates.3 (λ x y. (eq_by_cmp_equiv nat_list_cmp_total).congr name x.items y.items) (apart_names key.items name other))
    ]

short_push : (realms : List RealmEntry) (r : RealmEntry) → AllByRecursion (λ r. length r.name ≤ 252) realms → length r.name ≤ 252 → AllByRecursion (λ r. length r.name ≤ 252) (realms ++ r ∷ [])
short_push [] r short one = (one, tt)
short_push (x ∷ xs) r short one = (short.0, short_push xs r short.1 one)

lane_or : (o : Option RealmEntry) (b : Bool) (r : RealmEntry) → option_map (λ r. r.lane) (or_else o (cond b (Some r) None)) ≡ or_else (option_map (λ r. r.lane) o) (cond b (Some r.lane) None)
lane_or None true r = refl
lane_or None false r = refl
lane_or (Some x) b r = refl

lane_cond : (b : Bool) (d : Destination) (o : Option Destination) → option_map (λ d. d.lane) (cond b (Some d) o) ≡ cond b (Some d.lane) (option_map (λ d. d.lane) o)
lane_cond true d o = refl
lane_cond false d o = refl

-- ---- the names of a lane's realms, where one more realm stands at the end

abbrev one_name : (r : RealmEntry) (lane : ℕ) → List (List ℕ)
one_name r lane = map (λ (r : RealmEntry). r.name) (cond (r.lane == lane) (r ∷ []) [])

realms_of-push : (realms : List RealmEntry) (r : RealmEntry) (lane : ℕ) → realms_of (realms ++ r ∷ []) lane ≡ realms_of realms lane ++ one_name r lane
realms_of-push realms r lane =
    ap (map (λ (r : RealmEntry). r.name)) (filter-append (λ (r : RealmEntry). r.lane == lane) realms (r ∷ []))
    ∙ map-append (λ (r : RealmEntry). r.name) (filter (λ (r : RealmEntry). r.lane == lane) realms) (cond (r.lane == lane) (r ∷ []) [])

-- what stands at a place stands there still, behind which more is put
still_at : (p : List ℕ → Bool) (names more : List (List ℕ)) (rank : Option ℕ) → is_at p names rank ≡ true → is_at p (names ++ more) rank ≡ true
still_at p names more None at = at
still_at p [] more (Some n) at = absurd cc
still_at p (x ∷ xs) more (Some zero) at = at
still_at p (x ∷ xs) more (Some (suc n)) at = still_at p xs more (Some n) at

at_end : (p : List ℕ → Bool) (names : List (List ℕ)) (name : List ℕ) → p name ≡ true → is_at p (names ++ name ∷ []) (Some (length names)) ≡ true
at_end p [] name passes = passes
at_end p (x ∷ xs) name passes = at_end p xs name passes

new_at_end : (p : List ℕ → Bool) (realms : List RealmEntry) (r : RealmEntry) → p r.name ≡ true → is_at p (realms_of (realms ++ r ∷ []) r.lane) (Some (length (filter (λ (s : RealmEntry). s.lane == r.lane) realms))) ≡ true
new_at_end p realms r passes =
    let same : (r.lane == r.lane) ≡ true = eq-eqb r.lane r.lane refl in
    let grown : realms_of (realms ++ r ∷ []) r.lane ≡ realms_of realms r.lane ++ r.name ∷ [] = realms_of-push realms r r.lane ∙ rw same refl in
    rw (grown, ← length-map (filter (λ (s : RealmEntry). s.lane == r.lane) realms) (λ (s : RealmEntry). s.name)) (at_end p (realms_of realms r.lane) r.name passes)

-- the rank of each name that is kept, where one more realm stands at the end
ranks_by : (o : Option Destination) (b : Bool) (realms : List RealmEntry) (r : RealmEntry) (p : List ℕ → Bool) (made d : Destination)
    → b ≡ p r.name → made.lane ≡ r.lane → made.rank ≡ Some (length (filter (λ (s : RealmEntry). s.lane == r.lane) realms))
    → ((e : Destination) → o ≡ Some e → is_at p (realms_of realms e.lane) e.rank ≡ true)
    → cond b (Some made) o ≡ Some d
    → is_at p (realms_of (realms ++ r ∷ []) d.lane) d.rank ≡ true
ranks_by o true realms r p made d is lane rank old found =
    let same : made ≡ d = same_some made d found in
    subst (λ (e : Destination). is_at p (realms_of (realms ++ r ∷ []) e.lane) e.rank ≡ true) same (rw (lane, rank) (new_at_end p realms r (sym is)))
ranks_by o false realms r p made d is lane rank old found =
    rw (realms_of-push realms r d.lane) (still_at p (realms_of realms d.lane) (one_name r d.lane) d.rank (old d found))

pub ranked : (realms counted : List RealmEntry) (lane own count : ℕ) → count ≡ length (filter (λ (s : RealmEntry). s.lane == lane) counted) → counted ≡ realms → lane ≡ own
    → Some count ≡ Some (length (filter (λ (s : RealmEntry). s.lane == own) realms))
ranked realms counted lane own count is same is_lane = rw (← same, ← is_lane, ← is) refl

-- one more realm, whose name is new
pub realm_pushed : (m n : BTreeMap Key Destination) (realms items : List RealmEntry) (r : RealmEntry) (key : Key) (made : Destination) → IndexesRealms m realms → key.items ≡ map to_ascii_lowercase r.name
    → made.lane ≡ r.lane → made.rank ≡ Some (length (filter (λ (s : RealmEntry). s.lane == r.lane) realms)) → items ≡ realms ++ r ∷ []
    → tree.UpdatesBy key_cmp (key_cmp key) m n (Some made) → length r.name ≤ 252
    → find (λ s. same_name s.name r.name) realms ≡ None
    → IndexesRealms n items
realm_pushed m n realms items r key made indexes is_key is_lane is_rank grown updates short new = rw grown (record {
  finds = λ name.
      ap (option_map (λ (d : Destination). d.lane)) (updated_at m n key made name updates) ∙ lane_cond (bytes_eq key.items name) made (tree.get_by (at_name name) m) ∙ rw (is_key, is_lane, indexes.finds name, find-push (λ s. bytes_eq (map to_ascii_lowercase s.name) name) realms r, lane_or (find (λ s. bytes_eq (map to_ascii_lowercase s.name) name) realms) (bytes_eq (map to_ascii_lowercase r.name) name) r)
      (elim (cases_Bool (bytes_eq (map to_ascii_lowercase r.name) name)) [
        | inl same ↦
            let e : map to_ascii_lowercase r.name ≡ name = (bytes_eq-Decides (map to_ascii_lowercase r.name) name).0 same in
            let none : find (λ s. bytes_eq (map to_ascii_lowercase s.name) name) realms ≡ None = subst (λ (x : List ℕ). find (λ s. bytes_eq (map to_ascii_lowercase s.name) x) realms ≡ None) e new in
            rw (same, none) refl
        | inr other ↦ rw other (or_none (option_map (λ s. s.lane) (find (λ s. bytes_eq (map to_ascii_lowercase s.name) name) realms)))
      ]);
  ranks = λ name d found.
      ranks_by (tree.get_by (at_name name) m) (bytes_eq key.items name) realms r (λ n. bytes_eq (map to_ascii_lowercase n) name) made d (ap (λ (x : List ℕ). bytes_eq x name) is_key) is_lane is_rank (indexes.ranks name) (sym (updated_at m n key made name updates) ∙ found);
  short = short_push realms r indexes.short short;
})

is_rank : (realms : List RealmEntry) (lane : ℕ) (name : List ℕ) (rank : Option ℕ) → is_at (λ n. same_name n name) (realms_of realms lane) rank ≡ true → IsRank realms lane (Some name) rank
is_rank realms lane name None at = absurd (false≢true at)
is_rank realms lane name (Some place) at = at

-- the rank of a name that is found
pub rank_found : (m : BTreeMap Key Destination) (realms : List RealmEntry) (name : List ℕ) (found : Option Destination) → IndexesRealms m realms → found ≡ tree.get_by (at_name (map to_ascii_lowercase name)) m
    → IfSome found (λ d. IsRank realms d.lane (Some name) d.rank)
rank_found m realms name None indexes is = tt
rank_found m realms name (Some d) indexes is = is_rank realms d.lane name d.rank (indexes.ranks (map to_ascii_lowercase name) d (sym is))
