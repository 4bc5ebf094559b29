-- What two tables of last numbers have together, as numbers are added, as the opening rises, and as the earlier table
-- is replaced by the recent one.
use Rattle.std.proofs.Common.{◌≡◌, ℕ, suc, ◌+◌, ◌<◌, ◌≤◌, Bool, true, false, cond, inl, inr, ◌⊎◌, List, [], ◌∷◌, ◌++◌, length, length-append, Option, Some, None, refl, sym, ap, ◌∙◌, arith}
use Rattle.std.specs.Prelude.{not, nat_lt}
use Rattle.std.specs.Ordering.{eq_by_cmp}
use Rattle.std.specs.FinMap as map
use Rattle.std.proofs.lemmas.Bool.Decides.{leb_tells}
use Rattle.rad_tables.specs.declared.duplicates.Key.{Key}
use Rattle.rad_tables.specs.Keys.{key_cmp}
use Rattle.rad_tables.proofs.KeyLemmas.{keys_total, exact_keys}
use Rattle.rad_lane.specs.internal.Keys.{number_since, is_since, option_or, IsBelow, IsSince, AreBounded, both, merged}
use Rattle.rad_lane.proofs.NumberLemmas.{test_since, test_below}

abbrev Table : Type 0
Table = map.FinMap key_cmp ℕ

or_first : (b : Bool) (v : ℕ) (o p : Option ℕ) → cond b (Some v) (option_or o p) ≡ option_or (cond b (Some v) o) p
or_first true v o p = refl
or_first false v o p = refl

find_either : (es fs : List (Key × ℕ)) (key : Key) → map.find key_cmp key (es ++ fs) ≡ option_or (map.find key_cmp key es) (map.find key_cmp key fs)
find_either [] fs key = refl
find_either (e ∷ es) fs key =
    ap (λ o. cond (eq_by_cmp key_cmp key e.0) (Some e.1) o) (find_either es fs key)
    ∙ or_first (eq_by_cmp key_cmp key e.0) e.1 (map.find key_cmp key es) (map.find key_cmp key fs)

get-both : (recent earlier : Table) (key : Key) → map.get (both recent earlier) key ≡ option_or (map.get recent key) (map.get earlier key)
get-both recent earlier key =
    map.get-from_entries keys_total (map.entries recent ++ map.entries earlier) key
    ∙ find_either (map.entries recent) (map.entries earlier) key
    ∙ (λ i. option_or (sym (map.get-entries recent key) i) (sym (map.get-entries earlier key) i))

kept_since : (opening : ℕ) (o : Option ℕ) → cond (is_since opening o) o None ≡ number_since opening o
kept_since opening None = refl
kept_since opening (Some number) = turned (nat_lt number opening)
  where
    turned : (b : Bool) → cond (not b) (Some number) None ≡ cond b None (Some number)
    turned true = refl
    turned false = refl

pub get-merged : (opening : ℕ) (recent earlier : Table) (key : Key) → map.get (merged opening recent earlier) key ≡ number_since opening (option_or (map.get recent key) (map.get earlier key))
unfolding merged
get-merged opening recent earlier key =
    map.get-retain_keys (both recent earlier) (λ k. is_since opening (map.get (both recent earlier) k)) key
    (λ k tied. ap (λ o. is_since opening o) (map.get_tied keys_total (both recent earlier) key k tied))
    ∙ kept_since opening (map.get (both recent earlier) key)
    ∙ ap (λ o. number_since opening o) (get-both recent earlier key)

same_merged : (m n : Table) → ((key : Key) → map.get m key ≡ map.get n key) → m ≡ n
same_merged m n is = map.same_map keys_total exact_keys m n is

-- a number that is added is the last one of its key
added_by : (b : Bool) (opening number : ℕ) (o p : Option ℕ) → opening ≤ number → number_since opening (option_or (cond b (Some number) o) p) ≡ cond b (Some number) (number_since opening (option_or o p))
added_by true opening number o p since = ap (λ t. cond t None (Some number)) (test_since number opening since)
added_by false opening number o p since = refl

pub merged-insert : (opening : ℕ) (recent earlier : Table) (key : Key) (number : ℕ) → opening ≤ number → merged opening (map.insert recent key number) earlier ≡ map.insert (merged opening recent earlier) key number
merged-insert opening recent earlier key number since =
    same_merged _ _ (λ q.
    get-merged opening (map.insert recent key number) earlier q
    ∙ ap (λ o. number_since opening (option_or o (map.get earlier q))) (map.get-insert keys_total recent key number q)
    ∙ added_by (eq_by_cmp key_cmp q key) opening number (map.get recent q) (map.get earlier q) since
    ∙ ap (λ o. cond (eq_by_cmp key_cmp q key) (Some number) o) (sym (get-merged opening recent earlier q))
    ∙ sym (map.get-insert keys_total (merged opening recent earlier) key number q))

-- what is below an opening is below a later one
since_by : (opening next number : ℕ) → opening ≤ next → (b c : Bool) → nat_lt number opening ≡ b → nat_lt number next ≡ c → cond c None (Some number) ≡ number_since next (cond b None (Some number))
since_by opening next number later true true is then = refl
since_by opening next number later true false is then =
    elim (leb_tells (suc number) opening) [
      | inl below ↦ let here = test_below number next (omega (arith, below.1, later)) in cc
      | inr over ↦ let here = over.0 in cc
    ]
since_by opening next number later false c is then = ap (λ t. cond t None (Some number)) (sym then)

since_later : (opening next : ℕ) (o : Option ℕ) → opening ≤ next → number_since next o ≡ number_since next (number_since opening o)
since_later opening next None later = refl
since_later opening next (Some number) later = since_by opening next number later (nat_lt number opening) (nat_lt number next) refl refl

pub merged-later : (opening next : ℕ) (recent earlier : Table) → opening ≤ next → (key : Key) → map.get (merged next recent earlier) key ≡ number_since next (map.get (merged opening recent earlier) key)
merged-later opening next recent earlier later key =
    get-merged next recent earlier key
    ∙ since_later opening next (option_or (map.get recent key) (map.get earlier key)) later
    ∙ ap (λ o. number_since next o) (sym (get-merged opening recent earlier key))

-- the recent table alone, where all of the earlier one is below the opening
alone_by : (opening : ℕ) (o p : Option ℕ) → ((number : ℕ) → p ≡ Some number → number < opening) → number_since opening o ≡ number_since opening (option_or o p)
alone_by opening (Some number) p below = refl
alone_by opening None None below = refl
alone_by opening None (Some number) below = ap (λ t. cond t None (Some number)) (sym (test_below number opening (below number refl)))

pub merged-shed : (opening : ℕ) (recent earlier : Table) → IsBelow opening earlier → merged opening map.empty recent ≡ merged opening recent earlier
merged-shed opening recent earlier below =
    same_merged _ _ (λ q.
    get-merged opening map.empty recent q
    ∙ ap (λ o. number_since opening (option_or o (map.get recent q))) (map.get-empty key_cmp q)
    ∙ alone_by opening (map.get recent q) (map.get earlier q) (below q)
    ∙ sym (get-merged opening recent earlier q))

pub merged-empty : (opening : ℕ) → merged opening map.empty map.empty ≡ map.empty
merged-empty opening =
    same_merged _ _ (λ q.
    get-merged opening map.empty map.empty q
    ∙ (λ i. number_since opening (option_or (map.get-empty key_cmp q i) (map.get-empty key_cmp q i)))
    ∙ sym (map.get-empty key_cmp q))

-- all recent numbers are below the next one, if those from the opening on are
pub recent_below : (opening next : ℕ) (recent earlier : Table) → opening ≤ next → IsBelow next (merged opening recent earlier) → IsBelow next recent
recent_below opening next recent earlier from below key number is =
    elim (leb_tells (suc number) opening) [
      | inl old ↦ omega (arith, old.1, from)
      | inr since ↦
          below key number
          (get-merged opening recent earlier key
          ∙ ap (λ o. number_since opening (option_or o (map.get earlier key))) is
          ∙ ap (λ t. cond t None (Some number)) (test_since number opening (omega (arith, since.1))))
    ]

-- a table without keys
pub none_below : (end : ℕ) (table : Table) → table ≡ map.empty → IsBelow end table
none_below end table is key number h =
    let none : map.get table key ≡ None = ap (λ m. map.get m key) is ∙ map.get-empty key_cmp key in
    let clash : None ≡ Some number = sym none ∙ h in
    cc

-- ---- what the tables may hold

pub bounded_empty : AreBounded 0 0 map.empty 0
bounded_empty = record { held = inr (λ key number is. omega arith); until = omega arith }

-- nothing was added
pub bounded_still : {X : Type 0} (opening end : ℕ) (recent again : Table) (accepted all : List X) → again ≡ recent → all ≡ accepted → AreBounded opening (opening + length accepted) recent end → AreBounded opening (opening + length all) again end
bounded_still opening end recent again accepted all same unchanged b = rw (same, unchanged) b

-- a number is added
opened_by : (b : Bool) (opening given number : ℕ) (old : Option ℕ) → opening ≤ given → (old ≡ Some number → opening ≤ number) → cond b (Some given) old ≡ Some number → opening ≤ number
opened_by true opening given number old first h is = let same : given ≡ number = cc in omega arith
opened_by false opening given number old first h is = h is

pub since_more : (numbers : Table) (opening : ℕ) (at : Key) (given : ℕ) → opening ≤ given → IsSince opening numbers → IsSince opening (map.insert numbers at given)
since_more numbers opening at given first h key number is =
    opened_by (eq_by_cmp key_cmp key at) opening given number (map.get numbers key) first (h key number) (sym (map.get-insert keys_total numbers at given key) ∙ is)

held_still : (opening end : ℕ) (recent : Table) (key : Key) (number : ℕ) → opening ≤ number → (opening < end) ⊎ IsSince opening recent → (opening < end) ⊎ IsSince opening (map.insert recent key number)
held_still opening end recent key number from (inl some) = inl some
held_still opening end recent key number from (inr since) = inr (since_more recent opening key number from since)

pub bounded_more : {X : Type 0} (opening end number : ℕ) (recent more : Table) (key : Key) (accepted all : List X) (x : X) → opening ≤ number → more ≡ map.insert recent key number → all ≡ accepted ++ x ∷ [] → AreBounded opening (opening + length accepted) recent end → AreBounded opening (opening + length all) more end
bounded_more opening end number recent more key accepted all x from is adds b =
    rw (is, adds) (record { held = held_still opening end recent key number from b.held; until = omega (arith, b.until, length-append accepted (x ∷ [])) })

-- the opening rises, and the earlier table is replaced once all of its numbers are below
pub bounded_shed : (opening next end later : ℕ) (recent left : Table) → opening ≤ next → end ≤ next
    → (end ≤ opening → (left ≡ map.empty) × (later ≡ next))
    → (opening < end → (left ≡ recent) × (later ≡ end))
    → AreBounded opening next left later
bounded_shed opening next end later recent left within until shed kept =
    elim (leb_tells (suc opening) end) [
      | inl some ↦
          let is = kept some.1 in
          record { held = inl (omega (arith, some.1, is.1)); until = omega (arith, is.1, until) }
      | inr none ↦
          let is = shed (omega (arith, none.1)) in
          let no : IsSince opening left = λ key number there. absurd (none_there key number (sym (ap (λ m. map.get m key) is.0 ∙ map.get-empty key_cmp key) ∙ there)) in
          record { held = inr no; until = omega (arith, is.1) }
    ]
  where
    none_there : (key : Key) (number : ℕ) → None ≡ Some number → ⊥
    none_there key number is = cc
