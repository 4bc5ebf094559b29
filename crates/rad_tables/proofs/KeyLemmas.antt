-- The keys of requests, and the finite map that entries with such keys make. Proofs of the crates above
-- cite what is said of the order of the keys.
use Rattle.std.proofs.Common.{◌≡◌, ℕ, Bool, true, false, cond, List, [], ◌∷◌, Option, Some, None, Ordering, refl, sym, ap, subst, ◌∙◌}
use Rattle.std.specs.Prelude.{IsSome}
use Rattle.std.specs.declared.cmp.Ordering.TheVariants.{Less, Equal, Greater}
use Rattle.std.specs.Ordering.{nat_cmp, is_eq, eq_by_cmp}
use Rattle.std.specs.Cmp.{IsTotalOrder, nat_cmp_total, eq_by_cmp_equiv}
use Rattle.std.specs.Cmp.Lexicographic.{slice_cmp, nat_list_cmp_total}
use Rattle.std.specs.FinMap.{FinMap, from_entries, get, insert, remove, find, get_tied, get-from_entries, get-insert, get-remove, same_map}
use Rattle.std.specs.BTreeMap.{is_at}
use Rattle.std.specs.Map.{lookup}
use Rattle.std.proofs.lemmas.Map.Lookups.{CmpEqualImpliesEq, exact_pairs, exact_unsigned, exact_bytes}
use Rattle.std.proofs.lemmas.Cmp.{on_total, then_total}
use Rattle.rad_tables.specs.declared.duplicates.Key.{Key}
use Rattle.rad_tables.specs.Keys.{key_cmp, with_last}

-- keys that compare alike are one
pub exact_keys : CmpEqualImpliesEq key_cmp
exact_keys a b h =
    ap (λ (p : List ℕ × (List ℕ × (ℕ × ℕ))). record { authenticator = p.0; client = p.1.0; port = p.1.1.0; identifier = p.1.1.1 })
    (exact_pairs (slice_cmp nat_cmp) _ exact_bytes
    (exact_pairs (slice_cmp nat_cmp) _ exact_bytes (exact_pairs nat_cmp nat_cmp exact_unsigned exact_unsigned))
    (a.authenticator, (a.client, (a.port, a.identifier)))
    (b.authenticator, (b.client, (b.port, b.identifier)))
    h)

pub keys_total : IsTotalOrder key_cmp
keys_total =
    then_total (on_total (λ k. k.authenticator) nat_list_cmp_total)
    (then_total (on_total (λ k. k.client) nat_list_cmp_total)
    (then_total (on_total (λ k. k.port) nat_cmp_total) (on_total (λ k. k.identifier) nat_cmp_total)))

-- what the entries have at a key, as a search tree finds it
abbrev pub number_at : List (Key × ℕ) → Key → Option ℕ
number_at entries key = lookup (is_at (key_cmp key)) entries

find_key : (entries : List (Key × ℕ)) (key : Key) → find key_cmp key entries ≡ number_at entries key
find_key [] key = refl
find_key (e ∷ entries) key = ap (cond (is_at (key_cmp key) e.0) (Some e.1)) (find_key entries key)

-- what the map that the entries make has at a key
pub get_key : (entries : List (Key × ℕ)) (key : Key) → get (from_entries {R = key_cmp} entries) key ≡ number_at entries key
get_key entries key = get-from_entries keys_total entries key ∙ find_key entries key

-- entries that differ at one key make maps that differ there
pub one_inserted : (before after : List (Key × ℕ)) (key : Key) (number : ℕ) → ((q : Key) → number_at after q ≡ cond (is_at (key_cmp key) q) (Some number) (number_at before q)) → from_entries {R = key_cmp} after ≡ insert (from_entries before) key number
one_inserted before after key number h = same_map keys_total exact_keys _ _ (λ q.
    get_key after q ∙ h q ∙ ap (λ b. cond b (Some number) (number_at before q)) ((eq_by_cmp_equiv keys_total).symm key q)
    ∙ sym (get-insert keys_total (from_entries before) key number q ∙ ap (cond (is_at (key_cmp q) key) (Some number)) (get_key before q)))

pub one_removed : (before after : List (Key × ℕ)) (key : Key) → ((q : Key) → number_at after q ≡ cond (is_at (key_cmp key) q) None (number_at before q)) → from_entries {R = key_cmp} after ≡ remove (from_entries before) key
one_removed before after key h = same_map keys_total exact_keys _ _ (λ q.
    get_key after q ∙ h q ∙ ap (λ b. cond b None (number_at before q)) ((eq_by_cmp_equiv keys_total).symm key q)
    ∙ sym (get-remove keys_total (from_entries before) key q ∙ ap (cond (is_at (key_cmp q) key) None) (get_key before q)))

equal_of : (o : Ordering) → is_eq o ≡ true → o ≡ Equal
equal_of Less h = cc
equal_of Equal h = refl
equal_of Greater h = cc

pub tied : (a b : Key) → is_eq (key_cmp a b) ≡ true → key_cmp a b ≡ Equal
tied a b h = equal_of (key_cmp a b) h

here_again : (b : Bool) (here last other : Option ℕ) → (b ≡ true → last ≡ here) → cond b last (cond b other here) ≡ here
here_again true here last other h = h refl
here_again false here last other h = refl

pub there_inserted : (numbers : FinMap key_cmp ℕ) (key : Key) (number : ℕ) → IsSome (get (insert numbers key number) key)
there_inserted numbers key number =
    subst IsSome (sym (get-insert keys_total numbers key number key ∙ ap (λ b. cond b (Some number) (get numbers key)) ((eq_by_cmp_equiv keys_total).refl key))) refl

-- a key that has again the last number that it had before one was inserted
module _ (numbers : FinMap key_cmp ℕ) (key : Key) (number : ℕ) where
  had_before : (last : Option ℕ) → last ≡ get numbers key → (q : Key) → eq_by_cmp key_cmp q key ≡ true → last ≡ get numbers q
  had_before last is q same = is ∙ get_tied keys_total numbers q key (tied q key same)

  restored : (last : Option ℕ) → last ≡ get numbers key → with_last (insert numbers key number) key last ≡ numbers
  restored None is = same_map keys_total exact_keys _ _ (λ q.
      get-remove keys_total (insert numbers key number) key q
      ∙ ap (cond (eq_by_cmp key_cmp q key) None) (get-insert keys_total numbers key number q)
      ∙ here_again (eq_by_cmp key_cmp q key) (get numbers q) None (Some number) (had_before None is q))
  restored (Some last) is = same_map keys_total exact_keys _ _ (λ q.
      get-insert keys_total (insert numbers key number) key last q
      ∙ ap (cond (eq_by_cmp key_cmp q key) (Some last)) (get-insert keys_total numbers key number q)
      ∙ here_again (eq_by_cmp key_cmp q key) (get numbers q) (Some last) (Some number) (had_before (Some last) is q))

  -- so a replaced number that is restored leaves the table as it was
  pub as_before : (last : Option ℕ) → last ≡ get numbers key → (replaced after : FinMap key_cmp ℕ) → replaced ≡ insert numbers key number → after ≡ with_last replaced key last → after ≡ numbers
  as_before last is replaced after ok again = again ∙ ap (λ m. with_last m key last) ok ∙ restored last is
