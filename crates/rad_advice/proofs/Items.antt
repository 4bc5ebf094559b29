-- What the loops over the values of an array and over the keys of a table keep, and what is found in a document.
use Rattle.std.proofs.Common.{◌≡◌, ℕ, ◌+◌, ◌<◌, ◌≤◌, List, ◌∷◌, ◌++◌, length, get_or, drop, unwrap_or, String, Global, string_bytes, sym, ap, ◌∙◌, append_assoc}
use Rattle.std.proofs.lemmas.List.{append-nil, drop_more}
use Rattle.std.proofs.Math.ListN.{drop_of_length-le}
use Rattle.toml.specs.Data.{Members, as_table, no_members}
use Rattle.toml.specs.View.{view, items_view, members_view}
use Rattle.toml.specs.declared.value.Value.{Value}
use Rattle.rad_config.specs.declared.reading.faults.Part.{Part}
use Rattle.rad_config.specs.declared.reading.faults.Part.TheVariants.{Top, Client, Home, Realm}
use Rattle.rad_config.specs.declared.reading.faults.Key.TheVariants as its
use Rattle.rad_realms.specs.Spot.{part_name}
use Rattle.rad_advice.specs.Keys.{UnreadEntry, unless_read, read_names, items_at, unread_in_table, unread_in_items, unread_in_part, unread_in}

module _ (part : Part) (names : List (List ℕ)) (values : List Value) where
  -- what was found so far, and what will be found in the rest
  pub items_onward : (i : ℕ) (value : Value) (told more all : List UnreadEntry) → i < length values → value ≡ get_or values i value
      → more ≡ told ++ unread_in_table part i names (unwrap_or (as_table (view value)) no_members)
      → told ++ unread_in_items part i names (items_view (drop i values)) ≡ all
      → more ++ unread_in_items part (i + 1) names (items_view (drop (i + 1) values)) ≡ all
  items_onward i value told more all lt here one e =
      let front : drop i values ≡ value ∷ drop (i + 1) values = drop_more values i value lt ∙ ap (λ (v : Value). v ∷ drop (i + 1) values) (sym here) in
      let table = unread_in_table part i names (unwrap_or (as_table (view value)) no_members) in
      let rest = unread_in_items part (i + 1) names (items_view (drop (i + 1) values)) in
      ap (λ (xs : List UnreadEntry). xs ++ rest) one
      ∙ append_assoc told table rest
      ∙ sym (ap (λ (vs : List Value). told ++ unread_in_items part i names (items_view vs)) front)
      ∙ e

  -- nothing is left at the end
  pub items_end : (i : ℕ) (told all : List UnreadEntry) → length values ≤ i → told ++ unread_in_items part i names (items_view (drop i values)) ≡ all → told ≡ all
  items_end i told all le e =
      sym (append-nil told)
      ∙ sym (ap (λ (vs : List Value). told ++ unread_in_items part i names (items_view vs)) (drop_of_length-le values le))
      ∙ e

module _ (part : Part) (index : ℕ) (names : List (List ℕ)) where
  -- the same of the keys of a table
  pub keys_onward : (key : String Global) (value : Value) (rest members : List (String Global × Value)) (name : List ℕ) (told more all : List UnreadEntry)
      → members ≡ (key, value) ∷ rest → name ≡ string_bytes key
      → more ≡ told ++ unless_read part index names name
      → told ++ unread_in_table part index names (members_view members) ≡ all
      → more ++ unread_in_table part index names (members_view rest) ≡ all
  keys_onward key value rest members name told more all front same one e =
      let here = unless_read part index names (string_bytes key) in
      let others = unread_in_table part index names (members_view rest) in
      ap (λ (xs : List UnreadEntry). xs ++ others) (one ∙ ap (λ (n : List ℕ). told ++ unless_read part index names n) same)
      ∙ append_assoc told here others
      ∙ sym (ap (λ (ms : List (String Global × Value)). told ++ unread_in_table part index names (members_view ms)) front)
      ∙ e

-- four lists, each appended to what was there
four_appended : (before a b c d p q r s : List UnreadEntry) → a ≡ before ++ p → b ≡ a ++ q → c ≡ b ++ r → d ≡ c ++ s → d ≡ before ++ (p ++ (q ++ (r ++ s)))
four_appended before a b c d p q r s f g h i = rw (i, h, g, f) (simp append_assoc)

-- the keys of a document, out of those of the top and of each part
pub document_joined : (document : Members) (before a b c d : List UnreadEntry)
    → a ≡ before ++ unread_in_table Top 0 (read_names Top) document
    → b ≡ a ++ unread_in_items Client 0 (read_names Client) (items_at (part_name Client) document)
    → c ≡ b ++ unread_in_items Home 0 (read_names Home) (items_at (part_name Home) document)
    → d ≡ c ++ unread_in_items Realm 0 (read_names Realm) (items_at (part_name Realm) document)
    → d ≡ before ++ unread_in document
unfolding unread_in unread_in_part
document_joined document before a b c d f g h i =
    four_appended before a b c d (unread_in_table Top 0 (read_names Top) document) (unread_in_part Client its.Client document) (unread_in_part Home its.Home document) (unread_in_part Realm its.Realm document)
    f g h i
