-- What the loops over the items of a configuration keep, where doubts are listed.
use Rattle.std.proofs.Common.{◌≡◌, ℕ, ◌+◌, ◌<◌, ◌≤◌, ◌||◌, List, [], ◌∷◌, ◌++◌, length, get_or, map, drop, refl, sym, ap, ◌∙◌, append_assoc}
use Rattle.std.proofs.lemmas.List.{append-nil, drop_more}
use Rattle.std.proofs.Math.ListN.{drop_of_length-le}
use Rattle.std.specs.Borrow.{Bor}
use Rattle.std.specs.List.{list_any}
use Rattle.std.specs.Str.{bytes_eq}
use Rattle.rad_advice.specs.declared.doubts.Doubtful.{Doubtful}
use Rattle.rad_advice.specs.Doubts.{each_doubt}

-- whether one of the texts behind references has these octets
pub any_text : (texts : List (Bor (List ℕ))) (octets : List ℕ) → list_any (λ t. bytes_eq t.now octets) texts ≡ list_any (λ t. bytes_eq t octets) (map (λ t. t.now) texts)
any_text [] octets = refl
any_text (t ∷ ts) octets = ap (λ b. bytes_eq t.now octets || b) (any_text ts octets)

module _ {X : Type 0} (f : ℕ → X → List Doubtful) (xs : List X) where
  -- the doubts about the next item, and those about the items behind it
  next_item : (i : ℕ) (x : X) → i < length xs → x ≡ get_or xs i x → each_doubt f i (drop i xs) ≡ f i x ++ each_doubt f (i + 1) (drop (i + 1) xs)
  unfolding each_doubt
  next_item i x lt here = rw (drop_more xs i x lt, ← here) refl

  pub doubts_onward : (i : ℕ) (x : X) (told more all : List Doubtful) → i < length xs → x ≡ get_or xs i x
      → more ≡ told ++ f i x → told ++ each_doubt f i (drop i xs) ≡ all → more ++ each_doubt f (i + 1) (drop (i + 1) xs) ≡ all
  doubts_onward i x told more all lt here one e =
      ap (λ (ds : List Doubtful). ds ++ each_doubt f (i + 1) (drop (i + 1) xs)) one
      ∙ append_assoc told (f i x) (each_doubt f (i + 1) (drop (i + 1) xs))
      ∙ ap (λ (ds : List Doubtful). told ++ ds) (sym (next_item i x lt here))
      ∙ e

  pub doubts_end : (i : ℕ) (told all : List Doubtful) → length xs ≤ i → told ++ each_doubt f i (drop i xs) ≡ all → told ≡ all
  unfolding each_doubt
  doubts_end i told all le e =
      sym (append-nil told)
      ∙ sym (ap (λ (ys : List X). told ++ each_doubt f i ys) (drop_of_length-le xs le))
      ∙ e
