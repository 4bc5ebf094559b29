-- The blocks of two fronts, joined.
use Rattle.std.proofs.Common.{◌≡◌, ◌<◌, List, [], ◌∷◌, ◌++◌, length, Option, Some, None, sym, ap, ◌∙◌, append_assoc, arith, length-append}
use Rattle.std.proofs.lemmas.List.{append-nil}
use Rattle.raw_lists.specs.Chain.{joined}

module _ {X : Type 0} where
  -- what two lists that may be absent have together
  pub both_joined : (m r : Option (List X)) (kept one two : List X) → kept ≡ one ++ two → m ≡ Some one → r ≡ Some two → kept ≡ joined m ++ joined r
  both_joined m r kept one two e first second = e ∙ sym (ap (λ (o : Option (List X)). joined o ++ joined r) first ∙ ap (λ (o : Option (List X)). one ++ joined o) second)

  pub first_joined : (m r : Option (List X)) (one : List X) → m ≡ Some one → r ≡ None → one ≡ joined m ++ joined r
  first_joined m r one first second = sym (ap (λ (o : Option (List X)). joined o ++ joined r) first ∙ ap (λ (o : Option (List X)). one ++ joined o) second ∙ append-nil one)

  pub second_joined : (m r : Option (List X)) → m ≡ None → joined r ≡ joined m ++ joined r
  second_joined m r first = sym (ap (λ (o : Option (List X)). joined o ++ joined r) first)

  -- a front, one block and what stands behind it
  pub fronts_joined : (a n : X) (m r : Option (List X)) (mine theirs added kept : List X) → a ∷ joined m ≡ added → added ≡ mine ++ n ∷ [] → n ∷ joined r ≡ theirs → kept ≡ joined m ++ joined r → a ∷ kept ≡ mine ++ theirs
  fronts_joined a n m r mine theirs added kept with_one one others rest =
      ap (λ (l : List X). a ∷ l) rest ∙ ap (λ (l : List X). l ++ joined r) (with_one ∙ one)
      ∙ append_assoc mine (n ∷ []) (joined r) ∙ ap (λ (l : List X). mine ++ l) others

  -- blocks in front of a front and its last block
  pub blocks_prepended : (o f : Option (List X)) (front : List X) (last : X) (mine whole : List X) → whole ≡ front ++ last ∷ [] → mine ≡ joined f ++ last ∷ [] → front ≡ joined o ++ joined f → whole ≡ joined o ++ mine
  blocks_prepended o f front last mine whole is own together =
      is ∙ ap (λ (l : List X). l ++ last ∷ []) together
      ∙ append_assoc (joined o) (joined f) (last ∷ []) ∙ ap (λ (l : List X). joined o ++ l) (sym own)

  pub some_with_last : (front : List X) (last : X) (mine : List X) → mine ≡ front ++ last ∷ [] → 0 < length mine
  some_with_last front last mine is = omega (arith, ap length is, length-append front (last ∷ []))
