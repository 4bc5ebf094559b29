-- How the nodes of a chain lead to one another after chains are joined or parted.
use Rattle.std.proofs.Common.{◌≡◌, ℕ, zero, suc, ◌+◌, ◌<◌, ◌^◌, List, [], ◌∷◌, ◌++◌, Option, Some, None, refl, sym, ap, ◌∙◌, subst, arith, length, drop, get_or, slice_get}
use denote.RawPtr.{Ptr}
use Rattle.raw_lists.specs.Nodes.{cell_at, BeginsAt, EndsAt, IsShownAt}
use Rattle.raw_lists.specs.Chain.{elems, first_place, last_place, IsFollowed, IsLinked, IsStep}
use Rattle.raw_lists.specs.declared.chain.Node.{Node}
use Rattle.raw_lists.specs.declared.nodes.NodePlace.{NodePlace}

module _ {E : Type 0} where
  value_is : (a b : Ptr × Node E) → Some a ≡ Some b → a.1 ≡ b.1
  value_is a b e = let same : a ≡ b = cc in ap (λ w. w.1) same

  pub begins_at : (cells : List (Ptr × Node E)) (head : NodePlace) → first_place cells ≡ Some head → BeginsAt cells head.at
  unfolding first_place
  begins_at [] head e = cc
  begins_at (cell ∷ cells) head e = let place : NodePlace = record { at = cell.0 } in let same : place ≡ head = cc in (cell.1, cells, ap (λ (p : NodePlace). (p.at, cell.1) ∷ cells) same)

  pub ends_at : (cells : List (Ptr × Node E)) (tail : NodePlace) → last_place cells ≡ Some tail → EndsAt cells tail.at
  unfolding last_place
  ends_at [] tail e = cc
  ends_at (cell ∷ []) tail e = let place : NodePlace = record { at = cell.0 } in let same : place ≡ tail = cc in (cell.1, [], ap (λ (p : NodePlace). (p.at, cell.1) ∷ []) same)
  ends_at (cell ∷ next ∷ cells) tail e = let more = ends_at (next ∷ cells) tail e in (more.0, cell ∷ more.1, ap (λ l. cell ∷ l) more.2)

  first_of : (front more : List (Ptr × Node E)) (p : Ptr) (x y : Node E) → first_place (front ++ (p, x) ∷ []) ≡ first_place ((front ++ (p, y) ∷ []) ++ more)
  unfolding first_place
  first_of [] more p x y = refl
  first_of (cell ∷ front) more p x y = refl

  last_of : (front more : List (Ptr × Node E)) (next : NodePlace) → first_place more ≡ Some next → last_place (front ++ more) ≡ last_place more
  unfolding first_place last_place
  last_of [] more next e = refl
  last_of (cell ∷ []) [] next e = cc
  last_of (cell ∷ []) (other ∷ more) next e = refl
  last_of (cell ∷ then ∷ front) more next e = last_of (then ∷ front) more next e

  followed_on : (front more : List (Ptr × Node E)) (p : Ptr) (x y : Node E) (next : NodePlace) → IsFollowed (front ++ (p, x) ∷ []) → IsFollowed more → first_place more ≡ Some next → y.next ≡ Some next
      → IsFollowed ((front ++ (p, y) ∷ []) ++ more)
  unfolding IsFollowed
  followed_on [] more p x y next h m e f = (f ∙ sym e, m)
  followed_on (cell ∷ front) more p x y next h m e f = (h.0 ∙ first_of front more p x y, followed_on front more p x y next h.1 m e f)

  elems_on : (front more : List (Ptr × Node E)) (p : Ptr) (x y : Node E) → y.elem ≡ x.elem → elems ((front ++ (p, y) ∷ []) ++ more) ≡ elems (front ++ (p, x) ∷ []) ++ elems more
  unfolding elems
  elems_on [] more p x y e = ap (λ z. z ∷ elems more) e
  elems_on (cell ∷ front) more p x y e = ap (λ l. cell.1.elem ∷ l) (elems_on front more p x y e)

  -- a chain whose last node leads on to another chain
  pub joined_on : (head tail next end : NodePlace) (cells more front new : List (Ptr × Node E)) (x y : Node E) → IsLinked head tail cells → IsLinked next end more
      → cells ≡ front ++ (tail.at, x) ∷ [] → y.next ≡ Some next → y.elem ≡ x.elem → new ≡ (front ++ (tail.at, y) ∷ []) ++ more
      → IsLinked head end new × (elems new ≡ elems cells ++ elems more)
  joined_on head tail next end cells more front new x y one two e leads same made = (
    record {
      begins = ap first_place made ∙ sym (first_of front more tail.at x y) ∙ ap first_place (sym e) ∙ one.begins;
      ends = ap last_place made ∙ last_of (front ++ (tail.at, y) ∷ []) more next two.begins ∙ two.ends;
      followed = subst IsFollowed (sym made) (followed_on front more tail.at x y next (subst IsFollowed e one.followed) two.followed two.begins leads);
    },
    ap elems made ∙ elems_on front more tail.at x y same ∙ ap (λ l. elems l ++ elems more) (sym e),
  )

  -- a chain without its first node
  pub parted_on : (head tail next : NodePlace) (cells more : List (Ptr × Node E)) (x : Node E) → IsLinked head tail cells → cells ≡ (head.at, x) ∷ more → x.next ≡ Some next
      → IsLinked next tail more
  unfolding last_place IsFollowed first_place
  parted_on head tail next cells [] x is e leads = let f = subst IsFollowed e is.followed in let no = sym leads ∙ f.0 in cc
  parted_on head tail next cells (cell ∷ more) x is e leads =
      let f = subst IsFollowed e is.followed in record { begins = sym f.0 ∙ leads; ends = ap last_place (sym e) ∙ is.ends; followed = f.1 }

  pub none_after : (head tail : NodePlace) (cells more : List (Ptr × Node E)) (x : Node E) → IsLinked head tail cells → cells ≡ (head.at, x) ∷ more → x.next ≡ None → more ≡ []
  unfolding IsFollowed first_place
  none_after head tail cells [] x is e none = refl
  none_after head tail cells (cell ∷ more) x is e none = let f = subst IsFollowed e is.followed in let no = sym none ∙ f.0 in cc

  pub elems_of : (cells more : List (Ptr × Node E)) (p : Ptr) (x : Node E) → cells ≡ (p, x) ∷ more → elems cells ≡ x.elem ∷ elems more
  unfolding elems
  elems_of cells more p x e = ap elems e

  pub elems_none : (cells : List (Ptr × Node E)) → cells ≡ [] → elems cells ≡ []
  unfolding elems
  elems_none cells e = ap elems e

  pub one_linked : (place : NodePlace) (cells : List (Ptr × Node E)) (elem : E) → cells ≡ (place.at, record { next = None; elem = elem }) ∷ [] → IsLinked place place cells × (elems cells ≡ elem ∷ [])
  unfolding elems first_place last_place IsFollowed
  one_linked place cells elem e = (
    record { begins = ap first_place e; ends = ap last_place e; followed = subst IsFollowed (sym e) (refl, tt) },
    ap elems e,
  )

  -- the one node of a region
  pub one_cell : (p : Ptr) (places : List (Option (Node E))) (x : Node E) → places ≡ Some x ∷ [] → cell_at p places ≡ (p, x) ∷ []
  one_cell p places x e = ap (cell_at p) e

  pub held_first : (places : List (Option (Node E))) (x : Node E) → places ≡ Some x ∷ [] → get_or places 0 None ≡ Some x
  held_first places x e = ap (λ l. get_or l 0 None) e

  -- what was read is what was held
  pub read_is : (places : List (Option (Node E))) (x y : Node E) → places ≡ Some x ∷ [] → get_or places 0 None ≡ Some y → y ≡ x
  read_is places x y e f = let both : Some x ≡ Some y = sym (held_first places x e) ∙ f in cc

  length-elems : (cells : List (Ptr × Node E)) → length (elems cells) ≡ length cells
  unfolding elems
  length-elems [] = refl
  length-elems (cell ∷ cells) = ap suc (length-elems cells)

  pub begun : (head tail : NodePlace) (cells : List (Ptr × Node E)) → IsLinked head tail cells → length (elems cells) < 2 ^ 64 → IsStep 0 (Some head) cells
  begun head tail cells is few = let n = length-elems cells in record { here = sym is.begins; followed = is.followed; few = omega arith; within = omega arith }

  followed_at : (cells : List (Ptr × Node E)) (i : ℕ) → IsFollowed cells → IsFollowed (drop i cells)
  unfolding IsFollowed
  followed_at [] zero h = h
  followed_at [] (suc i) h = h
  followed_at (cell ∷ cells) zero h = h
  followed_at (cell ∷ cells) (suc i) h = followed_at cells i h.1

  pub none_at : (cells : List (Ptr × Node E)) (i : ℕ) → None ≡ first_place (drop i cells) → elems (drop i cells) ≡ []
  unfolding first_place elems
  none_at [] zero e = refl
  none_at [] (suc i) e = refl
  none_at (cell ∷ cells) zero e = cc
  none_at (cell ∷ cells) (suc i) e = none_at cells i e

  -- the node that a step is at
  pub some_at : (cells : List (Ptr × Node E)) (i : ℕ) (place : NodePlace) → Some place ≡ first_place (drop i cells)
      → (x : Node E) × (slice_get cells i ≡ Some (place.at, x)) × (drop i cells ≡ (place.at, x) ∷ drop (i + 1) cells) × (i < length cells)
  unfolding first_place
  some_at [] zero place e = cc
  some_at [] (suc i) place e = cc
  some_at (cell ∷ cells) zero place e = let here : NodePlace = record { at = cell.0 } in let same : here ≡ place = cc in
      (cell.1, ap (λ (p : NodePlace). Some (p.at, cell.1)) same, ap (λ (p : NodePlace). (p.at, cell.1) ∷ cells) same, omega arith)
  some_at (cell ∷ cells) (suc i) place e = let next : suc (i + 1) ≡ suc i + 1 = omega arith in let more = some_at cells i place e in let w = more.3 in
      (more.0, more.1, more.2 ∙ ap (λ n. (place.at, more.0) ∷ drop n (cell ∷ cells)) next, omega arith)

  pub shown_at : (cells : List (Ptr × Node E)) (i : ℕ) (next : Option NodePlace) (place : NodePlace) (x : Node E) → IsStep i next cells → next ≡ Some place → IsShownAt cells i place.at x
      → IsStep (i + 1) x.next cells × (elems (drop i cells) ≡ x.elem ∷ elems (drop (i + 1) cells))
  unfolding IsFollowed elems
  shown_at cells i next place x is e seen =
      let at = some_at cells i place (sym e ∙ is.here) in
      let same : at.0 ≡ x = value_is (place.at, at.0) (place.at, x) (sym at.1 ∙ seen) in
      let left : drop i cells ≡ (place.at, x) ∷ drop (i + 1) cells = at.2 ∙ ap (λ n. (place.at, n) ∷ drop (i + 1) cells) same in
      let f = subst IsFollowed left (followed_at cells i is.followed) in let w = at.3 in
      (record { here = f.0; followed = is.followed; few = is.few; within = omega arith }, ap elems left)
