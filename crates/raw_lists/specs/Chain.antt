-- The links between the nodes of a chain. Own.
use Rattle.std.specs.Prelude.{◌≡◌, ℕ, ◌<◌, ◌≤◌, ◌^◌, List, [], ◌∷◌, Option, Some, None, drop, length}
use Rattle.std.specs.Borrow.{Bor}
use denote.RawPtr.{Ptr}
use Rattle.raw_lists.specs.declared.chain.Node.{Node}
use Rattle.raw_lists.specs.declared.nodes.NodePlace.{NodePlace}

module _ {E : Type 0} where
  -- the elements of the nodes, in order
  unfoldable pub elems : List (Ptr × Node E) → List E
  elems [] = []
  elems (cell ∷ cells) = cell.1.elem ∷ elems cells

  -- the place of the first node
  unfoldable pub first_place : List (Ptr × Node E) → Option NodePlace
  first_place [] = None
  first_place (cell ∷ cells) = Some (record { at = cell.0 })

  -- the place of the last node
  unfoldable pub last_place : List (Ptr × Node E) → Option NodePlace
  last_place [] = None
  last_place (cell ∷ []) = Some (record { at = cell.0 })
  last_place (cell ∷ next ∷ cells) = last_place (next ∷ cells)

  -- each node has the place of the next one, and the last node has none
  unfoldable pub IsFollowed : List (Ptr × Node E) → Type 0
  IsFollowed [] = Unit {0}
  IsFollowed (cell ∷ cells) = (cell.1.next ≡ first_place cells) × IsFollowed cells

  -- linked nodes from one end to the other
  pub record IsLinked (head tail : NodePlace) (cells : List (Ptr × Node E)) : Type 0 where
    pub begins : first_place cells ≡ Some head
    pub ends : last_place cells ≡ Some tail
    pub followed : IsFollowed cells

  -- the place of the node at an index, or none after the last node
  pub record IsStep (index : ℕ) (next : Option NodePlace) (cells : List (Ptr × Node E)) : Type 0 where
    pub here : next ≡ first_place (drop index cells)
    pub followed : IsFollowed cells
    pub few : length cells < 2 ^ 64
    pub within : index ≤ length cells

-- the list, if there is one
abbrev pub joined : {X : Type 0} → Option (List X) → List X
joined None = []
joined (Some list) = list

-- the target of a `&`, if there is one
abbrev pub shown : {X : Type 0} → Option (Bor X) → List X
shown None = []
shown (Some x) = x.now ∷ []
