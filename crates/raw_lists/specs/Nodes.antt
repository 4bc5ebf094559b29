-- Which memory the nodes of a chain own and lend, each a region of one place, and which node lies at which address.
-- Own. R is the row of the values.
use Rattle.std.specs.Prelude.{◌≡◌, ℕ, List, [], ◌∷◌, ◌++◌, Option, Some, None, slice_get}
use base.Fml.{Lft, Fml, ftrue, fsep}
use mir.Syntax.{Ty}
use denote.RattleType.{RattleType}
use denote.RawPtr.{Ptr}
use denote.Sharing.{nothing, beside}
use Rattle.raw_lists.specs.Region.{region_owns, region_lent}

module _ {T : Type 0} where
  -- the one place holds a value
  abbrev pub IsHeld : List (Option T) → Type 0
  IsHeld places = (value : T) × (places ≡ Some value ∷ [])

  -- the node at p, whose place is the first of these
  abbrev pub cell_at : Ptr → List (Option T) → List (Ptr × T)
  cell_at p [] = []
  cell_at p (None ∷ places) = []
  cell_at p (Some value ∷ places) = (p, value) ∷ []

  -- the first node is at p
  abbrev pub BeginsAt : List (Ptr × T) → Ptr → Type 0
  BeginsAt cells p = (value : T) × (rest : List (Ptr × T)) × (cells ≡ (p, value) ∷ rest)

  -- the last node is at p
  abbrev pub EndsAt : List (Ptr × T) → Ptr → Type 0
  EndsAt cells p = (value : T) × (front : List (Ptr × T)) × (cells ≡ front ++ (p, value) ∷ [])

  -- the node at an index has the value, and is at p
  abbrev pub IsShownAt : List (Ptr × T) → ℕ → Ptr → T → Type 0
  IsShownAt cells index p value = slice_get cells index ≡ Some (p, value)

  -- the node at an index is at p
  abbrev pub LiesAt : List (Ptr × T) → ℕ → Ptr → Type 0
  LiesAt cells index p = (value : T) × IsShownAt cells index p value

module _ (R : RattleType) where
  -- the nodes, and with each the token, which is the right to release its memory
  abbrev pub nodes_own : (Ty → Ptr → Fml) → List (Ptr × R.Denot) → Fml
  nodes_own token [] = ftrue
  nodes_own token (cell ∷ cells) = fsep (region_owns R token cell.0 (Some cell.1 ∷ [])) (nodes_own token cells)

  -- what a `&` to the nodes has of them
  abbrev pub nodes_lent : List (Ptr × R.Denot) → Lft → Fml
  nodes_lent [] = nothing
  nodes_lent (cell ∷ cells) = beside (region_lent R cell.0 (Some cell.1 ∷ [])) (nodes_lent cells)
