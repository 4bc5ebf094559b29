-- A `&` to a region, and one to nodes, is made where one to a value is. Assumes `Logic`.
use Prim.Native.Nat.{ℕ, ◌+◌, ◌*◌, ◌^◌}
use Rattle.std.specs.Prelude.{List, [], ◌∷◌, Option, Some, None, length}
use Rattle.std.specs.Mem.{type_size}
use seplogic.Ra.Ura.{Ura}
use base.Fml.{Fml, Lft, Incl, ftrue, ffalse, fsep, flt}
use mir.Syntax.{Ty, ty_array}
use mir.Raw.{raw}
use types.Logic.{Logic}
use denote.RattleType.{RattleType, RowLaws}
use denote.Memory.{lone}
use denote.Param.Laws.{Laws}
use denote.RawPtr.{Ptr, block_ptr, null_ptr}
use denote.Sharing.{ShrLaws, beside, said, nothing}
use denote.SharingLaws.{beside_shr_laws, nothing_shr_laws, said_shr_laws}
use denote.Shares.{Shares-less}
use denote.Struct.Lending.{Lends, Lends-both, Lends-nothing, Lends-said, Lends-false}
use Rattle.raw_lists.specs.Region.{place_owns, places_own, region_owns, place_lent, places_lent, region_lent}
use Rattle.raw_lists.specs.Nodes.{nodes_own, nodes_lent}

module _ (R : RattleType) (L : RowLaws R) where
  place_lent_laws : (b o : ℕ) (place : Option R.Denot) → ShrLaws (place_lent R b o place)
  place_lent_laws b o (Some x) = L x b o
  place_lent_laws b o None = nothing_shr_laws

  places_lent_laws : (b o : ℕ) (places : List (Option R.Denot)) → ShrLaws (places_lent R b o places)
  places_lent_laws b o [] = nothing_shr_laws
  places_lent_laws b o (place ∷ places) = beside_shr_laws _ _ (place_lent_laws b o place) (places_lent_laws b (o + type_size R) places)

  pub region_lent_laws : (p : Ptr) (places : List (Option R.Denot)) → ShrLaws (region_lent R p places)
  region_lent_laws (block_ptr b o) places = beside_shr_laws _ _ (said_shr_laws (flt (length places * type_size R) (2 ^ 63)) tt) (beside_shr_laws _ _ (places_lent_laws b o places) nothing_shr_laws)
  region_lent_laws null_ptr places = said_shr_laws ffalse tt

  pub nodes_lent_laws : (cells : List (Ptr × R.Denot)) → ShrLaws (nodes_lent R cells)
  nodes_lent_laws [] = nothing_shr_laws
  nodes_lent_laws (cell ∷ cells) = beside_shr_laws _ _ (region_lent_laws cell.0 (Some cell.1 ∷ [])) (nodes_lent_laws cells)

module _ {M : Type 1} {𝓤 : Ura M} (𝓛 : Logic 𝓤) (l : Lft) (R : RattleType) (L : Laws R) (inc : Incl l R.lives) where
  Lends-place : (b o : ℕ) (place : Option R.Denot) → Lends 𝓛 (place_owns R b o place) (place_lent R b o place) l
  Lends-place b o (Some x) = λ κ ts. Shares-less 𝓛 R R.lives l inc (L.shares 𝓛) x κ ts b o
  Lends-place b o None = Lends-nothing 𝓛 (place_owns R b o None) l

  Lends-places : (b o : ℕ) (places : List (Option R.Denot)) → Lends 𝓛 (places_own R b o places) (places_lent R b o places) l
  Lends-places b o [] = Lends-nothing 𝓛 ftrue l
  Lends-places b o (place ∷ places) =
      Lends-both 𝓛 (place_owns R b o place) (places_own R b (o + type_size R) places) (place_lent R b o place) (places_lent R b (o + type_size R) places) l
      (Lends-place b o place) (Lends-places b (o + type_size R) places)

  pub Lends-region : (token : Ty → Ptr → Fml) (p : Ptr) (places : List (Option R.Denot)) → Lends 𝓛 (region_owns R token p places) (region_lent R p places) l
  Lends-region token (block_ptr b o) places =
      let small = flt (length places * type_size R) (2 ^ 63) in let right = token (raw (ty_array (lone R.mir) (length places))) (block_ptr b o) in
      Lends-both 𝓛 small (fsep (places_own R b o places) right) (said small) (beside (places_lent R b o places) nothing) l (Lends-said 𝓛 small tt l)
      (Lends-both 𝓛 (places_own R b o places) right (places_lent R b o places) nothing l (Lends-places b o places) (Lends-nothing 𝓛 right l))
  Lends-region token null_ptr places = Lends-false 𝓛 (said ffalse) l

  pub Lends-nodes : (token : Ty → Ptr → Fml) (cells : List (Ptr × R.Denot)) → Lends 𝓛 (nodes_own R token cells) (nodes_lent R cells) l
  Lends-nodes token [] = Lends-nothing 𝓛 ftrue l
  Lends-nodes token (cell ∷ cells) =
      Lends-both 𝓛 (region_owns R token cell.0 (Some cell.1 ∷ [])) (nodes_own R token cells) (region_lent R cell.0 (Some cell.1 ∷ [])) (nodes_lent R cells) l
      (Lends-region token cell.0 (Some cell.1 ∷ [])) (Lends-nodes token cells)
