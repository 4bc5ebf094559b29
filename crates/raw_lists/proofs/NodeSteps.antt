-- What the walks of nodes share. Assumes `Logic`.
--     nodes_had, nodes_made      nodes by value
--     nodes_joined, nodes_parted      two lists of nodes
--     node_of, node_out      a region of one place, and a node
--     nodes_shown, node_seen      the nodes behind a `&`, and one of them
use mathlib.Core.Path.{◌≡◌, refl, sym, ap, subst, ◌∙◌}
use Prim.Native.Nat.{ℕ, zero, suc, ◌*◌, ◌<◌, ◌^◌}
use mathlib.Core.List.{List, [], ◌∷◌, ◌++◌}
use seplogic.Ra.Ura.{Ura}
use lib.ListN.{length}
use base.Logic.{ent, sep, emp, never, id⊢}
use base.Fml.{Fml, Lft, fhide}
use lib.Dec.{T}
use mir.Syntax.{Ty, ty_ptr, ty_struct, tcons, tnil}
use mir.Val.{Val, vstruct, vcons, vnil, of_list, has_ty, WT}
use types.Logic.{Logic, sem}
use types.Kit.{Item, Goal, Seq, Step, step, ‵, ◌⊛◌, ◌$◌, ◌∵◌, !, qed, by, move, keep, drop, use2, use1, split, fsplit, fjoin, fpick, feq_l, flt_i, flt_l, rewrite, done}
use denote.RattleType.{RattleType}
use denote.Laws.{Is}
use denote.Memory.{hidden_shr}
use denote.Opens.{unhide}
use denote.RawPtr.{Ptr, block_ptr, null_ptr, ptr_val, in_a_block}
use denote.Shadow.{pure_i, makes_shadow}
use denote.Steps.{nothing}
use denote.Struct.Struct.{Struct}
use denote.Struct.Lending.{lent_out}
use denote.Struct.Owning.{shape}
use denote.Struct.Declared as Declared
use Rattle.core.proofs.mem.Param.{El, R, el_x}
use Rattle.core.proofs.alloc.Calls.{Al, token}
use Rattle.core.proofs.slots.Leases.{P, block_ty}
use Rattle.core.specs.contracts.marker.PhantomData as marker
use Rattle.std.specs.Prelude.{Option, Some, slice_get}
use Rattle.std.proofs.Common.{lit<}
use Rattle.raw_lists.specs.Region.{places_own, region_owns, region_lent}
use Rattle.raw_lists.specs.Nodes.{nodes_own, nodes_lent, cell_at, IsHeld}
use Rattle.raw_lists.proofs.Regions.{sz, Rg, D, region_val, region_had, region_made}
use Rattle.raw_lists.specs.declared.nodes.Nodes.{Nodes}
use Rattle.raw_lists.specs.contracts.nodes.Nodes as C
use Rattle.raw_lists.specs.contracts.nodes.NodePlace as Spot

abbrev pub nodes_val : Val
nodes_val = vstruct (vcons (vstruct vnil) (vcons (vstruct vnil) vnil))

abbrev pub nodes_ty : Ty
nodes_ty = ty_struct [] (tcons (ty_struct [] tnil) (tcons (ty_struct [] tnil) tnil))

abbrev pub place_ty : Ty
place_ty = ty_struct [] (tcons ty_ptr tnil)

pub nodes_good : T (has_ty nodes_ty nodes_val) × WT nodes_val
nodes_good = (tt, (tt, (tt, tt)))

abbrev pub place_val : Ptr → Val
place_val p = vstruct (vcons (ptr_val p) vnil)

pub ptr_good : (p : Ptr) → T (has_ty ty_ptr (ptr_val p)) × WT (ptr_val p)
ptr_good (block_ptr b o) = (tt, tt)
ptr_good null_ptr = (tt, record { fits = lit< tt })

pub place_good : (p : Ptr) → T (has_ty place_ty (place_val p)) × WT (place_val p)
place_good (block_ptr b o) = (tt, (tt, tt))
place_good null_ptr = (tt, (record { fits = lit< tt }, tt))

pub place_made : {M : Type 1} {𝓤 : Ura M} (𝓛 : Logic 𝓤) (p : Ptr) → ent 𝓤 (emp 𝓤) (sem 𝓛 (Spot.the_row.own_val (record { at = p }) (place_val p ∷ [])))
place_made 𝓛 p = makes_shadow 𝓛 ((Struct (Declared.shape Spot.the_type)).own_val (p, tt) (place_val p ∷ [])) (λ _. (tt, (tt, tt))) ((ptr_val p ∷ [], tt), (refl, (refl, tt)))

pub place_told : (p : Ptr) (vs : List Val) → Is (Struct (Declared.shape Spot.the_type)) (p, tt) vs → vs ≡ place_val p ∷ []
place_told p vs is = is.1.0 ∙ ap (λ (ws : List Val). vstruct (of_list (ws ++ [])) ∷ []) is.1.1.0

module _ (E : El) (Z : Al) where
  abbrev pub Nr : RattleType
  Nr = C.the_row (R E) (P E Z) Z.g

  abbrev pub N : Type 0
  N = Nodes (el_x E) Z.row.Denot

  -- the data fields
  abbrev pub Data : RattleType
  Data = Struct (shape (C.the_type (R E) (P E Z) Z.g))

  pub nodes_told : (vs : List Val) → Is Data (tt, (tt, tt)) vs → vs ≡ nodes_val ∷ []
  nodes_told vs is = is.1.0 ∙ ap (λ (ws : List Val). vstruct (of_list (ws ++ (is.0.1.0 ++ []))) ∷ []) is.1.1.0.1.0 ∙ ap (λ (ws : List Val). vstruct (of_list (vstruct vnil ∷ (ws ++ []))) ∷ []) is.1.1.1.0.1.0

  -- what nodes own, of one allocator
  abbrev pub Held : Z.row.Denot → List (Ptr × el_x E) → Fml
  Held heap cells = nodes_own (R E) (token Z heap) cells

module _ (E : El) (Z : Al) {M : Type 1} {𝓤 : Ura M} {𝓛 : Logic 𝓤} {K : Type 0} {Γ : List (Item 𝓤)} {G : Goal 𝓤 𝓛.H} where
  pub nodes_had : K → (d : N E Z) (vs : List Val)
      → (vs ≡ nodes_val ∷ [] → Seq K 𝓛 (‵ (Held E Z d.heap d.cells) ∷ Γ) G) → Seq K 𝓛 (‵ ((Nr E Z).own_val d vs) ∷ Γ) G
  nodes_had t d vs k =
      fsplit t $ fpick t (λ vss. fsplit t $ feq_l t (λ all. fsplit t $ fpick t (λ none₀. fsplit t $ feq_l t (λ e₀. drop t $ fsplit t $ fpick t (λ none₁. fsplit t $ feq_l t (λ e₁. drop t $ drop t $
      k (all ∙ (λ i. vstruct (of_list (e₀ i ++ (e₁ i ++ []))) ∷ []))))))))

  pub nodes_made : K → (d : N E Z) → Step K 𝓛 (‵ ((Nr E Z).own_val d (nodes_val ∷ [])) ∷ Γ) G (‵ (Held E Z d.heap d.cells) ∷ Γ) G
  nodes_made t d = step (λ next.
      pure_i t ((Data E Z).own_val (tt, (tt, tt)) (nodes_val ∷ [])) (λ vss. (tt, ((λ uss. (tt, tt)), ((λ uss. (tt, tt)), tt))))
      ((vstruct vnil ∷ [], (vstruct vnil ∷ [], tt)), (refl, ((tt, (refl, tt)), ((tt, (refl, tt)), tt)))) $ fjoin t $ next)

module _ (E : El) (Z : Al) {M : Type 1} {𝓤 : Ura M} (𝓛 : Logic 𝓤) (heap : Z.row.Denot) where
  abbrev Has : List (Ptr × el_x E) → Fml
  Has = Held E Z heap

  pub nodes_joined : (cells more : List (Ptr × el_x E)) → ent 𝓤 (sep 𝓤 (sem 𝓛 (Has cells)) (sem 𝓛 (Has more))) (sem 𝓛 (Has (cells ++ more)))
  nodes_joined [] more = qed 𝓛 (‵ (Has []) ∷ ‵ (Has more) ∷ []) ∵ drop ! $ done !
  nodes_joined (cell ∷ cells) more = qed 𝓛 (‵ (Has (cell ∷ cells)) ∷ ‵ (Has more) ∷ []) ∵ fsplit ! $ move ! (1 ∷ 2 ∷ []) $
      use2 𝓛 (‵ (Has (cells ++ more))) (nodes_joined cells more) $ move ! (1 ∷ 0 ∷ []) $ fjoin ! $ done !

  pub nodes_parted : (cells more : List (Ptr × el_x E)) → ent 𝓤 (sem 𝓛 (Has (cells ++ more))) (sep 𝓤 (sem 𝓛 (Has cells)) (sem 𝓛 (Has more)))
  nodes_parted [] more = qed 𝓛 (‵ (Has more) ∷ []) ∵ nothing ! $ done !
  nodes_parted (cell ∷ cells) more = qed 𝓛 (‵ (Has (cell ∷ cells ++ more)) ∷ []) ∵ fsplit ! $ move ! (1 ∷ []) $
      use1 𝓛 (‵ (Has cells) ⊛ ‵ (Has more)) (nodes_parted cells more) $ split ! $ move ! (2 ∷ 0 ∷ []) $ fjoin ! $ done !

module _ (E : El) (Z : Al) {M : Type 1} {𝓤 : Ura M} {𝓛 : Logic 𝓤} {K : Type 0} {Γ : List (Item 𝓤)} {G : Goal 𝓤 𝓛.H} where
  -- a region of one place that holds a value is a node
  pub node_of : K → (node : D E Z) → IsHeld node.places → (vs : List Val)
      → ((b o : ℕ) → node.first ≡ block_ptr b o → Seq K 𝓛 (‵ (Held E Z node.heap (cell_at node.first node.places)) ∷ Γ) G)
      → Seq K 𝓛 (‵ ((Rg E Z).own_val node vs) ∷ Γ) G
  node_of t node held vs k = region_had E Z t node vs (λ b o here told few.
      let alone : List (Option (el_x E)) = Some held.0 ∷ [] in
      rewrite t 0 (λ (ps : List (Option (el_x E))). ‵ (places_own (R E) b o ps)) {x = alone} held.1 refl $
      rewrite t 1 (λ (ps : List (Option (el_x E))). ‵ (token Z node.heap (block_ty E (length ps)) (block_ptr b o))) {x = alone} held.1 refl $ fjoin t $
      flt_i t (length alone * sz E) (2 ^ 63) (subst (λ (ps : List (Option (el_x E))). length ps * sz E < 2 ^ 63) held.1 few) $ fjoin t $
      nothing t $ move t (1 ∷ 0 ∷ []) $ fjoin t $
      rewrite t 0 (λ (w : Ptr × List (Option (el_x E))). ‵ (Held E Z node.heap (cell_at w.0 w.1))) {x = (node.first, node.places)} {y = (block_ptr b o, alone)} (λ i. (sym here i, sym held.1 i)) refl $
      k b o here)

  -- a node is a region of one place that holds its value
  pub node_out : K → (heap : Z.row.Denot) (p : Ptr) (value : el_x E)
      → ((b o : ℕ) → p ≡ block_ptr b o → Seq K 𝓛 (‵ ((Rg E Z).own_val (record { first = p; by = record {}; heap = heap; places = Some value ∷ [] }) (region_val (block_ptr b o) ∷ [])) ∷ Γ) G)
      → Seq K 𝓛 (‵ (region_owns (R E) (token Z heap) p (Some value ∷ [])) ∷ Γ) G
  node_out t heap p value k =
      let node : D E Z = record { first = p; by = record {}; heap = heap; places = Some value ∷ [] } in
      in_a_block t p (λ q. region_owns (R E) (token Z heap) q node.places) (id⊢ 𝓤 (never 𝓤)) (λ b o at. fsplit t $ flt_l t (λ fit. fsplit t $
      region_made E Z t node b o 1 at refl fit $ k b o at))

module _ (E : El) (Z : Al) {M : Type 1} {𝓤 : Ura M} (𝓛 : Logic 𝓤) (κ : Lft) where
  -- a `&` to nodes reaches them
  pub nodes_shown : (d : N E Z) (b o : ℕ) → ent 𝓤 (sem 𝓛 (hidden_shr (Nr E Z) κ d b o)) (sem 𝓛 (nodes_lent (R E) d.cells κ))
  nodes_shown d b o =
      let there = block_ptr b o in let lent : Fml = C.the_lent (R E) (P E Z) Z.g d there κ in
      qed 𝓛 (‵ (hidden_shr (Nr E Z) κ d b o) ∷ []) ∵ use1 𝓛 (‵ (hidden_shr (Data E Z) κ (tt, (tt, tt)) b o) ⊛ ‵ (fhide lent))
      (lent_out 𝓛 (C.struct (R E) (P E Z) Z.g) (C.the_codes (el_x E) Z.row.Denot (R E).coded (P E Z).coded (marker.the_row (R E)).coded (marker.the_row (P E Z)).coded) (C.the_heap (R E) (P E Z) Z.g) (C.the_lent (R E) (P E Z) Z.g) κ d b o) $
      split ! $ keep ! (1 ∷ []) $ unhide ! $ done !

  -- one node of those that a `&` reaches
  pub node_seen : (cells : List (Ptr × el_x E)) (i : ℕ) (p : Ptr) (x : el_x E) → slice_get cells i ≡ Some (p, x)
      → ent 𝓤 (sem 𝓛 (nodes_lent (R E) cells κ)) (sem 𝓛 (region_lent (R E) p (Some x ∷ []) κ))
  node_seen [] i p x e = cc
  node_seen (cell ∷ cells) zero p x e = let same : cell ≡ (p, x) = cc in
      qed 𝓛 (‵ (nodes_lent (R E) (cell ∷ cells) κ) ∷ []) ∵ fsplit ! $ keep ! (0 ∷ []) $ rewrite ! 0 (λ (w : Ptr × el_x E). ‵ (region_lent (R E) w.0 (Some w.1 ∷ []) κ)) {x = (p, x)} same refl $ done !
  node_seen (cell ∷ cells) (suc i) p x e = qed 𝓛 (‵ (nodes_lent (R E) (cell ∷ cells) κ) ∷ []) ∵ fsplit ! $ keep ! (1 ∷ []) $ by ! (node_seen cells i p x e)
