-- What the walks of a region share. Assumes `Logic`.
--     place_out, place_in      one place is taken out of the others, and put back
--     of_room, to_room      room for an array is a row of empty places
--     region_had, region_made, region_opens, region_closes      a region by value, and behind a `&mut`
use mathlib.Core.Path.{◌≡◌, refl, sym, ap, subst, ◌∙◌}
use Prim.Native.Nat.{ℕ, zero, suc, ◌+◌, ◌*◌, ◌<◌, ◌^◌}
use native.Mathlib.Nat.{zero-mul, suc-mul}
use native.Mathlib.Omega.{arith}
use mathlib.Core.List.{List, [], ◌∷◌, ◌++◌}
use lib.ListN.{length, get_or, set}
use seplogic.Ra.Ura.{Ura}
use base.Fraction.{full_share}
use base.Stored.{Gv}
use base.Logic.{ent, sep, never, id⊢}
use base.Fml.{Fml, Lft, GName, Share, ftrue, fsep, fhide, froom, flft, fobs, fauth, fbor, fobor}
use lib.Dec.{T}
use mir.Syntax.{ty_array, ty_ptr, ty_struct, tcons, tnil}
use mir.Val.{Val, vptr, vstruct, vcons, vnil, of_list, has_ty, WT}
use types.Logic.{Logic, sem}
use types.Kit.{Item, Goal, Seq, Step, Soaks, step, ‵, ◌⊛◌, ◌$◌, ◌∵◌, !, qed, by, move, keep, drop, use1, use2, split, rewrite, frame, fsplit, fjoin, fpick, feq_l, flt_i, flt_l, done}
use types.SemTy.{Body as Borrowed}
use denote.RattleType.{RattleType}
use denote.Memory.{cell_at, hidden_shr, mem}
use denote.Opens.{unhide}
use denote.Laws.{Is}
use denote.RawPtr.{Ptr, RawPtr, InBlock, block_ptr, null_ptr, ptr_val, in_a_block}
use denote.Shadow.{pure_i}
use denote.Steps.{opens, closes}
use denote.Struct.Struct.{Struct}
use denote.Struct.Owning.{shape}
use denote.Struct.Lending.{lent_out}
use denote.Slice.{elements_shared}
use Rattle.std.specs.Prelude.{Option, Some, None}
use Rattle.std.specs.Mem.{type_size}
use Rattle.core.proofs.mem.Param.{El, R, el_x, elτ}
use Rattle.core.proofs.alloc.Calls.{Al, token}
use Rattle.core.proofs.slots.Leases.{P, block_ty}
use Rattle.core.specs.contracts.marker.PhantomData as marker
use Rattle.raw_lists.specs.Places.{laid}
use Rattle.raw_lists.specs.Region.{place_owns, places_own, region_owns, place_lent, places_lent}
use Rattle.raw_lists.specs.declared.region.Region.{Region}
use Rattle.raw_lists.specs.contracts.region.Region as C

abbrev pub region_val : Ptr → Val
region_val p = vstruct (vcons (ptr_val p) (vcons (vstruct vnil) vnil))

pub region_good : (p : Ptr) → InBlock p → T (has_ty (ty_struct [] (tcons ty_ptr (tcons (ty_struct [] tnil) tnil))) (region_val p)) × WT (region_val p)
region_good (block_ptr b o) i = (tt, (tt, (tt, tt)))
region_good null_ptr i = absurd i

module _ (E : El) where
  abbrev pub sz : ℕ
  sz = type_size (R E)

  -- the places but for the one at the index
  abbrev pub besides : ℕ → ℕ → List (Option (el_x E)) → ℕ → Fml
  besides b o [] i = ftrue
  besides b o (c ∷ cs) zero = places_own (R E) b (o + sz) cs
  besides b o (c ∷ cs) (suc i) = fsep (place_owns (R E) b o c) (besides b (o + sz) cs i)

module _ (E : El) {M : Type 1} {𝓤 : Ura M} (𝓛 : Logic 𝓤) (b : ℕ) where
  open 𝓛 use {H}

  abbrev s : ℕ
  s = sz E

  abbrev One : ℕ → Option (el_x E) → Fml
  One = place_owns (R E) b

  abbrev Row : ℕ → List (Option (el_x E)) → Fml
  Row = places_own (R E) b

  pub place_out : (cs : List (Option (el_x E))) (i o at : ℕ) → i < length cs → at ≡ i * s + o
      → ent 𝓤 (sem 𝓛 (Row o cs)) (sep 𝓤 (sem 𝓛 (One at (get_or cs i None))) (sem 𝓛 (besides E b o cs i)))
  place_out [] i o at lt e = absurd (omega arith)
  place_out (c ∷ cs) zero o at lt e = qed 𝓛 (‵ (Row o (c ∷ cs)) ∷ []) ∵ fsplit ! $ rewrite ! 0 (λ (k : ℕ). ‵ (One k c)) {x = at} (omega (arith, zero-mul s)) refl $ done !
  place_out (c ∷ cs) (suc i) o at lt e = let more : at ≡ suc i * s + o = e in
      qed 𝓛 (‵ (Row o (c ∷ cs)) ∷ []) ∵ fsplit ! $ move ! (1 ∷ []) $
      use1 𝓛 (‵ (One at (get_or cs i None)) ⊛ ‵ (besides E b (o + s) cs i)) (place_out cs i (o + s) at (omega arith) (omega (arith, suc-mul i s))) $ split ! $ frame ! $ move ! (1 ∷ 0 ∷ []) $ done !

  pub place_in : (cs : List (Option (el_x E))) (i : ℕ) (c' : Option (el_x E)) (o at : ℕ) → i < length cs → at ≡ i * s + o
      → ent 𝓤 (sep 𝓤 (sem 𝓛 (One at c')) (sem 𝓛 (besides E b o cs i))) (sem 𝓛 (Row o (set cs i c')))
  place_in [] i c' o at lt e = absurd (omega arith)
  place_in (c ∷ cs) zero c' o at lt e = qed 𝓛 (‵ (One at c') ∷ ‵ (Row (o + s) cs) ∷ []) ∵ rewrite ! 0 (λ (k : ℕ). ‵ (One k c')) {x = o} (omega (arith, zero-mul s)) refl $ done !
  place_in (c ∷ cs) (suc i) c' o at lt e = let more : at ≡ suc i * s + o = e in
      qed 𝓛 (‵ (One at c') ∷ ‵ (besides E b o (c ∷ cs) (suc i)) ∷ []) ∵ move ! (1 ∷ []) $ fsplit ! $ move ! (2 ∷ 1 ∷ []) $
      use2 𝓛 (‵ (Row (o + s) (set cs i c'))) (place_in cs i c' (o + s) at (omega arith) (omega (arith, suc-mul i s))) $ move ! (1 ∷ 0 ∷ []) $ done !

  pub of_room : (n o : ℕ) → ent 𝓤 (H.room (ty_array (elτ E) n) b o) (sem 𝓛 (Row o (laid 0 [] n)))
  unfolding laid
  of_room zero o = qed 𝓛 (‵ (froom (ty_array (elτ E) 0) b o) ∷ []) ∵ keep ! [] $ done !
  of_room (suc n) o = qed 𝓛 (‵ (froom (ty_array (elτ E) (suc n)) b o) ∷ []) ∵
      use1 𝓛 (‵ (froom (elτ E) b o) ⊛ ‵ (froom (ty_array (elτ E) n) b (o + s))) (𝓛.laws.room_uncons (elτ E) n b o) $ split ! $
      use1 𝓛 (‵ (One o None)) (𝓛.laws.room-raw (elτ E) b o) $ frame ! $ by ! (of_room n (o + s))

  pub to_room : (n o : ℕ) → ent 𝓤 (sem 𝓛 (Row o (laid 0 [] n))) (H.room (ty_array (elτ E) n) b o)
  unfolding laid
  to_room zero o = 𝓛.laws.room_nil (elτ E) b o
  to_room (suc n) o = qed 𝓛 (‵ (One o None) ∷ ‵ (Row (o + s) (laid 0 [] n)) ∷ []) ∵
      use1 𝓛 (‵ (froom (elτ E) b o)) (𝓛.laws.raw-room (elτ E) b o) $ move ! (1 ∷ []) $
      use1 𝓛 (‵ (froom (ty_array (elτ E) n) b (o + s))) (to_room n (o + s)) $ move ! (1 ∷ []) $ by ! (𝓛.laws.room_cons (elτ E) n b o)

module _ (E : El) (Z : Al) where
  abbrev pub Rg : RattleType
  Rg = C.the_row (R E) (P E Z) Z.g

  abbrev pub D : Type 0
  D = Region (el_x E) Z.row.Denot

  -- the data fields
  abbrev pub Data : RattleType
  Data = Struct (shape (C.the_type (R E) (P E Z) Z.g))

  pub region_told : (p : Ptr) (vs : List Val) → Is Data (p, (tt, tt)) vs → vs ≡ region_val p ∷ []
  region_told p vs is = is.1.0 ∙ ap (λ (ws : List Val). vstruct (of_list (ws ++ (is.0.1.0 ++ []))) ∷ []) is.1.1.0 ∙ ap (λ (ws : List Val). vstruct (of_list (ptr_val p ∷ (ws ++ []))) ∷ []) is.1.1.1.0.1.0

module _ (E : El) (Z : Al) {M : Type 1} {𝓤 : Ura M} {𝓛 : Logic 𝓤} {K : Type 0} {Γ : List (Item 𝓤)} {G : Goal 𝓤 𝓛.H} where
  -- [the places; the right to free them]
  pub region_had : K → (d : D E Z) (vs : List Val)
      → ((b o : ℕ) → d.first ≡ block_ptr b o → vs ≡ region_val (block_ptr b o) ∷ [] → length d.places * sz E < 2 ^ 63
      → Seq K 𝓛 (‵ (places_own (R E) b o d.places) ∷ ‵ (token Z d.heap (block_ty E (length d.places)) (block_ptr b o)) ∷ Γ) G)
      → Seq K 𝓛 (‵ ((Rg E Z).own_val d vs) ∷ Γ) G
  region_had t d vs k =
      fsplit t $ fpick t (λ vss. fsplit t $ feq_l t (λ all. fsplit t $ feq_l t (λ e₀. fsplit t $ fpick t (λ none. fsplit t $ feq_l t (λ e₁. drop t $ drop t $
      in_a_block t d.first (λ p. region_owns (R E) (token Z d.heap) p d.places) (id⊢ 𝓤 (never 𝓤)) (λ b o at. fsplit t $ flt_l t (λ fit. fsplit t $
      k b o at (all ∙ ((λ i. vstruct (of_list (e₀ i ++ (e₁ i ++ []))) ∷ []) ∙ ap (λ (p : Ptr). region_val p ∷ []) at)) fit)))))))

  pub region_made : K → (d : D E Z) (b o n : ℕ) → d.first ≡ block_ptr b o → n ≡ length d.places → n * sz E < 2 ^ 63
      → Step K 𝓛 (‵ ((Rg E Z).own_val d (region_val (block_ptr b o) ∷ [])) ∷ Γ) G (‵ (places_own (R E) b o d.places) ∷ ‵ (token Z d.heap (block_ty E n) (block_ptr b o)) ∷ Γ) G
  region_made t d b o n at long fit = step (λ next.
      rewrite t 1 (λ (k : ℕ). ‵ (token Z d.heap (block_ty E k) (block_ptr b o))) {x = length d.places} long refl $ fjoin t $
      flt_i t (length d.places * sz E) (2 ^ 63) (subst (λ k. k * sz E < 2 ^ 63) long fit) $ fjoin t $
      pure_i t ((Data E Z).own_val (block_ptr b o, (tt, tt)) (region_val (block_ptr b o) ∷ [])) (λ vss. (tt, (tt, ((λ uss. (tt, tt)), tt))))
      ((vptr b o ∷ [], (vstruct vnil ∷ [], tt)), (refl, (refl, ((tt, (refl, tt)), tt)))) $ fjoin t $
      rewrite t 0 (λ (p : Ptr). ‵ (fsep ((Data E Z).own_val (p, (tt, tt)) (region_val (block_ptr b o) ∷ [])) (region_owns (R E) (token Z d.heap) p d.places))) (sym at) refl $ next)

module _ (E : El) (Z : Al) {M : Type 1} {𝓤 : Ura M} {𝓛 : Logic 𝓤} {K : Type 0} {Γ : List (Item 𝓤)} {G : Goal 𝓤 𝓛.H} where
  -- [the places; the right to free them; the word; the open borrow; obs; auth]
  pub region_opens : K → Soaks G → {κ : Lft} {q : Share} {γ : GName} (d : D E Z) (rb ro : ℕ)
      → ((b o : ℕ) → d.first ≡ block_ptr b o → length d.places * sz E < 2 ^ 63
      → Seq K 𝓛 (‵ (places_own (R E) b o d.places) ∷ ‵ (token Z d.heap (block_ty E (length d.places)) (block_ptr b o))
      ∷ ‵ (cell_at full_share (Rg E Z).mir (region_val (block_ptr b o) ∷ []) rb ro) ∷ ‵ (fobor κ q (Borrowed (mem (Rg E Z)) rb ro γ))
      ∷ ‵ (fobs γ ((Rg E Z).coded.code d)) ∷ ‵ (fauth γ ((Rg E Z).coded.code d)) ∷ Γ) G)
      → Seq K 𝓛 (‵ (fobs γ ((Rg E Z).coded.code d)) ∷ ‵ (fbor κ (Borrowed (mem (Rg E Z)) rb ro γ)) ∷ ‵ (flft κ q) ∷ Γ) G
  region_opens t z d rb ro k =
      opens t z (Rg E Z) {h = d} rb ro (λ vs. move t (1 ∷ []) $ region_had E Z t d vs (λ b o at is fit.
      rewrite t 2 (λ (ws : List Val). ‵ (cell_at full_share (Rg E Z).mir ws rb ro)) is refl $ k b o at fit))

  pub region_closes : K → Soaks G → {κ : Lft} {q : Share} {u v : Gv} {γ : GName} (d : D E Z) (b o n rb ro : ℕ) → d.first ≡ block_ptr b o → n ≡ length d.places → n * sz E < 2 ^ 63
      → Step K 𝓛 (‵ (fobs γ ((Rg E Z).coded.code d)) ∷ ‵ (fbor κ (Borrowed (mem (Rg E Z)) rb ro γ)) ∷ ‵ (flft κ q) ∷ Γ) G
      (‵ (places_own (R E) b o d.places) ∷ ‵ (token Z d.heap (block_ty E n) (block_ptr b o)) ∷ ‵ (cell_at full_share (Rg E Z).mir (region_val (block_ptr b o) ∷ []) rb ro)
      ∷ ‵ (fobor κ q (Borrowed (mem (Rg E Z)) rb ro γ)) ∷ ‵ (fobs γ u) ∷ ‵ (fauth γ v) ∷ Γ) G
  region_closes t z d b o n rb ro at long fit = step (λ next.
      region_made E Z t d b o n at long fit $ move t (1 ∷ 0 ∷ []) $ closes t z (Rg E Z) d (region_val (block_ptr b o) ∷ []) rb ro $ next)

module _ (E : El) {M : Type 1} {𝓤 : Ura M} (𝓛 : Logic 𝓤) (b : ℕ) (κ : Lft) where
  -- one place of those that a `&` reaches
  pub place_seen : (cs : List (Option (el_x E))) (i o at : ℕ) → i < length cs → at ≡ i * sz E + o
      → ent 𝓤 (sem 𝓛 (places_lent (R E) b o cs κ)) (sem 𝓛 (place_lent (R E) b at (get_or cs i None) κ))
  place_seen [] i o at lt e = absurd (omega arith)
  place_seen (c ∷ cs) zero o at lt e = qed 𝓛 (‵ (places_lent (R E) b o (c ∷ cs) κ) ∷ []) ∵ fsplit ! $ keep ! (0 ∷ []) $
      rewrite ! 0 (λ (k : ℕ). ‵ (place_lent (R E) b k c κ)) {x = at} (omega (arith, zero-mul (sz E))) refl $ done !
  place_seen (c ∷ cs) (suc i) o at lt e = let more : at ≡ suc i * sz E + o = e in
      qed 𝓛 (‵ (places_lent (R E) b o (c ∷ cs) κ) ∷ []) ∵ fsplit ! $ keep ! (1 ∷ []) $ by ! (place_seen cs i (o + sz E) at (omega arith) (omega (arith, suc-mul i (sz E))))

module _ (E : El) {M : Type 1} {𝓤 : Ura M} (𝓛 : Logic 𝓤) (b : ℕ) (κ : Lft) where
  -- all values of those that a `&` reaches, where they lie one after another
  pub run_seen : (start : ℕ) (items : List (el_x E)) (rest o at : ℕ) → at ≡ start * sz E + o
      → ent 𝓤 (sem 𝓛 (places_lent (R E) b o (laid start items rest) κ)) (sem 𝓛 (elements_shared (R E) items b at κ))
  unfolding laid
  run_seen zero [] rest o at e = qed 𝓛 (‵ (places_lent (R E) b o (laid zero [] rest) κ) ∷ []) ∵ keep ! [] $ done !
  run_seen zero (item ∷ items) rest o at e =
      qed 𝓛 (‵ (places_lent (R E) b o (Some item ∷ laid zero items rest) κ) ∷ []) ∵
      rewrite ! 0 (λ (k : ℕ). ‵ (places_lent (R E) b k (Some item ∷ laid zero items rest) κ)) {x = at} (omega (arith, zero-mul (sz E))) refl $ fsplit ! $ move ! (1 ∷ []) $
      use1 𝓛 (‵ (elements_shared (R E) items b (at + sz E) κ)) (run_seen zero items rest (at + sz E) (at + sz E) (omega (arith, zero-mul (sz E)))) $ move ! (1 ∷ 0 ∷ []) $ fjoin ! $ done !
  run_seen (suc start) items rest o at e =
      qed 𝓛 (‵ (places_lent (R E) b o (None ∷ laid start items rest) κ) ∷ []) ∵ fsplit ! $ keep ! (1 ∷ []) $ by ! (run_seen start items rest (o + sz E) at (omega (arith, suc-mul start (sz E), e)))

module _ (E : El) (Z : Al) {M : Type 1} {𝓤 : Ura M} (𝓛 : Logic 𝓤) (κ : Lft) where
  -- a `&` to a region reaches its pointer, and the places
  pub shown : (d : D E Z) (b o : ℕ) → ent 𝓤 (sem 𝓛 (hidden_shr (Rg E Z) κ d b o)) (sep 𝓤 (sem 𝓛 (hidden_shr RawPtr κ d.first b (o + 0))) (sem 𝓛 (fhide (C.the_lent (R E) (P E Z) Z.g d d.first κ))))
  shown d b o = qed 𝓛 (‵ (hidden_shr (Rg E Z) κ d b o) ∷ []) ∵
      use1 𝓛 (‵ (hidden_shr (Data E Z) κ (d.first, (tt, tt)) b o) ⊛ ‵ (fhide (C.the_lent (R E) (P E Z) Z.g d d.first κ)))
      (lent_out 𝓛 (C.struct (R E) (P E Z) Z.g) (C.the_codes (el_x E) Z.row.Denot (R E).coded (P E Z).coded (marker.the_row (P E Z)).coded) (C.the_heap (R E) (P E Z) Z.g) (C.the_lent (R E) (P E Z) Z.g) κ d b o) $ split ! $
      unhide ! $ fsplit ! $ fsplit ! $ keep ! (0 ∷ 3 ∷ []) $ done !
