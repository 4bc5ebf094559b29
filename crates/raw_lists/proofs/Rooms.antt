-- What a region without values is made of, and what is left when it is given up. Assumes `Logic`.
--     empty_at            the region of n empty places that begins o octets into the block b
--     Given, IsEmpty      what is answered for a call for memory: such a region, or a refusal
--     granted, refused    the answer, made of an allocator's memory or of nothing
--     emptied             the memory of empty places, with the right to give it back
use mathlib.Core.Path.{◌≡◌, refl, sym, ap, ◌∙◌}
use Prim.Native.Nat.{ℕ, ◌*◌, ◌<◌, ◌^◌}
use mathlib.Core.List.{List, [], ◌∷◌}
use lib.ListN.{length}
use seplogic.Ra.Ura.{Ura}
use mir.Syntax.{ty_array}
use mir.Val.{Val, vstruct, vcons, vnil}
use base.Logic.{ent, sep, emp}
use base.Fml.{froom}
use types.Logic.{Logic, sem}
use types.Kit.{‵, raw, ◌$◌, ◌∵◌, !, qed, move, use0, use1, rewrite, done}
use types.Match.{live}
use contract.Monad.{fact, fact_i}
use denote.RattleType.{RattleType}
use denote.RawPtr.{block_ptr}
use denote.Laws.{Is}
use denote.Steps.{owned}
use denote.Struct.Struct.{Struct, Struct-Makes}
use denote.Struct.Declared as Declared
use Rattle.std.specs.Prelude.{Option, Ok, Err, IfOk}
use Rattle.core.proofs.mem.Param.{El, R, el_x, elτ}
use Rattle.core.proofs.alloc.Calls.{Al, token}
use Rattle.core.proofs.slots.Leases.{block_ty}
use Rattle.core.specs.contracts.result.Result as RS
use Rattle.core.specs.contracts.alloc.AllocError as AE
use Rattle.std_alloc.proofs.RawLayout.{as_raw, as_written}
use Rattle.std_alloc.proofs.ResultValues.{ok_of, err_of}
use Rattle.raw_lists.specs.Places.{laid}
use Rattle.raw_lists.specs.Region.{places_own}
use Rattle.raw_lists.proofs.Places.{length-empty}
use Rattle.raw_lists.proofs.Regions.{sz, Rg, D, region_val, of_room, to_room, region_made}

abbrev pub refused_val : Val
refused_val = live 1 (vcons (vstruct vnil) vnil)

abbrev pub granted_val : ℕ → ℕ → Val
granted_val b o = live 0 (vcons (region_val (block_ptr b o)) vnil)

module _ (E : El) (Z : Al) (heap : Z.row.Denot) (n : ℕ) where
  abbrev pub empty_at : ℕ → ℕ → D E Z
  empty_at b o = record { first = block_ptr b o; by = record {}; heap = heap; places = laid 0 [] n }

  abbrev pub Given : RattleType
  Given = RS.the_row (Rg E Z) AE.the_row

  abbrev pub IsEmpty : Given.Denot → Type 0
  IsEmpty answer = IfOk answer (λ region. (region.places ≡ laid 0 [] n) × (region.heap ≡ heap))

module _ (E : El) (Z : Al) {M : Type 1} {𝓤 : Ura M} (𝓛 : Logic 𝓤) (heap : Z.row.Denot) (n : ℕ) where
  pub refused : ent 𝓤 (emp 𝓤) (sep 𝓤 (sem 𝓛 ((Given E Z heap n).own_val (Err (record {})) (refused_val ∷ []))) (fact 𝓤 (IsEmpty E Z heap n (Err (record {})))))
  refused =
      qed 𝓛 [] ∵ owned ! (Struct (Declared.shape AE.the_type)) (Is (Struct (Declared.shape AE.the_type))) (Struct-Makes 𝓛 (Declared.shape AE.the_type) tt) tt (vstruct vnil ∷ []) (tt, (refl, tt)) $
      use1 𝓛 (‵ ((Given E Z heap n).own_val (Err (record {})) (refused_val ∷ []))) (err_of 𝓛 (Rg E Z) AE.the_row (record {}) (vstruct vnil)) $
      use0 𝓛 (raw (fact 𝓤 (IsEmpty E Z heap n (Err (record {}))))) (fact_i 𝓤 (IsEmpty E Z heap n (Err (record {}))) (emp 𝓤) tt) $ move ! (1 ∷ 0 ∷ []) $ done !

  module _ (b o : ℕ) where
    pub granted : n * sz E < 2 ^ 63 → ent 𝓤 (sep 𝓤 (sem 𝓛 (froom (block_ty E n) b o)) (sem 𝓛 (token Z heap (block_ty E n) (block_ptr b o))))
        (sep 𝓤 (sem 𝓛 ((Given E Z heap n).own_val (Ok (empty_at E Z heap n b o)) (granted_val b o ∷ []))) (fact 𝓤 (IsEmpty E Z heap n (Ok (empty_at E Z heap n b o)))))
    granted small =
        let new : D E Z = empty_at E Z heap n b o in
        qed 𝓛 (‵ (froom (block_ty E n) b o) ∷ ‵ (token Z heap (block_ty E n) (block_ptr b o)) ∷ []) ∵ as_written ! (ty_array (elτ E) n) b o $
        use1 𝓛 (‵ (places_own (R E) b o new.places)) (of_room E 𝓛 b n o) $ region_made E Z ! new b o n refl (sym (length-empty (el_x E) n)) small $
        use1 𝓛 (‵ ((Given E Z heap n).own_val (Ok new) (granted_val b o ∷ []))) (ok_of 𝓛 (Rg E Z) AE.the_row new (region_val (block_ptr b o))) $
        use0 𝓛 (raw (fact 𝓤 (IsEmpty E Z heap n (Ok new)))) (fact_i 𝓤 (IsEmpty E Z heap n (Ok new)) (emp 𝓤) (refl, refl)) $ move ! (1 ∷ 0 ∷ []) $ done !

    pub emptied : (held : Z.row.Denot) (places : List (Option (el_x E))) → places ≡ laid 0 [] n → held ≡ heap
        → ent 𝓤 (sep 𝓤 (sem 𝓛 (places_own (R E) b o places)) (sem 𝓛 (token Z held (block_ty E (length places)) (block_ptr b o))))
        (sep 𝓤 (sem 𝓛 (froom (block_ty E n) b o)) (sem 𝓛 (token Z heap (block_ty E n) (block_ptr b o))))
    emptied held places none same =
        let long : length places ≡ n = ap length none ∙ length-empty (el_x E) n in
        qed 𝓛 (‵ (places_own (R E) b o places) ∷ ‵ (token Z held (block_ty E (length places)) (block_ptr b o)) ∷ []) ∵
        rewrite ! 0 (λ (l : List (Option (el_x E))). ‵ (places_own (R E) b o l)) none refl $ use1 𝓛 (‵ (froom (ty_array (elτ E) n) b o)) (to_room E 𝓛 b n o) $ as_raw ! (ty_array (elτ E) n) b o $
        rewrite ! 1 (λ (k : Z.row.Denot × ℕ). ‵ (token Z k.0 (block_ty E k.1) (block_ptr b o))) {x = (heap, n)} {y = (held, length places)} (λ i. (same i, long i)) refl $ done !
