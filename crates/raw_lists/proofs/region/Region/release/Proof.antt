-- `release` gives the memory of empty places back. Assumes `Logic`.
use Rattle.std.proofs.Common.{◌≡◌, ℕ, ◌*◌, ◌^◌, ◌<◌, T, List, [], ◌∷◌, sym, refl, ap, ◌∙◌, subst, arith, length, w64}
use mir.Syntax.{Ty, named, ty_unit}
use mir.Val.{Val, vunit, vint, vptr, has_ty, WT}
use mir.MapTy.{inst_fn}
use base.Logic.{SProp}
use base.Fml.{Fml, ftrue, fsep, froom, flft, Incl-trans}
use prog.Memory.{align, capped}
use prog.Capped.{capped_fits}
use types.Kit.{‵, raw, ◌⊛◌, given, later, at_ret, ◌$◌, ◌∵◌, !, qed, by, move, keep, drop, use1, use2, use3, split, join, learn, fsplit, fsplit3, fjoin, fjoin3, feq_i, await}
use types.Part.{whole, sub}
use types.Run.{stop, fld, unit_lit, size_word, align_word, no_more, and_then, of_opd, bin, first, blocks, exec, returns, enter}
use types.ByLocal.{alloc_all, pass_all, free_all, look_at, get, get_in, is, sets, lands_last, env}
use contract.BorrowLft.{◌⊑◌}
use contract.Monad.{fact}
use contract.Running.{tables}
use denote.Exit.{yes, no}
use denote.RattleType.{owns}
use denote.Signature.{plain, types_at}
use denote.Param.{param}
use denote.Builtin.{RefOf, usize}
use denote.RawPtr.{block_ptr, ptr_val, InBlock}
use denote.Ref.{shr_vals, shr_Tells}
use denote.Plain.{uint_vals, uint_Tells}
use denote.Steps.{nothing}
use denote.Triple.Call.{calls_at_last}
use denote.Triple.Table.{framed}
use denote.Triple.Walked.{Stays, stay_dropped, walk_of, Goes-dropped}
use Rattle.std.proofs.raw_atomic.Walks.{proved, leaves}
use Rattle.core.proofs.mem.Param.{El, el_x, elτ}
use Rattle.core.proofs.alloc.Calls.{Al, token, Gives, at_gives, Gives-goes, Gives-Gives}
use Rattle.core.proofs.slots.Bodies.{after}
use Rattle.core.proofs.slots.Leases.{uncapped, block_ty, block_size, block_align, args}
use Rattle.raw_lists.specs.Places.{laid}
use Rattle.raw_lists.proofs.Places.{length-empty}
use Rattle.raw_lists.proofs.Regions.{sz, Rg, D, region_val, region_told, region_good, region_had}
use Rattle.raw_lists.proofs.Rooms.{emptied}
use Rattle.raw_lists.specs.contracts.region.Region.release.{ended, clauses}
use Rattle.raw_lists.specs.contracts.region.Region.release.Key.{name as #self}
use Rattle.raw_lists.proofs.region.Region.release.Statement.{statement}
use Rattle.raw_lists.proofs.region.Region.release.Code as code

pub release_spec : {M : Type 1} → statement M
release_spec 𝓤 𝓛 𝓜 𝓡 wired X U L LU g d dd met _ =
    let H = 𝓛.H in let 𝓣 = tables 𝓤 H 𝓜 𝓡 𝓡.env in
    let E : El = record { row = X; laws = L } in let Z : Al = record { row = U; laws = LU; g = g; d = d; drops = dd } in
    let fn = inst_fn (args E Z) code.function in let En = ended X U g d dd in let c = clauses X U g d dd 𝓛 𝓜.mem 𝓡.returns in
    let moved = plain (λ _. Rg E Z) in let lent = RefOf (0 ∷ []) tt (plain (λ _. param 1 U)) (λ _. tt) in
    let hs : Stays En.signature.params En.kept = (stay_dropped moved no, (stay_dropped lent yes, (stay_dropped (plain (λ _. usize)) yes, tt))) in
    proved 𝓛 En hs c 𝓜 𝓡 (Goes-dropped 𝓛 3 moved no (λ κs x f. refl), (Goes-dropped 𝓛 3 lent yes (λ κs x f. refl), (Goes-dropped 𝓛 3 (plain (λ _. usize)) yes (λ κs x f. refl), tt)))
    (#self (args E Z)) fn (code.unfolded 𝓤 H 𝓜 𝓡 wired (X, (U, tt)) d dd)
    (λ κs. ((λ x. region_val x.first ∷ []), (shr_vals, (uint_vals w64, tt))))
    (λ κs. ((λ x vs is. region_told E Z x.first vs is.0), (shr_Tells (named 0) κs.0 (param 1 U), (uint_Tells w64, tt)))) (λ κs qs bounds a gh are.
    let region : D E Z = a.0 in let at : ℕ × ℕ = a.1.0.ref_ptr in let heap : U.Denot = a.1.0.now in let n : ℕ = a.1.1.0 in
    let bytes : ℕ = n * sz E in let step : ℕ = capped (align (elτ E)) in let τ : Ty = block_ty E n in let whole_of : Val = region_val region.first in
    let y : (walk_of 𝓛 En hs c).Ghost = ((κs, qs, bounds, a, (whole_of ∷ [], (vptr at.0 at.1 ∷ [], (vint w64 n ∷ [], tt)))), gh) in let Post : Val → SProp 𝓤 = (walk_of 𝓛 En hs c).post y in
    let unused : Fml = fsep (flft κs.1.0 qs.1.0) (fsep (flft κs.1.1.0 qs.1.1.0) ftrue) in
    qed 𝓛 (((‵ (flft κs.0 qs.0) ⊛ ‵ unused) ⊛ ‵ (owns (types_at En.signature.params κs) a y.0.4)) ∷ raw (fact 𝓤 _) ∷ given (κs.1.1.0 ⊑ U.lives) (‵ ftrue)
    ∷ given ((region.places ≡ laid 0 [] n) × (region.heap ≡ heap)) (‵ ftrue) ∷ []) ∵
    keep ! (2 ∷ 3 ∷ 0 ∷ []) $ learn ! (λ lives. drop ! $ learn ! (λ empty. drop ! $ split ! $ split ! $ move ! (2 ∷ []) $ fsplit3 ! $
    region_had E Z ! region (whole_of ∷ []) (λ b o here told few.
    let small : bytes < 2 ^ 63 = subst (λ (k : ℕ). k * sz E < 2 ^ 63) (ap length empty.0 ∙ length-empty (el_x E) n) few in let fits : bytes < 2 ^ 64 = omega arith in
    let word : n * capped (sz E) < 2 ^ 64 = subst (λ (k : ℕ). k < 2 ^ 64) (sym (uncapped n (sz E) fits)) fits in
    use2 𝓛 (‵ (froom τ b o) ⊛ ‵ (token Z heap τ (block_ptr b o))) (emptied E Z 𝓛 heap n b o region.heap region.places empty.0 empty.1) $ split ! $
    move ! (2 ∷ []) $ fsplit ! $ keep ! (2 ∷ 3 ∷ 1 ∷ 5 ∷ 6 ∷ []) $
    -- [the memory; the right to give it back; the `&` to the allocator; its token; the other tokens]
    enter ! 𝓣.C 𝓣.Λ fn (whole_of ∷ vptr at.0 at.1 ∷ vint w64 n ∷ []) Post $
    alloc_all ! (λ l. pass_all ! refl (region_good region.first (subst InBlock (sym here) tt), ((tt, tt), ((tt, record { fits = are.1.1.0.1 }), tt))) $ let Ev = env fn.locals l in
    let given_back : (Gives Z 𝓛 𝓜.mem 𝓡.returns).Ghost = at_gives Z 𝓛 𝓜.mem 𝓡.returns κs.0 qs.0 at heap b o bytes step τ in
    sets ! (is ! (of_opd ! (get_in ! (fld ! refl (stop !)) (sub ! 0 refl (whole !)))) (ap ptr_val here)) refl (tt, tt) $ first ! $ blocks ! $ sets ! (of_opd ! (get ! refl)) refl (tt, tt) $
    sets ! (is ! (bin ! (get ! refl) (size_word !) (record { fits = word })) (ap (vint w64) (uncapped n (sz E) fits))) refl (tt, record { fits = fits }) $
    move ! (2 ∷ 3 ∷ []) $ join ! $ move ! (1 ∷ 2 ∷ 0 ∷ []) $ use3 𝓛 (raw ((Gives Z 𝓛 𝓜.mem 𝓡.returns).pre given_back))
    (Gives-goes Z 𝓛 𝓜.mem 𝓡.returns κs.0 qs.0 at heap (Incl-trans bounds.0 lives) b o bytes step τ (block_size E n fits) (block_align E n) fits (capped_fits (align (elτ E)))) $
    calls_at_last ! (framed 𝓤 H 𝓜 𝓣) (Gives Z 𝓛 𝓜.mem 𝓡.returns) (met.deallocate dd) given_back
    (and_then ! (get ! refl) (and_then ! (get ! refl) (and_then ! (get ! refl) (and_then ! (align_word !) (no_more !))))) (λ v.
    use1 𝓛 (later (given (v ≡ vunit) (‵ (flft κs.0 qs.0)))) (Gives-Gives Z 𝓛 𝓜.mem 𝓡.returns κs.0 qs.0 at heap b o bytes step τ v) $ await ! tt $ learn ! (λ e.
    lands_last ! refl (subst (λ (u : Val). T (has_ty ty_unit u) × WT u) (sym e) (tt, tt)) $ exec ! 𝓣.C 𝓣.Λ Ev (after 2 fn.body) (at_ret Ev Post) $
    sets ! (of_opd ! (unit_lit !)) refl (tt, tt) $ join ! $ nothing ! $ feq_i ! (List Val) (vunit ∷ []) (vunit ∷ []) refl $ nothing ! $ nothing ! $ fjoin ! $ nothing ! $ nothing ! $ fjoin3 ! $
    returns ! (look_at ! 0 refl) $ free_all ! refl $ keep ! (3 ∷ 0 ∷ 1 ∷ 2 ∷ []) $ by ! (leaves 𝓛 En hs c y vunit tt (tt, (tt, (tt, tt))) (tt, (tt, (tt, tt)))))))))))
