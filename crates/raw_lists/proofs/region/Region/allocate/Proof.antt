-- `allocate` asks for memory, and answers the region of empty places that it is. Assumes `Logic`.
use Rattle.std.proofs.Common.{ℕ, ◌*◌, ◌^◌, ◌<◌, true, false, [], ◌∷◌, sym, refl, ap, subst, arith, lit<, w64, Ok, Err}
use mir.Syntax.{Ty, named}
use mir.Val.{Val, vint, vptr, WT}
use mir.MapTy.{inst_fn}
use base.Logic.{SProp}
use base.Fml.{Fml, ftrue, fsep, flft, Incl-trans}
use prog.Memory.{align, capped}
use prog.Capped.{capped_fits}
use prog.Wp.{Wp, after_seq, at_return}
use types.Kit.{Post as After, any_q, ‵, raw, ◌⊛◌, given, later, at_ret, ◌$◌, ◌∵◌, !, qed, by, move, keep, drop, use0, use1, use2, split, join, learn, fsplit, fjoin3, await}
use types.Part.{whole, agg}
use types.Match.{vrt, in_variant}
use types.Run.{stop, fld, lit, size_word, align_word, no_more, and_then, of_opd, bin, first, switches_on, exec, returns, enter}
use types.ByLocal.{alloc_all, pass_all, free_all, look_at, get, get_in, get_tag, is, sets, sets_last, lands_as, env}
use contract.BorrowLft.{◌⊑◌}
use contract.Monad.{fact}
use contract.Running.{tables}
use denote.Exit.{yes}
use denote.RattleType.{owns}
use denote.Signature.{plain, types_at}
use denote.Param.{param}
use denote.Builtin.{RefOf, usize}
use denote.Ref.{shr_vals, shr_Tells}
use denote.Plain.{uint_vals, uint_Tells}
use denote.Steps.{nothing}
use denote.Triple.Call.{calls_at}
use denote.Triple.Table.{framed}
use denote.Triple.Walked.{Stays, stay_dropped, walk_of, Goes-dropped}
use Rattle.std.proofs.raw_atomic.Walks.{proved, leaves}
use Rattle.core.proofs.mem.Param.{El, R, elτ}
use Rattle.core.proofs.alloc.Calls.{Al, Answer-typed, Takes, at_takes, Answered, Takes-goes, Takes-gives, answers}
use Rattle.core.proofs.slots.Bodies.{after, head, arm_body}
use Rattle.core.proofs.slots.Leases.{uncapped, block_ty, block_size, block_align, args}
use Rattle.raw_lists.specs.Region.{Fits}
use Rattle.raw_lists.proofs.Regions.{sz, D}
use Rattle.raw_lists.proofs.Rooms.{empty_at, granted_val, refused_val, Given, IsEmpty, granted, refused}
use Rattle.raw_lists.specs.contracts.region.Region.allocate.{ended, clauses}
use Rattle.raw_lists.specs.contracts.region.Region.allocate.Key.{name as #self}
use Rattle.raw_lists.proofs.region.Region.allocate.Statement.{statement}
use Rattle.raw_lists.proofs.region.Region.allocate.Code as code

pub allocate_spec : {M : Type 1} → statement M
allocate_spec 𝓤 𝓛 𝓜 𝓡 wired X U L LU g d dd met _ =
    let H = 𝓛.H in let 𝓣 = tables 𝓤 H 𝓜 𝓡 𝓡.env in
    let E : El = record { row = X; laws = L } in let Z : Al = record { row = U; laws = LU; g = g; d = d; drops = dd } in
    let fn = inst_fn (args E Z) code.function in let En = ended X U g d dd in let c = clauses X U g d dd 𝓛 𝓜.mem 𝓡.returns in
    let lent = RefOf (0 ∷ []) tt (plain (λ _. param 1 U)) (λ _. tt) in
    let hs : Stays En.signature.params En.kept = (stay_dropped lent yes, (stay_dropped (plain (λ _. usize)) yes, tt)) in
    proved 𝓛 En hs c 𝓜 𝓡 (Goes-dropped 𝓛 3 lent yes (λ κs x f. refl), (Goes-dropped 𝓛 3 (plain (λ _. usize)) yes (λ κs x f. refl), tt))
    (#self (args E Z)) fn (code.unfolded 𝓤 H 𝓜 𝓡 wired (X, (U, tt)) d dd)
    (λ κs. (shr_vals, (uint_vals w64, tt))) (λ κs. (shr_Tells (named 0) κs.0 (param 1 U), (uint_Tells w64, tt))) (λ κs qs bounds a gh are.
    let at : ℕ × ℕ = a.0.ref_ptr in let heap : U.Denot = a.0.now in let n : ℕ = a.1.0 in
    let bytes : ℕ = n * sz E in let step : ℕ = capped (align (elτ E)) in let τ : Ty = block_ty E n in
    let y : (walk_of 𝓛 En hs c).Ghost = ((κs, qs, bounds, a, (vptr at.0 at.1 ∷ [], (vint w64 n ∷ [], tt))), gh) in let Post : Val → SProp 𝓤 = (walk_of 𝓛 En hs c).post y in
    let unused : Fml = fsep (flft κs.1.0 qs.1.0) (fsep (flft κs.1.1.0 qs.1.1.0) ftrue) in
    qed 𝓛 (((‵ (flft κs.0 qs.0) ⊛ ‵ unused) ⊛ ‵ (owns (types_at En.signature.params κs) a y.0.4)) ∷ raw (fact 𝓤 _) ∷ given (κs.1.1.0 ⊑ U.lives) (‵ ftrue) ∷ given (Fits (R E) n) (‵ ftrue) ∷ []) ∵
    keep ! (2 ∷ 3 ∷ 0 ∷ []) $ learn ! (λ lives. drop ! $ learn ! (λ small. drop ! $ split ! $ split ! $ move ! (2 ∷ []) $ fsplit ! $ fsplit ! $ keep ! (1 ∷ 3 ∷ 4 ∷ []) $
    -- [the `&` to the allocator; its token; the other tokens]
    let fits : bytes < 2 ^ 64 = omega arith in let word : n * capped (sz E) < 2 ^ 64 = subst (λ (k : ℕ). k < 2 ^ 64) (sym (uncapped n (sz E) fits)) fits in
    enter ! 𝓣.C 𝓣.Λ fn (vptr at.0 at.1 ∷ vint w64 n ∷ []) Post $ alloc_all ! (λ l. pass_all ! refl ((tt, tt), ((tt, record { fits = are.1.0.1 }), tt)) $ let Ev = env fn.locals l in
    let rest : After 𝓤 H = any_q (after_seq 𝓤 H (Wp 𝓤 H 𝓣.C 𝓣.Λ Ev (after 3 fn.body) (at_return 𝓤 H Ev Post)) (at_return 𝓤 H Ev Post)) in
    let asked : (Takes Z 𝓛 𝓜.mem 𝓡.returns).Ghost = at_takes Z 𝓛 𝓜.mem 𝓡.returns κs.0 qs.0 at heap bytes step τ in
    sets ! (is ! (bin ! (get ! refl) (size_word !) (record { fits = word })) (ap (vint w64) (uncapped n (sz E) fits))) refl (tt, record { fits = fits }) $
    use2 𝓛 (raw ((Takes Z 𝓛 𝓜.mem 𝓡.returns).pre asked))
    (Takes-goes Z 𝓛 𝓜.mem 𝓡.returns κs.0 qs.0 at heap (Incl-trans bounds.0 lives) bytes step τ (block_size E n fits) (block_align E n) fits (capped_fits (align (elτ E)))) $
    calls_at ! (framed 𝓤 H 𝓜 𝓣) (Takes Z 𝓛 𝓜.mem 𝓡.returns) (met.allocate dd) asked (and_then ! (get ! refl) (and_then ! (get ! refl) (and_then ! (align_word !) (no_more !)))) (λ v.
    use1 𝓛 (later (raw (Answered Z 𝓛 𝓜.mem 𝓡.returns heap τ v) ⊛ ‵ (flft κs.0 qs.0))) (Takes-gives Z 𝓛 𝓜.mem 𝓡.returns κs.0 qs.0 at heap bytes step τ v) $ await ! tt $ split ! $
    move ! (1 ∷ 2 ∷ []) $ join ! $ move ! (1 ∷ []) $ answers Z ! 𝓜.mem 𝓡.returns heap τ v
    (λ b o e. let new : D E Z = empty_at E Z heap n b o in let typed : WT (granted_val b o) = (record { fits = lit< tt }, ((tt, (tt, tt)), tt)) in
    lands_as ! e refl (Answer-typed true b o) $ first ! $ switches_on ! (get_tag ! (vrt ! refl (fld ! refl (stop !))) (whole !)) $ exec ! 𝓣.C 𝓣.Λ Ev (arm_body 0 (head (after 2 fn.body))) rest $
    sets ! (of_opd ! (get_in ! (vrt ! refl (fld ! refl (stop !))) (in_variant ! 0 0 refl refl (whole !)))) refl (tt, tt) $ sets ! (of_opd ! (get ! refl)) refl (tt, tt) $
    sets ! (agg ! (no_more !)) refl (tt, tt) $ sets ! (agg ! (and_then ! (get ! refl) (and_then ! (get ! refl) (no_more !)))) refl (tt, (tt, (tt, tt))) $
    sets_last ! (agg ! (and_then ! (lit ! tt) (and_then ! (get ! refl) (no_more !)))) refl (tt, typed) $
    exec ! 𝓣.C 𝓣.Λ Ev (after 3 fn.body) (at_ret Ev Post) $ sets ! (of_opd ! (get ! refl)) refl (tt, typed) $
    use2 𝓛 (‵ ((Given E Z heap n).own_val (Ok new) (granted_val b o ∷ [])) ⊛ raw (fact 𝓤 (IsEmpty E Z heap n (Ok new)))) (granted E Z 𝓛 heap n b o small) $ split ! $
    nothing ! $ nothing ! $ nothing ! $ fjoin3 ! $ returns ! (look_at ! 0 refl) $ free_all ! refl $ keep ! (3 ∷ 0 ∷ 1 ∷ 2 ∷ []) $ by ! (leaves 𝓛 En hs c y (granted_val b o) (Ok new) (tt, (tt, tt)) (tt, (tt, tt))))
    (λ e. let typed : WT refused_val = (record { fits = lit< tt }, (tt, tt)) in
    lands_as ! e refl (Answer-typed false 0 0) $ first ! $ switches_on ! (get_tag ! (vrt ! refl (fld ! refl (stop !))) (whole !)) $ exec ! 𝓣.C 𝓣.Λ Ev (arm_body 1 (head (after 2 fn.body))) rest $
    sets ! (of_opd ! (get_in ! (vrt ! refl (fld ! refl (stop !))) (in_variant ! 1 0 refl refl (whole !)))) refl (tt, tt) $
    sets_last ! (agg ! (and_then ! (lit ! tt) (and_then ! (get ! refl) (no_more !)))) refl (tt, typed) $
    exec ! 𝓣.C 𝓣.Λ Ev (after 3 fn.body) (at_ret Ev Post) $ sets ! (of_opd ! (get ! refl)) refl (tt, typed) $
    use0 𝓛 (‵ ((Given E Z heap n).own_val (Err (record {})) (refused_val ∷ [])) ⊛ raw (fact 𝓤 (IsEmpty E Z heap n (Err (record {}))))) (refused E Z 𝓛 heap n) $ split ! $
    nothing ! $ nothing ! $ nothing ! $ fjoin3 ! $ returns ! (look_at ! 0 refl) $ free_all ! refl $ keep ! (3 ∷ 0 ∷ 1 ∷ 2 ∷ []) $ by ! (leaves 𝓛 En hs c y refused_val (Err (record {})) (tt, (tt, tt)) (tt, (tt, tt)))))))))
