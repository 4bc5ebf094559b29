-- `write` fills an empty place. Assumes `Logic`.
use mathlib.Core.Path.{◌≡◌, refl, sym, subst}
use Prim.Native.Nat.{ℕ, ◌+◌, ◌*◌, ◌<◌, ◌^◌}
use native.Mathlib.Omega.{arith}
use mathlib.Core.List.{List, [], ◌∷◌, ◌++◌}
use lib.ListN.{length, get_or, set, length-set}
use base.Logic.{SProp, ent, id⊢}
use base.Fml.{Fml, ftrue, fsep, flft}
use mir.Syntax.{w64}
use mir.MapTy.{inst_fn}
use mir.Val.{Val, vunit, vint, vptr}
use prog.Wp.{WpFn}
use contract.Monad.{fact, fact_i}
use contract.Running.{tables}
use types.Kit.{‵, raw, ◌⊛◌, at_ret, ◌$◌, ◌∵◌, !, qed, by, move, keep, use0, use1, use2, split, join, rewrite, fsplit, fsplit3, fjoin, fjoin3, feq_i, suffices}
use types.Part.{whole, sub, look_in}
use types.Run.{init, stop, fld, load, size_lit, unit_lit, of_opd, bin, assigns_last, first, blocks, exec, returns, enter}
use types.ByLocal.{alloc_all, pass_all, free_all, look_at, get, through, sets, env}
use denote.Exit.{yes, no}
use denote.RattleType.{RattleType, owns}
use denote.Signature.{plain, types_at}
use denote.Builtin.{usize}
use denote.Steps.{heard, nothing}
use denote.Triple.Walked.{Stays, stay_dropped, stay_ref, walk_of, Goes-dropped, Goes-ref}
use base.Logic.{emp}
use Rattle.std.specs.Prelude.{Option, Some, None}
use Rattle.std.proofs.raw_atomic.Walks.{proved_at, leaves}
use Rattle.core.proofs.mem.Param.{El, R, el_x, elτ, lawful, one}
use Rattle.core.proofs.alloc.Calls.{Al}
use Rattle.core.proofs.ptr.Rows.{times_below, one_below}
use Rattle.core.proofs.slice.Rows.{el_in}
use Rattle.core.proofs.slots.Bodies.{after}
use Rattle.core.proofs.slots.Leases.{args}
use Rattle.std_alloc.proofs.RawLayout.{as_written}
use Rattle.raw_lists.specs.Region.{place_owns, places_own}
use Rattle.raw_lists.specs.contracts.region.Region.write.{ended, clauses}
use Rattle.raw_lists.specs.contracts.region.Region.write.Key.{name as #self}
use Rattle.raw_lists.proofs.Regions.{sz, Rg, D, besides, place_out, place_in, region_opens, region_closes}
use Rattle.raw_lists.proofs.region.Region.write.Statement.{statement}
use Rattle.raw_lists.proofs.region.Region.write.Code as code

pub write_spec : {M : Type 1} → statement M
write_spec 𝓤 𝓛 𝓜 𝓡 wired X U L LU g d dd _ _ =
    let H = 𝓛.H in let 𝓣 = tables 𝓤 H 𝓜 𝓡 𝓡.env in let E : El = record { row = X; laws = L } in let Z : Al = record { row = U; laws = LU; g = g; d = d; drops = dd } in
    let fn = inst_fn (args E Z) code.function in let En = ended X U g d dd in let c = clauses X U g d dd 𝓛 𝓜.mem 𝓡.returns in let Row : RattleType = Rg E Z in
    let hs : Stays En.signature.params En.kept = (stay_ref (0 ∷ []) tt (plain (λ _. Row)), (stay_dropped (plain (λ _. usize)) yes, (stay_dropped (plain (λ _. R E)) no, tt))) in
    proved_at 𝓛 En hs c 𝓜 𝓡 (Goes-ref 𝓛 3 0 tt (plain (λ _. Row)), (Goes-dropped 𝓛 3 (plain (λ _. usize)) yes (λ κs x f. refl), (Goes-dropped 𝓛 3 (plain (λ _. R E)) no (λ κs x f. refl), tt)))
    (#self (args E Z)) fn (code.unfolded 𝓤 H 𝓜 𝓡 wired (X, (U, tt)) d dd) (λ y are.
    let κs = y.0.0 in let qs = y.0.1 in let a = y.0.3 in let vss = y.0.4 in let Post : Val → SProp 𝓤 = (walk_of 𝓛 En hs c).post y in
    let rb : ℕ = a.0.ref_ptr.0 in let ro : ℕ = a.0.ref_ptr.1 in let r : D E Z = a.0.now in let i : ℕ = a.1.0 in let x : el_x E = a.1.1.0 in
    let others : Fml = fsep (flft κs.1.0 qs.1.0) (fsep (flft κs.1.1.0 qs.1.1.0) ftrue) in
    let got = one E vss.1.1.0 ((lawful E 𝓛).typed x vss.1.1.0 are.1.1.0) in let v : Val = got.0 in
    let Asked : Type 0 = (i < length r.places) × (get_or r.places i None ≡ None) in
    let us : List Val = vptr rb ro ∷ vint w64 i ∷ v ∷ [] in let Run : List Val → SProp 𝓤 = λ ws. WpFn 𝓤 H 𝓣.C 𝓣.Λ fn ws Post in
    qed 𝓛 (((‵ (flft κs.0 qs.0) ⊛ ‵ others) ⊛ ‵ (owns (types_at En.signature.params κs) a vss)) ∷ raw (fact 𝓤 _) ∷ raw (fact 𝓤 _) ∷ raw (fact 𝓤 Asked) ∷ []) ∵
    keep ! (3 ∷ 0 ∷ []) $ heard ! Asked (λ asked. split ! $ split ! $ move ! (2 ∷ []) $ fsplit3 ! $ fsplit3 ! $ move ! (4 ∷ []) $ fsplit ! $ keep ! (3 ∷ 4 ∷ 6 ∷ 0 ∷ 7 ∷ []) $
    rewrite ! 3 (λ (ws : List Val). ‵ ((R E).own_val x ws)) got.1 refl $
    suffices ! (Run us) (subst (λ (ws : List Val). ent 𝓤 (Run us) (Run ws)) (sym (λ k. are.0.0 k ++ (are.1.0.0 k ++ (got.1 k ++ [])))) (id⊢ 𝓤 (Run us))) $
    enter ! 𝓣.C 𝓣.Λ fn us Post $ alloc_all ! (λ l. pass_all ! refl ((tt, tt), ((tt, record { fits = are.1.0.1 }), (got.2, tt))) $ let Ev = env fn.locals l in
    region_opens E Z ! tt r rb ro (λ b o at fit.
    let n : ℕ = length r.places in let s : ℕ = sz E in let tiny : s < 2 ^ 64 = omega (arith, one_below n s (2 ^ 63) (omega arith) fit) in let far : i * s < 2 ^ 64 = omega (arith, times_below i n s (2 ^ 63) (omega arith) fit) in
    let new : D E Z = record { first = r.first; by = r.by; heap = r.heap; places = set r.places i (Some x) } in
    use1 𝓛 (‵ (place_owns (R E) b (i * s + o) (get_or r.places i None)) ⊛ ‵ (besides E b o r.places i)) (place_out E 𝓛 b r.places i o (i * s + o) asked.0 refl) $ split ! $
    rewrite ! 0 (λ (p : Option (el_x E)). ‵ (place_owns (R E) b (i * s + o) p)) asked.1 refl $ as_written ! (elτ E) b (i * s + o) $
    -- [the room; the other places; the right to free them; the word; the open borrow; obs; auth; what the item owns; the other tokens]
    first ! $ blocks ! $
    sets ! (of_opd ! (load ! (through ! refl (fld ! refl (stop !))) (look_in ! 3 (sub ! 0 refl (whole !))))) refl (tt, tt) $
    sets ! (bin ! (get ! refl) (size_lit ! (record { fits = tiny })) (record { fits = far })) refl (tt, record { fits = far }) $
    sets ! (bin ! (get ! refl) (get ! refl) tt) refl (tt, tt) $ sets ! (of_opd ! (get ! refl)) refl got.2 $
    assigns_last ! (of_opd ! (get ! refl)) (through ! refl (stop !)) (init ! 0 refl got.2) $
    exec ! 𝓣.C 𝓣.Λ Ev (after 1 fn.body) (at_ret Ev Post) $ sets ! (of_opd ! (unit_lit !)) refl (tt, tt) $
    move ! (0 ∷ 7 ∷ []) $ use2 𝓛 (‵ (place_owns (R E) b (i * s + o) (Some x))) (el_in E 𝓛 b x (i * s + o) v) $
    use2 𝓛 (‵ (places_own (R E) b o new.places)) (place_in E 𝓛 b r.places i (Some x) o (i * s + o) asked.0 refl) $
    region_closes E Z ! tt new b o n rb ro at (sym (length-set r.places i (Some x))) fit $
    -- [obs; the borrow; the token; the other tokens]
    feq_i ! (List Val) vss.0 (vptr rb ro ∷ []) are.0.0 $ fjoin3 ! $ nothing ! $ nothing ! $ fjoin ! $ nothing ! $ fjoin ! $ move ! (1 ∷ 0 ∷ []) $ fjoin ! $ move ! (1 ∷ 2 ∷ []) $ join ! $
    let Kept : Type 0 = (new.places ≡ new.places) × (r.heap ≡ r.heap) × (r.first ≡ r.first) in
    use0 𝓛 (raw (fact 𝓤 Kept)) (fact_i 𝓤 Kept (emp 𝓤) (refl, refl, refl)) $ feq_i ! (List Val) (vunit ∷ []) (vunit ∷ []) refl $
    returns ! (look_at ! 0 refl) $ free_all ! refl $ keep ! (2 ∷ 3 ∷ 0 ∷ 1 ∷ []) $ by ! (leaves 𝓛 En hs c y vunit tt (new, (tt, (tt, tt))) (tt, (tt, (tt, tt))))))))
