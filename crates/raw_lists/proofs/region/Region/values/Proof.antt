-- `values` shows the values of all places. Assumes `Logic`.
use mathlib.Core.Path.{◌≡◌, refl, ap, subst}
use Prim.Native.Nat.{ℕ, ◌+◌, ◌-◌, ◌*◌, ◌<◌, ◌^◌}
use native.Mathlib.Omega.{arith}
use mathlib.Core.List.{List, [], ◌∷◌}
use lib.ListN.{length}
use base.Logic.{SProp, never, id⊢}
use base.Fml.{Fml, ftrue, fsep, fhide, flft}
use mir.Syntax.{w64, named}
use mir.MapTy.{inst_fn}
use mir.Val.{Val, vint, vptr}
use contract.Monad.{fact, fact_i}
use contract.Running.{tables}
use types.Kit.{‵, raw, ◌⊛◌, at_ret, ◌$◌, ◌∵◌, !, qed, by, move, keep, use0, use1, split, join, rewrite, drop, flt_l, flt_i, fsplit, fjoin, fjoin3, feq_i}
use types.Part.{agg}
use types.Run.{look, stop, fld, load, size_lit, of_opd, bin, first, blocks, exec, returns, enter, no_more, and_then}
use types.ByLocal.{alloc_all, pass_all, free_all, look_at, get, through, sets, sets_last, env}
use denote.Exit.{yes}
use denote.Memory.{hidden_shr}
use denote.RattleType.{RattleType, owns}
use denote.Signature.{plain, types_at}
use denote.Builtin.{usize, RefOf}
use denote.Plain.{uint_vals, uint_Tells}
use denote.Ref.{shr_vals, shr_Tells}
use denote.Opens.{hide, unhide}
use denote.RawPtr.{RawPtr, in_a_block}
use Rattle.core.proofs.slots.Lent.{pointer_in, pointer_out}
use denote.Slice.{slice_val, elements_shared}
use Rattle.raw_lists.specs.Places.{laid, values, IsRun}
use denote.Steps.{heard, nothing}
use denote.Triple.Walked.{Stays, stay_dropped, walk_of, Goes-dropped}
use base.Logic.{emp}
use Rattle.std.specs.Prelude.{Option}
use Rattle.std.proofs.raw_atomic.Walks.{proved, leaves}
use Rattle.core.proofs.mem.Param.{El, R, el_x}
use Rattle.core.proofs.alloc.Calls.{Al}
use Rattle.core.proofs.ptr.Rows.{times_below, one_below}
use Rattle.core.proofs.slots.Bodies.{after}
use Rattle.core.proofs.slots.Leases.{args}
use Rattle.raw_lists.specs.Region.{places_lent, region_lent}
use Rattle.raw_lists.specs.contracts.region.Region.values.{ended, clauses}
use Rattle.raw_lists.specs.contracts.region.Region.values.Key.{name as #self}
use Rattle.core.proofs.slots.Leases.{P}
use Rattle.raw_lists.specs.contracts.region.Region as C
use Rattle.raw_lists.proofs.Regions.{sz, Rg, D, run_seen, shown}
use Rattle.raw_lists.proofs.region.Region.values.Statement.{statement}
use Rattle.raw_lists.proofs.region.Region.values.Code as code

pub values_spec : {M : Type 1} → statement M
values_spec 𝓤 𝓛 𝓜 𝓡 wired X U L LU g d dd _ _ =
    let H = 𝓛.H in let 𝓣 = tables 𝓤 H 𝓜 𝓡 𝓡.env in let E : El = record { row = X; laws = L } in let Z : Al = record { row = U; laws = LU; g = g; d = d; drops = dd } in
    let fn = inst_fn (args E Z) code.function in let En = ended X U g d dd in let c = clauses X U g d dd 𝓛 𝓜.mem 𝓡.returns in let Row : RattleType = Rg E Z in
    let seen = RefOf (0 ∷ []) tt (plain (λ _. Row)) (λ _. tt) in let word = plain (λ _. usize) in
    let hs : Stays En.signature.params En.kept = (stay_dropped seen yes, (stay_dropped word yes, (stay_dropped word yes, tt))) in
    proved 𝓛 En hs c 𝓜 𝓡 (Goes-dropped 𝓛 3 seen yes (λ κs x f. refl), (Goes-dropped 𝓛 3 word yes (λ κs x f. refl), (Goes-dropped 𝓛 3 word yes (λ κs x f. refl), tt)))
    (#self (args E Z)) fn (code.unfolded 𝓤 H 𝓜 𝓡 wired (X, (U, tt)) d dd) (λ κs. (shr_vals, (uint_vals w64, (uint_vals w64, tt)))) (λ κs. (shr_Tells (named 0) κs.0 Row, (uint_Tells w64, (uint_Tells w64, tt)))) (λ κs qs bounds a gh are.
    let κ = κs.0 in let rb : ℕ = a.0.ref_ptr.0 in let ro : ℕ = a.0.ref_ptr.1 in let r : D E Z = a.0.now in let i : ℕ = a.1.0 in let k : ℕ = a.1.1.0 in
    let y : (walk_of 𝓛 En hs c).Ghost = ((κs, qs, bounds, a, (vptr rb ro ∷ [], (vint w64 i ∷ [], (vint w64 k ∷ [], tt)))), gh) in let Post : Val → SProp 𝓤 = (walk_of 𝓛 En hs c).post y in
    let others : Fml = fsep (flft κs.1.0 qs.1.0) (fsep (flft κs.1.1.0 qs.1.1.0) ftrue) in
    let Asked : Type 0 = IsRun i k r.places in
    qed 𝓛 (((‵ (flft κ qs.0) ⊛ ‵ others) ⊛ ‵ (owns (types_at En.signature.params κs) a y.0.4)) ∷ raw (fact 𝓤 _) ∷ raw (fact 𝓤 _) ∷ raw (fact 𝓤 Asked) ∷ []) ∵
    keep ! (3 ∷ 0 ∷ []) $ heard ! Asked (λ asked. let xs : List (el_x E) = values r.places in let rest : ℕ = length r.places - (i + k) in
    split ! $ split ! $ move ! (2 ∷ []) $ fsplit ! $ fsplit ! $ drop ! $
    use1 𝓛 (‵ (hidden_shr RawPtr κ r.first rb (ro + 0)) ⊛ ‵ (fhide (C.the_lent (R E) (P E Z) g r r.first κ))) (shown E Z 𝓛 κ r rb ro) $ split ! $ move ! (1 ∷ []) $ unhide ! $
    in_a_block ! r.first (λ p. region_lent (R E) p r.places κ) (id⊢ 𝓤 (never 𝓤)) (λ b o at. fsplit ! $ flt_l ! (λ fit. fsplit ! $
    let n : ℕ = length r.places in let s : ℕ = sz E in let within = asked.within in let some = asked.some in
    let tiny : s < 2 ^ 64 = omega (arith, one_below n s (2 ^ 63) (omega (arith, some)) fit) in let far : i * s < 2 ^ 64 = omega (arith, times_below i n s (2 ^ 63) (omega (arith, within)) fit) in
    let room : length xs * s < 2 ^ 63 = times_below (length xs) n s (2 ^ 63) (omega (arith, within, asked.counted)) fit in let counted : k ≡ length xs = asked.counted in let few : length xs < 2 ^ 64 = subst (λ (j : ℕ). j < 2 ^ 64) counted are.1.1.0.1 in
    rewrite ! 0 (λ (ps : List (Option (el_x E))). ‵ (places_lent (R E) b o ps κ)) {x = laid i xs rest} asked.laid_out refl $
    use1 𝓛 (‵ (elements_shared (R E) xs b (i * s + o) κ)) (run_seen E 𝓛 b κ i xs rest o (i * s + o) refl) $ hide ! $
    -- [the pointer; the token; the other tokens; the values]
    keep ! (2 ∷ 4 ∷ 5 ∷ 0 ∷ []) $
    enter ! 𝓣.C 𝓣.Λ fn (vptr rb ro ∷ vint w64 i ∷ vint w64 k ∷ []) Post $ alloc_all ! (λ l. pass_all ! refl ((tt, tt), ((tt, record { fits = are.1.0.1 }), ((tt, record { fits = are.1.1.0.1 }), tt))) $ let Ev = env fn.locals l in
    first ! $ blocks ! $ pointer_in ! tt r.first b o at rb (ro + 0) (λ q'.
    sets ! (of_opd ! (load ! (through ! refl (fld ! refl (stop !))) (look ! 0 refl))) refl (tt, tt) $
    pointer_out ! tt r.first b o at rb (ro + 0) $
    sets ! (bin ! (get ! refl) (size_lit ! (record { fits = tiny })) (record { fits = far })) refl (tt, record { fits = far }) $
    sets ! (bin ! (get ! refl) (get ! refl) tt) refl (tt, tt) $
    sets_last ! (agg ! (and_then ! (get ! refl) (and_then ! (get ! refl) (no_more !)))) refl (tt, (tt, (record { fits = are.1.1.0.1 }, tt))) $
    exec ! 𝓣.C 𝓣.Λ Ev (after 1 fn.body) (at_ret Ev Post) $ sets ! (of_opd ! (get ! refl)) refl (tt, (tt, (record { fits = are.1.1.0.1 }, tt))) $
    let Got : Type 0 = values r.places ≡ values r.places in
    join ! $ move ! (1 ∷ []) $ flt_i ! (length xs * s) (2 ^ 63) room $ flt_i ! (length xs) (2 ^ 64) few $ fjoin ! $
    feq_i ! (List Val) (slice_val (b, i * s + o) k ∷ []) (slice_val (b, i * s + o) (length xs) ∷ []) (ap (λ (j : ℕ). slice_val (b, i * s + o) j ∷ []) counted) $ fjoin ! $ fjoin ! $
    use0 𝓛 (raw (fact 𝓤 Got)) (fact_i 𝓤 Got (emp 𝓤) refl) $ nothing ! $ nothing ! $ fjoin ! $ nothing ! $ nothing ! $ fjoin3 ! $
    returns ! (look_at ! 0 refl) $ free_all ! refl $ keep ! (3 ∷ 0 ∷ 2 ∷ 1 ∷ []) $
    by ! (leaves 𝓛 En hs c y (slice_val (b, i * s + o) k) (record { ref_ptr = (b, i * s + o); now = xs }) (tt, (tt, (tt, tt))) (tt, (tt, (tt, tt))))))))))
