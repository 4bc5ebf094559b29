-- `read` moves a value out, and its place is empty. Assumes `Logic`.
use mathlib.Core.Path.{◌≡◌, refl, sym}
use Prim.Native.Nat.{ℕ, ◌+◌, ◌*◌, ◌<◌, ◌^◌}
use native.Mathlib.Omega.{arith}
use mathlib.Core.List.{List, [], ◌∷◌}
use lib.ListN.{length, get_or, set, length-set}
use base.Logic.{SProp}
use base.Fml.{Fml, ftrue, fsep, fat, froom, flft}
use base.Fraction.{full_share}
use mir.Syntax.{w64, named}
use mir.MapTy.{inst_fn}
use mir.Val.{Val, vint, vptr}
use contract.Monad.{fact, fact_i}
use contract.Running.{tables}
use types.Kit.{‵, raw, ◌⊛◌, some, given, pick, learn, at_ret, ◌$◌, ◌∵◌, !, qed, by, move, keep, use0, use1, use2, split, join, rewrite, fsplit, fsplit3, fjoin, fjoin3, feq_i}
use types.Part.{whole, sub, look_in}
use types.Run.{look, stop, fld, load, size_lit, of_opd, bin, first, blocks, exec, returns, enter}
use types.ByLocal.{alloc_all, pass_all, free_all, look_at, get, through, sets, sets_last, env}
use denote.Exit.{yes}
use denote.RattleType.{RattleType, owns}
use denote.Signature.{plain, types_at}
use denote.Builtin.{usize}
use denote.Plain.{uint_vals, uint_Tells}
use denote.Ref.{mut_vals, mut_Tells}
use Rattle.raw_lists.specs.Places.{IsFilled}
use Rattle.raw_lists.proofs.Places.{filled-within}
use denote.Steps.{heard, nothing}
use denote.Triple.Walked.{Stays, stay_dropped, stay_ref, walk_of, Goes-dropped, Goes-ref}
use base.Logic.{emp}
use Rattle.std.specs.Prelude.{Option, Some, None}
use Rattle.std.proofs.raw_atomic.Walks.{proved, leaves}
use Rattle.core.proofs.mem.Param.{El, R, el_x, elτ, Good}
use Rattle.core.proofs.alloc.Calls.{Al}
use Rattle.core.proofs.ptr.Rows.{times_below, one_below}
use Rattle.core.proofs.slice.Rows.{el_out}
use Rattle.core.proofs.slots.Bodies.{after}
use Rattle.core.proofs.slots.Leases.{args}
use Rattle.std_alloc.proofs.RawLayout.{as_raw}
use Rattle.raw_lists.specs.Region.{place_owns, places_own}
use Rattle.raw_lists.specs.contracts.region.Region.read.{ended, clauses}
use Rattle.raw_lists.specs.contracts.region.Region.read.Key.{name as #self}
use Rattle.raw_lists.proofs.Regions.{sz, Rg, D, besides, place_out, place_in, region_opens, region_closes}
use Rattle.raw_lists.proofs.region.Region.read.Statement.{statement}
use Rattle.raw_lists.proofs.region.Region.read.Code as code

pub read_spec : {M : Type 1} → statement M
read_spec 𝓤 𝓛 𝓜 𝓡 wired X U L LU g d dd _ _ =
    let H = 𝓛.H in let 𝓣 = tables 𝓤 H 𝓜 𝓡 𝓡.env in let E : El = record { row = X; laws = L } in let Z : Al = record { row = U; laws = LU; g = g; d = d; drops = dd } in
    let fn = inst_fn (args E Z) code.function in let En = ended X U g d dd in let c = clauses X U g d dd 𝓛 𝓜.mem 𝓡.returns in let Row : RattleType = Rg E Z in
    let hs : Stays En.signature.params En.kept = (stay_ref (0 ∷ []) tt (plain (λ _. Row)), (stay_dropped (plain (λ _. usize)) yes, tt)) in
    proved 𝓛 En hs c 𝓜 𝓡 (Goes-ref 𝓛 3 0 tt (plain (λ _. Row)), (Goes-dropped 𝓛 3 (plain (λ _. usize)) yes (λ κs x f. refl), tt))
    (#self (args E Z)) fn (code.unfolded 𝓤 H 𝓜 𝓡 wired (X, (U, tt)) d dd) (λ κs. (mut_vals, (uint_vals w64, tt))) (λ κs. (mut_Tells (named 0) κs.0 Row, (uint_Tells w64, tt))) (λ κs qs bounds a gh are.
    let rb : ℕ = a.0.ref_ptr.0 in let ro : ℕ = a.0.ref_ptr.1 in let r : D E Z = a.0.now in let i : ℕ = a.1.0 in
    let y : (walk_of 𝓛 En hs c).Ghost = ((κs, qs, bounds, a, (vptr rb ro ∷ [], (vint w64 i ∷ [], tt))), gh) in let Post : Val → SProp 𝓤 = (walk_of 𝓛 En hs c).post y in
    let others : Fml = fsep (flft κs.1.0 qs.1.0) (fsep (flft κs.1.1.0 qs.1.1.0) ftrue) in
    let Asked : Type 0 = IsFilled r.places i in
    qed 𝓛 (((‵ (flft κs.0 qs.0) ⊛ ‵ others) ⊛ ‵ (owns (types_at En.signature.params κs) a y.0.4)) ∷ raw (fact 𝓤 _) ∷ raw (fact 𝓤 _) ∷ raw (fact 𝓤 Asked) ∷ []) ∵
    keep ! (3 ∷ 0 ∷ []) $ heard ! Asked (λ asked. let x : el_x E = asked.0 in let within : i < length r.places = filled-within r.places i x asked.1 in
    split ! $ split ! $ move ! (2 ∷ []) $ fsplit ! $ fsplit3 ! $ keep ! (1 ∷ 2 ∷ 4 ∷ 5 ∷ []) $
    enter ! 𝓣.C 𝓣.Λ fn (vptr rb ro ∷ vint w64 i ∷ []) Post $ alloc_all ! (λ l. pass_all ! refl ((tt, tt), ((tt, record { fits = are.1.0.1 }), tt)) $ let Ev = env fn.locals l in
    region_opens E Z ! tt r rb ro (λ b o at fit.
    let n : ℕ = length r.places in let s : ℕ = sz E in let tiny : s < 2 ^ 64 = omega (arith, one_below n s (2 ^ 63) (omega arith) fit) in let far : i * s < 2 ^ 64 = omega (arith, times_below i n s (2 ^ 63) (omega arith) fit) in
    let new : D E Z = record { first = r.first; by = r.by; heap = r.heap; places = set r.places i None } in
    use1 𝓛 (‵ (place_owns (R E) b (i * s + o) (get_or r.places i None)) ⊛ ‵ (besides E b o r.places i)) (place_out E 𝓛 b r.places i o (i * s + o) within refl) $ split ! $
    rewrite ! 0 (λ (p : Option (el_x E)). ‵ (place_owns (R E) b (i * s + o) p)) asked.1 refl $
    use1 𝓛 (some (λ (v : Val). given (Good E v) (‵ (fat full_share (elτ E) b (i * s + o) v) ⊛ ‵ (E.row.own_val x (v ∷ []))))) (el_out E 𝓛 b x (i * s + o)) $
    pick ! (λ v. learn ! (λ good. split ! $
    -- [the value's cell; what it owns; the other places; the right to free them; the word; the open borrow; obs; auth; the other tokens]
    first ! $ blocks ! $
    sets ! (of_opd ! (load ! (through ! refl (fld ! refl (stop !))) (look_in ! 4 (sub ! 0 refl (whole !))))) refl (tt, tt) $
    sets ! (bin ! (get ! refl) (size_lit ! (record { fits = tiny })) (record { fits = far })) refl (tt, record { fits = far }) $
    sets ! (bin ! (get ! refl) (get ! refl) tt) refl (tt, tt) $
    sets_last ! (of_opd ! (load ! (through ! refl (stop !)) (look ! 0 refl))) refl good $
    exec ! 𝓣.C 𝓣.Λ Ev (after 1 fn.body) (at_ret Ev Post) $ sets ! (of_opd ! (get ! refl)) refl good $
    use1 𝓛 (‵ (froom (elτ E) b (i * s + o))) (𝓛.laws.at_room (elτ E) b (i * s + o) v) $ as_raw ! (elτ E) b (i * s + o) $
    move ! (0 ∷ 2 ∷ []) $ use2 𝓛 (‵ (places_own (R E) b o new.places)) (place_in E 𝓛 b r.places i None o (i * s + o) within refl) $
    -- [the places; what the value owns; the right; the word; the open borrow; obs; auth; the other tokens]
    move ! (0 ∷ 2 ∷ 3 ∷ 4 ∷ 5 ∷ 6 ∷ []) $ region_closes E Z ! tt new b o n rb ro at (sym (length-set r.places i None)) fit $
    -- [obs; the borrow; the token; what the value owns; the other tokens]
    feq_i ! (List Val) (vptr rb ro ∷ []) (vptr rb ro ∷ []) refl $ fjoin3 ! $ nothing ! $ nothing ! $ fjoin ! $ move ! (1 ∷ 0 ∷ []) $ fjoin ! $ move ! (1 ∷ 3 ∷ []) $ join ! $
    -- [the tokens; self; what the value owns]
    let Got : Type 0 = get_or r.places i None ≡ Some x in let Kept : Type 0 = (new.places ≡ new.places) × (r.heap ≡ r.heap) × (r.first ≡ r.first) in
    use0 𝓛 (raw (fact 𝓤 Kept)) (fact_i 𝓤 Kept (emp 𝓤) (refl, refl, refl)) $ use0 𝓛 (raw (fact 𝓤 Got)) (fact_i 𝓤 Got (emp 𝓤) asked.1) $ join ! $
    returns ! (look_at ! 0 refl) $ free_all ! refl $ keep ! (1 ∷ 2 ∷ 3 ∷ 0 ∷ []) $ by ! (leaves 𝓛 En hs c y v x (new, (tt, tt)) (tt, (tt, tt)))))))))
