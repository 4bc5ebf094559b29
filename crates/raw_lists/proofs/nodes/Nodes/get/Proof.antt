-- `get` shows one node. Assumes `Logic`.
use mathlib.Core.Path.{refl, ap}
use Prim.Native.Nat.{ℕ}
use mathlib.Core.List.{List, [], ◌∷◌}
use base.Logic.{SProp, emp, never, id⊢}
use mir.Syntax.{w64, named}
use mir.MapTy.{inst_fn}
use mir.Val.{Val, vint, vptr}
use contract.Monad.{fact, fact_i}
use contract.Running.{tables}
use types.Kit.{‵, raw, ◌⊛◌, at_ret, ◌$◌, ◌∵◌, !, qed, by, move, keep, drop, use0, use1, split, fsplit, fjoin, flt_l, feq_i}
use types.Part.{whole, sub}
use types.Run.{stop, fld, addr, of_opd, first, blocks, exec, returns, enter}
use types.ByLocal.{alloc_all, pass_all, free_all, look_at, get, get_in, is, through, sets, sets_last, env}
use denote.Exit.{yes}
use denote.RattleType.{RattleType, owns}
use denote.Signature.{plain, types_at}
use denote.Builtin.{usize, RefOf}
use denote.Plain.{uint_vals, uint_Tells}
use denote.Ref.{shr_vals, shr_Tells}
use denote.Opens.{hide}
use denote.RawPtr.{Ptr, ptr_val, in_a_block}
use denote.Steps.{heard, nothing}
use denote.Triple.Entry.{alive}
use denote.Triple.Walked.{Stays, stay_dropped, walk_of, Goes-dropped}
use Rattle.std.specs.Prelude.{Some}
use Rattle.std.proofs.raw_atomic.Walks.{proved, leaves}
use Rattle.core.proofs.mem.Param.{El, R, el_x}
use Rattle.core.proofs.alloc.Calls.{Al}
use Rattle.core.proofs.slots.Bodies.{after}
use Rattle.core.proofs.slots.Leases.{args}
use Rattle.raw_lists.specs.Nodes.{LiesAt, IsShownAt, nodes_lent}
use Rattle.raw_lists.specs.Region.{region_lent}
use Rattle.raw_lists.specs.contracts.nodes.NodePlace as Spot
use Rattle.raw_lists.proofs.NodeSteps.{Nr, N, place_val, place_good, place_told, nodes_shown, node_seen}
use Rattle.raw_lists.specs.contracts.nodes.Nodes.get.{ended, clauses}
use Rattle.raw_lists.specs.contracts.nodes.Nodes.get.Key.{name as #self}
use Rattle.raw_lists.proofs.nodes.Nodes.get.Statement.{statement}
use Rattle.raw_lists.proofs.nodes.Nodes.get.Code as code

pub get_spec : {M : Type 1} → statement M
get_spec 𝓤 𝓛 𝓜 𝓡 wired X U L LU g d dd _ _ =
    let H = 𝓛.H in let 𝓣 = tables 𝓤 H 𝓜 𝓡 𝓡.env in let E : El = record { row = X; laws = L } in let Z : Al = record { row = U; laws = LU; g = g; d = d; drops = dd } in
    let fn = inst_fn (args E Z) code.function in let En = ended X U g d dd in let c = clauses X U g d dd 𝓛 𝓜.mem 𝓡.returns in let Row : RattleType = Nr E Z in
    let seen = RefOf (0 ∷ []) tt (plain (λ _. Row)) (λ _. tt) in let spot = plain (λ _. Spot.the_row) in
    let hs : Stays En.signature.params En.kept = (stay_dropped seen yes, (stay_dropped (plain (λ _. usize)) yes, (stay_dropped spot En.kept.1.1.0, tt))) in
    proved 𝓛 En hs c 𝓜 𝓡 (Goes-dropped 𝓛 3 seen yes (λ κs x f. refl), (Goes-dropped 𝓛 3 (plain (λ _. usize)) yes (λ κs x f. refl), (Goes-dropped 𝓛 3 spot En.kept.1.1.0 (λ κs x f. refl), tt)))
    (#self (args E Z)) fn (code.unfolded 𝓤 H 𝓜 𝓡 wired (X, (U, tt)) d dd)
    (λ κs. (shr_vals, (uint_vals w64, ((λ x. place_val x.at ∷ []), tt)))) (λ κs. (shr_Tells (named 0) κs.0 Row, (uint_Tells w64, ((λ x vs is. place_told x.at vs is), tt)))) (λ κs qs bounds a gh are.
    let κ = κs.0 in let rb : ℕ = a.0.ref_ptr.0 in let ro : ℕ = a.0.ref_ptr.1 in let nodes : N E Z = a.0.now in let i : ℕ = a.1.0 in let p : Ptr = a.1.1.0.at in
    let y : (walk_of 𝓛 En hs c).Ghost = ((κs, qs, bounds, a, (vptr rb ro ∷ [], (vint w64 i ∷ [], (place_val p ∷ [], tt)))), gh) in let Post : Val → SProp 𝓤 = (walk_of 𝓛 En hs c).post y in
    let Asked : Type 0 = LiesAt nodes.cells i p in
    qed 𝓛 ((raw (alive 𝓛 En.signature κs qs) ⊛ ‵ (owns (types_at En.signature.params κs) a y.0.4)) ∷ raw (fact 𝓤 _) ∷ raw (fact 𝓤 _) ∷ raw (fact 𝓤 Asked) ∷ []) ∵
    keep ! (3 ∷ 0 ∷ []) $ heard ! Asked (λ asked. let x : el_x E = asked.0 in split ! $ move ! (1 ∷ []) $ fsplit ! $ fsplit ! $ drop ! $
    -- [the `&` to the nodes; the other parameters; the tokens]
    use1 𝓛 (‵ (nodes_lent (R E) nodes.cells κ)) (nodes_shown E Z 𝓛 κ nodes rb ro) $ use1 𝓛 (‵ (region_lent (R E) p (Some x ∷ []) κ)) (node_seen E Z 𝓛 κ nodes.cells i p x asked.1) $
    in_a_block ! p (λ q. region_lent (R E) q (Some x ∷ []) κ) (id⊢ 𝓤 (never 𝓤)) (λ b o at. fsplit ! $ flt_l ! (λ fit. fsplit ! $ fsplit ! $ hide ! $ keep ! (0 ∷ 4 ∷ []) $
    -- [the value; the tokens]
    enter ! 𝓣.C 𝓣.Λ fn (vptr rb ro ∷ vint w64 i ∷ place_val p ∷ []) Post $ alloc_all ! (λ l. pass_all ! refl ((tt, tt), ((tt, record { fits = are.1.0.1 }), (place_good p, tt))) $ let Ev = env fn.locals l in
    first ! $ blocks ! $ sets ! (is ! (of_opd ! (get_in ! (fld ! refl (stop !)) (sub ! 0 refl (whole !)))) (ap ptr_val at)) refl (tt, tt) $
    sets_last ! (addr ! (through ! refl (stop !))) refl (tt, tt) $
    exec ! 𝓣.C 𝓣.Λ Ev (after 1 fn.body) (at_ret Ev Post) $ sets ! (of_opd ! (get ! refl)) refl (tt, tt) $
    feq_i ! (List Val) (vptr b o ∷ []) (vptr b o ∷ []) refl $ fjoin ! $
    let Got : Type 0 = IsShownAt nodes.cells i p x in
    use0 𝓛 (raw (fact 𝓤 Got)) (fact_i 𝓤 Got (emp 𝓤) asked.1) $ nothing ! $ nothing ! $ fjoin ! $ nothing ! $ fjoin ! $ nothing ! $ fjoin ! $
    -- [what is left of the parameters; the fact; the `&`; the tokens]
    returns ! (look_at ! 0 refl) $ free_all ! refl $ move ! (3 ∷ 0 ∷ 2 ∷ 1 ∷ []) $
    by ! (leaves 𝓛 En hs c y (vptr b o) (record { ref_ptr = (b, o); now = x }) (tt, (tt, (tt, tt))) (tt, (tt, (tt, tt)))))))))
