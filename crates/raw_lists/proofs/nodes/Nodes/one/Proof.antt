-- `one` takes the memory of a region for a node. Assumes `Logic`.
use mathlib.Core.Path.{◌≡◌, refl, sym, subst}
use mathlib.Core.List.{[], ◌∷◌}
use base.Logic.{SProp, emp}
use mir.Val.{Val}
use mir.MapTy.{inst_fn}
use contract.Monad.{fact, fact_i}
use contract.Running.{tables}
use types.Kit.{‵, raw, ◌⊛◌, ◌$◌, ◌∵◌, !, qed, by, move, keep, use0, use2, split, join, fsplit, fjoin}
use types.Part.{whole, sub, agg}
use types.Run.{stop, fld, no_more, and_then, of_opd, returns, enter}
use types.ByLocal.{alloc_all, pass_all, free_all, look_at, get, get_in, sets, env}
use denote.Exit.{no}
use denote.RattleType.{RattleType, owns}
use denote.RawPtr.{Ptr, InBlock}
use denote.Signature.{plain, types_at}
use denote.Steps.{heard, nothing}
use denote.Struct.Tuple.{Tuple}
use denote.Triple.Entry.{alive}
use denote.Triple.Walked.{Stays, stay_dropped, walk_of, Goes-dropped}
use Rattle.std.proofs.raw_atomic.Walks.{proved, leaves}
use Rattle.std_alloc.proofs.Pairs.{pair_of, pair_val, pair_Typed}
use Rattle.core.proofs.mem.Param.{El}
use Rattle.core.proofs.alloc.Calls.{Al}
use Rattle.core.proofs.slots.Leases.{args}
use Rattle.raw_lists.specs.Nodes.{IsHeld, cell_at}
use Rattle.raw_lists.specs.contracts.nodes.NodePlace as Spot
use Rattle.raw_lists.proofs.Regions.{Rg, D, region_val, region_told, region_good}
use Rattle.raw_lists.proofs.NodeSteps.{Nr, N, nodes_val, nodes_ty, nodes_good, nodes_made, place_val, place_ty, place_good, place_made, ptr_good, node_of}
use Rattle.raw_lists.specs.contracts.nodes.Nodes.one.{ended, clauses}
use Rattle.raw_lists.specs.contracts.nodes.Nodes.one.Key.{name as #self}
use Rattle.raw_lists.proofs.nodes.Nodes.one.Statement.{statement}
use Rattle.raw_lists.proofs.nodes.Nodes.one.Code as code

pub one_spec : {M : Type 1} → statement M
one_spec 𝓤 𝓛 𝓜 𝓡 wired X U L LU g d dd _ _ =
    let H = 𝓛.H in let 𝓣 = tables 𝓤 H 𝓜 𝓡 𝓡.env in let E : El = record { row = X; laws = L } in let Z : Al = record { row = U; laws = LU; g = g; d = d; drops = dd } in
    let fn = inst_fn (args E Z) code.function in let En = ended X U g d dd in let c = clauses X U g d dd 𝓛 𝓜.mem 𝓡.returns in let moved = plain (λ _. Rg E Z) in
    let hs : Stays En.signature.params En.kept = (stay_dropped moved no, tt) in let Row : RattleType = Nr E Z in
    proved 𝓛 En hs c 𝓜 𝓡 (Goes-dropped 𝓛 2 moved no (λ κs x f. refl), tt)
    (#self (args E Z)) fn (code.unfolded 𝓤 H 𝓜 𝓡 wired (X, (U, tt)) d dd)
    (λ κs. ((λ x. region_val x.first ∷ []), tt)) (λ κs. ((λ x vs is. region_told E Z x.first vs is.0), tt)) (λ κs qs bounds a gh are.
    let node : D E Z = a.0 in let p : Ptr = node.first in
    let y : (walk_of 𝓛 En hs c).Ghost = ((κs, qs, bounds, a, (region_val p ∷ [], tt)), gh) in let Post : Val → SProp 𝓤 = (walk_of 𝓛 En hs c).post y in
    let Asked : Type 0 = IsHeld node.places in
    qed 𝓛 ((raw (alive 𝓛 En.signature κs qs) ⊛ ‵ (owns (types_at En.signature.params κs) a y.0.4)) ∷ raw (fact 𝓤 _) ∷ raw (fact 𝓤 _) ∷ raw (fact 𝓤 Asked) ∷ []) ∵
    keep ! (3 ∷ 0 ∷ []) $ heard ! Asked (λ held. split ! $ move ! (1 ∷ []) $ fsplit ! $ keep ! (0 ∷ 2 ∷ []) $
    -- [the region; the tokens]
    node_of E Z ! node held (region_val p ∷ []) (λ b o here.
    let new : N E Z = record { of = record {}; by = record {}; heap = node.heap; cells = cell_at p node.places } in
    let Said : Type 0 = new.cells ≡ cell_at p node.places in let Kept : Type 0 = (p ≡ p) × (new.heap ≡ node.heap) in
    let good = pair_Typed nodes_ty place_ty nodes_val (place_val p) nodes_good (place_good p) in
    nodes_made E Z ! new $
    enter ! 𝓣.C 𝓣.Λ fn (region_val p ∷ []) Post $ alloc_all ! (λ l. pass_all ! refl (region_good p (subst InBlock (sym here) tt), tt) $ let Ev = env fn.locals l in
    sets ! (of_opd ! (get_in ! (fld ! refl (stop !)) (sub ! 0 refl (whole !)))) refl (ptr_good p) $
    sets ! (agg ! (no_more !)) refl (tt, tt) $ sets ! (agg ! (no_more !)) refl (tt, tt) $
    sets ! (agg ! (and_then ! (get ! refl) (and_then ! (get ! refl) (no_more !)))) refl nodes_good $ sets ! (of_opd ! (get ! refl)) refl nodes_good $
    sets ! (of_opd ! (get ! refl)) refl (ptr_good p) $ sets ! (agg ! (and_then ! (get ! refl) (no_more !))) refl (place_good p) $
    sets ! (agg ! (and_then ! (get ! refl) (and_then ! (get ! refl) (no_more !)))) refl good $
    use0 𝓛 (‵ (Spot.the_row.own_val (record { at = p }) (place_val p ∷ []))) (place_made 𝓛 p) $ move ! (1 ∷ 0 ∷ []) $
    use2 𝓛 (‵ ((Tuple (Row ∷ Spot.the_row ∷ [])).own_val (new, (record { at = p })) (pair_val nodes_val (place_val p) ∷ []))) (pair_of 𝓛 Row Spot.the_row new (record { at = p }) nodes_val (place_val p)) $
    use0 𝓛 (raw (fact 𝓤 Kept)) (fact_i 𝓤 Kept (emp 𝓤) (refl, refl)) $ use0 𝓛 (raw (fact 𝓤 Said)) (fact_i 𝓤 Said (emp 𝓤) refl) $ join ! $ nothing ! $ nothing ! $ fjoin ! $
    -- [what is left of the parameter; the two facts; the pair; the tokens]
    returns ! (look_at ! 0 refl) $ free_all ! refl $ move ! (3 ∷ 0 ∷ 2 ∷ 1 ∷ []) $
    by ! (leaves 𝓛 En hs c y (pair_val nodes_val (place_val p)) (new, record { at = p }) (tt, tt) (tt, tt))))))
