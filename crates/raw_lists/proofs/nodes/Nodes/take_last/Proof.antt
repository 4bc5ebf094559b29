-- `take_last` parts the last node from the others. Assumes `Logic`.
use mathlib.Core.Path.{◌≡◌, refl, ap}
use mathlib.Core.List.{List, [], ◌∷◌, ◌++◌}
use base.Logic.{SProp, emp}
use mir.Syntax.{ty_ptr, ty_struct, tcons, tnil}
use mir.Val.{Val}
use mir.MapTy.{inst_fn}
use contract.Monad.{fact, fact_i}
use contract.Running.{tables}
use types.Kit.{‵, raw, ◌⊛◌, ◌$◌, ◌∵◌, !, qed, by, move, keep, use0, use1, use2, split, join, rewrite, fsplit, fsplit3, fjoin}
use types.Part.{whole, sub, agg}
use types.Run.{stop, fld, no_more, and_then, of_opd, returns, enter}
use types.ByLocal.{alloc_all, pass_all, free_all, look_at, get, get_in, is, sets, env}
use denote.Exit.{no}
use denote.RattleType.{owns}
use denote.RawPtr.{Ptr, block_ptr, ptr_val}
use denote.Signature.{plain, types_at}
use denote.Steps.{heard, nothing}
use denote.Struct.Tuple.{Tuple}
use denote.Triple.Entry.{alive}
use denote.Triple.Walked.{Stays, stay_dropped, walk_of, Goes-dropped}
use Rattle.std.specs.Prelude.{Some}
use Rattle.std.proofs.raw_atomic.Walks.{proved, leaves}
use Rattle.std_alloc.proofs.Pairs.{pair_of, pair_val, pair_Typed}
use Rattle.core.proofs.mem.Param.{El, el_x}
use Rattle.core.proofs.alloc.Calls.{Al}
use Rattle.core.proofs.slots.Leases.{args}
use Rattle.raw_lists.specs.Nodes.{IsHeld, EndsAt, cell_at}
use Rattle.raw_lists.specs.contracts.nodes.NodePlace as Spot
use Rattle.raw_lists.proofs.Regions.{Rg, D, region_val, region_good}
use Rattle.raw_lists.proofs.NodeSteps.{Nr, N, Held, nodes_val, nodes_ty, nodes_good, nodes_told, nodes_had, nodes_made, nodes_parted, place_val, place_good, place_told, node_out}
use Rattle.raw_lists.specs.contracts.nodes.Nodes.take_last.{ended, clauses}
use Rattle.raw_lists.specs.contracts.nodes.Nodes.take_last.Key.{name as #self}
use Rattle.raw_lists.proofs.nodes.Nodes.take_last.Statement.{statement}
use Rattle.raw_lists.proofs.nodes.Nodes.take_last.Code as code

pub take_last_spec : {M : Type 1} → statement M
take_last_spec 𝓤 𝓛 𝓜 𝓡 wired X U L LU g d dd _ _ =
    let H = 𝓛.H in let 𝓣 = tables 𝓤 H 𝓜 𝓡 𝓡.env in let E : El = record { row = X; laws = L } in let Z : Al = record { row = U; laws = LU; g = g; d = d; drops = dd } in
    let fn = inst_fn (args E Z) code.function in let En = ended X U g d dd in let c = clauses X U g d dd 𝓛 𝓜.mem 𝓡.returns in
    let moved = plain (λ _. Nr E Z) in let spot = plain (λ _. Spot.the_row) in
    let hs : Stays En.signature.params En.kept = (stay_dropped moved no, (stay_dropped spot En.kept.1.0, tt)) in
    proved 𝓛 En hs c 𝓜 𝓡 (Goes-dropped 𝓛 2 moved no (λ κs x f. refl), (Goes-dropped 𝓛 2 spot En.kept.1.0 (λ κs x f. refl), tt))
    (#self (args E Z)) fn (code.unfolded 𝓤 H 𝓜 𝓡 wired (X, (U, tt)) d dd)
    (λ κs. ((λ x. nodes_val ∷ []), ((λ x. place_val x.at ∷ []), tt))) (λ κs. ((λ x vs is. nodes_told E Z vs is.0), ((λ x vs is. place_told x.at vs is), tt))) (λ κs qs bounds a gh are.
    let nodes : N E Z = a.0 in let p : Ptr = a.1.0.at in
    let y : (walk_of 𝓛 En hs c).Ghost = ((κs, qs, bounds, a, (nodes_val ∷ [], (place_val p ∷ [], tt))), gh) in let Post : Val → SProp 𝓤 = (walk_of 𝓛 En hs c).post y in
    let Asked : Type 0 = EndsAt nodes.cells p in
    qed 𝓛 ((raw (alive 𝓛 En.signature κs qs) ⊛ ‵ (owns (types_at En.signature.params κs) a y.0.4)) ∷ raw (fact 𝓤 _) ∷ raw (fact 𝓤 _) ∷ raw (fact 𝓤 Asked) ∷ []) ∵
    keep ! (3 ∷ 0 ∷ []) $ heard ! Asked (λ asked. split ! $ move ! (1 ∷ []) $ fsplit3 ! $ keep ! (0 ∷ 3 ∷ []) $
    let value : el_x E = asked.0 in let others : List (Ptr × el_x E) = asked.1 in
    -- [the nodes; the tokens]
    nodes_had E Z ! nodes (nodes_val ∷ []) (λ told.
    rewrite ! 0 (λ (cells : List (Ptr × el_x E)). ‵ (Held E Z nodes.heap cells)) {x = others ++ (p, value) ∷ []} asked.2 refl $
    use1 𝓛 (‵ (Held E Z nodes.heap others) ⊛ ‵ (Held E Z nodes.heap ((p, value) ∷ []))) (nodes_parted E Z 𝓛 nodes.heap others ((p, value) ∷ [])) $ split ! $
    move ! (1 ∷ []) $ fsplit ! $ keep ! (0 ∷ 2 ∷ 3 ∷ []) $
    -- [the node; the others; the tokens]
    node_out E Z ! nodes.heap p value (λ b o here.
    let node : D E Z = record { first = p; by = record {}; heap = nodes.heap; places = Some value ∷ [] } in
    let rest : N E Z = record { of = nodes.of; by = nodes.by; heap = nodes.heap; cells = others } in
    let Said : Type 0 = nodes.cells ≡ rest.cells ++ cell_at p node.places in let Lies : Type 0 = IsHeld node.places × (node.first ≡ p) in let Kept : Type 0 = (node.heap ≡ nodes.heap) × (rest.heap ≡ nodes.heap) in
    let whole_of : Val = region_val (block_ptr b o) in let good = region_good (block_ptr b o) tt in let both = pair_val whole_of nodes_val in
    let typed = pair_Typed (ty_struct [] (tcons ty_ptr (tcons (ty_struct [] tnil) tnil))) nodes_ty whole_of nodes_val good nodes_good in
    move ! (1 ∷ 0 ∷ []) $ nodes_made E Z ! rest $ move ! (1 ∷ 0 ∷ []) $
    use2 𝓛 (‵ ((Tuple (Rg E Z ∷ Nr E Z ∷ [])).own_val (node, rest) (both ∷ []))) (pair_of 𝓛 (Rg E Z) (Nr E Z) node rest whole_of nodes_val) $
    enter ! 𝓣.C 𝓣.Λ fn (nodes_val ∷ place_val p ∷ []) Post $ alloc_all ! (λ l. pass_all ! refl (nodes_good, (place_good p, tt)) $ let Ev = env fn.locals l in
    sets ! (is ! (of_opd ! (get_in ! (fld ! refl (stop !)) (sub ! 0 refl (whole !)))) (ap ptr_val here)) refl (tt, tt) $ sets ! (agg ! (no_more !)) refl (tt, tt) $
    sets ! (agg ! (and_then ! (get ! refl) (and_then ! (get ! refl) (no_more !)))) refl good $ sets ! (of_opd ! (get ! refl)) refl good $ sets ! (of_opd ! (get ! refl)) refl nodes_good $
    sets ! (agg ! (and_then ! (get ! refl) (and_then ! (get ! refl) (no_more !)))) refl typed $
    use0 𝓛 (raw (fact 𝓤 Kept)) (fact_i 𝓤 Kept (emp 𝓤) (refl, refl)) $ use0 𝓛 (raw (fact 𝓤 Lies)) (fact_i 𝓤 Lies (emp 𝓤) ((value, refl), refl)) $ join ! $
    use0 𝓛 (raw (fact 𝓤 Said)) (fact_i 𝓤 Said (emp 𝓤) asked.2) $ join ! $ nothing ! $ nothing ! $ fjoin ! $ nothing ! $ fjoin ! $
    -- [what is left of the parameters; the facts; the pair; the tokens]
    returns ! (look_at ! 0 refl) $ free_all ! refl $ move ! (3 ∷ 0 ∷ 2 ∷ 1 ∷ []) $
    by ! (leaves 𝓛 En hs c y both (node, rest) (tt, (tt, tt)) (tt, (tt, tt))))))))
