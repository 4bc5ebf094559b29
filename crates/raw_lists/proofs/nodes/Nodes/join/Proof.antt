-- `join` hands over what the others own. Assumes `Logic`.
use mathlib.Core.Path.{◌≡◌, refl, sym}
use mathlib.Core.List.{[], ◌∷◌, ◌++◌}
use base.Logic.{SProp, emp}
use mir.Val.{Val}
use mir.MapTy.{inst_fn}
use contract.Monad.{fact, fact_i}
use contract.Running.{tables}
use types.Kit.{‵, raw, ◌⊛◌, ◌$◌, ◌∵◌, !, qed, by, move, keep, use0, use2, split, rewrite, fsplit3, fjoin}
use types.Run.{of_opd, returns, enter}
use types.ByLocal.{alloc_all, pass_all, free_all, look_at, get, sets, env}
use denote.Exit.{no}
use denote.RattleType.{owns}
use denote.Signature.{plain, types_at}
use denote.Steps.{heard, nothing}
use denote.Triple.Entry.{alive}
use denote.Triple.Walked.{Stays, stay_dropped, walk_of, Goes-dropped}
use Rattle.std.proofs.raw_atomic.Walks.{proved, leaves}
use Rattle.core.proofs.mem.Param.{El}
use Rattle.core.proofs.alloc.Calls.{Al}
use Rattle.core.proofs.slots.Leases.{args}
use Rattle.raw_lists.proofs.NodeSteps.{Nr, N, Held, nodes_val, nodes_good, nodes_told, nodes_had, nodes_made, nodes_joined}
use Rattle.raw_lists.specs.contracts.nodes.Nodes.join.{ended, clauses}
use Rattle.raw_lists.specs.contracts.nodes.Nodes.join.Key.{name as #self}
use Rattle.raw_lists.proofs.nodes.Nodes.join.Statement.{statement}
use Rattle.raw_lists.proofs.nodes.Nodes.join.Code as code

pub join_spec : {M : Type 1} → statement M
join_spec 𝓤 𝓛 𝓜 𝓡 wired X U L LU g d dd _ _ =
    let H = 𝓛.H in let 𝓣 = tables 𝓤 H 𝓜 𝓡 𝓡.env in let E : El = record { row = X; laws = L } in let Z : Al = record { row = U; laws = LU; g = g; d = d; drops = dd } in
    let fn = inst_fn (args E Z) code.function in let En = ended X U g d dd in let c = clauses X U g d dd 𝓛 𝓜.mem 𝓡.returns in let moved = plain (λ _. Nr E Z) in
    let hs : Stays En.signature.params En.kept = (stay_dropped moved no, (stay_dropped moved no, tt)) in
    proved 𝓛 En hs c 𝓜 𝓡 (Goes-dropped 𝓛 2 moved no (λ κs x f. refl), (Goes-dropped 𝓛 2 moved no (λ κs x f. refl), tt))
    (#self (args E Z)) fn (code.unfolded 𝓤 H 𝓜 𝓡 wired (X, (U, tt)) d dd)
    (λ κs. ((λ x. nodes_val ∷ []), ((λ x. nodes_val ∷ []), tt))) (λ κs. ((λ x vs is. nodes_told E Z vs is.0), ((λ x vs is. nodes_told E Z vs is.0), tt))) (λ κs qs bounds a gh are.
    let one : N E Z = a.0 in let two : N E Z = a.1.0 in
    let y : (walk_of 𝓛 En hs c).Ghost = ((κs, qs, bounds, a, (nodes_val ∷ [], (nodes_val ∷ [], tt))), gh) in let Post : Val → SProp 𝓤 = (walk_of 𝓛 En hs c).post y in
    let Asked : Type 0 = one.heap ≡ two.heap in
    let new : N E Z = record { of = one.of; by = one.by; heap = one.heap; cells = one.cells ++ two.cells } in
    let Said : Type 0 = (new.cells ≡ one.cells ++ two.cells) × (new.heap ≡ one.heap) in
    qed 𝓛 ((raw (alive 𝓛 En.signature κs qs) ⊛ ‵ (owns (types_at En.signature.params κs) a y.0.4)) ∷ raw (fact 𝓤 _) ∷ raw (fact 𝓤 _) ∷ raw (fact 𝓤 Asked) ∷ []) ∵
    keep ! (3 ∷ 0 ∷ []) $ heard ! Asked (λ same. split ! $ move ! (1 ∷ []) $ fsplit3 ! $ keep ! (0 ∷ 1 ∷ 3 ∷ []) $
    -- [these; the others; the tokens]
    nodes_had E Z ! one (nodes_val ∷ []) (λ told. move ! (1 ∷ []) $ nodes_had E Z ! two (nodes_val ∷ []) (λ told'.
    rewrite ! 0 (λ (h : U.Denot). ‵ (Held E Z h two.cells)) {x = one.heap} (sym same) refl $ move ! (1 ∷ 0 ∷ []) $
    use2 𝓛 (‵ (Held E Z one.heap (one.cells ++ two.cells))) (nodes_joined E Z 𝓛 one.heap one.cells two.cells) $ nodes_made E Z ! new $
    enter ! 𝓣.C 𝓣.Λ fn (nodes_val ∷ nodes_val ∷ []) Post $ alloc_all ! (λ l. pass_all ! refl (nodes_good, (nodes_good, tt)) $ let Ev = env fn.locals l in
    sets ! (of_opd ! (get ! refl)) refl nodes_good $
    use0 𝓛 (raw (fact 𝓤 Said)) (fact_i 𝓤 Said (emp 𝓤) (refl, refl)) $ nothing ! $ nothing ! $ fjoin ! $ nothing ! $ fjoin ! $
    returns ! (look_at ! 0 refl) $ free_all ! refl $ move ! (3 ∷ 0 ∷ 2 ∷ 1 ∷ []) $ by ! (leaves 𝓛 En hs c y nodes_val new (tt, (tt, tt)) (tt, (tt, tt))))))))
