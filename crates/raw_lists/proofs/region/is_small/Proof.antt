-- `is_small` reads the size of a value. Assumes `Logic`.
use Rattle.std.proofs.Common.{◌≡◌, ℕ, ◌^◌, ◌<◌, Bool, true, ltb, ltb-true, List, [], ◌∷◌, refl, arith, lit<, w64}
use base.Logic.{SProp, emp, via, guard_i}
use base.Fml.{ftrue}
use mir.Syntax.{a_type}
use mir.MapTy.{inst_fn}
use mir.Val.{Val, vint, vbool}
use prog.Memory.{size, capped}
use prog.Capped.{capped_is, capped_small}
use contract.Monad.{fact, fact_i}
use contract.Running.{tables}
use types.Kit.{‵, raw, ◌⊛◌, ◌$◌, ◌∵◌, !, qed, by, keep, use0, split, feq_i}
use types.Run.{bin, size_word, returns, enter}
use types.ByLocal.{alloc_all, pass_all, free_all, look_at, sets}
use denote.Param.{layout, layouts, param}
use denote.RattleType.{RattleType}
use denote.Steps.{nothing}
use denote.Triple.Entry.{alive}
use denote.Triple.Walked.{walk_of}
use Rattle.std.proofs.raw_atomic.Walks.{proved, leaves}
use Rattle.raw_lists.specs.Region.{Fits}
use Rattle.raw_lists.specs.contracts.region.is_small.{ended, clauses}
use Rattle.raw_lists.specs.contracts.region.is_small.Key.{name as #self}
use Rattle.raw_lists.proofs.region.is_small.Statement.{statement}
use Rattle.raw_lists.proofs.region.is_small.Code as code

pub is_small_spec : {M : Type 1} → statement M
is_small_spec 𝓤 𝓛 𝓜 𝓡 wired T L =
    let H = 𝓛.H in let 𝓣 = tables 𝓤 H 𝓜 𝓡 𝓡.env in let R : RattleType = param 0 T in let En = ended T in let c = clauses T 𝓛 𝓜.mem 𝓡.returns in
    let inst = layouts (a_type ∷ []) (T, tt) in let fn = inst_fn inst code.function in
    proved 𝓛 En tt c 𝓜 𝓡 tt (#self inst) fn (code.unfolded 𝓤 H 𝓜 𝓡 wired (T, tt)) (λ κs. tt) (λ κs. tt) (λ κs qs bounds a gh are.
    let y : (walk_of 𝓛 En tt c).Ghost = ((κs, qs, bounds, a, tt), gh) in let Post : Val → SProp 𝓤 = (walk_of 𝓛 En tt c).post y in
    qed 𝓛 ((raw (alive 𝓛 En.signature κs qs) ⊛ ‵ ftrue) ∷ raw ((c κs a).requires gh) ∷ []) ∵ split ! $ keep ! (0 ∷ []) $
    enter ! 𝓣.C 𝓣.Λ fn [] Post $ alloc_all ! (λ l. pass_all ! refl tt $
    let n : ℕ = size (layout T) in let most : ℕ = 2147483648 in let r : Bool = ltb (capped n) most in let Told : Type 0 = r ≡ true → Fits R 4294967296 in
    sets ! (bin ! (size_word !) (record { go = λ Kt h. via 𝓤 _ h (guard_i 𝓤 _ (Kt (vint w64 most)) (record { fits = lit< tt })) }) tt) refl (tt, tt) $
    use0 𝓛 (raw (fact 𝓤 Told)) (fact_i 𝓤 Told (emp 𝓤) (λ e. let low : capped n < most = ltb-true _ _ e in let fits : n < 2 ^ 63 = capped_small n (omega arith) in let same : capped n ≡ n = capped_is n (omega arith) in omega arith)) $
    feq_i ! (List Val) (vbool r ∷ []) (vbool r ∷ []) refl $ nothing ! $
    returns ! (look_at ! 0 refl) $ free_all ! refl $ keep ! (3 ∷ 0 ∷ 1 ∷ 2 ∷ []) $ by ! (leaves 𝓛 En tt c y (vbool r) r tt tt)))
