-- It takes no octets, and the list is the earlier one with the outcome behind it.
use mathlib.Core.Path.{refl}
use mathlib.Core.List.{[], ◌∷◌, ◌++◌}
use mir.Syntax.{named}
use mir.Val.{Val, vptr, vstruct, vnil}
use base.Logic.{via, fst∗}
use prog.Wp.{WpFn, Tables}
use contract.Running.{tables, tables_of}
use sound.WpLaws.{WpFn-mono}
use types.Kit.{‵, raw, ◌$◌, ◌∵◌, !, qed, move, suffices, done}
use types.Run.{no_more, returns, enter}
use types.Part.{agg}
use types.ByLocal.{alloc_all, pass_all, free_all, look_at, sets}
use denote.Exit.{yes}
use denote.RattleType.{owns}
use denote.Ref.{shr_vals, shr_Tells}
use denote.Shadow.{pure_i}
use denote.Signature.{plain, named_lft, types_at}
use denote.Triple.Entry.{alive}
use denote.Triple.Spec.{triple_of}
use denote.Triple.Table.{entered}
use denote.Triple.Walked.{says, stay_none_ref, Stays, walk_of, ends_at, walked, Goes-none_ref, walk_Meets}
use Rattle.rad_desk.specs.declared.handling.Outcomes.{Outcomes}
use Rattle.rad_desk.specs.Handling.{outcome_of}
use Rattle.rad_desk.specs.contracts.handling.Outcomes.with.Key.{name as key}
use Rattle.rad_desk.specs.contracts.handling.Outcomes.with as made
use Rattle.rad_desk.specs.contracts.handling.Outcomes as list
use Rattle.rad_realms.specs.contracts.checking.Incoming as asked
use Rattle.rad_desk.specs.contracts.handling.Handling as handling
use Rattle.rad_desk.proofs.handling.Outcomes.with.Statement as stated
use Rattle.rad_desk.proofs.handling.Outcomes.with.Code as code

abbrev empty : Val
empty = vstruct vnil

abbrev stayed : Stays made.ended.signature.params made.ended.kept
stayed = (
  stay_none_ref (0 ∷ []) tt (plain (λ _. list.the_row)) yes,
  (stay_none_ref (1 ∷ []) tt (plain (λ κs. asked.the_row (named_lft 4 2 tt κs))) yes, (stay_none_ref (3 ∷ []) tt (plain (λ _. handling.the_row)) yes, tt)),
)

pub with_spec : {M : Type 1} → stated.statement M
unfolding tables_of
with_spec 𝓤 𝓛 𝓜 𝓡 wired =
    let 𝓣 : Tables 𝓤 𝓛.H = tables_of 𝓤 𝓛.H 𝓜 (tables 𝓤 𝓛.H 𝓜 𝓡 𝓡.env) in
    let held = made.clauses 𝓛 𝓜.mem 𝓡.returns in
    let goes = WpFn 𝓤 𝓛.H 𝓣.C 𝓣.Λ code.function in
    entered 𝓤 𝓛.H (triple_of 𝓛 made.signature (made.spec 𝓛 𝓜.mem 𝓡.returns)) 𝓣.C 𝓣.Λ key code.function (code.unfolded 𝓤 𝓛.H 𝓜 𝓡 wired)
    (walk_Meets 𝓛 made.ended stayed (Goes-none_ref 𝓛 4 (0 ∷ []) tt (plain (λ _. list.the_row)) yes, (Goes-none_ref 𝓛 4 (1 ∷ []) tt (plain (λ κs. asked.the_row (named_lft 4 2 tt κs))) yes, (Goes-none_ref 𝓛 4 (3 ∷ []) tt (plain (λ _. handling.the_row)) yes, tt)))
    held goes (WpFn-mono 𝓤 𝓛.H 𝓛.laws 𝓣 code.function)
    (walked 𝓛 made.ended stayed held goes (λ κs. (shr_vals, (shr_vals, (shr_vals, tt))))
    (λ κs. (shr_Tells (named 0) κs.0 list.the_row, (shr_Tells (named 1) κs.1.0 (asked.the_row (named_lft 4 2 tt κs)), (shr_Tells (named 3) κs.1.1.1.0 handling.the_row, tt))))
    (λ κs qs bounds a g are.
    let before : Val = vptr a.0.ref_ptr.0 a.0.ref_ptr.1 in
    let came : Val = vptr a.1.0.ref_ptr.0 a.1.0.ref_ptr.1 in
    let ends : Val = vptr a.1.1.0.ref_ptr.0 a.1.1.0.ref_ptr.1 in
    let more : Outcomes = record { outcomes = a.0.now.outcomes ++ outcome_of a.1.0.now a.1.1.0.now ∷ [] } in
    let bound : (walk_of 𝓛 made.ended stayed held).Ghost = ((κs, qs, bounds, a, (before ∷ [], (came ∷ [], (ends ∷ [], tt)))), g) in
    via 𝓤 _ (fst∗ 𝓤 _ ((held κs a).requires g))
    (qed 𝓛 (raw (alive 𝓛 made.signature κs qs) ∷ ‵ (owns (types_at made.signature.params κs) a (before ∷ [], (came ∷ [], (ends ∷ [], tt)))) ∷ []) ∵
    enter ! 𝓣.C 𝓣.Λ code.function (before ∷ came ∷ ends ∷ []) _ $
    alloc_all ! (λ l. pass_all ! refl ((tt, tt), ((tt, tt), ((tt, tt), tt))) $
    sets ! (agg ! (no_more !)) refl (tt, tt) $
    returns ! (look_at ! 0 refl) $ free_all ! refl $
    suffices ! _ (ends_at 𝓛 made.ended stayed held bound empty more (tt, (tt, (tt, tt))) (tt, (tt, (tt, tt)))) $
    says ! refl $ pure_i ! (list.the_row.own_val more (empty ∷ [])) ((λ vss. (tt, tt)), tt) ((tt, (refl, tt)), tt) $
    move ! (1 ∷ 2 ∷ 0 ∷ []) $ done !)))))
