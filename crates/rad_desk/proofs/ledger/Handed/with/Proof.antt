-- It takes no octets, and the list is the earlier one with the response behind it.
use mathlib.Core.Path.{refl}
use mathlib.Core.List.{[], ◌∷◌, ◌++◌}
use mir.Syntax.{Args, Dict, Fn, a_type, dcons, dnil, named}
use mir.Val.{Val, vptr, vstruct, vnil}
use mir.MapTy.{inst_fn}
use base.Logic.{via, fst∗}
use prog.Wp.{WpFn, Tables}
use contract.Running.{tables, tables_of}
use sound.WpLaws.{WpFn-mono}
use types.Kit.{‵, raw, ◌$◌, ◌∵◌, !, qed, move, suffices, done}
use types.Run.{no_more, returns, enter}
use types.Part.{agg}
use types.ByLocal.{alloc_all, pass_all, free_all, look_at, sets}
use denote.Exit.{yes}
use denote.RattleType.{RattleType, owns}
use denote.Param.{param, bounded}
use denote.Ref.{shr_vals, shr_Tells}
use denote.Shadow.{pure_i}
use denote.Signature.{plain, types_at}
use denote.Triple.Entry.{alive}
use denote.Triple.Clauses.{Ended}
use denote.Triple.Spec.{triple_of}
use denote.Triple.Table.{entered}
use denote.Triple.Walked.{says, stay_none_ref, Stays, walk_of, ends_at, walked, Goes-none_ref, walk_Meets}
use Rattle.rad_desk.specs.HandOver.{handed_at}
use Rattle.rad_desk.specs.declared.wire.Wire.{Ghosts}
use Rattle.rad_desk.specs.declared.ledger.Handed.{Handed}
use Rattle.rad_desk.specs.contracts.ledger.Handed.with.Key.{name as key}
use Rattle.rad_desk.specs.contracts.ledger.Handed.with as made
use Rattle.rad_desk.specs.contracts.ledger.Handed as list
use Rattle.rad_lane.specs.contracts.outgoing.Outgoing as response
use Rattle.rad_desk.proofs.ledger.Handed.with.Statement as stated
use Rattle.rad_desk.proofs.ledger.Handed.with.Code as code

abbrev empty : Val
empty = vstruct vnil

module _ (W : RattleType) (wire : Ghosts W.Denot) (dict : Dict) where
  abbrev args : Args
  args = bounded (a_type ∷ []) (W, tt) (dcons dict dnil)

  abbrev function : Fn
  function = inst_fn args code.function

  abbrev ended : Ended
  ended = made.ended W wire dict

  abbrev stayed : Stays ended.signature.params ended.kept
  stayed = (
    stay_none_ref (0 ∷ []) tt (plain (λ _. list.the_row)) yes,
    (stay_none_ref (1 ∷ []) tt (plain (λ _. response.the_row)) yes, (stay_none_ref (2 ∷ []) tt (plain (λ _. param 0 W)) yes, tt)),
  )

pub with_spec : {M : Type 1} → stated.statement M
unfolding tables_of
with_spec 𝓤 𝓛 𝓜 𝓡 wired W laws wire dict met =
    let 𝓣 : Tables 𝓤 𝓛.H = tables_of 𝓤 𝓛.H 𝓜 (tables 𝓤 𝓛.H 𝓜 𝓡 𝓡.env) in
    let held = made.clauses W wire dict 𝓛 𝓜.mem 𝓡.returns in
    let fn = function W wire dict in
    let en = ended W wire dict in
    let stay = stayed W wire dict in
    let goes = WpFn 𝓤 𝓛.H 𝓣.C 𝓣.Λ fn in
    entered 𝓤 𝓛.H (triple_of 𝓛 (made.signature W) (made.spec W wire dict 𝓛 𝓜.mem 𝓡.returns)) 𝓣.C 𝓣.Λ (key (args W wire dict)) fn (code.unfolded 𝓤 𝓛.H 𝓜 𝓡 wired (W, tt) dict)
    (walk_Meets 𝓛 en stay (Goes-none_ref 𝓛 4 (0 ∷ []) tt (plain (λ _. list.the_row)) yes, (Goes-none_ref 𝓛 4 (1 ∷ []) tt (plain (λ _. response.the_row)) yes, (Goes-none_ref 𝓛 4 (2 ∷ []) tt (plain (λ _. param 0 W)) yes, tt)))
    held goes (WpFn-mono 𝓤 𝓛.H 𝓛.laws 𝓣 fn)
    (walked 𝓛 en stay held goes (λ κs. (shr_vals, (shr_vals, (shr_vals, tt))))
    (λ κs. (shr_Tells (named 0) κs.0 list.the_row, (shr_Tells (named 1) κs.1.0 response.the_row, (shr_Tells (named 2) κs.1.1.0 (param 0 W), tt))))
    (λ κs qs bounds a g are.
    let before : Val = vptr a.0.ref_ptr.0 a.0.ref_ptr.1 in
    let ends : Val = vptr a.1.0.ref_ptr.0 a.1.0.ref_ptr.1 in
    let over : Val = vptr a.1.1.0.ref_ptr.0 a.1.1.0.ref_ptr.1 in
    let more : Handed = record { responses = a.0.now.responses ++ handed_at (wire.log a.1.1.0.now) a.1.0.now ∷ [] } in
    let bound : (walk_of 𝓛 en stay held).Ghost = ((κs, qs, bounds, a, (before ∷ [], (ends ∷ [], (over ∷ [], tt)))), g) in
    via 𝓤 _ (fst∗ 𝓤 _ ((held κs a).requires g))
    (qed 𝓛 (raw (alive 𝓛 (made.signature W) κs qs) ∷ ‵ (owns (types_at (made.signature W).params κs) a (before ∷ [], (ends ∷ [], (over ∷ [], tt)))) ∷ []) ∵
    enter ! 𝓣.C 𝓣.Λ fn (before ∷ ends ∷ over ∷ []) _ $
    alloc_all ! (λ l. pass_all ! refl ((tt, tt), ((tt, tt), ((tt, tt), tt))) $
    sets ! (agg ! (no_more !)) refl (tt, tt) $
    returns ! (look_at ! 0 refl) $ free_all ! refl $
    suffices ! _ (ends_at 𝓛 en stay held bound empty more (tt, (tt, (tt, tt))) (tt, (tt, (tt, tt)))) $
    says ! refl $ pure_i ! (list.the_row.own_val more (empty ∷ [])) ((λ vss. (tt, tt)), tt) ((tt, (refl, tt)), tt) $
    move ! (1 ∷ 2 ∷ 0 ∷ []) $ done !)))))
