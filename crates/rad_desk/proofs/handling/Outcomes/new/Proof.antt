-- It takes no octets, and the list is the empty one.
use mathlib.Core.Path.{refl}
use mathlib.Core.List.{[], ◌∷◌}
use seplogic.Ra.Ura.{Ura}
use mir.Val.{Val, vstruct, vnil}
use base.Logic.{SProp, ent, emp, via, fst∗}
use prog.Memory.{Memory}
use prog.Routine.{Routine}
use prog.Wp.{Calls, Loops, WpFn, Tables}
use types.Logic.{Logic}
use contract.Monad.{Fun}
use contract.Running.{tables, tables_of}
use sound.WpLaws.{WpFn-mono}
use types.Kit.{‵, raw, ◌$◌, ◌∵◌, !, qed, move, suffices, done}
use types.Run.{no_more, returns, enter}
use types.Part.{agg}
use types.ByLocal.{alloc_all, pass_all, free_all, look_at, sets}
use denote.RattleType.{owns}
use denote.Shadow.{pure_i}
use denote.Triple.Entry.{on_entry, alive}
use denote.Triple.Spec.{triple_of}
use denote.Triple.Table.{entered}
use denote.Triple.Walked.{says, walk_of, ends_at, walked, walk_Meets}
use Rattle.rad_desk.specs.contracts.handling.Outcomes.new.Key.{name as key}
use Rattle.rad_desk.specs.contracts.handling.Outcomes.new as made
use Rattle.rad_desk.specs.contracts.handling.Outcomes as list
use Rattle.rad_desk.specs.declared.handling.Outcomes.{Outcomes}
use Rattle.rad_desk.proofs.handling.Outcomes.new.Statement as stated
use Rattle.rad_desk.proofs.handling.Outcomes.new.Code as code

abbrev empty : Val
empty = vstruct vnil

abbrev none_yet : Outcomes
none_yet = record { outcomes = [] }

module _ {M : Type 1} {𝓤 : Ura M} (𝓛 : Logic 𝓤) (mem : Memory → SProp 𝓤) (run : Routine → Fun 𝓤) (C : Calls 𝓤 𝓛.H) (Λ : Loops 𝓤 𝓛.H) where
  open 𝓛 use {H}

  abbrev bound : (walk_of 𝓛 made.ended tt (made.clauses 𝓛 mem run)).Ghost
  bound = ((tt, tt, tt, tt, tt), tt)

  walk : ent 𝓤 (on_entry 𝓛 made.signature tt tt tt tt) (WpFn 𝓤 H C Λ code.function [] ((walk_of 𝓛 made.ended tt (made.clauses 𝓛 mem run)).post bound))
  walk =
      qed 𝓛 (raw (alive 𝓛 made.signature tt tt) ∷ ‵ (owns [] tt tt) ∷ []) ∵ enter ! C Λ code.function [] _ $
      alloc_all ! (λ l. pass_all ! refl tt $ sets ! (agg ! (no_more !)) refl (tt, tt) $
      returns ! (look_at ! 0 refl) $ free_all ! refl $
      suffices ! _ (ends_at 𝓛 made.ended tt (made.clauses 𝓛 mem run) bound empty none_yet tt tt) $
      says ! refl $ pure_i ! (list.the_row.own_val none_yet (empty ∷ [])) ((λ vss. (tt, tt)), tt) ((tt, (refl, tt)), tt) $
      move ! (1 ∷ 2 ∷ 0 ∷ []) $ done !)

pub new_spec : {M : Type 1} → stated.statement M
unfolding tables_of
new_spec 𝓤 𝓛 𝓜 𝓡 wired =
    let 𝓣 : Tables 𝓤 𝓛.H = tables_of 𝓤 𝓛.H 𝓜 (tables 𝓤 𝓛.H 𝓜 𝓡 𝓡.env) in
    let held = made.clauses 𝓛 𝓜.mem 𝓡.returns in
    let goes = WpFn 𝓤 𝓛.H 𝓣.C 𝓣.Λ code.function in
    entered 𝓤 𝓛.H (triple_of 𝓛 made.signature (made.spec 𝓛 𝓜.mem 𝓡.returns)) 𝓣.C 𝓣.Λ key code.function (code.unfolded 𝓤 𝓛.H 𝓜 𝓡 wired)
    (walk_Meets 𝓛 made.ended tt tt held goes (WpFn-mono 𝓤 𝓛.H 𝓛.laws 𝓣 code.function)
    (walked 𝓛 made.ended tt held goes (λ κs. tt) (λ κs. tt) (λ κs qs bounds a g are. via 𝓤 _ (fst∗ 𝓤 _ (emp 𝓤)) (walk 𝓛 𝓜.mem 𝓡.returns 𝓣.C 𝓣.Λ))))
