-- It takes no octets, and the list is the call and then the earlier ones.
use mathlib.Core.Path.{refl}
use mathlib.Core.List.{[], ◌∷◌}
use seplogic.Ra.Ura.{Ura}
use mir.Syntax.{named}
use mir.Val.{Val, vptr, vstruct, vnil}
use base.Logic.{SProp, ent, emp, via, fst∗}
use prog.Memory.{Memory}
use prog.Routine.{Routine}
use prog.Wp.{Calls, Loops, WpFn, Tables}
use types.Logic.{Logic}
use contract.Lifetimes.{Lfts, Shares}
use contract.Monad.{Fun}
use contract.Running.{tables, tables_of}
use sound.WpLaws.{WpFn-mono}
use types.Kit.{‵, raw, ◌$◌, ◌∵◌, !, qed, move, suffices, done}
use types.Run.{no_more, returns, enter}
use types.Part.{agg}
use types.ByLocal.{alloc_all, pass_all, free_all, look_at, sets}
use denote.Builtin.{u8}
use denote.Exit.{yes}
use denote.RattleType.{owns}
use denote.Ref.{shr_vals, shr_Tells}
use denote.Slice.{slice_val, shr_slice_vals, shr_slice_Tells}
use denote.Shadow.{pure_i}
use denote.Signature.{plain, types_at}
use denote.Triple.Entry.{on_entry, alive, Args}
use denote.Triple.Spec.{triple_of}
use denote.Triple.Table.{entered}
use denote.Triple.Walked.{says, stay_none_ref, stay_none_slice, Stays, walk_of, ends_at, walked, Goes-none_ref, Goes-none_slice, walk_Meets}
use Rattle.std.proofs.Common.{◌<◌, ◌^◌, length}
use Rattle.spool_files.specs.declared.call_log.CallLog.{CallLog}
use Rattle.spool_files.specs.Calls.{call_of}
use Rattle.spool_files.specs.contracts.call_log.CallLog.with.Key.{name as key}
use Rattle.spool_files.specs.contracts.call_log.CallLog.with as made
use Rattle.spool_files.specs.contracts.call_log.CallLog as log
use Rattle.spool_files.specs.contracts.call_log.CallHead as head
use Rattle.spool_files.proofs.call_log.CallLog.with.Statement as stated
use Rattle.spool_files.proofs.call_log.CallLog.with.Code as code

abbrev empty : Val
empty = vstruct vnil

abbrev stayed : Stays made.ended.signature.params made.ended.kept
stayed = (
  stay_none_ref (0 ∷ []) tt (plain (λ _. log.the_row)) yes,
  (stay_none_ref (1 ∷ []) tt (plain (λ _. head.the_row)) yes, (stay_none_slice (2 ∷ []) tt (plain (λ _. u8)) yes, tt)),
)

module _ {M : Type 1} {𝓤 : Ura M} (𝓛 : Logic 𝓤) (mem : Memory → SProp 𝓤) (run : Routine → Fun 𝓤) (C : Calls 𝓤 𝓛.H) (Λ : Loops 𝓤 𝓛.H) where
  open 𝓛 use {H}

  module _ (κs : Lfts 3) (qs : Shares 3) (a : Args made.signature κs) where
    abbrev before : Val
    before = vptr a.0.ref_ptr.0 a.0.ref_ptr.1

    abbrev ends : Val
    ends = vptr a.1.0.ref_ptr.0 a.1.0.ref_ptr.1

    abbrev octets : Val
    octets = slice_val a.1.1.0.ref_ptr (length a.1.1.0.now)

    abbrev more : CallLog
    more = record { calls = call_of a.1.0.now a.1.1.0.now ∷ a.0.now.calls }

    abbrev bound : (walk_of 𝓛 made.ended stayed (made.clauses 𝓛 mem run)).Ghost
    bound = ((κs, qs, tt, a, (before ∷ [], (ends ∷ [], (octets ∷ [], tt)))), tt)

    walk : length a.1.1.0.now < 2 ^ 64 → ent 𝓤 (on_entry 𝓛 made.signature κs qs a (before ∷ [], (ends ∷ [], (octets ∷ [], tt))))
        (WpFn 𝓤 H C Λ code.function (before ∷ ends ∷ octets ∷ []) ((walk_of 𝓛 made.ended stayed (made.clauses 𝓛 mem run)).post bound))
    walk fits =
        qed 𝓛 (raw (alive 𝓛 made.signature κs qs) ∷ ‵ (owns (types_at made.signature.params κs) a (before ∷ [], (ends ∷ [], (octets ∷ [], tt)))) ∷ []) ∵
        enter ! C Λ code.function (before ∷ ends ∷ octets ∷ []) _ $
        alloc_all ! (λ l. pass_all ! refl ((tt, tt), ((tt, tt), ((tt, (tt, (record { fits = fits }, tt))), tt))) $
        sets ! (agg ! (no_more !)) refl (tt, tt) $
        returns ! (look_at ! 0 refl) $ free_all ! refl $
        suffices ! _ (ends_at 𝓛 made.ended stayed (made.clauses 𝓛 mem run) bound empty more (tt, (tt, (tt, tt))) (tt, (tt, (tt, tt)))) $
        says ! refl $ pure_i ! (log.the_row.own_val more (empty ∷ [])) ((λ vss. (tt, tt)), tt) ((tt, (refl, tt)), tt) $
        move ! (1 ∷ 2 ∷ 0 ∷ []) $ done !)

pub with_spec : {M : Type 1} → stated.statement M
unfolding tables_of
with_spec 𝓤 𝓛 𝓜 𝓡 wired =
    let 𝓣 : Tables 𝓤 𝓛.H = tables_of 𝓤 𝓛.H 𝓜 (tables 𝓤 𝓛.H 𝓜 𝓡 𝓡.env) in
    let held = made.clauses 𝓛 𝓜.mem 𝓡.returns in
    let goes = WpFn 𝓤 𝓛.H 𝓣.C 𝓣.Λ code.function in
    entered 𝓤 𝓛.H (triple_of 𝓛 made.signature (made.spec 𝓛 𝓜.mem 𝓡.returns)) 𝓣.C 𝓣.Λ key code.function (code.unfolded 𝓤 𝓛.H 𝓜 𝓡 wired)
    (walk_Meets 𝓛 made.ended stayed (Goes-none_ref 𝓛 3 (0 ∷ []) tt (plain (λ _. log.the_row)) yes, (Goes-none_ref 𝓛 3 (1 ∷ []) tt (plain (λ _. head.the_row)) yes, (Goes-none_slice 𝓛 3 (2 ∷ []) tt (plain (λ _. u8)) yes, tt)))
    held goes (WpFn-mono 𝓤 𝓛.H 𝓛.laws 𝓣 code.function)
    (walked 𝓛 made.ended stayed held goes (λ κs. (shr_vals, (shr_vals, (shr_slice_vals, tt))))
    (λ κs. (shr_Tells (named 0) κs.0 log.the_row, (shr_Tells (named 1) κs.1.0 head.the_row, (shr_slice_Tells (named 2) κs.1.1.0 u8, tt))))
    (λ κs qs bounds a g are. via 𝓤 _ (fst∗ 𝓤 _ (emp 𝓤)) (walk 𝓛 𝓜.mem 𝓡.returns 𝓣.C 𝓣.Λ κs qs a are.1.1.0.0.1.0))))
