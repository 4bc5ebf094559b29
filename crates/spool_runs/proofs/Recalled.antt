-- What a run remembers of the answers of earlier ones.
use Rattle.std.proofs.Common.{◌≡◌, ℕ, ◌-◌, ◌≤◌, Bool, true, false, List, Some, sym, subst, ◌∙◌, inl, inr, arith, le-leb}
use Rattle.std.specs.List.{AllPairs, Contains}
use Rattle.std.proofs.lemmas.Bool.{cases_lt}
use Rattle.spool_files.specs.declared.entry.Answered.{Answered}
use Rattle.spool_files.specs.declared.entry.Head.TheVariants as heads
use Rattle.spool_files.specs.Entries.{Entry}
use Rattle.spool_files.specs.Counting.{is_answer_within, answers_of}
use Rattle.spool_runs.specs.World.{World}
use Rattle.spool_runs.specs.Happens.{Happening, Happens, Life, after_accepted, after_closed}
use Rattle.spool_runs.specs.Happens.Happening.{starts, takes, drops, accepts, closes, lets_go, syncs, fails, begins, writes_again, removes, ends, crashes}
use Rattle.spool_runs.specs.Laws.{AnswersAreRecalled, IsAcceptedAfterItsSpan, IsLastAbout}
use Rattle.spool_runs.proofs.Counted.{OtherKeys, counted_apart, one_of_key, stands_counts}
use Rattle.spool_runs.proofs.Lives.{from_new}
use Rattle.spool_runs.proofs.SpoolSame.{counts_the_same}

pub record Remembers (world : World) : Type 0 where
  pub later : world.up ≡ true → world.started ≤ world.now
  pub spans : world.up ≡ true → (lane : ℕ) → world.setup.span_of lane ≤ world.span
  pub apart : world.up ≡ true → AllPairs OtherKeys world.remembered
  pub there : world.up ≡ true → (it : Entry) → Contains (answers_of world.started world.span world.found) it → Contains world.found_synced it → Contains world.remembered it

module _ (old : World) (s : Remembers old) where
  accepted_step : (request : Entry) (handed : Bool) (moment next : ℕ) → old.now ≤ moment → Remembers (after_accepted old request handed moment next)
  accepted_step request true moment next le = record { later = λ up. omega (arith, s.later up, le); spans = s.spans; apart = s.apart; there = s.there }
  accepted_step request false moment next le = record { later = λ up. omega (arith, s.later up, le); spans = s.spans; apart = s.apart; there = s.there }

  closed_step : (closing : Entry) (handed : Bool) → Remembers (after_closed old closing handed)
  closed_step closing true = record { later = s.later; spans = s.spans; apart = s.apart; there = s.there }
  closed_step closing false = record { later = s.later; spans = s.spans; apart = s.apart; there = s.there }

none_up : false ≡ true → ⊥
none_up is = cc (is)

step : (old : World) (happening : Happening) (new : World) → Life old → Happens old happening new → Remembers old → Remembers new
step old (starts setup moment offered next) new life h s = subst Remembers (sym h.world) (record {
  later = λ up. omega arith;
  spans = λ up. h.spans;
  apart = λ up. counted_apart (is_answer_within moment setup.greatest_span) old.disk;
  there = λ up it. (counts_the_same old life).answers moment setup.greatest_span it h.later h.no_greater;
})
step old (takes request) new life h s = subst Remembers (sym h.world) (record { later = s.later; spans = s.spans; apart = s.apart; there = s.there })
step old (drops request) new life h s = subst Remembers (sym h.world) (record { later = s.later; spans = s.spans; apart = s.apart; there = s.there })
step old (accepts request handed moment next) new life h s = subst Remembers (sym h.world) (accepted_step old s request handed moment next h.later)
step old (closes closing handed) new life h s = subst Remembers (sym h.world) (closed_step old s closing handed)
step old (lets_go kept) new life h s = subst Remembers (sym h.world) (record { later = s.later; spans = s.spans; apart = s.apart; there = s.there })
step old (syncs count) new life h s = subst Remembers (sym h.world) (record { later = s.later; spans = s.spans; apart = s.apart; there = s.there })
step old (fails count) new life h s = subst Remembers (sym h.world) (record { later = s.later; spans = s.spans; apart = s.apart; there = s.there })
step old (begins begun) new life h s = subst Remembers (sym h.world) (record { later = s.later; spans = s.spans; apart = s.apart; there = s.there })
step old (writes_again oldest newer kept) new life h s = subst Remembers (sym h.world) (record { later = s.later; spans = s.spans; apart = s.apart; there = s.there })
step old (removes oldest newer moment) new life h s = subst Remembers (sym h.world) (record { later = λ up. omega (arith, s.later up, h.later); spans = s.spans; apart = s.apart; there = s.there })
step old ends new life h s = subst Remembers (sym h.world) (record { later = λ up. absurd (none_up up); spans = λ up. absurd (none_up up); apart = λ up. absurd (none_up up); there = λ up. absurd (none_up up) })
step old (crashes count) new life h s = subst Remembers (sym h.world) (record { later = λ up. absurd (none_up up); spans = λ up. absurd (none_up up); apart = λ up. absurd (none_up up); there = λ up. absurd (none_up up) })

pub remembers : (world : World) → Life world → Remembers world
remembers = from_new Remembers (λ span. record { later = λ up. absurd (none_up up); spans = λ up. absurd (none_up up); apart = λ up. absurd (none_up up); there = λ up. absurd (none_up up) }) step

-- an answer that is no older than the span when the run starts
remembered_there : (world : World) → Life world → (answered : Answered) (text : List ℕ) → world.up ≡ true → IsLastAbout world.found (heads.Answered answered, text)
    → Contains world.found_synced (heads.Answered answered, text) → world.started - answered.moment ≤ world.span → Contains world.remembered (heads.Answered answered, text)
remembered_there world life answered text up last sure within =
    (remembers world life).there up (heads.Answered answered, text)
    (subst (λ es. Contains (answers_of world.started world.span es) (heads.Answered answered, text)) (sym last.split)
    (stands_counts (is_answer_within world.started world.span) last.before (heads.Answered answered, text) last.later last.last (le-leb (world.started - answered.moment) world.span within)))
    sure

pub recalled : (world : World) → Life world → AnswersAreRecalled world
recalled world life answered text up last sure within =
    let r = remembers world life in
    let le = r.later up in
    let here = remembered_there world life answered text up last sure (omega (arith, le, within)) in
    let entry : Entry = (heads.Answered answered, text) in
    record {
      there = here;
      alone = λ other there same. one_of_key world.remembered (r.apart up) other entry there here same;
    }

one_lane : {a b : ℕ} → Some a ≡ Some b → a ≡ b
one_lane is = cc

pub none_anew : (old new : World) (request : Entry) (handed : Bool) (moment next : ℕ) → Life old → Happens old (accepts request handed moment next) new → IsAcceptedAfterItsSpan old request moment
none_anew old new request handed moment next life h answered text lane last sure same of = elim (cases_lt (moment - answered.moment) (old.setup.span_of lane)) [
  | inl less ↦
      let r = remembers old life in
      let start = r.later h.up in
      let spans = r.spans h.up lane in
      let now = h.later in
      let here = remembered_there old life answered text h.up last sure (omega (arith, less, start, spans, now)) in
      subst (λ n. old.setup.span_of n ≤ moment - answered.moment) (one_lane (sym h.of ∙ of)) (h.not_recalled answered text here same)
  | inr more ↦ more
]
