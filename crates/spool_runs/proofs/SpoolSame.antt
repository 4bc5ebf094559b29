-- What counts of the entries on disk counts of all that may have been written; and of these what was synced counts on the disk.
use Rattle.std.proofs.Common.{◌≡◌, ℕ, ◌≤◌, Bool, true, false, List, [], ◌∷◌, ◌++◌, take, refl, sym, subst, inl, inr, arith}
use Rattle.std.specs.List.{Contains, filter}
use Rattle.std.proofs.lemmas.List.Elements.{Contains-append_left, Contains-append_right, Contains-append_cases}
use Rattle.std.proofs.lemmas.List.Sorted.{Contains-permutation, IsPermutation-sym}
use Rattle.spool_files.specs.declared.entry.Head.TheVariants as heads
use Rattle.spool_files.specs.Entries.{Entry}
use Rattle.spool_files.specs.Counting.{is_last, is_request, is_answer_within, last_of, open_of, answers_of, answers_before, open_before}
use Rattle.spool_files.proofs.CountLemmas.{kept_parts}
use Rattle.spool_runs.specs.World.{World}
use Rattle.spool_runs.specs.Happens.{Happening, Happens, IsOffered, Life, after_accepted, after_closed}
use Rattle.spool_runs.specs.Happens.Happening.{starts, takes, drops, accepts, closes, lets_go, syncs, fails, begins, writes_again, removes, ends, crashes}
use Rattle.spool_runs.proofs.Among.{passes, was_passed}
use Rattle.spool_runs.proofs.Counted.{counting, counting_more, counted_stands, counts_behind, last_alone, within_before}
use Rattle.spool_runs.proofs.Lives.{in_life}

pub record CountsTheSame (world : World) : Type 0 where
  pub requests : (it : Entry) → Contains (open_of world.disk) it → Contains (open_of world.written) it
  pub answers : (now span : ℕ) (it : Entry) → world.now ≤ now → span ≤ world.span → Contains (answers_of now span world.written) it → Contains world.synced it → Contains (answers_of now span world.disk) it

-- the same more behind both
both_more : (test : Entry → Bool) (one other more : List Entry) (it : Entry) → (Contains (counting test one) it → Contains (counting test other) it) → Contains (counting test (one ++ more)) it → Contains (counting test (other ++ more)) it
both_more test one other more it so there =
    subst (λ es. Contains es it) (sym (counting_more test other more))
    (elim (Contains-append_cases (filter (λ e. is_last e.0 more) (counting test one)) (counting test more) it (subst (λ es. Contains es it) (counting_more test one more) there)) [
      | inl old ↦
          let w = was_passed (λ e. is_last e.0 more) (counting test one) it old in
          Contains-append_left (filter (λ e. is_last e.0 more) (counting test other)) (counting test more) it (passes (λ e. is_last e.0 more) (counting test other) it w.1 (so w.0))
      | inr new ↦ Contains-append_right (filter (λ e. is_last e.0 more) (counting test other)) (counting test more) it new
    ])

-- what counts before more stands behind it does not stand in it
both_more_if : (test : Entry → Bool) (one other more : List Entry) (it : Entry) → (Contains (counting test one) it → (Contains more it → ⊥) → Contains (counting test other) it) → Contains (counting test (one ++ more)) it → Contains (counting test (other ++ more)) it
both_more_if test one other more it so counts = subst (λ es. Contains es it) (sym (counting_more test other more))
    (elim (Contains-append_cases (filter (λ e. is_last e.0 more) (counting test one)) (counting test more) it (subst (λ es. Contains es it) (counting_more test one more) counts)) [
      | inl old ↦
          let w = was_passed (λ e. is_last e.0 more) (counting test one) it old in
          let apart : Contains more it → ⊥ = λ h. last_alone it.0 more it w.1 h refl in
          Contains-append_left (filter (λ e. is_last e.0 more) (counting test other)) (counting test more) it (passes (λ e. is_last e.0 more) (counting test other) it w.1 (so w.0 apart))
      | inr new ↦ Contains-append_right (filter (λ e. is_last e.0 more) (counting test other)) (counting test more) it new
    ])

no_answer_asks : (now span : ℕ) (it : Entry) → is_answer_within now span it ≡ true → is_request it ≡ true → ⊥
no_answer_asks now span (heads.Begun b, text) is asks = cc (asks)
no_answer_asks now span (heads.Came c, text) is asks = cc (is)
no_answer_asks now span (heads.Answered a, text) is asks = cc (asks)
no_answer_asks now span (heads.GivenUp g, text) is asks = cc (asks)

-- an answer for less time, or later, is one
counts_before : (earlier later span less : ℕ) (oldest newer : List Entry) (it : Entry) → earlier ≤ later → less ≤ span → Contains (answers_before later less oldest newer) it → Contains (answers_before earlier span oldest newer) it
counts_before earlier later span less oldest newer it le fewer there =
    let w = was_passed (is_answer_within later less) (last_of oldest newer) it there in
    passes (is_answer_within earlier span) (last_of oldest newer) it (within_before earlier later span less it le fewer w.1) w.0

module _ (old : World) (s : CountsTheSame old) where
  -- a batch is synced, or only may be there
  synced_more : (entries : List Entry) → CountsTheSame (record old { written = old.written ++ entries; disk = old.disk ++ entries; synced = old.synced ++ entries })
  synced_more entries = record {
    requests = λ it. both_more is_request old.disk old.written entries it (s.requests it);
    answers = λ now span it le fewer there sure. elim (Contains-append_cases old.synced entries it sure) [
      | inl before ↦ both_more (is_answer_within now span) old.written old.disk entries it (λ counts. s.answers now span it le fewer counts before) there
      | inr new ↦ both_more_if (is_answer_within now span) old.written old.disk entries it (λ counts apart. absurd (apart new)) there
    ];
  }

  maybe_more : (entries : List Entry) → CountsTheSame (record old { written = old.written ++ entries; disk = old.disk ++ entries })
  maybe_more entries = record {
    requests = λ it. both_more is_request old.disk old.written entries it (s.requests it);
    answers = λ now span it le fewer there sure. both_more (is_answer_within now span) old.written old.disk entries it (λ counts. s.answers now span it le fewer counts sure) there;
  }

  accepted_step : (request : Entry) (handed : Bool) (moment next : ℕ) → old.now ≤ moment → CountsTheSame (after_accepted old request handed moment next)
  accepted_step request true moment next later = record { requests = s.requests; answers = λ now span it le. s.answers now span it (omega (arith, le, later)) }
  accepted_step request false moment next later = record { requests = s.requests; answers = λ now span it le. s.answers now span it (omega (arith, le, later)) }

  closed_step : (closing : Entry) (handed : Bool) → CountsTheSame (after_closed old closing handed)
  closed_step closing true = record { requests = s.requests; answers = s.answers }
  closed_step closing false = record { requests = s.requests; answers = s.answers }

  removed_step : (oldest newer : List Entry) (moment : ℕ) → old.now ≤ moment → old.disk ≡ oldest ++ newer → ((answer : Entry) → Contains (answers_before moment old.span oldest newer) answer → Contains old.synced answer → ⊥)
      → CountsTheSame (record old { now = moment; disk = newer })
  removed_step oldest newer moment later disk none = record {
    requests = λ it there. s.requests it (subst (λ es. Contains (open_of es) it) (sym disk) (counts_behind is_request oldest newer it there));
    answers = λ now span it le fewer there sure.
        let on_disk : Contains (answers_of now span (oldest ++ newer)) it = subst (λ es. Contains (answers_of now span es) it) disk (s.answers now span it (omega (arith, le, later)) fewer there sure) in
        elim (Contains-append_cases (answers_before now span oldest newer) (answers_of now span newer) it (subst (λ es. Contains es it) (kept_parts (is_answer_within now span) oldest newer) on_disk)) [
          | inl old_one ↦ absurd (none it (counts_before moment now old.span span oldest newer it le fewer old_one) sure)
          | inr new ↦ new
        ];
  }

  started_answers : (offered : List Entry) → IsOffered old.disk offered → (now span : ℕ) (it : Entry) → old.now ≤ now → span ≤ old.span → Contains (answers_of now span old.written) it → Contains (old.synced ++ offered) it → Contains (answers_of now span old.disk) it
  started_answers offered o now span it le fewer there sure = elim (Contains-append_cases old.synced offered it sure) [
    | inl before ↦ s.answers now span it le fewer there before
    | inr asked ↦ absurd (no_answer_asks now span it (counted_stands (is_answer_within now span) old.written it there).passed
        (counted_stands is_request old.disk it (Contains-permutation offered (open_of old.disk) it (IsPermutation-sym (open_of old.disk) offered o.same) asked)).passed)
  ]

step : (old : World) (happening : Happening) (new : World) → Happens old happening new → CountsTheSame old → CountsTheSame new
step old (starts setup moment offered next) new h s = subst CountsTheSame (sym h.world) (record {
  requests = s.requests;
  answers = λ now span it le fewer. started_answers old s offered h.offers now span it (omega (arith, le, h.later)) (omega (arith, fewer, h.no_greater));
})
step old (takes request) new h s = subst CountsTheSame (sym h.world) (record { requests = s.requests; answers = s.answers })
step old (drops request) new h s = subst CountsTheSame (sym h.world) (record { requests = s.requests; answers = s.answers })
step old (accepts request handed moment next) new h s = subst CountsTheSame (sym h.world) (accepted_step old s request handed moment next h.later)
step old (closes closing handed) new h s = subst CountsTheSame (sym h.world) (closed_step old s closing handed)
step old (lets_go kept) new h s = subst CountsTheSame (sym h.world) (record { requests = s.requests; answers = s.answers })
step old (syncs count) new h s = let m = synced_more old s (take count old.unwritten) in subst CountsTheSame (sym h.world) (record { requests = m.requests; answers = m.answers })
step old (fails count) new h s = subst CountsTheSame (sym h.world) (maybe_more old s (take count old.unwritten))
step old (begins begun) new h s = subst CountsTheSame (sym h.world) (maybe_more old s ((heads.Begun begun, []) ∷ []))
step old (writes_again oldest newer kept) new h s = subst CountsTheSame (sym h.world) (maybe_more old s (filter kept (open_before oldest newer)))
step old (removes oldest newer moment) new h s = subst CountsTheSame (sym h.world) (removed_step old s oldest newer moment h.later h.disk h.none_remembered)
step old ends new h s = subst CountsTheSame (sym h.world) (record { requests = s.requests; answers = s.answers })
step old (crashes count) new h s = let m = maybe_more old s (take count old.unwritten) in subst CountsTheSame (sym h.world) (record { requests = m.requests; answers = m.answers })

pub counts_the_same : (world : World) → Life world → CountsTheSame world
counts_the_same = in_life CountsTheSame (λ span. record { requests = λ it there. there; answers = λ now span it le fewer there sure. there }) step
