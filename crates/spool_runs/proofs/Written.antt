-- What a run has was synced, or is to be written, or was counted as not on disk, or was answered while the disk failed.
use Rattle.std.proofs.Common.{◌≡◌, ℕ, Bool, true, false, not, List, [], ◌∷◌, ◌++◌, take, drop, sym, subst, inl, inr}
use Rattle.std.specs.Prelude.{◌⊎◌}
use Rattle.std.specs.List.{Contains, filter}
use Rattle.std.proofs.lemmas.Bool.{cases_Bool}
use Rattle.std.proofs.lemmas.List.Elements.{Contains-append_left, Contains-append_right}
use Rattle.spool_files.specs.Entries.{Entry}
use Rattle.spool_runs.specs.World.{Setup, World, new_world, has_lane}
use Rattle.spool_runs.specs.Happens.{Happening, Happens, Life, IsClosedAmong, IsFirst, IsOffered, written_more, run_over, after_accepted, after_closed, after_start}
use Rattle.spool_runs.specs.Happens.Happening.{starts, takes, drops, accepts, closes, lets_go, syncs, fails, begins, writes_again, removes, ends, crashes}
use Rattle.spool_runs.specs.Laws.{IsHeld, AStopLosesNone}
use Rattle.spool_runs.proofs.Among.{none_there, pushed, last_in, in_middle, with_one, was_passed, passes, in_parts}
use Rattle.spool_runs.proofs.Lives.{in_life}

-- where a request is that a run has
abbrev pub IsGone : (lost answered : List Entry) → Entry → Type 0
IsGone lost answered it = Contains lost it ⊎ IsClosedAmong answered it

abbrev pub IsSomewhere : (lost answered written unwritten : List Entry) → Entry → Type 0
IsSomewhere lost answered written unwritten it = IsGone lost answered it ⊎ (Contains written it ⊎ Contains unwritten it)

pub record Goes (world : World) : Type 0 where
  pub had : (it : Entry) → IsHeld world it → IsSomewhere world.lost world.answered world.synced world.unwritten it

-- more that was written
later : (written more : List Entry) (it : Entry) → Contains written it → Contains (written ++ more) it
later written more it there = Contains-append_left written more it there

module _ (old : World) (s : Goes old) where
  more_had : (entries : List Entry) (it : Entry) → IsHeld old it → IsSomewhere old.lost old.answered (old.synced ++ entries) old.unwritten it
  more_had entries it h = elim (s.had it h) [
    | inl lost ↦ inl lost
    | inr rest ↦ elim rest [ inl written ↦ inr (inl (later old.synced entries it written)) | inr unwritten ↦ inr (inr unwritten) ]
  ]

  batch_had : (count : ℕ) (it : Entry) → IsHeld old it → IsSomewhere old.lost old.answered (old.synced ++ take count old.unwritten) (drop count old.unwritten) it
  batch_had count it h = elim (s.had it h) [
    | inl lost ↦ inl lost
    | inr rest ↦ elim rest [
      | inl written ↦ inr (inl (later old.synced (take count old.unwritten) it written))
      | inr unwritten ↦ elim (in_parts count old.unwritten it unwritten) [
        | inl first ↦ inr (inl (Contains-append_right old.synced (take count old.unwritten) it first))
        | inr last ↦ inr (inr last)
      ]
    ]
  ]

  was_waiting : (request : Entry) (is : IsFirst old request) (it : Entry) → Contains (is.before ++ is.after) it → IsHeld old it
  was_waiting request is it there = inl (subst (λ es. Contains es it) (sym is.split) (with_one is.before request is.after it there))

  waited : (request : Entry) (is : IsFirst old request) → IsHeld old request
  waited request is = inl (subst (λ es. Contains es request) (sym is.split) (in_middle is.before request is.after))

  taken_had : (request : Entry) (is : IsFirst old request) (it : Entry) → Contains (is.before ++ is.after) it ⊎ (Contains old.dropped it ⊎ Contains (old.accepted ++ request ∷ []) it) → IsHeld old it
  taken_had request is it h = elim h [
    | inl waits ↦ was_waiting request is it waits
    | inr rest ↦ elim rest [
      | inl dropped ↦ inr (inl dropped)
      | inr accepted ↦ elim (pushed old.accepted request it accepted) [
        | inl before ↦ inr (inr before)
        | inr same ↦ subst (IsHeld old) same (waited request is)
      ]
    ]
  ]

  dropped_had : (request : Entry) (is : IsFirst old request) (it : Entry) → Contains (is.before ++ is.after) it ⊎ (Contains (old.dropped ++ request ∷ []) it ⊎ Contains old.accepted it) → IsHeld old it
  dropped_had request is it h = elim h [
    | inl waits ↦ was_waiting request is it waits
    | inr rest ↦ elim rest [
      | inl dropped ↦ elim (pushed old.dropped request it dropped) [
        | inl before ↦ inr (inl before)
        | inr same ↦ subst (IsHeld old) same (waited request is)
      ]
      | inr accepted ↦ inr (inr accepted)
    ]
  ]

  -- what had been had, or is the new one
  new_cases : (request it : Entry) → Contains old.waiting it ⊎ (Contains old.dropped it ⊎ Contains (old.accepted ++ request ∷ []) it) → IsHeld old it ⊎ (request ≡ it)
  new_cases request it h = elim h [
    | inl waits ↦ inl (inl waits)
    | inr rest ↦ elim rest [
      | inl dropped ↦ inl (inr (inl dropped))
      | inr accepted ↦ elim (pushed old.accepted request it accepted) [ inl before ↦ inl (inr (inr before)) | inr same ↦ inr same ]
    ]
  ]

  -- one more that was lost, or answered
  more_lost : (request it : Entry) → IsGone old.lost old.answered it → IsGone (old.lost ++ request ∷ []) old.answered it
  more_lost request it gone = elim gone [ inl lost ↦ inl (Contains-append_left old.lost (request ∷ []) it lost) | inr answered ↦ inr answered ]

  more_answered : (closing it : Entry) → IsGone old.lost old.answered it → IsGone old.lost (old.answered ++ closing ∷ []) it
  more_answered closing it gone = elim gone [
    | inl lost ↦ inl lost
    | inr c ↦ inr (record { closing = c.closing; there = Contains-append_left old.answered (closing ∷ []) c.closing c.there; is = c.is; about = c.about })
  ]

  accepted_step : (request : Entry) (handed : Bool) (moment next : ℕ) → Goes (after_accepted old request handed moment next)
  accepted_step request true moment next = record {
    had = λ it h. elim (new_cases request it h) [
      | inl before ↦ elim (s.had it before) [
        | inl lost ↦ inl lost
        | inr rest ↦ elim rest [ inl written ↦ inr (inl written) | inr unwritten ↦ inr (inr (Contains-append_left old.unwritten (request ∷ []) it unwritten)) ]
      ]
      | inr same ↦ inr (inr (subst (λ e. Contains (old.unwritten ++ request ∷ []) e) same (last_in old.unwritten request)))
    ];
  }
  accepted_step request false moment next = record {
    had = λ it h. elim (new_cases request it h) [
      | inl before ↦ elim (s.had it before) [ inl gone ↦ inl (more_lost request it gone) | inr rest ↦ inr rest ]
      | inr same ↦ inl (inl (subst (λ e. Contains (old.lost ++ request ∷ []) e) same (last_in old.lost request)))
    ];
  }

  closed_step : (closing : Entry) (handed : Bool) → Goes (after_closed old closing handed)
  closed_step closing true = record {
    had = λ it h. elim (s.had it h) [
      | inl gone ↦ inl (more_answered closing it gone)
      | inr rest ↦ elim rest [ inl written ↦ inr (inl written) | inr unwritten ↦ inr (inr (Contains-append_left old.unwritten (closing ∷ []) it unwritten)) ]
    ];
  }
  closed_step closing false = record {
    had = λ it h. elim (s.had it h) [ inl gone ↦ inl (more_answered closing it gone) | inr rest ↦ inr rest ];
  }

  -- of those that waited to be written some are let go of
  kept_had : (kept : Entry → Bool) → ((entry : Entry) → Contains old.unwritten entry → kept entry ≡ false → IsClosedAmong old.answered entry) → (it : Entry) → IsHeld old it → IsSomewhere old.lost old.answered old.synced (filter kept old.unwritten) it
  kept_had kept answered it h = elim (s.had it h) [
    | inl gone ↦ inl gone
    | inr rest ↦ elim rest [
      | inl written ↦ inr (inl written)
      | inr unwritten ↦ elim (cases_Bool (kept it)) [
        | inl is ↦ inr (inr (passes kept old.unwritten it is unwritten))
        | inr not_so ↦ inl (inr (answered it unwritten not_so))
      ]
    ]
  ]

  started_step : (setup : Setup) (moment : ℕ) (offered : List Entry) (next : ℕ) → IsOffered old.disk offered
      → Goes (after_start old setup moment offered next)
  started_step setup moment offered next o = record {
    had = λ it h. elim h [
      | inl waits ↦ inr (inl (Contains-append_right old.synced offered it (was_passed (has_lane setup) offered it waits).0))
      | inr rest ↦ elim rest [
        | inl dropped ↦ inr (inl (Contains-append_right old.synced offered it (was_passed (λ entry. not (has_lane setup entry)) offered it dropped).0))
        | inr accepted ↦ more_had offered it (inr (inr accepted))
      ]
    ];
  }

  over : (entries : List Entry) → Goes (run_over (written_more old entries))
  over entries = record {
    had = λ it h. elim h [
      | inl waits ↦ absurd (none_there it waits)
      | inr rest ↦ elim rest [ inl dropped ↦ absurd (none_there it dropped) | inr accepted ↦ absurd (none_there it accepted) ]
    ];
  }

  over_in_order : Goes (run_over old)
  over_in_order = record {
    had = λ it h. elim h [
      | inl waits ↦ absurd (none_there it waits)
      | inr rest ↦ elim rest [ inl dropped ↦ absurd (none_there it dropped) | inr accepted ↦ absurd (none_there it accepted) ]
    ];
  }

step : (old : World) (happening : Happening) (new : World) → Happens old happening new → Goes old → Goes new
step old (starts setup moment offered next) new h s = subst Goes (sym h.world) (started_step old s setup moment offered next h.offers)
step old (takes request) new h s = subst Goes (sym h.world) (record { had = λ it held. s.had it (taken_had old s request h.is it held) })
step old (drops request) new h s = subst Goes (sym h.world) (record { had = λ it held. s.had it (dropped_had old s request h.is it held) })
step old (accepts request handed moment next) new h s = subst Goes (sym h.world) (accepted_step old s request handed moment next)
step old (closes closing handed) new h s = subst Goes (sym h.world) (closed_step old s closing handed)
step old (lets_go kept) new h s = subst Goes (sym h.world) (record { had = kept_had old s kept h.answered })
step old (syncs count) new h s = subst Goes (sym h.world) (record { had = batch_had old s count })
step old (fails count) new h s = subst Goes (sym h.world) (record { had = s.had })
step old (begins begun) new h s = subst Goes (sym h.world) (record { had = s.had })
step old (writes_again oldest newer kept) new h s = subst Goes (sym h.world) (record { had = s.had })
step old (removes oldest newer moment) new h s = subst Goes (sym h.world) (record { had = s.had })
step old ends new h s = subst Goes (sym h.world) (over_in_order old s)
step old (crashes count) new h s = subst Goes (sym h.world) (over old s (take count old.unwritten))

new_goes : (span : ℕ) → Goes (new_world span)
new_goes span = record {
  had = λ it h. elim h [
    | inl waits ↦ absurd (none_there it waits)
    | inr rest ↦ elim rest [ inl dropped ↦ absurd (none_there it dropped) | inr accepted ↦ absurd (none_there it accepted) ]
  ];
}

pub stop_loses_none : (old new : World) → Life old → AStopLosesNone old new
stop_loses_none old new life h request held = elim ((in_life Goes new_goes step old life).had request held) [
  | inl gone ↦ elim gone [ inl lost ↦ inl lost | inr answered ↦ inr (inr answered) ]
  | inr rest ↦ elim rest [
    | inl written ↦ inr (inl (subst (λ (w : World). Contains w.synced request) (sym h.world) written))
    | inr unwritten ↦ absurd (none_there request (subst (λ es. Contains es request) h.all unwritten))
  ]
]
