-- While a run is up, it has each request that is open on the disk.
use Rattle.std.proofs.Common.{◌≡◌, ℕ, Bool, true, false, not, List, [], ◌∷◌, ◌++◌, take, sym, ap, subst, ◌∙◌, inl, inr}
use Rattle.std.specs.Prelude.{◌⊎◌}
use Rattle.std.specs.List.{Contains, filter}
use Rattle.std.proofs.lemmas.Bool.{cases_Bool}
use Rattle.std.proofs.lemmas.List.Elements.{Contains-append_left, Contains-append_right}
use Rattle.std.proofs.lemmas.List.Sorted.{Contains-permutation}
use Rattle.spool_files.specs.declared.entry.Head.TheVariants as heads
use Rattle.spool_files.specs.Entries.{Entry}
use Rattle.spool_files.specs.Counting.{is_request, open_of, open_before}
use Rattle.spool_files.proofs.CountLemmas.{kept_parts}
use Rattle.spool_runs.specs.World.{Setup, World, is_closing, has_lane}
use Rattle.spool_runs.specs.Happens.{Happening, Happens, Life, IsFirst, IsOffered, after_accepted, after_closed, after_start}
use Rattle.spool_runs.specs.Happens.Happening.{starts, takes, drops, accepts, closes, lets_go, syncs, fails, begins, writes_again, removes, ends, crashes}
use Rattle.spool_runs.specs.Laws.{IsHeld}
use Rattle.spool_runs.proofs.Among.{first_in, none_there, pushed, last_in, around, passes, was_passed, of_first, of_rest}
use Rattle.spool_runs.proofs.Counted.{counting, counted_from, counted_in, counted_stands, counts_behind, no_request}
use Rattle.spool_runs.proofs.Lives.{in_life}

pub record Has (world : World) : Type 0 where
  pub held : world.up ≡ true → (it : Entry) → Contains (open_of world.disk) it → IsHeld world it
  pub handed : (it : Entry) → Contains world.unwritten it → is_request it ≡ true → Contains world.accepted it

-- what is offered waits, or was dropped
pub offered_held : (setup : Setup) (offered : List Entry) (it : Entry) → Contains offered it → Contains (filter (has_lane setup) offered) it ⊎ Contains (filter (λ entry. not (has_lane setup entry)) offered) it
offered_held setup offered it there = elim (cases_Bool (has_lane setup it)) [
  | inl is ↦ inl (passes (has_lane setup) offered it is there)
  | inr is ↦ inr (passes (λ entry. not (has_lane setup entry)) offered it (ap not is) there)
]

module _ (old : World) (s : Has old) where
  -- more on the disk, of which what is open is had
  more_held : (entries : List Entry) → ((it : Entry) → Contains (counting is_request entries) it → IsHeld old it) → old.up ≡ true → (it : Entry) → Contains (open_of (old.disk ++ entries)) it → IsHeld old it
  more_held entries had up it there = elim (counted_from is_request old.disk entries it there) [ inl before ↦ s.held up it before | inr new ↦ had it new ]

  batch_held : (count : ℕ) (it : Entry) → Contains (counting is_request (take count old.unwritten)) it → IsHeld old it
  batch_held count it there =
      let c = counted_stands is_request (take count old.unwritten) it there in
      let inside : Contains (take count old.unwritten) it = subst (λ es. Contains es it) (sym c.split) (Contains-append_right c.before (it ∷ c.later) it (first_in it c.later)) in
      inr (inr (s.handed it (of_first count old.unwritten it inside) c.passed))

  begun_held : (begun : _) (it : Entry) → Contains (counting is_request ((heads.Begun begun, []) ∷ [])) it → IsHeld old it
  begun_held begun it there = absurd (none_there it there)

  again_held : (oldest newer : List Entry) (kept : Entry → Bool) → old.up ≡ true → old.disk ≡ oldest ++ newer → (it : Entry) → Contains (counting is_request (filter kept (open_before oldest newer))) it → IsHeld old it
  again_held oldest newer kept up disk it there =
      let inside : Contains (open_before oldest newer) it = (was_passed kept (open_before oldest newer) it (counted_in is_request (filter kept (open_before oldest newer)) it there)).0 in
      s.held up it (subst (λ es. Contains (open_of es) it) (sym disk)
      (subst (λ es. Contains es it) (sym (kept_parts is_request oldest newer)) (Contains-append_left (open_before oldest newer) (open_of newer) it inside)))

  taken_held : (request : Entry) (is : IsFirst old request) → old.up ≡ true → (it : Entry) → Contains (open_of old.disk) it
      → Contains (is.before ++ is.after) it ⊎ (Contains old.dropped it ⊎ Contains (old.accepted ++ request ∷ []) it)
  taken_held request is up it there = elim (s.held up it there) [
    | inl waits ↦ elim (around is.before request is.after it (subst (λ es. Contains es it) is.split waits)) [
      | inl still ↦ inl still
      | inr same ↦ inr (inr (subst (λ e. Contains (old.accepted ++ request ∷ []) e) same (last_in old.accepted request)))
    ]
    | inr rest ↦ elim rest [ inl dropped ↦ inr (inl dropped) | inr accepted ↦ inr (inr (Contains-append_left old.accepted (request ∷ []) it accepted)) ]
  ]

  dropped_held : (request : Entry) (is : IsFirst old request) → old.up ≡ true → (it : Entry) → Contains (open_of old.disk) it
      → Contains (is.before ++ is.after) it ⊎ (Contains (old.dropped ++ request ∷ []) it ⊎ Contains old.accepted it)
  dropped_held request is up it there = elim (s.held up it there) [
    | inl waits ↦ elim (around is.before request is.after it (subst (λ es. Contains es it) is.split waits)) [
      | inl still ↦ inl still
      | inr same ↦ inr (inl (subst (λ e. Contains (old.dropped ++ request ∷ []) e) same (last_in old.dropped request)))
    ]
    | inr rest ↦ elim rest [ inl dropped ↦ inr (inl (Contains-append_left old.dropped (request ∷ []) it dropped)) | inr accepted ↦ inr (inr accepted) ]
  ]

  more_accepted : (request it : Entry) → IsHeld old it → Contains old.waiting it ⊎ (Contains old.dropped it ⊎ Contains (old.accepted ++ request ∷ []) it)
  more_accepted request it h = elim h [
    | inl waits ↦ inl waits
    | inr rest ↦ elim rest [ inl dropped ↦ inr (inl dropped) | inr accepted ↦ inr (inr (Contains-append_left old.accepted (request ∷ []) it accepted)) ]
  ]

  accepted_step : (request : Entry) (handed : Bool) (moment next : ℕ) → Has (after_accepted old request handed moment next)
  accepted_step request true moment next = record {
    held = λ up it there. more_accepted request it (s.held up it there);
    handed = λ it there is. elim (pushed old.unwritten request it there) [
      | inl before ↦ Contains-append_left old.accepted (request ∷ []) it (s.handed it before is)
      | inr same ↦ subst (λ e. Contains (old.accepted ++ request ∷ []) e) same (last_in old.accepted request)
    ];
  }
  accepted_step request false moment next = record {
    held = λ up it there. more_accepted request it (s.held up it there);
    handed = λ it there is. Contains-append_left old.accepted (request ∷ []) it (s.handed it there is);
  }

  closed_step : (closing : Entry) (handed : Bool) → is_closing closing ≡ true → Has (after_closed old closing handed)
  closed_step closing true closes_it = record {
    held = s.held;
    handed = λ it there is. elim (pushed old.unwritten closing it there) [
      | inl before ↦ s.handed it before is
      | inr same ↦ absurd (no_request it (ap is_closing (sym same) ∙ closes_it) is)
    ];
  }
  closed_step closing false closes_it = record { held = s.held; handed = s.handed }

  started_step : (setup : Setup) (moment : ℕ) (offered : List Entry) (next : ℕ) → IsOffered old.disk offered
      → Has (after_start old setup moment offered next)
  started_step setup moment offered next o = record {
    held = λ up it there. elim (offered_held setup offered it (Contains-permutation (open_of old.disk) offered it o.same there)) [ inl waits ↦ inl waits | inr dropped ↦ inr (inl dropped) ];
    handed = s.handed;
  }

none_up : false ≡ true → ⊥
none_up is = cc (is)

step : (old : World) (happening : Happening) (new : World) → Happens old happening new → Has old → Has new
step old (starts setup moment offered next) new h s = subst Has (sym h.world) (started_step old s setup moment offered next h.offers)
step old (takes request) new h s = subst Has (sym h.world) (record {
  held = taken_held old s request h.is;
  handed = λ it there is. Contains-append_left old.accepted (request ∷ []) it (s.handed it there is);
})
step old (drops request) new h s = subst Has (sym h.world) (record { held = dropped_held old s request h.is; handed = s.handed })
step old (accepts request handed moment next) new h s = subst Has (sym h.world) (accepted_step old s request handed moment next)
step old (closes closing handed) new h s = subst Has (sym h.world) (closed_step old s closing handed h.is)
step old (lets_go kept) new h s = subst Has (sym h.world) (record {
  held = s.held;
  handed = λ it there is. s.handed it (was_passed kept old.unwritten it there).0 is;
})
step old (syncs count) new h s = subst Has (sym h.world) (record {
  held = more_held old s (take count old.unwritten) (batch_held old s count);
  handed = λ it there is. s.handed it (of_rest count old.unwritten it there) is;
})
step old (fails count) new h s = subst Has (sym h.world) (record {
  held = more_held old s (take count old.unwritten) (batch_held old s count);
  handed = s.handed;
})
step old (begins begun) new h s = subst Has (sym h.world) (record {
  held = more_held old s ((heads.Begun begun, []) ∷ []) (begun_held old s begun);
  handed = s.handed;
})
step old (writes_again oldest newer kept) new h s = subst Has (sym h.world) (record {
  held = λ up. more_held old s (filter kept (open_before oldest newer)) (again_held old s oldest newer kept up h.disk) up;
  handed = s.handed;
})
step old (removes oldest newer moment) new h s = subst Has (sym h.world) (record {
  held = λ up it there. s.held up it (subst (λ es. Contains (open_of es) it) (sym h.disk) (counts_behind is_request oldest newer it there));
  handed = s.handed;
})
step old ends new h s = subst Has (sym h.world) (record { held = λ up it there. absurd (none_up up); handed = λ it there is. absurd (none_there it there) })
step old (crashes count) new h s = subst Has (sym h.world) (record { held = λ up it there. absurd (none_up up); handed = λ it there is. absurd (none_there it there) })

pub run_has : (world : World) → Life world → Has world
run_has = in_life Has (λ span. record { held = λ up it there. absurd (none_up up); handed = λ it there is. absurd (none_there it there) }) step
