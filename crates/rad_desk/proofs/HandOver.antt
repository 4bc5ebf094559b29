-- What was handed over, put together from its parts.
use Rattle.std.proofs.Common.{◌≡◌, ◌<◌, ℕ, List, [], ◌∷◌, ◌++◌, length, get_or, set, Option, Some, None, refl, sym, ap, ◌∙◌, subst, append-nil, append_assoc, inl, inr}
use Rattle.std.specs.Prelude.{◌⊎◌, Bool, true, false, map as each}
use Rattle.std.specs.List.{flat_map}
use Rattle.std.proofs.lemmas.List.{append_cancel_left}
use Rattle.rad_lane.specs.declared.outgoing.Outgoing.{Outgoing}
use Rattle.locked_lanes.specs.declared.inlet.Inlet.{Inlet}
use Rattle.locked_lanes.specs.Inlet.{taken, SameInlet}
use Rattle.rad_desk.specs.Traffic.{Event, logged}
use Rattle.rad_desk.specs.Calls.{Passes}
use Rattle.rad_desk.specs.Handling.{Outcome}
use Rattle.rad_desk.specs.Once.{Terms, TakesIn, HandsOne, Hands, outcomes_of, IsLeftUntaken, UntilStopped, DoesOrStops, WorksInParts}
use Rattle.rad_desk.specs.HandOver.{Handing, handed_at, kept_with, KeepsTaken, handings_of, HandsOver}
use Rattle.rad_desk.proofs.CallsJoined.{logged_append, passes_none, passes_widen}
use Rattle.rad_desk.proofs.FrontWork.{works_none, handings_none, works_append, handings_join, works_taken, handings_taken, works_handed_by, handings_still, handings_one, outcomes_none, outcomes_join, outcomes_taken, outcomes_handed}

kept-none : (before : Option (List Handing)) → kept_with before [] ≡ before
kept-none None = refl
kept-none (Some before) = ap (λ l. Some l) (append-nil before)

kept-append : (before : Option (List Handing)) (first then : List Handing) → kept_with (kept_with before first) then ≡ kept_with before (first ++ then)
kept-append None first then = refl
kept-append (Some before) first then = ap (λ l. Some l) (append_assoc before first then)

-- An inlet that gave nothing, and one that gave a response, which was handed over.
pub keeps_none : (was is : Inlet) → taken is ≡ taken was → (since : Option (List Event)) (ledger : Option (List Handing)) → KeepsTaken was is since ledger ledger
keeps_none was is took since ledger = record { responses = []; took = took ∙ sym (append-nil (taken was)); kept = sym (kept-none ledger) }

pub keeps_one : (was is : Inlet) (outgoing : Outgoing) → taken is ≡ taken was ++ outgoing ∷ [] → (since : Option (List Event)) (before after : Option (List Handing)) → after ≡ kept_with before (handed_at since outgoing ∷ []) → KeepsTaken was is since before after
keeps_one was is outgoing took since before after kept = record { responses = outgoing ∷ []; took = took; kept = kept }

module _ (terms : Terms) where
  over_nothing : (inlets : List Inlet) (came : List Outcome) (since : Option (List Event)) (ledger : Option (List Handing)) → HandsOver terms inlets inlets came came since ledger ledger []
  over_nothing inlets came since ledger = record {
    work = works_none terms inlets;
    entered = sym (ap (λ l. came ++ l) (outcomes_none terms inlets) ∙ append-nil came);
    kept = sym (ap (λ l. kept_with ledger l) (handings_none terms inlets since) ∙ kept-none ledger);
  }

  pub over_none : (inlets : List Inlet) (came : List Outcome) (ledger : Option (List Handing)) (old new : Option (List Event)) → new ≡ old → Passes (HandsOver terms inlets inlets came came old ledger ledger) old new
  over_none inlets came ledger old new = passes_none (HandsOver terms inlets inlets came came old ledger ledger) old new (over_nothing inlets came old ledger)

  -- Two stretches of work.
  over_append : (old mid new : List Inlet) (came amid gone : List Outcome) (since : Option (List Event)) (before between after : Option (List Handing)) (first then : List Event) → HandsOver terms old mid came amid since before between first → HandsOver terms mid new amid gone (logged since first) between after then → HandsOver terms old new came gone since before after (first ++ then)
  over_append old mid new came amid gone since before between after first then a b = record {
    work = works_append terms old mid new first then a.work b.work;
    entered =
        b.entered
        ∙ ap (λ l. l ++ flat_map outcomes_of b.work.parts) a.entered
        ∙ append_assoc came (flat_map outcomes_of a.work.parts) (flat_map outcomes_of b.work.parts)
        ∙ ap (λ l. came ++ l) (sym (outcomes_join terms old mid new first then a.work b.work));
    kept =
        b.kept
        ∙ ap (λ k. kept_with k (handings_of (logged since first) b.work.parts)) a.kept
        ∙ kept-append before (handings_of since a.work.parts) (handings_of (logged since first) b.work.parts)
        ∙ ap (λ l. kept_with before l) (sym (handings_join terms old mid new since first then a.work b.work));
  }

  pub over_join : (old mid new : List Inlet) (came halfway gone : List Outcome) (before between after : Option (List Handing)) (since amid until : Option (List Event)) → Passes (HandsOver terms old mid came halfway since before between) since amid → Passes (HandsOver terms mid new halfway gone amid between after) amid until → Passes (HandsOver terms old new came gone since before after) since until
  over_join old mid new came halfway gone before between after since amid until a b = record {
    events = a.events ++ b.events;
    passed = b.passed ∙ ap (λ log. logged log b.events) a.passed ∙ logged_append since a.events b.events;
    right =
        over_append old mid new came halfway gone since before between after a.events b.events a.right
        (subst (λ log. HandsOver terms mid new halfway gone log between after b.events) a.passed b.right);
  }

  -- What a turn takes in hands nothing over, whatever the inlets are.
  over_taken : (inlets : List Inlet) (came gone : List Outcome) (since : Option (List Event)) (ledger : Option (List Handing)) (events : List Event) → TakesIn terms came gone events → HandsOver terms inlets inlets came gone since ledger ledger events
  over_taken inlets came gone since ledger events takes = record {
    work = works_taken terms inlets came gone events takes;
    entered = outcomes_taken terms inlets came gone events takes;
    kept = sym (ap (λ l. kept_with ledger l) (handings_taken terms inlets since came gone events takes) ∙ kept-none ledger);
  }

  pub over_by_taking : (inlets : List Inlet) (came gone : List Outcome) (before after : Option (List Handing)) → after ≡ before → (since until : Option (List Event)) → Passes (TakesIn terms came gone) since until → Passes (HandsOver terms inlets inlets came gone since before after) since until
  over_by_taking inlets came gone before after same since until takes =
      subst (λ k. Passes (HandsOver terms inlets inlets came gone since before k) since until) (sym same)
      (passes_widen (TakesIn terms came gone) (HandsOver terms inlets inlets came gone since before before) (over_taken inlets came gone since before) since until takes)

  -- What a look at the inlet at a place hands over.
  over_handed_by : (inlets : List Inlet) (place : ℕ) (other now : Inlet) → place < length inlets → (came : List Outcome) (since : Option (List Event)) (before after : Option (List Handing)) → KeepsTaken (get_or inlets place other) now since before after → (events : List Event) → SameInlet (get_or inlets place other) now → ((taken now ≡ taken (get_or inlets place other)) × (events ≡ [])) ⊎ HandsOne (get_or inlets place other) now events → HandsOver terms inlets (set inlets place now) came came since before after events
  over_handed_by inlets place other now within came since before after keeps events same (inl none) =
      let was : List Outgoing = taken (get_or inlets place other) in
      let nothing : keeps.responses ≡ [] = append_cancel_left was keeps.responses [] (sym keeps.took ∙ none.0 ∙ sym (append-nil was)) in
      record {
        work = works_handed_by terms inlets place other now within events same (inl none);
        entered = sym (ap (λ l. came ++ l) (outcomes_handed terms inlets place other now within events same (inl none)) ∙ append-nil came);
        kept =
            keeps.kept
            ∙ ap (λ l. kept_with before l) (ap (each (handed_at since)) nothing ∙ sym (handings_still terms inlets place other now within since events same none));
      }
  over_handed_by inlets place other now within came since before after keeps events same (inr one) =
      let was : List Outgoing = taken (get_or inlets place other) in
      let given : keeps.responses ≡ one.outgoing ∷ [] = append_cancel_left was keeps.responses (one.outgoing ∷ []) (sym keeps.took ∙ one.took) in
      record {
        work = works_handed_by terms inlets place other now within events same (inr one);
        entered = sym (ap (λ l. came ++ l) (outcomes_handed terms inlets place other now within events same (inr one)) ∙ append-nil came);
        kept =
            keeps.kept
            ∙ ap (λ l. kept_with before l) (ap (each (handed_at since)) given ∙ sym (handings_one terms inlets place other now within since events same one));
      }

  over_handed : (inlets : List Inlet) (place : ℕ) (other now : Inlet) → place < length inlets → (came : List Outcome) (since : Option (List Event)) (before after : Option (List Handing)) → KeepsTaken (get_or inlets place other) now since before after → (events : List Event) → Hands (get_or inlets place other) now events → HandsOver terms inlets (set inlets place now) came came since before after events
  over_handed inlets place other now within came since before after keeps events hands =
      over_handed_by inlets place other now within came since before after keeps events hands.0 hands.1

  pub over_by_handing : (inlets : List Inlet) (place : ℕ) (other now : Inlet) → place < length inlets → (came : List Outcome) (before after : Option (List Handing)) (since until : Option (List Event)) → KeepsTaken (get_or inlets place other) now since before after → Passes (Hands (get_or inlets place other) now) since until → Passes (HandsOver terms inlets (set inlets place now) came came since before after) since until
  over_by_handing inlets place other now within came before after since until keeps =
      passes_widen (Hands (get_or inlets place other) now) (HandsOver terms inlets (set inlets place now) came came since before after)
      (over_handed inlets place other now within came since before after keeps) since until

  -- The front goes on, or it is stopped.
  pub until_whole : (Does : List Event → Type 0) (old new : Option (List Event)) → Passes Does old new → Passes (UntilStopped terms Does) old new
  until_whole Does =
      passes_widen Does (UntilStopped terms Does)
      (λ events does. record { before = events; last = []; passed = sym (append-nil events); does = does; stopped = inl refl })

  pub does_or_stops : (goes : Bool) (Does : List Event → Type 0) (old new : Option (List Event)) → Passes Does old new → Passes (DoesOrStops goes terms Does) old new
  does_or_stops true Does old new does = does
  does_or_stops false Does old new does = until_whole Does old new does

  pub stops_here : (goes : Bool) (Does : List Event → Type 0) (old new : Option (List Event)) → goes ≡ false → Passes (UntilStopped terms Does) old new → Passes (DoesOrStops goes terms Does) old new
  stops_here goes Does old new fails = subst (λ b. Passes (DoesOrStops b terms Does) old new) (sym fails)

  -- A turn that was stopped as a request had come, and what was done before it.
  pub over_stopped : (inlets : List Inlet) (came gone : List Outcome) (before after : Option (List Handing)) → gone ≡ came → after ≡ before → (since until : Option (List Event)) → Passes (IsLeftUntaken terms) since until → Passes (UntilStopped terms (HandsOver terms inlets inlets came gone since before after)) since until
  over_stopped inlets came gone before after same_outcomes same_ledger since until left =
      subst (λ o. Passes (UntilStopped terms (HandsOver terms inlets inlets came o since before after)) since until) (sym same_outcomes)
      (subst (λ k. Passes (UntilStopped terms (HandsOver terms inlets inlets came came since before k)) since until) (sym same_ledger)
      (passes_widen (IsLeftUntaken terms) (UntilStopped terms (HandsOver terms inlets inlets came came since before before))
      (λ events stopped. record { before = []; last = events; passed = refl; does = over_nothing inlets came since before; stopped = stopped }) since until left))

  pub over_until : (old mid new : List Inlet) (came halfway gone : List Outcome) (before between after : Option (List Handing)) (since amid until : Option (List Event)) → Passes (HandsOver terms old mid came halfway since before between) since amid → Passes (UntilStopped terms (HandsOver terms mid new halfway gone amid between after)) amid until → Passes (UntilStopped terms (HandsOver terms old new came gone since before after)) since until
  over_until old mid new came halfway gone before between after since amid until a b = record {
    events = a.events ++ b.events;
    passed = b.passed ∙ ap (λ log. logged log b.events) a.passed ∙ logged_append since a.events b.events;
    right = record {
      before = a.events ++ b.right.before;
      last = b.right.last;
      passed = ap (λ l. a.events ++ l) b.right.passed ∙ sym (append_assoc a.events b.right.before b.right.last);
      does =
          over_append old mid new came halfway gone since before between after a.events b.right.before a.right
          (subst (λ log. HandsOver terms mid new halfway gone log between after b.right.before) a.passed b.right.does);
      stopped = b.right.stopped;
    };
  }

  -- What is handed over is handed over by work in front.
  pub works_handing : (old new : List Inlet) (came gone : List Outcome) (before after : Option (List Handing)) (since until : Option (List Event)) → Passes (UntilStopped terms (HandsOver terms old new came gone since before after)) since until → Passes (UntilStopped terms (WorksInParts terms old new)) since until
  works_handing old new came gone before after since =
      passes_widen (UntilStopped terms (HandsOver terms old new came gone since before after)) (UntilStopped terms (WorksInParts terms old new))
      (λ events over. record { before = over.before; last = over.last; passed = over.passed; does = over.does.work; stopped = over.stopped }) since
