-- The work in front, put together from its parts.
use Rattle.std.proofs.Common.{◌≡◌, ◌<◌, ◌≤◌, ◌+◌, ℕ, zero, suc, List, [], ◌∷◌, ◌++◌, length, get_or, set, Option, refl, sym, ap, ◌∙◌, subst, arith, append_assoc, inl, inr, eq-eqb, ne_eqb}
use Rattle.std.specs.Prelude.{All, ◌≢◌, ◌⊎◌, map as each, Bool, true, false, Result, Ok, Err}
use Rattle.std.specs.List.{flat_map}
use Rattle.std.proofs.lemmas.List.{append-nil}
use Rattle.std.proofs.lemmas.List.Concat.{flat_map-append}
use Rattle.std.proofs.lemmas.List.Elements.{All-nil, All-cons, All-append}
use Rattle.rad_config.specs.declared.reading.address.Endpoint.{Endpoint}
use Rattle.rad_realms.specs.declared.checking.Incoming.{Incoming}
use Rattle.rad_realms.specs.Incoming.{Takes}
use Rattle.rad_realms.specs.Checking.{Drops}
use Rattle.rad_realms.specs.declared.checking.Dropped.{Dropped}
use Rattle.rad_lane.specs.declared.accepting.Refusal.{Refusal}
use Rattle.rad_lane.specs.declared.accepting.Taken.TheVariants.{New, Waiting, Again}
use Rattle.rad_lane.specs.Datagrams.{Datagrams}
use Rattle.rad_desk.specs.declared.handling.Handled.{Handled}
use Rattle.rad_desk.specs.declared.handling.Handled.TheVariants.{Taken, Answered}
use Rattle.rad_desk.specs.Handling.{Handles, Outcome}
use Rattle.rad_lane.specs.declared.outgoing.Outgoing.{Outgoing}
use Rattle.locked_lanes.specs.declared.inlet.Inlet.{Inlet}
use Rattle.rad_desk.specs.declared.wire.Delivery.{Delivery}
use Rattle.locked_lanes.specs.Fates.{AnswersARecord}
use Rattle.locked_lanes.specs.Inlet.{taken, SameInlet}
use Rattle.rad_desk.specs.Traffic.{Event, arrived, departed, told, endpoint, noted, logged}
use Rattle.rad_desk.specs.Calls.{Passes, IsSent, AreAtMost}
use Rattle.rad_desk.specs.Once.{Replies, IsSilent, IsAnsweredWith, HandsOne, Hands, Terms, Recalls, Part, dropped, silent, back, recalled, given, events_of, outcomes_of, IsReceipt, IsRight, TakesIn, IsLeftUntaken, TakesInOnce, Serves, IsStopped, ServesOnce, given_in, given_by, EachGave, WorksInParts}
use Rattle.rad_desk.specs.HandOver.{handed_at, response_of, handings_of}
use Rattle.rad_desk.proofs.CallsJoined.{logged_append, passes_none, passes_one, passes_widen, passes_after, most_none}
use Rattle.rad_desk.proofs.Responses.{again_answers, status_answers}

-- Inlets of the same rings.
same_refl : (i : Inlet) → SameInlet i i
same_refl i = record { lane = refl; ring = ((refl, refl, refl, refl), refl) }

same_then : (a b c : Inlet) → SameInlet a b → SameInlet b c → SameInlet a c
same_then a b c first then = record {
  lane = then.lane ∙ first.lane;
  ring = (
    (then.ring.0.0 ∙ first.ring.0.0, then.ring.0.1 ∙ first.ring.0.1, then.ring.0.2 ∙ first.ring.0.2, then.ring.0.3 ∙ first.ring.0.3),
    then.ring.1 ∙ first.ring.1,
  );
}

-- Inlets that gave nothing.
gave_none : (parts : List Part) (place : ℕ) (inlets : List Inlet) → ((at : ℕ) → place ≤ at → given_by at parts ≡ []) → EachGave parts place inlets inlets
gave_none parts place [] none = tt
gave_none parts place (i ∷ rest) none = (
  same_refl i,
  sym (ap (λ l. taken i ++ l) (none place (omega arith)) ∙ append-nil (taken i)),
  i.once,
  gave_none parts (place + 1) rest (λ at from. none at (omega (arith, from))),
)

-- What they gave first, and what they gave then.
gave_append : (first then : List Part) (place : ℕ) (old mid new : List Inlet) → EachGave first place old mid → EachGave then place mid new → EachGave (first ++ then) place old new
gave_append first then place [] [] [] a b = tt
gave_append first then place (i ∷ old) (j ∷ mid) (k ∷ new) a b = (
  same_then i j k a.0 b.0,
  b.1
      ∙ ap (λ l. l ++ given_by place then) a.1
      ∙ append_assoc (taken i) (given_by place first) (given_by place then)
      ∙ ap (λ l. taken i ++ l) (sym (flat_map-append (given_in place) first then)),
  k.once,
  gave_append first then (place + 1) old mid new a.3 b.3,
)
gave_append first then place [] (j ∷ mid) new a b = absurd a
gave_append first then place (i ∷ old) [] new a b = absurd a
gave_append first then place [] [] (k ∷ new) a b = absurd b
gave_append first then place (i ∷ old) (j ∷ mid) [] a b = absurd b

length-gave : (parts : List Part) (place : ℕ) (old new : List Inlet) → EachGave parts place old new → length new ≡ length old
length-gave parts place [] [] g = refl
length-gave parts place (i ∷ old) (j ∷ new) g = ap suc (length-gave parts (place + 1) old new g.3)
length-gave parts place [] (j ∷ new) g = absurd g
length-gave parts place (i ∷ old) [] g = absurd g

-- The response of one inlet is that one's, and no other's.
of_one : (place : ℕ) (outgoing : Outgoing) (delivery : Delivery) → given_by place (given place outgoing delivery ∷ []) ≡ outgoing ∷ []
of_one place outgoing delivery = rw (eq-eqb place place refl) refl

of_another : (at place : ℕ) (outgoing : Outgoing) (delivery : Delivery) → place ≢ at → given_by at (given place outgoing delivery ∷ []) ≡ []
of_another at place outgoing delivery other = rw (ne_eqb place at other) refl

gave_one : (first place at : ℕ) (outgoing : Outgoing) (delivery : Delivery) (inlets : List Inlet) (other now : Inlet) → at ≡ first + place → place < length inlets → SameInlet (get_or inlets place other) now → taken now ≡ taken (get_or inlets place other) ++ outgoing ∷ [] → EachGave (given at outgoing delivery ∷ []) first inlets (set inlets place now)
gave_one first place at outgoing delivery [] other now is within same took = absurd (omega (arith, within))
gave_one first zero at outgoing delivery (i ∷ rest) other now is within same took =
    let here : at ≡ first = omega (arith, is) in (
      same,
      took ∙ ap (λ l. taken i ++ l) (sym (subst (λ n. given_by n (given at outgoing delivery ∷ []) ≡ outgoing ∷ []) here (of_one at outgoing delivery))),
      now.once,
      gave_none (given at outgoing delivery ∷ []) (first + 1) rest (λ n from. of_another n at outgoing delivery (λ e. omega (arith, e, from, here))),
    )
gave_one first (suc place) at outgoing delivery (i ∷ rest) other now is within same took = (
  same_refl i,
  sym (ap (λ l. taken i ++ l) (of_another first at outgoing delivery (λ e. omega (arith, e, is))) ∙ append-nil (taken i)),
  i.once,
  gave_one (first + 1) place at outgoing delivery rest other now (omega (arith, is)) (omega (arith, within)) same took,
)

gave_still : (first place : ℕ) (inlets : List Inlet) (other now : Inlet) → place < length inlets → SameInlet (get_or inlets place other) now → taken now ≡ taken (get_or inlets place other) → EachGave [] first inlets (set inlets place now)
gave_still first place [] other now within same took = absurd (omega (arith, within))
gave_still first zero (i ∷ rest) other now within same took =
    (same, took ∙ sym (append-nil (taken i)), now.once, gave_none [] (first + 1) rest (λ n from. refl))
gave_still first (suc place) (i ∷ rest) other now within same took =
    (same_refl i, sym (append-nil (taken i)), i.once, gave_still (first + 1) place rest other now (omega (arith, within)) same took)

-- What is handed over first, and then.
handings_append : (since : Option (List Event)) (first then : List Part) → handings_of since (first ++ then) ≡ handings_of since first ++ handings_of (logged since (flat_map events_of first)) then
handings_append since [] then = refl
handings_append since (part ∷ first) then =
    let amid : Option (List Event) = logged since (events_of part) in
    ap (λ l. each (handed_at since) (response_of part) ++ l) (
    handings_append amid first then
    ∙ ap (λ log. handings_of amid first ++ handings_of log then) (logged_append since (events_of part) (flat_map events_of first))
    )
    ∙ sym (append_assoc (each (handed_at since) (response_of part)) (handings_of amid first) (handings_of (logged since (events_of part ++ flat_map events_of first)) then))

module _ (terms : Terms) where
  pub works_none : (inlets : List Inlet) → WorksInParts terms inlets inlets []
  works_none inlets = record {
    parts = [];
    passed = refl;
    right = All-nil (IsRight terms (length inlets));
    gave = gave_none [] 0 inlets (λ at from. refl);
  }

  pub handings_none : (inlets : List Inlet) (since : Option (List Event)) → handings_of since (works_none inlets).parts ≡ []
  unfolding works_none
  handings_none inlets since = refl

  -- A part in which no inlet gave anything.
  works_part : (part : Part) (inlets : List Inlet) (events : List Event) → events ≡ events_of part → IsRight terms (length inlets) part → ((at : ℕ) → given_in at part ≡ []) → WorksInParts terms inlets inlets events
  works_part part inlets events is right none = record {
    parts = part ∷ [];
    passed = is ∙ sym (append-nil (events_of part));
    right = All-cons (IsRight terms (length inlets)) part [] right (All-nil (IsRight terms (length inlets)));
    gave = gave_none (part ∷ []) 0 inlets (λ at from. append-nil (given_in at part) ∙ none at);
  }

  -- Two stretches of work.
  pub works_append : (old mid new : List Inlet) (first then : List Event) → WorksInParts terms old mid first → WorksInParts terms mid new then → WorksInParts terms old new (first ++ then)
  works_append old mid new first then a b = record {
    parts = a.parts ++ b.parts;
    passed = ap (λ l. l ++ then) a.passed ∙ ap (λ l. flat_map events_of a.parts ++ l) b.passed ∙ sym (flat_map-append events_of a.parts b.parts);
    right =
        All-append (IsRight terms (length old)) a.parts b.parts a.right
        (subst (λ n. All (IsRight terms n) b.parts) (length-gave a.parts 0 old mid a.gave) b.right);
    gave = gave_append a.parts b.parts 0 old mid new a.gave b.gave;
  }

  pub handings_join : (old mid new : List Inlet) (since : Option (List Event)) (first then : List Event) (a : WorksInParts terms old mid first) (b : WorksInParts terms mid new then) → handings_of since (works_append old mid new first then a b).parts ≡ handings_of since a.parts ++ handings_of (logged since first) b.parts
  unfolding works_append
  handings_join old mid new since first then a b =
      handings_append since a.parts b.parts ∙ ap (λ events. handings_of since a.parts ++ handings_of (logged since events) b.parts) (sym a.passed)

  -- A datagram that came is given by no inlet, and no response goes with it.
  received_gives : (at : ℕ) (part : Part) → IsReceipt part → given_in at part ≡ []
  received_gives at (dropped socket from question reason) kind = refl
  received_gives at (silent socket from question outcome) kind = refl
  received_gives at (back socket from question outcome octets delivery) kind = refl
  received_gives at (recalled socket from question request octets delivery) kind = refl
  received_gives at (given place outgoing delivery) kind = absurd kind

  received_handings : (since : Option (List Event)) (part : Part) → IsReceipt part → handings_of since (part ∷ []) ≡ []
  received_handings since (dropped socket from question reason) kind = refl
  received_handings since (silent socket from question outcome) kind = refl
  received_handings since (back socket from question outcome octets delivery) kind = refl
  received_handings since (recalled socket from question request octets delivery) kind = refl
  received_handings since (given place outgoing delivery) kind = absurd kind

  -- What a turn takes in, whatever the inlets are.
  pub works_taken : (inlets : List Inlet) (before after : List Outcome) (events : List Event) → TakesIn terms before after events → WorksInParts terms inlets inlets events
  works_taken inlets before after events (inl none) = subst (WorksInParts terms inlets inlets) (sym none.0) (works_none inlets)
  works_taken inlets before after events (inr (part, kind, is, right, added)) = works_part part inlets events is (right (length inlets)) (λ at. received_gives at part kind)

  pub handings_taken : (inlets : List Inlet) (since : Option (List Event)) (before after : List Outcome) (events : List Event) (takes : TakesIn terms before after events) → handings_of since (works_taken inlets before after events takes).parts ≡ []
  unfolding works_taken works_part works_none
  handings_taken inlets since before after events (inl none) = refl
  handings_taken inlets since before after events (inr (part, kind, is, right, added)) = received_handings since part kind

  pub outcomes_taken : (inlets : List Inlet) (before after : List Outcome) (events : List Event) (takes : TakesIn terms before after events) → after ≡ before ++ flat_map outcomes_of (works_taken inlets before after events takes).parts
  unfolding works_taken works_part works_none
  outcomes_taken inlets before after events (inl none) = none.1 ∙ sym (append-nil before)
  outcomes_taken inlets before after events (inr (part, kind, is, right, added)) = added ∙ ap (λ l. before ++ l) (sym (append-nil (outcomes_of part)))

  -- What a look at the inlet at a place does.
  pub works_handed_by : (inlets : List Inlet) (place : ℕ) (other now : Inlet) → place < length inlets → (events : List Event) → SameInlet (get_or inlets place other) now → ((taken now ≡ taken (get_or inlets place other)) × (events ≡ [])) ⊎ HandsOne (get_or inlets place other) now events → WorksInParts terms inlets (set inlets place now) events
  works_handed_by inlets place other now within events same (inl none) = record {
    parts = [];
    passed = none.1;
    right = All-nil (IsRight terms (length inlets));
    gave = gave_still 0 place inlets other now within same none.0;
  }
  works_handed_by inlets place other now within events same (inr one) =
      let part : Part = given place one.outgoing one.delivery in
      record {
        parts = part ∷ [];
        passed = one.is;
        right = All-cons (IsRight terms (length inlets)) part [] (within, one.answers) (All-nil (IsRight terms (length inlets)));
        gave = gave_one 0 place place one.outgoing one.delivery inlets other now (omega arith) within same one.took;
      }

  pub handings_still : (inlets : List Inlet) (place : ℕ) (other now : Inlet) (within : place < length inlets) (since : Option (List Event)) (events : List Event) (same : SameInlet (get_or inlets place other) now) (none : (taken now ≡ taken (get_or inlets place other)) × (events ≡ [])) → handings_of since (works_handed_by inlets place other now within events same (inl none)).parts ≡ []
  unfolding works_handed_by
  handings_still inlets place other now within since events same none = refl

  pub handings_one : (inlets : List Inlet) (place : ℕ) (other now : Inlet) (within : place < length inlets) (since : Option (List Event)) (events : List Event) (same : SameInlet (get_or inlets place other) now) (one : HandsOne (get_or inlets place other) now events) → handings_of since (works_handed_by inlets place other now within events same (inr one)).parts ≡ handed_at since one.outgoing ∷ []
  unfolding works_handed_by
  handings_one inlets place other now within since events same one = refl

  pub outcomes_none : (inlets : List Inlet) → flat_map outcomes_of (works_none inlets).parts ≡ []
  unfolding works_none
  outcomes_none inlets = refl

  pub outcomes_join : (old mid new : List Inlet) (first then : List Event) (a : WorksInParts terms old mid first) (b : WorksInParts terms mid new then) → flat_map outcomes_of (works_append old mid new first then a b).parts ≡ flat_map outcomes_of a.parts ++ flat_map outcomes_of b.parts
  unfolding works_append
  outcomes_join old mid new first then a b = flat_map-append outcomes_of a.parts b.parts

  pub outcomes_handed : (inlets : List Inlet) (place : ℕ) (other now : Inlet) (within : place < length inlets) (events : List Event) (same : SameInlet (get_or inlets place other) now) (hands : ((taken now ≡ taken (get_or inlets place other)) × (events ≡ [])) ⊎ HandsOne (get_or inlets place other) now events) → flat_map outcomes_of (works_handed_by inlets place other now within events same hands).parts ≡ []
  unfolding works_handed_by
  outcomes_handed inlets place other now within events same (inl none) = refl
  outcomes_handed inlets place other now within events same (inr one) = refl

  -- A datagram came, passed the checks and was served.
  serving : (socket : ℕ) (from : Endpoint) (question : List ℕ) (asked : Incoming) → Takes terms.config from.address from.port question asked → (before after : List Outcome) (then : List Event) → Serves socket from asked before after then → TakesIn terms before after (arrived socket from question ∷ then)
  serving socket from question asked takes before after then serves = served serves.sends where
    right : Takes terms.config from.address from.port question serves.outcome.asked
    right = subst (Takes terms.config from.address from.port question) (sym serves.same) takes

    served : (IsSilent serves.outcome × (serves.later ≡ [])) ⊎ ((octets : List ℕ) × IsAnsweredWith serves.outcome octets × IsSent socket from octets serves.later) → TakesIn terms before after (arrived socket from question ∷ then)
    served (inl nothing) = inr (
      silent socket from question serves.outcome,
      tt,
      ap (λ l. arrived socket from question ∷ l) (serves.is ∙ ap (λ l. told serves.outcome.moment ∷ l) nothing.1),
      (λ inlets. (right, nothing.0)),
      serves.added,
    )
    served (inr (octets, answers, sent)) = inr (
      back socket from question serves.outcome octets sent.delivery,
      tt,
      ap (λ l. arrived socket from question ∷ l) (serves.is ∙ ap (λ l. told serves.outcome.moment ∷ l) sent.is),
      (λ inlets. (right, answers)),
      serves.added,
    )

  stopping : (socket : ℕ) (from : Endpoint) (question : List ℕ) (asked : Incoming) → Takes terms.config from.address from.port question asked → (before after : List Outcome) (then : List Event) → IsStopped asked before after then → IsLeftUntaken terms (arrived socket from question ∷ then) × (after ≡ before)
  stopping socket from question asked takes before after then stops = (
    inr (
      socket,
      from,
      question,
      stops.0.request,
      subst (Takes terms.config from.address from.port question) stops.0.is takes,
      ap (λ l. arrived socket from question ∷ l) stops.1,
    ),
    stops.2,
  )

  served_once : (goes : Bool) (socket : ℕ) (from : Endpoint) (question : List ℕ) (asked : Incoming) → Takes terms.config from.address from.port question asked → (before after : List Outcome) (then : List Event) → ServesOnce goes socket from asked before after then → TakesInOnce goes terms before after (arrived socket from question ∷ then)
  served_once true = serving
  served_once false = stopping

  -- A datagram came, and it was served, or dropped, or none came.
  pub taken_after : (goes : Bool) (socket : ℕ) (from : Endpoint) (question : List ℕ) (asked : Incoming) → Takes terms.config from.address from.port question asked → (before after : List Outcome) (old mid new : Option (List Event)) → mid ≡ noted old (arrived socket from question) → Passes (ServesOnce goes socket from asked before after) mid new → Passes (TakesInOnce goes terms before after) old new
  taken_after goes socket from question asked takes before after =
      passes_after (ServesOnce goes socket from asked before after) (TakesInOnce goes terms before after) (arrived socket from question)
      (served_once goes socket from question asked takes before after)

  pub taken_dropped : (socket : ℕ) (from : Endpoint) (question : List ℕ) (reason : Dropped) → Drops terms.config from.address question reason → (outcomes : List Outcome) (old new : Option (List Event)) → new ≡ noted old (arrived socket from question) → Passes (TakesIn terms outcomes outcomes) old new
  taken_dropped socket from question reason drops outcomes old new came =
      passes_one (TakesIn terms outcomes outcomes) (arrived socket from question) old new
      (inr (dropped socket from question reason, tt, refl, (λ inlets. drops), sym (append-nil outcomes))) came

  recalling : (socket : ℕ) (from : Endpoint) (question : List ℕ) (asked : Incoming) → Takes terms.config from.address from.port question asked → (octets : List ℕ) → Recalls terms.remembered asked octets → (outcomes : List Outcome) (then : List Event) → IsSent socket from octets then → TakesIn terms outcomes outcomes (arrived socket from question ∷ then)
  recalling socket from question asked takes octets recalls outcomes then sent = inr (
    recalled socket from question recalls.request octets sent.delivery,
    tt,
    ap (λ l. arrived socket from question ∷ l) sent.is,
    (λ inlets. (subst (Takes terms.config from.address from.port question) recalls.is takes, recalls.recalled)),
    sym (append-nil outcomes),
  )

  -- A request came that is answered from memory.
  pub taken_recalled : (socket : ℕ) (from : Endpoint) (question : List ℕ) (asked : Incoming) → Takes terms.config from.address from.port question asked → (octets : List ℕ) → Recalls terms.remembered asked octets → (outcomes : List Outcome) (old mid new : Option (List Event)) → mid ≡ noted old (arrived socket from question) → Passes (IsSent socket from octets) mid new → Passes (TakesIn terms outcomes outcomes) old new
  taken_recalled socket from question asked takes octets recalls outcomes =
      passes_after (IsSent socket from octets) (TakesIn terms outcomes outcomes) (arrived socket from question)
      (recalling socket from question asked takes octets recalls outcomes)

  pub taken_none : (outcomes : List Outcome) (old new : Option (List Event)) → new ≡ old → Passes (TakesIn terms outcomes outcomes) old new
  taken_none outcomes old new = passes_none (TakesIn terms outcomes outcomes) old new (inl (refl, refl))

-- What was handled, and what was sent back for it.
module _ (socket : ℕ) (from : Endpoint) (asked : Incoming) (moment lanes : ℕ) (d : Datagrams) (before : List Outcome) where
  replied : (result : Result Handled Refusal) → Handles asked moment lanes result d → (then : List Event) → Replies socket from asked result d.after then → Serves socket from asked before (before ++ record { asked = asked; moment = moment; result = result } ∷ []) (told moment ∷ then)
  replied (Ok Answered) handles then sent = record {
    outcome = record { asked = asked; moment = moment; result = Ok Answered };
    same = refl;
    added = refl;
    later = then;
    is = refl;
    sends = inr (d.after, record { answering = tt; answers = status_answers asked moment lanes d handles }, sent);
  }
  replied (Ok (Taken lane (New number))) handles then none = record {
    outcome = record { asked = asked; moment = moment; result = Ok (Taken lane (New number)) };
    same = refl;
    added = refl;
    later = then;
    is = refl;
    sends = inl (record { lanes = lanes; datagrams = d; handles = handles; nothing = tt }, none);
  }
  replied (Ok (Taken lane (Waiting number))) handles then none = record {
    outcome = record { asked = asked; moment = moment; result = Ok (Taken lane (Waiting number)) };
    same = refl;
    added = refl;
    later = then;
    is = refl;
    sends = inl (record { lanes = lanes; datagrams = d; handles = handles; nothing = tt }, none);
  }
  replied (Ok (Taken lane (Again number))) handles then (inl (fit, sent)) = record {
    outcome = record { asked = asked; moment = moment; result = Ok (Taken lane (Again number)) };
    same = refl;
    added = refl;
    later = then;
    is = refl;
    sends = inr (d.after, record { answering = tt; answers = again_answers asked moment lanes lane number d handles fit }, sent);
  }
  replied (Ok (Taken lane (Again number))) handles then (inr (unfit, none)) = record {
    outcome = record { asked = asked; moment = moment; result = Ok (Taken lane (Again number)) };
    same = refl;
    added = refl;
    later = then;
    is = refl;
    sends = inl (record { lanes = lanes; datagrams = d; handles = handles; nothing = unfit }, none);
  }
  replied (Err refusal) handles then none = record {
    outcome = record { asked = asked; moment = moment; result = Err refusal };
    same = refl;
    added = refl;
    later = then;
    is = refl;
    sends = inl (record { lanes = lanes; datagrams = d; handles = handles; nothing = tt }, none);
  }

  pub serves_once : (result : Result Handled Refusal) → Handles asked moment lanes result d → (after : List Outcome) → after ≡ before ++ record { asked = asked; moment = moment; result = result } ∷ [] → (octets : List ℕ) → octets ≡ d.after → (old mid new : Option (List Event)) → mid ≡ noted old (told moment) → Passes (Replies socket from asked result octets) mid new → Passes (Serves socket from asked before after) old new
  serves_once result handles after added octets written old mid new is_told replies =
      subst (λ l. Passes (Serves socket from asked before l) old new) (sym added)
      (passes_after (Replies socket from asked result d.after) (Serves socket from asked before (before ++ record { asked = asked; moment = moment; result = result } ∷ [])) (told moment)
      (replied result handles) old mid new is_told
      (subst (λ l. Passes (Replies socket from asked result l) mid new) written replies))

-- A look at an inlet that gave nothing, and at one that gave a response, which was sent.
pub hands_none : (was is : Inlet) → SameInlet was is → taken is ≡ taken was → (old new : Option (List Event)) → new ≡ old → Passes (Hands was is) old new
hands_none was is same took old new none = passes_none (Hands was is) old new (same, inl (took, refl)) none

pub hands_nothing : (inlet : Inlet) (old new : Option (List Event)) → new ≡ old → Passes (Hands inlet inlet) old new
hands_nothing inlet = hands_none inlet inlet (same_refl inlet) refl

pub hands_one : (was is : Inlet) (outgoing : Outgoing) (octets : List ℕ) → SameInlet was is → taken is ≡ taken was ++ outgoing ∷ [] → AnswersARecord outgoing → octets ≡ outgoing.reply.response → (old new : Option (List Event)) → Passes (IsSent 0 (endpoint outgoing.client outgoing.port) octets) old new → Passes (Hands was is) old new
hands_one was is outgoing octets same took answers response =
    passes_widen (IsSent 0 (endpoint outgoing.client outgoing.port) octets) (Hands was is)
    (λ events sent. (
      same,
      inr (record {
        outgoing = outgoing;
        delivery = sent.delivery;
        took = took;
        answers = answers;
        is = sent.is ∙ ap (λ l. departed 0 (endpoint outgoing.client outgoing.port) l sent.delivery ∷ []) response;
      }),
    ))

-- A turn receives once and sends back once, and a look at an inlet sends once.
most_received : (part : Part) → IsReceipt part → AreAtMost 1 1 (events_of part)
most_received (dropped socket from question reason) kind = record { receives = omega arith; sends = omega arith }
most_received (silent socket from question outcome) kind = record { receives = omega arith; sends = omega arith }
most_received (back socket from question outcome octets delivery) kind = record { receives = omega arith; sends = omega arith }
most_received (recalled socket from question request octets delivery) kind = record { receives = omega arith; sends = omega arith }
most_received (given place outgoing delivery) kind = absurd kind

most_in : (terms : Terms) (before after : List Outcome) (events : List Event) → TakesIn terms before after events → AreAtMost 1 1 events
most_in terms before after events (inl none) = subst (AreAtMost 1 1) (sym none.0) (most_none 1 1)
most_in terms before after events (inr (part, kind, is, right, added)) = subst (AreAtMost 1 1) (sym is) (most_received part kind)

most_left : (terms : Terms) (events : List Event) → IsLeftUntaken terms events → AreAtMost 1 1 events
most_left terms events (inl none) = subst (AreAtMost 1 1) (sym none) (most_none 1 1)
most_left terms events (inr (socket, from, question, request, takes, is)) =
    subst (AreAtMost 1 1) (sym is) (record { receives = omega arith; sends = omega arith })

most_once : (goes : Bool) (terms : Terms) (before after : List Outcome) (events : List Event) → TakesInOnce goes terms before after events → AreAtMost 1 1 events
most_once true terms before after events takes = most_in terms before after events takes
most_once false terms before after events takes = most_left terms events takes.0

pub most_taken : (goes : Bool) (terms : Terms) (before after : List Outcome) (old new : Option (List Event)) → Passes (TakesInOnce goes terms before after) old new → Passes (AreAtMost 1 1) old new
most_taken goes terms before after = passes_widen (TakesInOnce goes terms before after) (AreAtMost 1 1) (most_once goes terms before after)

most_by_hand : (was is : Inlet) (events : List Event) → ((taken is ≡ taken was) × (events ≡ [])) ⊎ HandsOne was is events → AreAtMost 0 1 events
most_by_hand was is events (inl none) = subst (AreAtMost 0 1) (sym none.1) (most_none 0 1)
most_by_hand was is events (inr one) = subst (AreAtMost 0 1) (sym one.is) (record { receives = omega arith; sends = omega arith })

pub most_handed : (was is : Inlet) (old new : Option (List Event)) → Passes (Hands was is) old new → Passes (AreAtMost 0 1) old new
most_handed was is = passes_widen (Hands was is) (AreAtMost 0 1) (λ events hands. most_by_hand was is events hands.1)
