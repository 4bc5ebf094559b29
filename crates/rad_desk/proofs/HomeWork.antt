-- The work for a home server, put together from its parts.
use Rattle.std.proofs.Common.{◌≡◌, ℕ, List, [], ◌∷◌, ◌++◌, Option, refl, sym, ap, ◌∙◌, subst, inl, inr, arith}
use Rattle.std.specs.Prelude.{Result, ◌≢◌}
use Rattle.std.specs.List.{flat_map}
use Rattle.std.proofs.lemmas.List.{append-nil}
use Rattle.std.proofs.lemmas.List.Concat.{flat_map-append}
use Rattle.std.proofs.lemmas.List.Elements.{All-nil, All-cons, All-append}
use Rattle.rad_config.specs.declared.reading.address.Endpoint.{Endpoint}
use Rattle.rad_realms.specs.Configuration.{HomeEntry}
use Rattle.locked_lanes.specs.declared.hearing.Told.{Told}
use Rattle.locked_lanes.specs.declared.hearing.DeskFault.{DeskFault}
use Rattle.locked_lanes.specs.Found.{HearsLawfully}
use Rattle.rad_desk.specs.Traffic.{Event, arrived, told, drew, noted}
use Rattle.rad_desk.specs.Calls.{Passes, IsALook, AreAtMost}
use Rattle.rad_desk.specs.Working.{IsGiven, IsSentHome, Part, unheard, heard, rested, stepped, events_of, IsRight, IsReceipt, IsStep, OncePassed, IsLeftUnheard, WorksOn, WorksForHome}
use Rattle.rad_desk.proofs.CallsJoined.{passes_join, passes_widen, passes_after, passes_one, most_none, most_look}

module _ (lane : ℕ) (home : HomeEntry) where
  pub works_none : WorksOn lane home []
  works_none = record { parts = []; passed = refl; right = All-nil (IsRight lane home) }

  works_part : (part : Part) (events : List Event) → events ≡ events_of home part → IsRight lane home part → WorksOn lane home events
  works_part part events is right = record {
    parts = part ∷ [];
    passed = is ∙ sym (append-nil (events_of home part));
    right = All-cons (IsRight lane home) part [] right (All-nil (IsRight lane home));
  }

  works_once : (Kind : Part → Type 0) (events : List Event) → OncePassed Kind lane home events → WorksOn lane home events
  works_once Kind events (inl none) = subst (WorksOn lane home) (sym none) works_none
  works_once Kind events (inr (part, kind, is, right)) = works_part part events is right

  works_append : (first then : List Event) → WorksOn lane home first → WorksOn lane home then → WorksOn lane home (first ++ then)
  works_append first then a b = record {
    parts = a.parts ++ b.parts;
    passed = ap (λ l. l ++ then) a.passed ∙ ap (λ l. flat_map (events_of home) a.parts ++ l) b.passed ∙ sym (flat_map-append (events_of home) a.parts b.parts);
    right = All-append (IsRight lane home) a.parts b.parts a.right b.right;
  }

  -- Two stretches of work.
  pub works_join : (old mid new : Option (List Event)) → Passes (WorksOn lane home) old mid → Passes (WorksOn lane home) mid new → Passes (WorksOn lane home) old new
  works_join = passes_join (WorksOn lane home) (WorksOn lane home) (WorksOn lane home) works_append

  -- The worker goes on, or it is stopped.
  pub works_whole : (old new : Option (List Event)) → Passes (WorksOn lane home) old new → Passes (WorksForHome lane home) old new
  works_whole =
      passes_widen (WorksOn lane home) (WorksForHome lane home)
      (λ events works. record { before = events; last = []; passed = sym (append-nil events); works = works; stopped = inl refl })

  pub works_stopped : (old mid new : Option (List Event)) → Passes (WorksOn lane home) old mid → Passes (IsLeftUnheard home) mid new → Passes (WorksForHome lane home) old new
  works_stopped =
      passes_join (WorksOn lane home) (IsLeftUnheard home) (WorksForHome lane home)
      (λ first then works left. record { before = first; last = then; passed = refl; works = works; stopped = left })

  -- One part of the work, or none.
  pub works_by_part : (Kind : Part → Type 0) (old new : Option (List Event)) → Passes (OncePassed Kind lane home) old new → Passes (WorksOn lane home) old new
  works_by_part Kind = passes_widen (OncePassed Kind lane home) (WorksOn lane home) (works_once Kind)

  -- One datagram is received where the worker receives, and one is sent in a step.
  received_part : (part : Part) → IsReceipt part → AreAtMost 1 0 (events_of home part)
  received_part (unheard socket from octets) kind = record { receives = omega arith; sends = omega arith }
  received_part (heard socket octets moment result) kind = record { receives = omega arith; sends = omega arith }
  received_part (rested moment random later) kind = absurd kind
  received_part (stepped moment random port octets delivery) kind = absurd kind

  received_once : (events : List Event) → OncePassed IsReceipt lane home events → AreAtMost 1 0 events
  received_once events (inl none) = subst (AreAtMost 1 0) (sym none) (most_none 1 0)
  received_once events (inr (part, kind, is, right)) = subst (AreAtMost 1 0) (sym is) (received_part part kind)

  pub receives_once : (old new : Option (List Event)) → Passes (OncePassed IsReceipt lane home) old new → Passes (AreAtMost 1 0) old new
  receives_once = passes_widen (OncePassed IsReceipt lane home) (AreAtMost 1 0) received_once

  left_once : (events : List Event) → IsLeftUnheard home events → AreAtMost 1 0 events
  left_once events (inl none) = subst (AreAtMost 1 0) (sym none) (most_none 1 0)
  left_once events (inr (socket, octets, is)) = subst (AreAtMost 1 0) (sym is) (record { receives = omega arith; sends = omega arith })

  pub leaves_once : (old new : Option (List Event)) → Passes (IsLeftUnheard home) old new → Passes (AreAtMost 1 0) old new
  leaves_once = passes_widen (IsLeftUnheard home) (AreAtMost 1 0) left_once

  sent_part : (part : Part) → IsStep part → IsRight lane home part → AreAtMost 0 1 (events_of home part)
  sent_part (unheard socket from octets) kind right = absurd kind
  sent_part (heard socket octets moment result) kind right = absurd kind
  sent_part (rested moment random later) kind right =
      let most = most_look 0 1 later right in
      record { receives = most.receives; sends = most.sends }
  sent_part (stepped moment random port octets delivery) kind right = record { receives = omega arith; sends = omega arith }

  sent_once : (events : List Event) → OncePassed IsStep lane home events → AreAtMost 0 1 events
  sent_once events (inl none) = subst (AreAtMost 0 1) (sym none) (most_none 0 1)
  sent_once events (inr (part, kind, is, right)) = subst (AreAtMost 0 1) (sym is) (sent_part part kind right)

  pub sends_once : (old new : Option (List Event)) → Passes (OncePassed IsStep lane home) old new → Passes (AreAtMost 0 1) old new
  sends_once = passes_widen (OncePassed IsStep lane home) (AreAtMost 0 1) sent_once

  -- A datagram came from elsewhere.
  pub part_unheard : (socket : ℕ) (from : Endpoint) (octets : List ℕ) → from ≢ home.endpoint → (old new : Option (List Event)) → new ≡ noted old (arrived socket from octets) → Passes (OncePassed IsReceipt lane home) old new
  part_unheard socket from octets elsewhere old new came =
      passes_one (OncePassed IsReceipt lane home) (arrived socket from octets) old new (inr (unheard socket from octets, tt, refl, elsewhere)) came

  -- A datagram came from the home server, and the worker was stopped.
  pub part_left : (socket : ℕ) (from : Endpoint) (octets : List ℕ) → from ≡ home.endpoint → (old new : Option (List Event)) → new ≡ noted old (arrived socket from octets) → Passes (IsLeftUnheard home) old new
  part_left socket from octets is_home old new came =
      passes_one (IsLeftUnheard home) (arrived socket from octets) old new (inr (socket, octets, ap (λ e. arrived socket e octets ∷ []) is_home)) came

  -- A datagram came from the home server, the moment was told, and the lane heard the datagram.
  pub part_heard : (socket : ℕ) (from : Endpoint) (octets : List ℕ) (moment : ℕ) (result : Result Told DeskFault) → from ≡ home.endpoint → HearsLawfully lane moment socket octets result → (old mid new : Option (List Event)) → mid ≡ noted old (arrived socket from octets) → new ≡ noted mid (told moment) → Passes (OncePassed IsReceipt lane home) old new
  part_heard socket from octets moment result is_home hears old mid new came is_told = record {
    events = arrived socket from octets ∷ told moment ∷ [];
    passed = is_told ∙ ap (λ log. noted log (told moment)) came;
    right = inr (heard socket octets moment result, tt, ap (λ e. arrived socket e octets ∷ told moment ∷ []) is_home, hears);
  }

  -- The moment was told and octets were drawn, and what a step gave was sent, or nothing.
  part_sent : (moment : ℕ) (random : List ℕ) (port : ℕ) (octets : List ℕ) → IsGiven lane home moment random port octets → (then : List Event) → IsSentHome home port octets then → OncePassed IsStep lane home (told moment ∷ drew random ∷ then)
  part_sent moment random port octets gives then (inl sent) =
      inr (stepped moment random port octets sent.1.delivery, tt, ap (λ l. told moment ∷ drew random ∷ l) sent.1.is, (sent.0, gives))
  part_sent moment random port octets gives then (inr none) = inr (rested moment random then, tt, refl, inl none.1)

  pub part_stepped : (moment : ℕ) (random : List ℕ) (port : ℕ) (octets : List ℕ) → IsGiven lane home moment random port octets → (old after drawn new : Option (List Event)) → after ≡ noted old (told moment) → drawn ≡ noted after (drew random) → Passes (IsSentHome home port octets) drawn new → Passes (OncePassed IsStep lane home) old new
  part_stepped moment random port octets gives old after drawn new is_told is_drawn sent =
      passes_after (λ then. OncePassed IsStep lane home (told moment ∷ then)) (OncePassed IsStep lane home) (told moment) (λ then works. works) old after new is_told
      (passes_after (IsSentHome home port octets) (λ then. OncePassed IsStep lane home (told moment ∷ then)) (drew random)
      (part_sent moment random port octets gives) after drawn new is_drawn sent)

  -- The moment was told and octets were drawn, and then at most the moment was read.
  pub part_rested : (moment : ℕ) (random : List ℕ) (old after drawn new : Option (List Event)) → after ≡ noted old (told moment) → drawn ≡ noted after (drew random) → Passes IsALook drawn new → Passes (OncePassed IsStep lane home) old new
  part_rested moment random old after drawn new is_told is_drawn more =
      passes_after (λ then. OncePassed IsStep lane home (told moment ∷ then)) (OncePassed IsStep lane home) (told moment) (λ then works. works) old after new is_told
      (passes_after IsALook (λ then. OncePassed IsStep lane home (told moment ∷ then)) (drew random)
      (λ then look. inr (rested moment random then, tt, refl, look)) after drawn new is_drawn more)
