-- What the front hands over to a ledger (own): the responses that the inlets gave, each once, in the order in which they
-- were given and sent, and each right before it was sent.
use Rattle.std.specs.Prelude.{◌≡◌, List, [], ◌∷◌, ◌++◌, map as each, Option, Some, None}
use Rattle.std.specs.List.{flat_map}
use Rattle.rad_lane.specs.declared.outgoing.Outgoing.{Outgoing}
use Rattle.locked_lanes.specs.declared.inlet.Inlet.{Inlet}
use Rattle.locked_lanes.specs.Inlet.{taken}
use Rattle.rad_desk.specs.Traffic.{Event, logged}
use Rattle.rad_desk.specs.Handling.{Outcome}
use Rattle.rad_desk.specs.Once.{Terms, Part, dropped, silent, back, recalled, given, events_of, outcomes_of, WorksInParts}

-- A response that was handed over, and all that had passed over the wire by then. A wire may keep no log.
pub record Handing : Type 0 where
  pub outgoing : Outgoing
  pub passed : Option (List Event)

abbrev pub handed_at : Option (List Event) → Outgoing → Handing
handed_at passed outgoing = record { outgoing = outgoing; passed = passed }

-- What a ledger keeps once these were handed over to it, behind what it kept before. A ledger may keep no list.
abbrev pub kept_with : Option (List Handing) → List Handing → Option (List Handing)
kept_with None more = None
kept_with (Some before) more = Some (before ++ more)

-- The inlet gave some responses, in order, and the same ones were handed over, before anything more passed.
pub record KeepsTaken (old new : Inlet) (since : Option (List Event)) (before after : Option (List Handing)) : Type 0 where
  pub responses : List Outgoing
  pub took : taken new ≡ taken old ++ responses
  pub kept : after ≡ kept_with before (each (handed_at since) responses)

-- The response of a part, if an inlet gave one in it.
abbrev pub response_of : Part → List Outgoing
response_of (dropped socket from question reason) = []
response_of (silent socket from question outcome) = []
response_of (back socket from question outcome octets delivery) = []
response_of (recalled socket from question request octets delivery) = []
response_of (given place outgoing delivery) = outgoing ∷ []

-- What is handed over in these parts, the first of which began when this had passed: the response of each part, in order,
-- whatever its place. It is handed over as the part begins, so that its own datagram is what passes next.
abbrev pub handings_of : Option (List Event) → List Part → List Handing
handings_of since [] = []
handings_of since (part ∷ more) = each (handed_at since) (response_of part) ++ handings_of (logged since (events_of part)) more

-- The front works in parts, after what had passed before. Exactly the responses of the parts were handed over, each once, and
-- in the order of the parts: the order in which the inlets gave them, and in which they were sent. When each one was handed
-- over, exactly the parts before it had passed, and it was not yet sent. Those of one inlet are what it gave, by `EachGave` of
-- the parts. The entrance has exactly the outcomes of the parts, in order, from `came` to `gone`.
pub record HandsOver (terms : Terms) (old new : List Inlet) (came gone : List Outcome) (since : Option (List Event)) (before after : Option (List Handing)) (events : List Event) : Type 0 where
  pub work : WorksInParts terms old new events
  pub entered : gone ≡ came ++ flat_map outcomes_of work.parts
  pub kept : after ≡ kept_with before (handings_of since work.parts)
