-- What passed in a call, put together from what passed in its parts.
use Rattle.std.proofs.Common.{◌≡◌, ◌≤◌, ◌+◌, ◌*◌, ℕ, List, [], ◌∷◌, ◌++◌, Option, refl, ap, ◌∙◌, arith, inl, inr, subst, sym}
use Rattle.std.proofs.Math.Nat.{suc-mul}
use Rattle.rad_desk.specs.Traffic.{Event, arrived, departed, told, drew, noted, logged}
use Rattle.rad_desk.specs.Calls.{Passes, IsALook, arrivals, departures, AreAtMost}

pub logged_append : (log : Option (List Event)) (first then : List Event) → logged (logged log first) then ≡ logged log (first ++ then)
logged_append log [] then = refl
logged_append log (event ∷ first) then = logged_append (noted log event) first then

-- Nothing passed.
pub passes_none : (Right : List Event → Type 0) (old new : Option (List Event)) → Right [] → new ≡ old → Passes Right old new
passes_none Right old new none same = record { events = []; passed = same; right = none }

-- What passed first, and what passed then.
pub passes_join : (P Q R : List Event → Type 0) → ((first then : List Event) → P first → Q then → R (first ++ then)) → (old mid new : Option (List Event)) → Passes P old mid → Passes Q mid new → Passes R old new
passes_join P Q R join old mid new a b = record {
  events = a.events ++ b.events;
  passed = b.passed ∙ ap (λ log. logged log b.events) a.passed ∙ logged_append old a.events b.events;
  right = join a.events b.events a.right b.right;
}

-- What is right in one sense is so in another.
pub passes_widen : (P Q : List Event → Type 0) → ((events : List Event) → P events → Q events) → (old new : Option (List Event)) → Passes P old new → Passes Q old new
passes_widen P Q wider old new a = record { events = a.events; passed = a.passed; right = wider a.events a.right }

-- One event passed, and more.
pub passes_after : (P Q : List Event → Type 0) (event : Event) → ((then : List Event) → P then → Q (event ∷ then)) → (old mid new : Option (List Event)) → mid ≡ noted old event → Passes P mid new → Passes Q old new
passes_after P Q event after old mid new one more = record {
  events = event ∷ more.events;
  passed = more.passed ∙ ap (λ log. logged log more.events) one;
  right = after more.events more.right;
}

-- One event passed.
pub passes_one : (Right : List Event → Type 0) (event : Event) (old new : Option (List Event)) → Right (event ∷ []) → new ≡ noted old event → Passes Right old new
passes_one Right event old new right passed = record { events = event ∷ []; passed = passed; right = right }

-- How many were received and sent, first and then.
arrivals_append : (first then : List Event) → arrivals (first ++ then) ≡ arrivals first + arrivals then
arrivals_append [] then = omega arith
arrivals_append (arrived socket peer octets ∷ first) then = omega (arith, arrivals_append first then)
arrivals_append (departed socket peer octets delivery ∷ first) then = arrivals_append first then
arrivals_append (told moment ∷ first) then = arrivals_append first then
arrivals_append (drew octets ∷ first) then = arrivals_append first then

departures_append : (first then : List Event) → departures (first ++ then) ≡ departures first + departures then
departures_append [] then = omega arith
departures_append (arrived socket peer octets ∷ first) then = departures_append first then
departures_append (departed socket peer octets delivery ∷ first) then = omega (arith, departures_append first then)
departures_append (told moment ∷ first) then = departures_append first then
departures_append (drew octets ∷ first) then = departures_append first then

most_append : (a b c d e f : ℕ) → a + c ≤ e → b + d ≤ f → (first then : List Event) → AreAtMost a b first → AreAtMost c d then → AreAtMost e f (first ++ then)
most_append a b c d e f received sent first then one more = record {
  receives = omega (arith, received, one.receives, more.receives, arrivals_append first then);
  sends = omega (arith, sent, one.sends, more.sends, departures_append first then);
}

pub most_join : (a b c d e f : ℕ) → a + c ≤ e → b + d ≤ f → (old mid new : Option (List Event)) → Passes (AreAtMost a b) old mid → Passes (AreAtMost c d) mid new → Passes (AreAtMost e f) old new
most_join a b c d e f received sent = passes_join (AreAtMost a b) (AreAtMost c d) (AreAtMost e f) (most_append a b c d e f received sent)

pub most_none : (a b : ℕ) → AreAtMost a b []
most_none a b = record { receives = omega arith; sends = omega arith }

-- A look receives and sends nothing.
pub most_look : (a b : ℕ) (events : List Event) → IsALook events → AreAtMost a b events
most_look a b events (inl none) = subst (AreAtMost a b) (sym none) (most_none a b)
most_look a b events (inr (moment, is)) = subst (AreAtMost a b) (sym is) (record { receives = omega arith; sends = omega arith })

-- What was at most so much was at most more.
pub most_more : (a b c d : ℕ) → a ≤ c → b ≤ d → (old new : Option (List Event)) → Passes (AreAtMost a b) old new → Passes (AreAtMost c d) old new
most_more a b c d received sent =
    passes_widen (AreAtMost a b) (AreAtMost c d)
    (λ events most. record { receives = omega (arith, received, most.receives); sends = omega (arith, sent, most.sends) })

-- One more turn, each of which receives once and sends `most` datagrams at most.
next_turn : (turn most : ℕ) → turn * most + most ≤ (turn + 1) * most
next_turn turn most = omega (arith, suc-mul turn most)

pub most_turn : (turn most : ℕ) (old mid new : Option (List Event)) → Passes (AreAtMost turn (turn * most)) old mid → Passes (AreAtMost 1 most) mid new → Passes (AreAtMost (turn + 1) ((turn + 1) * most)) old new
most_turn turn most = most_join turn (turn * most) 1 most (turn + 1) ((turn + 1) * most) (omega arith) (next_turn turn most)
