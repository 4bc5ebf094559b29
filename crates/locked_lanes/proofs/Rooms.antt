-- One more of a list: of the inlets that have room, and of the answers that agree.
use Rattle.std.proofs.Common.{◌≡◌, ℕ, zero, suc, ◌+◌, ◌<◌, List, [], ◌∷◌, length, get_or, set, refl, ◌∙◌, subst, arith, below_more}
use Rattle.std.proofs.Math.ListN.{length-set}
use Rattle.std.proofs.lemmas.List.{get_or_default}
use Rattle.locked_lanes.specs.declared.inlet.Inlet.{Inlet}
use Rattle.locked_lanes.specs.Inlet.{IsUntouched}
use Rattle.locked_lanes.specs.Refusing.{AreUntouched}

-- What holds at each place still holds once one element is replaced, if it holds of the new one at its place.
at_each : {X : Type 0} (P : ℕ → X → Type 0) (xs : List X) (place : ℕ) (y : X) → P place y → ((k : ℕ) (d : X) → k < length xs → P k (get_or xs k d)) → (k : ℕ) (d : X) → k < length xs → P k (get_or (set xs place y) k d)
at_each P [] place y here h k d within = absurd (omega arith)
at_each P (x ∷ xs) zero y here h zero d within = here
at_each P (x ∷ xs) zero y here h (suc k) d within = h (suc k) d within
at_each P (x ∷ xs) (suc place) y here h zero d within = h zero d within
at_each P (x ∷ xs) (suc place) y here h (suc k) d within =
    let inside : k < length xs = omega arith in
    at_each (λ n. P (suc n)) xs place y here (λ j e below. h (suc j) e (omega arith)) k d inside

-- What holds of all before a place holds of one more, once the element there is replaced by one of which it holds.
pub one_more : {X : Type 0} (P : X → Type 0) (xs : List X) (place : ℕ) (y : X) → place < length xs → P y → ((k : ℕ) (d : X) → k < place → P (get_or xs k d)) → (k : ℕ) (d : X) → k < place + 1 → P (get_or (set xs place y) k d)
one_more P [] place y there here h k d below = absurd (omega arith)
one_more P (x ∷ xs) zero y there here h zero d below = here
one_more P (x ∷ xs) zero y there here h (suc k) d below = absurd (omega arith)
one_more P (x ∷ xs) (suc place) y there here h zero d below = h zero d (omega arith)
one_more P (x ∷ xs) (suc place) y there here h (suc k) d below =
    let inside : place < length xs = omega arith in
    let before : k < place + 1 = omega arith in
    one_more P xs place y inside here (λ j e less. h (suc j) e (omega arith)) k d before

-- What holds of all elements before a place holds of one more, if it holds of the one there.
pub all_more : {X : Type 0} (P : X → Type 0) (xs : List X) (place : ℕ) (x : X) → place < length xs → x ≡ get_or xs place x → P x → ((k : ℕ) (d : X) → k < place → P (get_or xs k d)) → (k : ℕ) (d : X) → k < place + 1 → P (get_or xs k d)
all_more {X = X} P xs place x there is here h k d below =
    let At : ℕ → Type 0 = λ n. (e : X) → P (get_or xs n e) in
    let last : At place = λ e. subst P (is ∙ get_or_default xs place x e there) here in
    below_more At place (λ n less e. h n e less) last k below d

pub untouched_at_first : (inlets : List Inlet) → AreUntouched inlets inlets
untouched_at_first inlets = record { counted = refl; each = λ place d within. record { lane = refl; taker = refl } }

untouched_again : (old now new : Inlet) → IsUntouched old now → IsUntouched now new → IsUntouched old new
untouched_again old now new u v = record { lane = v.lane ∙ u.lane; taker = v.taker ∙ u.taker }

pub untouched_more : (old now : List Inlet) (place : ℕ) (d new : Inlet) → place < length now → IsUntouched (get_or now place d) new → AreUntouched old now → AreUntouched old (set now place new)
untouched_more old now place d new there is u =
    let Same : ℕ → Inlet → Type 0 = λ k inlet. (e : Inlet) → IsUntouched (get_or old k e) inlet in
    let before : (k : ℕ) (e : Inlet) → k < length now → Same k (get_or now k e) = λ k e within f.
    let inside : k < length old = omega (arith, u.counted, within) in
    subst (IsUntouched (get_or old k f)) (get_or_default now k f e within) (u.each k f inside) in
    let here : Same place new = λ e. untouched_again (get_or old place e) (get_or now place d) new (before place d there e) is in
    record {
      counted = length-set now place new ∙ u.counted;
      each = λ k e within.
          let inside : k < length now = omega (arith, u.counted, within) in
          at_each Same now place new here before k e inside e;
    }
