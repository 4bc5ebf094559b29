-- The slots of a secret that is asked for.
use Rattle.std.proofs.Common.{◌≡◌, ℕ, List, [], ◌∷◌, Bool, true, false, cond, Option, Some, None, Result, Ok, Err, codes, refl, sym, ap, ◌∙◌}
use Rattle.std.specs.Prelude.{OnOk}
use Rattle.std.specs.Str.{IsUtf8, is_utf8}
use Rattle.std.proofs.lemmas.Str.{IsUtf8-from_is_utf8, is_utf8-from_IsUtf8}
use Rattle.json.specs.Json.{Json, string}
use Rattle.json.specs.Written.{Written}
use Rattle.json_objects.specs.Adding.{AddsSlots, slots_tokens}
use Rattle.json_objects.proofs.Adding.{adds_nothing, slots_are}
use Rattle.config_json.specs.Written.{secret_slots, secret_value}

asked_value : (asked : Bool) (secret octets : List ℕ) (t : Bool) → asked ≡ true → octets ≡ secret → is_utf8 octets ≡ t → secret_value asked secret ≡ cond t (Some (string octets)) None
asked_value asked secret octets t wants its e =
    ap (λ (a : Bool). secret_value a secret) wants ∙ ap (λ (xs : List ℕ). secret_value true xs) (sym its) ∙ ap (λ (u : Bool). cond u (Some (string octets)) None) e

not_true : (b : Bool) → ¬ (b ≡ true) → b ≡ false
not_true true n = absurd (n refl)
not_true false n = refl

pub secret_told : {E : Type 0} (r : Result (Unit {0}) E) (a b : Written) (asked : Bool) (secret octets text : List ℕ) → asked ≡ true → octets ≡ secret → text ≡ octets → IsUtf8 octets
    → OnOk r (AddsSlots a b ((codes "secret", Some (string text)) ∷ [])) → OnOk r (AddsSlots a b (secret_slots asked secret))
secret_told (Err e) a b asked secret octets text wants its is utf8 p = tt
secret_told (Ok x) a b asked secret octets text wants its is utf8 p =
    let value : secret_value asked secret ≡ Some (string text) =
    asked_value asked secret octets true wants its (is_utf8-from_IsUtf8 octets utf8) ∙ ap (λ (xs : List ℕ). Some (string xs)) (sym is) in
    slots_are _ _ (ap (λ (o : Option Json). (codes "secret", o) ∷ []) (sym value)) p

pub nothing_told : (w : Written) (key : List ℕ) (o : Option Json) → o ≡ None → AddsSlots w w ((key, o) ∷ [])
nothing_told w key o e = adds_nothing w ((key, o) ∷ []) (ap (λ (v : Option Json). slots_tokens ((key, v) ∷ [])) e)

pub no_text : (w : Written) (asked : Bool) (secret octets : List ℕ) → asked ≡ true → octets ≡ secret → ¬ IsUtf8 octets → AddsSlots w w (secret_slots asked secret)
no_text w asked secret octets wants its n =
    nothing_told w (codes "secret") (secret_value asked secret) (asked_value asked secret octets false wants its (not_true (is_utf8 octets) (λ u. n (IsUtf8-from_is_utf8 octets u))))
