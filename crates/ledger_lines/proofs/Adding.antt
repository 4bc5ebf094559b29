-- What a call adds to the tokens of a writer, by other words.
use Rattle.std.proofs.Common.{◌≡◌, ℕ, List, [], ◌∷◌, ◌++◌, Bool, true, false, cond, option_map, Option, Some, None, Result, Ok, Err, refl, sym, ap, ◌∙◌, subst}
use Rattle.std.specs.Prelude.{OnOk}
use Rattle.std.specs.Str.{IsUtf8, is_utf8}
use Rattle.std.proofs.lemmas.Str.{IsUtf8-from_is_utf8, is_utf8-from_IsUtf8}
use Rattle.json.specs.Json.{string}
use Rattle.json.specs.Token.{key}
use Rattle.json.specs.Tree.{json_tokens}
use Rattle.json.specs.Written.{Written}
use Rattle.json_objects.specs.Adding.{AddsSlots, Opens}
use Rattle.json_objects.specs.Written.{number_value}
use Rattle.ledger_lines.specs.Written.{first_slots, octets_value, words_slots}

-- the same number, the same octets
pub number_is : {a b : Written} {name : List ℕ} (m n : ℕ) → m ≡ n → AddsSlots a b ((name, Some (number_value m)) ∷ []) → AddsSlots a b ((name, Some (number_value n)) ∷ [])
number_is {a} {b} {name} m n e p = subst (λ (k : ℕ). AddsSlots a b ((name, Some (number_value k)) ∷ [])) e p

pub number_last : {E : Type 0} (r : Result (Unit {0}) E) (a b : Written) (name : List ℕ) (m n : ℕ) → m ≡ n → OnOk r (AddsSlots a b ((name, Some (number_value m)) ∷ [])) → OnOk r (AddsSlots a b ((name, Some (number_value n)) ∷ []))
number_last r a b name m n e p = subst (λ (k : ℕ). OnOk r (AddsSlots a b ((name, Some (number_value k)) ∷ []))) e p

pub octets_are : {a b : Written} {name : List ℕ} (xs ys : List ℕ) → xs ≡ ys → AddsSlots a b ((name, Some (octets_value xs)) ∷ []) → AddsSlots a b ((name, Some (octets_value ys)) ∷ [])
octets_are {a} {b} {name} xs ys e p = subst (λ (zs : List ℕ). AddsSlots a b ((name, Some (octets_value zs)) ∷ [])) e p

pub string_is : {a b : Written} {name : List ℕ} (xs ys : List ℕ) → xs ≡ ys → AddsSlots a b ((name, Some (string xs)) ∷ []) → AddsSlots a b ((name, Some (string ys)) ∷ [])
string_is {a} {b} {name} xs ys e p = subst (λ (zs : List ℕ). AddsSlots a b ((name, Some (string zs)) ∷ [])) e p

pub number_if_is : {a b : Written} {name : List ℕ} (m n : Option ℕ) → m ≡ n → AddsSlots a b ((name, option_map number_value m) ∷ []) → AddsSlots a b ((name, option_map number_value n) ∷ [])
number_if_is {a} {b} {name} m n e p = subst (λ (k : Option ℕ). AddsSlots a b ((name, option_map number_value k) ∷ [])) e p

pub first_is : {a b : Written} {time : List ℕ} (run : ℕ) (xs ys : List ℕ) → xs ≡ ys → Opens a b (first_slots xs run time) → Opens a b (first_slots ys run time)
first_is {a} {b} {time} run xs ys e p = subst (λ (zs : List ℕ). Opens a b (first_slots zs run time)) e p

-- octets that may be there
pub words_text : {E : Type 0} (r : Result (Unit {0}) E) (a b : Written) (name other octets text : List ℕ) → text ≡ octets → IsUtf8 octets → OnOk r (AddsSlots a b ((name, Some (string text)) ∷ [])) → OnOk r (AddsSlots a b (words_slots name other (Some octets)))
words_text (Err e) a b name other octets text is utf8 p = tt
words_text (Ok x) a b name other octets text is utf8 p =
    subst (λ (t : Bool). AddsSlots a b ((name, cond t (Some (string octets)) None) ∷ (other, cond t None (Some (octets_value octets))) ∷ [])) (sym (is_utf8-from_IsUtf8 octets utf8))
    (record { before = p.before; added = p.added ∙ ap (λ zs. a.tokens ++ key name ∷ json_tokens (string zs)) is })

no_text : (octets : List ℕ) (t : Bool) → is_utf8 octets ≡ t → ¬ IsUtf8 octets → t ≡ false
no_text octets true e n = absurd (n (IsUtf8-from_is_utf8 octets e))
no_text octets false e n = refl

pub words_digits : {E : Type 0} (r : Result (Unit {0}) E) (a b : Written) (name other octets : List ℕ) → ¬ IsUtf8 octets → OnOk r (AddsSlots a b ((other, Some (octets_value octets)) ∷ [])) → OnOk r (AddsSlots a b (words_slots name other (Some octets)))
words_digits (Err e) a b name other octets n p = tt
words_digits (Ok x) a b name other octets n p =
    subst (λ (t : Bool). AddsSlots a b ((name, cond t (Some (string octets)) None) ∷ (other, cond t None (Some (octets_value octets))) ∷ [])) (sym (no_text octets (is_utf8 octets) refl n))
    (record { before = p.before; added = p.added })
