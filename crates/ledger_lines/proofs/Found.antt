-- What a value shows of what stands at a key of an object.
use Rattle.std.proofs.Common.{◌≡◌, ℕ, ◌<◌, ◌≤◌, ◌^◌, List, length, get_or, codes, Bool, true, false, Option, Some, None, MatchOption, IfSome, Ok, ok_or, refl, sym, ap, ◌∙◌, subst, arith}
use Rattle.std.specs.Prelude.{⊤}
use Rattle.std.specs.Str.Parse.{IsNumeral, digits_value, without_leading_plus, ParsesUnsigned}
use Rattle.json.specs.Json.{Json, Items, null, boolean, number, string, array, object}
use Rattle.json.specs.Find.{get, as_bool, as_str, as_number}
use Rattle.hex.specs.Hex.{decode_of}
use Rattle.ledger_lines.specs.Lines.{Denies, HasText, HasNumber, HasOctets, HasTruth, as_items}
use Rattle.ledger_lines.specs.declared.faults.LineFault.{LineFault}
use Rattle.ledger_lines.proofs.Lines.{denied, differ}
use Rattle.ledger_lines.proofs.Pairs.{DigitsRead}

abbrev pub nothing : Option ℕ
nothing = None

pub same_some : {A : Type 0} (x y : A) → Some x ≡ Some y → x ≡ y
same_some x y e = subst (λ o. IfSome o (λ z. x ≡ z)) e refl

pub string_by : (j : Json) (t : List ℕ) → as_str j ≡ Some t → j ≡ string t
string_by null t e = absurd (differ None t refl e)
string_by (boolean b) t e = absurd (differ None t refl e)
string_by (number s) t e = absurd (differ None t refl e)
string_by (string s) t e = ap string (same_some s t e)
string_by (array js) t e = absurd (differ None t refl e)
string_by (object ms) t e = absurd (differ None t refl e)

number_by : (j : Json) (t : List ℕ) → as_number j ≡ Some t → j ≡ number t
number_by null t e = absurd (differ None t refl e)
number_by (boolean b) t e = absurd (differ None t refl e)
number_by (number s) t e = ap number (same_some s t e)
number_by (string s) t e = absurd (differ None t refl e)
number_by (array js) t e = absurd (differ None t refl e)
number_by (object ms) t e = absurd (differ None t refl e)

pub items_by : (j : Json) (items : Items) → as_items j ≡ Some items → j ≡ array items
items_by null items e = absurd (differ None items refl e)
items_by (boolean b) items e = absurd (differ None items refl e)
items_by (number s) items e = absurd (differ None items refl e)
items_by (string s) items e = absurd (differ None items refl e)
items_by (array js) items e = ap array (same_some js items e)
items_by (object ms) items e = absurd (differ None items refl e)

truth_of : (j : Json) (b : Bool) → as_bool j ≡ Some b → j ≡ boolean b
truth_of null b e = absurd (differ None b refl e)
truth_of (boolean c) b e = ap boolean (same_some c b e)
truth_of (number s) b e = absurd (differ None b refl e)
truth_of (string s) b e = absurd (differ None b refl e)
truth_of (array js) b e = absurd (differ None b refl e)
truth_of (object ms) b e = absurd (differ None b refl e)

module _ (key : List ℕ) (value : Json) where
  abbrev pub TextThere : Type 0
  TextThere = (t : List ℕ) × HasText key value t

  abbrev pub NumberThere : ℕ → Type 0
  NumberThere limit = (n : ℕ) × HasNumber key limit value n

  abbrev pub OctetsThere : Type 0
  OctetsThere = (octets : List ℕ) × HasOctets key value octets

  abbrev pub TruthThere : Type 0
  TruthThere = (holds : Bool) × HasTruth key value holds

  -- what may hold or not
  pub nothing_found : None ≡ get key value → HasTruth key value false
  nothing_found e = sym e

  pub truth_found : (found : Json) → Some found ≡ get key value → Some true ≡ as_bool found → HasTruth key value true
  truth_found found e s = sym e ∙ ap Some (truth_of found true (sym s))

  truth_denied : (found : Json) → Some found ≡ get key value → ¬ (as_bool found ≡ Some true) → ¬ TruthThere
  truth_denied found e n (true, h) = n (ap as_bool (same_some found (boolean true) (e ∙ h)))
  truth_denied found e n (false, h) = differ (get key value) found (sym h) (sym e)

  pub no_truth : (found : Json) → Some found ≡ get key value → None ≡ as_bool found → ¬ TruthThere
  no_truth found e s = truth_denied found e (λ t. differ (as_bool found) true s t)

  pub untrue : (found : Json) → Some found ≡ get key value → Some false ≡ as_bool found → ¬ TruthThere
  untrue found e s = truth_denied found e (λ t. cc)

  -- texts
  pub text_found : (found : Json) (t : List ℕ) → Some found ≡ get key value → Some t ≡ as_str found → HasText key value t
  text_found found t e s = sym e ∙ ap Some (string_by found t (sym s))

  pub no_text : (found : Json) → Some found ≡ get key value → None ≡ as_str found → ¬ TextThere
  no_text found e s p = differ (as_str found) p.0 s (ap as_str (same_some found (string p.0) (e ∙ p.1)))

  pub no_text_there : None ≡ get key value → ¬ TextThere
  no_text_there e p = differ (get key value) (string p.0) e p.1

  pub one_text : (t u : List ℕ) → HasText key value t → HasText key value u → t ≡ u
  one_text t u h i = same_some t u (ap as_str (same_some (string t) (string u) (sym h ∙ i)))

  -- numbers
  pub no_number_there : (limit : ℕ) → None ≡ get key value → ¬ NumberThere limit
  no_number_there limit e p = differ (get key value) (number p.1.digits) e p.1.there

  module _ (found : Json) (e : Some found ≡ get key value) where
    by_digits : (n : ℕ) (digits : Option (List ℕ)) → as_number found ≡ digits → MatchOption digits (Some n ≡ None) (λ s. ParsesUnsigned 64 10 s (ok_or (Some n) s)) → HasNumber key (2 ^ 64) value n
    by_digits n None is p = absurd (differ (Some n) n (sym p) refl)
    by_digits n (Some s) is p = record {
      digits = s;
      there = sym e ∙ ap Some (number_by found s is);
      numeral = p.0.0;
      its_digits = sym p.1;
      below = subst (λ (x : ℕ). x < 2 ^ 64) (sym p.1) p.0.1;
    }

    pub number_found : (n : ℕ) → MatchOption (as_number found) (Some n ≡ None) (λ s. ParsesUnsigned 64 10 s (ok_or (Some n) s)) → HasNumber key (2 ^ 64) value n
    number_found n p = by_digits n (as_number found) refl p

    by_fails : (digits : Option (List ℕ)) → MatchOption digits (nothing ≡ None) (λ s. ParsesUnsigned 64 10 s (ok_or None s)) → MatchOption digits ⊤ (λ s. ¬ (IsNumeral 10 (without_leading_plus s) × (digits_value 10 (without_leading_plus s) < 2 ^ 64)))
    by_fails None p = tt
    by_fails (Some s) p = p

    pub no_number : MatchOption (as_number found) (nothing ≡ None) (λ s. ParsesUnsigned 64 10 s (ok_or None s)) → ¬ NumberThere (2 ^ 64)
    no_number p (n, h) =
        let is : as_number found ≡ Some h.digits = ap as_number (same_some found (number h.digits) (e ∙ h.there)) in
        let fails : ¬ (IsNumeral 10 (without_leading_plus h.digits) × (digits_value 10 (without_leading_plus h.digits) < 2 ^ 64)) =
        subst (λ o. MatchOption o ⊤ (λ s. ¬ (IsNumeral 10 (without_leading_plus s) × (digits_value 10 (without_leading_plus s) < 2 ^ 64)))) is
        (by_fails (as_number found) p) in
        fails (h.numeral, subst (λ (x : ℕ). x < 2 ^ 64) (sym h.its_digits) h.below)

  -- numbers below a lower limit
  pub narrower : (limit n m : ℕ) → HasNumber key (2 ^ 64) value n → m ≡ n → n < limit → HasNumber key limit value m
  narrower limit n m h e l = record { digits = h.digits; there = h.there; numeral = h.numeral; its_digits = h.its_digits ∙ sym e; below = omega (arith, e, l) }

  pub one_number : (limit other n m : ℕ) → HasNumber key limit value n → HasNumber key other value m → n ≡ m
  one_number limit other n m h i =
      let same : h.digits ≡ i.digits = same_some h.digits i.digits (ap as_number (same_some (number h.digits) (number i.digits) (sym h.there ∙ i.there))) in
      sym h.its_digits ∙ ap (λ s. digits_value 10 (without_leading_plus s)) same ∙ i.its_digits

  pub too_large : (limit n : ℕ) → HasNumber key (2 ^ 64) value n → limit ≤ n → ¬ NumberThere limit
  too_large limit n h l (m, i) = omega (arith, one_number (2 ^ 64) limit n m h i, l, i.below)

  pub none_below : (limit : ℕ) → limit ≤ 2 ^ 64 → (fault : LineFault) → Denies fault (NumberThere (2 ^ 64)) → Denies fault (NumberThere limit)
  none_below limit l fault d =
      denied (NumberThere (2 ^ 64)) (NumberThere limit)
      (λ p. (p.0, record { digits = p.1.digits; there = p.1.there; numeral = p.1.numeral; its_digits = p.1.its_digits; below = omega (arith, l, p.1.below) })) fault d

  -- octets
  pub octets_found : (digits octets : List ℕ) → HasText key value digits → decode_of digits ≡ Ok octets → HasOctets key value octets
  octets_found digits octets t d = record { digits = digits; there = t; are = d }

  digits_in : (digits : List ℕ) → HasText key value digits → OctetsThere → DigitsRead digits
  digits_in digits t (octets, h) =
      (octets, ap decode_of (one_text digits h.digits t h.there) ∙ h.are)

  pub no_octets : (fault : LineFault) (digits : List ℕ) → HasText key value digits → Denies fault (DigitsRead digits) → Denies fault OctetsThere
  no_octets fault digits t d = denied (DigitsRead digits) OctetsThere (digits_in digits t) fault d

  pub no_octets_text : (fault : LineFault) → Denies fault TextThere → Denies fault OctetsThere
  no_octets_text fault d = denied TextThere OctetsThere (λ p. (p.1.digits, p.1.there)) fault d

-- types of different lengths, or that begin with different letters, are not both there
pub unlike : (value : Json) (t u : List ℕ) → HasText (codes "type") value t → HasText (codes "type") value u → (length t ≡ length u) × (get_or t 0 0 ≡ get_or u 0 0)
unlike value t u h i =
    let same = one_text (codes "type") value t u h i in
    (ap length same, ap (λ xs. get_or xs 0 0) same)
