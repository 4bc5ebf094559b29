-- What `parse` gives for the text of a number.
use Rattle.std.proofs.Common.{◌≡◌, ℕ, ◌^◌, ◌<◌, ◌≤◌, Bool, true, false, nat_lt, nat_le, le-leb, lt-ltb, eq-eqb, not, ◌+◌, ◌&&◌, ◌==◌, slice_index, get_or, refl, sym, ap, subst, ◌∙◌, List, [], ◌∷◌, length, Some, None, Result, Ok, Err, arith, rules, inl, inr}
use Rattle.std.specs.Option.{MatchOption}
use Rattle.std.specs.Result.{result_ok}
use Rattle.std.specs.List.{list_all}
use Rattle.std.specs.Char.{is_ascii_digit}
use Rattle.std.specs.Str.Parse.{digits_value, ParsesUnsigned}
use Rattle.std.proofs.lemmas.Bool.{and_parts, cases_lt, cases_Bool, leb-true, ltb-true, ne_eqb, false≢true}
use Rattle.std.proofs.lemmas.Str.Parse.{IsNumeralModel, IsDigitsTest, numerals_by_value, parse_digits}
use Rattle.std.specs.Fmt.{decimal}
use Rattle.std.proofs.lemmas.Fmt.{decimal_nonempty, digits_decimal, digits_value-decimal, decimal-digits_value, decimal_digit, first_decimal}
use Rattle.rad_config.specs.Address.{is_number, number_in}

digits_test : IsDigitsTest (λ ds. list_all is_ascii_digit ds ≡ true)
digits_test = search rules

own : IsNumeralModel (λ ds. list_all is_ascii_digit ds ≡ true) (digits_value 10)
own = numerals_by_value _ digits_test

pub parsed_is : {E : Type 0} (text : List ℕ) (r : Result ℕ E) → is_number text ≡ true → ParsesUnsigned 16 10 text r → MatchOption (result_ok r) (2 ^ 16 ≤ digits_value 10 text) (λ n. n ≡ digits_value 10 text)
parsed_is {E} text (Ok n) h p =
    let d = and_parts _ _ h in
    (parse_digits own {E = E} 16 text (Ok n) p d.1).1
parsed_is {E} text (Err e) h p =
    let d = and_parts _ _ h in
    let no = parse_digits own {E = E} 16 text (Err e) p d.1 in
    let some = ltb-true 0 (length text) (and_parts _ _ d.0).0 in
    elim (cases_lt (digits_value 10 text) (2 ^ 16)) [ inl lt ↦ absurd (no (some, lt)) | inr le ↦ le ]

same_some : (x y : ℕ) → Some x ≡ Some y → x ≡ y
same_some x y e = cc

and_false : (b : Bool) → (b && false) ≡ false
and_false true = refl
and_false false = refl

-- a first 0 stands alone
alone : (text : List ℕ) → is_number text ≡ true → get_or text 0 0 ≡ 48 → length text ≡ 1
alone text h zero_first =
    let parts = and_parts (nat_lt 0 (length text)) (not (nat_lt 1 (length text) && (slice_index text 0 == 48))) (and_parts (nat_lt 0 (length text) && not (nat_lt 1 (length text) && (slice_index text 0 == 48))) (list_all is_ascii_digit text) h).0 in
    let some : 0 < length text = ltb-true 0 (length text) parts.0 in
    elim (cases_lt 1 (length text)) [
      | inl long ↦
          let more : nat_lt 1 (length text) ≡ true = lt-ltb 1 (length text) long in
          let first : (slice_index text 0 == 48) ≡ true = eq-eqb (get_or text 0 0) 48 zero_first in
          let refuted : false ≡ true = rw (more, first) at parts.1 in
          absurd (false≢true refuted)
      | inr short ↦ omega arith
    ]

-- longer texts of numbers begin with another digit than 0
first_of_number : (n : ℕ) → n < 2 ^ 64 → (nat_lt 1 (length (decimal n)) && (slice_index (decimal n) 0 == 48)) ≡ false
first_of_number n small =
    elim (cases_lt 0 n) [
      | inl some ↦
          let above = first_decimal n some small in
          let other : (slice_index (decimal n) 0 == 48) ≡ false = ne_eqb (get_or (decimal n) 0 0) 48 (λ e. omega (arith, above, e)) in
          rw other (and_false (nat_lt 1 (length (decimal n))))
      | inr none ↦ let one : decimal n ≡ (48 + n) ∷ [] = decimal_digit n (omega arith) in rw one refl
    ]

-- a number's own text is a number
is_number-decimal : (n : ℕ) → n < 2 ^ 64 → is_number (decimal n) ≡ true
is_number-decimal n small =
    let some : nat_lt 0 (length (decimal n)) ≡ true = lt-ltb 0 (length (decimal n)) (decimal_nonempty n small) in
    let digits : list_all is_ascii_digit (decimal n) ≡ true = digits_decimal own n small in
    rw (some, digits, first_of_number n small) refl

pub number_read : (least most n : ℕ) → n < 2 ^ 64 → least ≤ n → n ≤ most → number_in least most (decimal n) ≡ Some n
unfolding number_in
number_read least most n small low high =
    rw (is_number-decimal n small, digits_value-decimal own n small, le-leb least n low, le-leb n most high) refl

-- a text that is read is the number's own
pub number_text : (least most n : ℕ) (text : List ℕ) → number_in least most text ≡ Some n → n < 2 ^ 64 → text ≡ decimal n
unfolding number_in
number_text least most n text e small =
    elim (cases_Bool (is_number text && (nat_le least (digits_value 10 text) && nat_le (digits_value 10 text) most))) [
      | inl good ↦
          let number : is_number text ≡ true = (and_parts (is_number text) (nat_le least (digits_value 10 text) && nat_le (digits_value 10 text) most) good).0 in
          let parts = and_parts (nat_lt 0 (length text) && not (nat_lt 1 (length text) && (slice_index text 0 == 48))) (list_all is_ascii_digit text) number in
          let value : digits_value 10 text ≡ n = same_some _ _ (rw good at e) in
          let below : digits_value 10 text < 2 ^ 64 = omega (arith, value) in
          let shown = decimal-digits_value own text parts.1 (ltb-true 0 (length text) (and_parts (nat_lt 0 (length text)) (not (nat_lt 1 (length text) && (slice_index text 0 == 48))) parts.0).0) (alone text number) below in
          sym shown ∙ ap decimal value
      | inr other ↦ let h : None ≡ Some n = rw other at e in absurd cc
    ]

-- a number that is read is in its range
number_range : (least most n : ℕ) (text : List ℕ) → number_in least most text ≡ Some n → (least ≤ n) × (n ≤ most)
unfolding number_in
number_range least most n text e =
    elim (cases_Bool (is_number text && (nat_le least (digits_value 10 text) && nat_le (digits_value 10 text) most))) [
      | inl good ↦
          let range = (and_parts (is_number text) (nat_le least (digits_value 10 text) && nat_le (digits_value 10 text) most) good).1 in
          let ends = and_parts (nat_le least (digits_value 10 text)) (nat_le (digits_value 10 text) most) range in
          let value : digits_value 10 text ≡ n = same_some _ _ (rw good at e) in
          subst (λ (k : ℕ). (least ≤ k) × (k ≤ most)) value (leb-true least (digits_value 10 text) ends.0, leb-true (digits_value 10 text) most ends.1)
      | inr other ↦ let h : None ≡ Some n = rw other at e in absurd cc
    ]

pub number_least : (least most n : ℕ) (text : List ℕ) → number_in least most text ≡ Some n → least ≤ n
number_least least most n text e = (number_range least most n text e).0

pub number_most : (least most n : ℕ) (text : List ℕ) → number_in least most text ≡ Some n → n ≤ most
number_most least most n text e = (number_range least most n text e).1

-- the text of a number has digits alone
pub digits_of : (n : ℕ) → n < 2 ^ 64 → list_all is_ascii_digit (decimal n) ≡ true
digits_of n small = digits_decimal own n small
