-- Addresses, and addresses with ports, and their texts.
use Rattle.std.proofs.Common.{◌≡◌, ℕ, suc, ◌+◌, ◌^◌, ◌<◌, ◌≤◌, ◌==◌, Bool, true, false, not, eq-eqb, List, [], ◌∷◌, ◌++◌, length, get_or, take, drop, Option, Some, None, option_map, refl, sym, ap, subst, ◌∙◌, arith}
use Rattle.std.specs.Prelude.{position}
use Rattle.std.specs.List.{AllByRecursion, list_all, position_from}
use Rattle.std.specs.Char.{is_ascii_digit}
use Rattle.std.specs.Fmt.{decimal}
use Rattle.std.proofs.Math.Seq.{drop-append-add}
use Rattle.std.proofs.lemmas.Bool.{and_parts, eqb-true, ne_eqb, false≢true}
use Rattle.std.proofs.lemmas.Iterator.Adapters.{position_from-zero}
use Rattle.std.proofs.lemmas.List.{take_at, take-append-drop, drop_more}
use Rattle.std.proofs.lemmas.List.Elements.{All-from_recursion, recursion_from_All}
use Rattle.std.proofs.lemmas.List.Folds.{list_all-append}
use Rattle.std.proofs.lemmas.List.Quantifiers.{position-Some}
use Rattle.rad_config.specs.declared.reading.address.Endpoint.{Endpoint}
use Rattle.rad_config.specs.Address.{◌>>=◌, IsAddress, number_in, around_first, address_in, endpoint_in}
use Rattle.rad_config.specs.Printed.{address_text, endpoint_text}
use Rattle.rad_config.proofs.Numbers.{number_read, number_text, number_least, number_most, digits_of}

-- ---- what stands around an octet

abbrev Lacks : ℕ → List ℕ → Type 0
Lacks octet text = list_all (λ o. not (o == octet)) text ≡ true

not_true : (b : Bool) → not b ≡ true → b ≡ false
not_true true h = absurd cc
not_true false h = refl

first_at : (octet : ℕ) (front back : List ℕ) (i : ℕ) → Lacks octet front → position_from (λ o. o == octet) i (front ++ octet ∷ back) ≡ Some (i + length front)
first_at octet [] back i lacks =
    let same : (octet == octet) ≡ true = eq-eqb octet octet refl in
    let here : i ≡ i + 0 = omega arith in
    rw same (ap (λ (n : ℕ). Some n) here)
first_at octet (o ∷ os) back i lacks =
    let parts = and_parts (not (o == octet)) (list_all (λ x. not (x == octet)) os) lacks in
    let other : (o == octet) ≡ false = not_true (o == octet) parts.0 in
    let more : (i + 1) + length os ≡ i + suc (length os) = omega arith in
    rw other (first_at octet os back (i + 1) parts.1 ∙ ap (λ (n : ℕ). Some n) more)

position_is : (octet : ℕ) (front back : List ℕ) → Lacks octet front → position (λ o. o == octet) (front ++ octet ∷ back) ≡ Some (length front)
position_is octet front back lacks =
    let none_before : 0 + length front ≡ length front = omega arith in
    position_from-zero (λ (o : ℕ). o == octet) (front ++ octet ∷ back) ∙ first_at octet front back 0 lacks ∙ ap (λ (n : ℕ). Some n) none_before

-- a text is taken apart around the first such octet
apart : (octet : ℕ) (front back : List ℕ) → Lacks octet front → around_first octet (front ++ octet ∷ back) ≡ Some (front, back)
unfolding around_first
apart octet front back lacks =
    rw (position_is octet front back lacks, take_at front (octet ∷ back) (length front) refl, drop-append-add front (octet ∷ back) 1) refl

some_same : {A : Type 0} (x y : A) → Some x ≡ Some y → x ≡ y
some_same x y h = cc

joined_at : (octet : ℕ) (text : List ℕ) (parts : List ℕ × List ℕ) (place : Option ℕ) → position (λ o. o == octet) text ≡ place → option_map (λ i. (take i text, drop (i + 1) text)) place ≡ Some parts → text ≡ parts.0 ++ octet ∷ parts.1
joined_at octet text parts None found e = absurd cc
joined_at octet text parts (Some i) found e =
    let there = position-Some (λ (o : ℕ). o == octet) text i 0 found in
    let octet_is : get_or text i 0 ≡ octet = eqb-true (get_or text i 0) octet there.1 in
    let rest : drop i text ≡ octet ∷ drop (i + 1) text = drop_more text i 0 there.0 ∙ ap (λ (o : ℕ). o ∷ drop (i + 1) text) octet_is in
    let whole : text ≡ take i text ++ octet ∷ drop (i + 1) text = sym (take-append-drop i text) ∙ ap (λ (xs : List ℕ). take i text ++ xs) rest in
    whole ∙ ap (λ (p : List ℕ × List ℕ). p.0 ++ octet ∷ p.1) (some_same (take i text, drop (i + 1) text) parts e)

-- a text that is taken apart is its parts, with the octet between them
joined : (octet : ℕ) (text : List ℕ) (parts : List ℕ × List ℕ) → around_first octet text ≡ Some parts → text ≡ parts.0 ++ octet ∷ parts.1
unfolding around_first
joined octet text parts e = joined_at octet text parts (position (λ (o : ℕ). o == octet) text) refl e

-- ---- the octets of numbers

digit_is_no : (octet o : ℕ) → ((o ≡ octet) → is_ascii_digit o ≡ false) → is_ascii_digit o ≡ true → not (o == octet) ≡ true
digit_is_no octet o no_digit digit =
    let other : (o == octet) ≡ false = ne_eqb o octet (λ same. absurd (false≢true (sym (no_digit same) ∙ digit))) in
    rw other refl

digits_lack : (octet : ℕ) (text : List ℕ) → ((o : ℕ) → o ≡ octet → is_ascii_digit o ≡ false) → list_all is_ascii_digit text ≡ true → Lacks octet text
digits_lack octet [] no_digit digits = refl
digits_lack octet (o ∷ os) no_digit digits =
    let parts = and_parts (is_ascii_digit o) (list_all is_ascii_digit os) digits in
    rw (digit_is_no octet o (no_digit o) parts.0, digits_lack octet os no_digit parts.1) refl

number_lacks_dot : (n : ℕ) → n < 2 ^ 64 → Lacks 46 (decimal n)
number_lacks_dot n small = digits_lack 46 (decimal n) (λ o same. rw same refl) (digits_of n small)

number_lacks_colon : (n : ℕ) → n < 2 ^ 64 → Lacks 58 (decimal n)
number_lacks_colon n small = digits_lack 58 (decimal n) (λ o same. rw same refl) (digits_of n small)

lacks_both : (octet other : ℕ) (front back : List ℕ) → Lacks octet front → not (other == octet) ≡ true → Lacks octet back → Lacks octet (front ++ other ∷ back)
lacks_both octet other front back in_front differs in_back =
    rw (list_all-append (λ (o : ℕ). not (o == octet)) front (other ∷ back), in_front, differs, in_back) refl

small_octet : (n : ℕ) → n ≤ 255 → n < 2 ^ 64
small_octet n le = omega (arith, le)

-- ---- addresses

pub address_read : (a b c d : ℕ) → a ≤ 255 → b ≤ 255 → c ≤ 255 → d ≤ 255 → address_in (address_text (a ∷ b ∷ c ∷ d ∷ [])) ≡ Some (a ∷ b ∷ c ∷ d ∷ [])
unfolding address_in
address_read a b c d la lb lc ld =
    let sa = small_octet a la in
    let sb = small_octet b lb in
    let sc = small_octet c lc in
    let sd = small_octet d ld in
    rw (apart 46 (decimal a) (decimal b ++ 46 ∷ (decimal c ++ 46 ∷ decimal d)) (number_lacks_dot a sa), apart 46 (decimal b) (decimal c ++ 46 ∷ decimal d) (number_lacks_dot b sb), apart 46 (decimal c) (decimal d) (number_lacks_dot c sc), number_read 0 255 a sa (omega arith) la, number_read 0 255 b sb (omega arith) lb, number_read 0 255 c sc (omega arith) lc, number_read 0 255 d sd (omega arith) ld) refl

address_lacks_colon : (a b c d : ℕ) → a ≤ 255 → b ≤ 255 → c ≤ 255 → d ≤ 255 → Lacks 58 (address_text (a ∷ b ∷ c ∷ d ∷ []))
address_lacks_colon a b c d la lb lc ld =
    lacks_both 58 46 (decimal a) _ (number_lacks_colon a (small_octet a la)) refl
    (lacks_both 58 46 (decimal b) _ (number_lacks_colon b (small_octet b lb)) refl
    (lacks_both 58 46 (decimal c) (decimal d) (number_lacks_colon c (small_octet c lc)) refl (number_lacks_colon d (small_octet d ld))))

bound : {A B : Type 0} (o : Option A) (f : A → Option B) (y : B) → (o >>= f) ≡ Some y → (x : A) × (o ≡ Some x) × (f x ≡ Some y)
bound None f y e = absurd cc
bound (Some x) f y e = (x, refl, e)

same_join : (octet : ℕ) (a b c d : List ℕ) → a ≡ b → c ≡ d → a ++ octet ∷ c ≡ b ++ octet ∷ d
same_join octet a b c d p q = rw (p, q) refl

octet_text : (n : ℕ) (text : List ℕ) → number_in 0 255 text ≡ Some n → text ≡ decimal n
octet_text n text e = number_text 0 255 n text e (small_octet n (number_most 0 255 n text e))

record IsDotted (text address : List ℕ) : Type 0 where
  a : ℕ
  b : ℕ
  c : ℕ
  d : ℕ
  octets : address ≡ a ∷ b ∷ c ∷ d ∷ []
  written : text ≡ address_text (a ∷ b ∷ c ∷ d ∷ [])
  small : (a ≤ 255) × (b ≤ 255) × (c ≤ 255) × (d ≤ 255)

four_are : (text address : List ℕ) → address_in text ≡ Some address → IsDotted text address
unfolding address_in
four_are text address e =
    let first = bound (around_first 46 text) _ address e in
    let second = bound (around_first 46 first.0.1) _ address first.2 in
    let third = bound (around_first 46 second.0.1) _ address second.2 in
    let a = bound (number_in 0 255 first.0.0) _ address third.2 in
    let b = bound (number_in 0 255 second.0.0) _ address a.2 in
    let c = bound (number_in 0 255 third.0.0) _ address b.2 in
    let d = bound (number_in 0 255 third.0.1) _ address c.2 in
    let end = same_join 46 third.0.0 (decimal c.0) third.0.1 (decimal d.0) (octet_text c.0 third.0.0 c.1) (octet_text d.0 third.0.1 d.1) in
    let middle = same_join 46 second.0.0 (decimal b.0) second.0.1 (decimal c.0 ++ 46 ∷ decimal d.0) (octet_text b.0 second.0.0 b.1) (joined 46 second.0.1 third.0 third.1 ∙ end) in
    let whole = same_join 46 first.0.0 (decimal a.0) first.0.1 (decimal b.0 ++ 46 ∷ (decimal c.0 ++ 46 ∷ decimal d.0)) (octet_text a.0 first.0.0 a.1) (joined 46 first.0.1 second.0 second.1 ∙ middle) in
    record {
      a = a.0;
      b = b.0;
      c = c.0;
      d = d.0;
      octets = sym (some_same (a.0 ∷ b.0 ∷ c.0 ∷ d.0 ∷ []) address d.2);
      written = joined 46 text first.0 first.1 ∙ whole;
      small = (number_most 0 255 a.0 first.0.0 a.1, number_most 0 255 b.0 second.0.0 b.1, number_most 0 255 c.0 third.0.0 c.1, number_most 0 255 d.0 third.0.1 d.1);
    }

pub address_only : (address text : List ℕ) → address_in text ≡ Some address → (text ≡ address_text address) × IsAddress address
address_only address text e =
    let four = four_are text address e in (
      four.written ∙ ap address_text (sym four.octets),
      subst IsAddress (sym four.octets) (record {
        four = refl;
        octet = All-from_recursion (λ o. o ≤ 255) (four.a ∷ four.b ∷ four.c ∷ four.d ∷ []) (four.small.0, (four.small.1, (four.small.2, (four.small.3, tt))));
      }),
    )

record FourAre (address : List ℕ) : Type 0 where
  a : ℕ
  b : ℕ
  c : ℕ
  d : ℕ
  octets : address ≡ a ∷ b ∷ c ∷ d ∷ []
  small : (a ≤ 255) × (b ≤ 255) × (c ≤ 255) × (d ≤ 255)

four_of : (address : List ℕ) → length address ≡ 4 → AllByRecursion (λ o. o ≤ 255) address → FourAre address
four_of [] long small = absurd (omega (arith, long))
four_of (a ∷ []) long small = absurd (omega (arith, long))
four_of (a ∷ b ∷ []) long small = absurd (omega (arith, long))
four_of (a ∷ b ∷ c ∷ []) long small = absurd (omega (arith, long))
four_of (a ∷ b ∷ c ∷ d ∷ []) long small = record { a = a; b = b; c = c; d = d; octets = refl; small = (small.0, small.1.0, small.1.1.0, small.1.1.1.0) }
four_of (a ∷ b ∷ c ∷ d ∷ e ∷ rest) long small = absurd (omega (arith, long))

four_in : (address : List ℕ) → IsAddress address → FourAre address
four_in address h = four_of address h.four (recursion_from_All (λ o. o ≤ 255) address h.octet)

pub address_from_text : (address : List ℕ) → IsAddress address → address_in (address_text address) ≡ Some address
address_from_text address h =
    let four = four_in address h in
    subst (λ (x : List ℕ). address_in (address_text x) ≡ Some x) (sym four.octets) (address_read four.a four.b four.c four.d four.small.0 four.small.1 four.small.2 four.small.3)

-- ---- addresses with ports

small_port : (n : ℕ) → n ≤ 65535 → n < 2 ^ 64
small_port n le = omega (arith, le)

text_lacks_colon : (address : List ℕ) → IsAddress address → Lacks 58 (address_text address)
text_lacks_colon address h =
    let four = four_in address h in
    subst (λ (x : List ℕ). Lacks 58 (address_text x)) (sym four.octets) (address_lacks_colon four.a four.b four.c four.d four.small.0 four.small.1 four.small.2 four.small.3)

pub endpoint_from_text : (e : Endpoint) → IsAddress e.address → 1 ≤ e.port → e.port ≤ 65535 → endpoint_in (endpoint_text e) ≡ Some e
unfolding endpoint_in
endpoint_from_text e h some most =
    rw (apart 58 (address_text e.address) (decimal e.port) (text_lacks_colon e.address h), address_from_text e.address h, number_read 1 65535 e.port (small_port e.port most) some most) refl

pub endpoint_only : (e : Endpoint) (text : List ℕ) → endpoint_in text ≡ Some e → (text ≡ endpoint_text e) × IsAddress e.address × (1 ≤ e.port) × (e.port ≤ 65535)
unfolding endpoint_in
endpoint_only e text h =
    let parts = bound (around_first 58 text) _ e h in
    let address = bound (address_in parts.0.0) _ e parts.2 in
    let port = bound (number_in 1 65535 parts.0.1) _ e address.2 in
    let front = address_only address.0 parts.0.0 address.1 in
    let most = number_most 1 65535 port.0 parts.0.1 port.1 in
    let back = number_text 1 65535 port.0 parts.0.1 port.1 (small_port port.0 most) in
    let whole = same_join 58 parts.0.0 (address_text address.0) parts.0.1 (decimal port.0) front.0 back in
    let same = some_same (record { address = address.0; port = port.0 }) e port.2 in (
      joined 58 text parts.0 parts.1 ∙ whole ∙ ap endpoint_text same,
      subst IsAddress (ap (λ (x : Endpoint). x.address) same) front.1,
      subst (λ (n : ℕ). 1 ≤ n) (ap (λ (x : Endpoint). x.port) same) (number_least 1 65535 port.0 parts.0.1 port.1),
      subst (λ (n : ℕ). n ≤ 65535) (ap (λ (x : Endpoint). x.port) same) most,
    )
