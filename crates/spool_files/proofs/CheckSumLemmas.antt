-- The tables of what octets make of a register, and six registers at once.
use Rattle.std.proofs.Common.{◌≡◌, ◌^◌, ℕ, zero, suc, ◌+◌, ◌-◌, ◌*◌, ◌/◌, ◌%◌, ◌<◌, ◌≤◌, cond, eqb, List, [], ◌∷◌, ◌++◌, length, take, drop, get_or, refl, sym, ap, ◌∙◌, arith, inl, inr}
use Rattle.std.specs.Prelude.{bit_xor, map}
use Rattle.std.specs.Int.Bits.{xor_assoc, xor_self, xor_zero_l, xor_zero_r}
use Rattle.std.proofs.lemmas.Nat.{xor_comm, xor_mod, xor_shr, xor_block}
use Rattle.std.proofs.Math.Nat.{pow-suc}
use Rattle.std.proofs.lemmas.Bool.{cases_lt}
use Rattle.std.proofs.lemmas.List.{length-append, length-drop, length-map, length-take, get_or-append_right, get_or-map, get_or_append_left}
use Rattle.std.specs.Int.{w32, from_le_bytes}
use Rattle.spool_files.specs.CheckSums.{shifted, shifted_by_eight, register_after}
use Rattle.spool_files.specs.internal.Registers.{after_octets, joined_after, word_in}
use Rattle.spool_files.proofs.FieldLemmas.{AreOctets, from_on, whole}
use Rattle.spool_files.specs.declared.sum_tables.TheConstants.{AFTER_ONE, AFTER_21, AFTER_22, AFTER_23, AFTER_24}

abbrev polynomial : ℕ
polynomial = 0xedb88320

-- half a register, by its lowest bit
half : ℕ → ℕ → ℕ
half bit rest = cond (eqb bit 1) (bit_xor rest polynomial) rest

-- a polynomial that stands in two places is none
twice : (y z : ℕ) → bit_xor y z ≡ bit_xor (bit_xor y polynomial) (bit_xor z polynomial)
twice y z =
    ap (bit_xor y) (sym (xor_zero_l z) ∙ ap (λ (n : ℕ). bit_xor n z) (sym (xor_self polynomial)) ∙ xor_assoc polynomial polynomial z ∙ ap (bit_xor polynomial) (xor_comm polynomial z))
    ∙ sym (xor_assoc y polynomial (bit_xor z polynomial))

halves : (r s y z : ℕ) → r < 2 → s < 2 → half (bit_xor r s) (bit_xor y z) ≡ bit_xor (half r y) (half s z)
unfolding half
halves zero zero y z r_lt s_lt = refl
halves zero (suc zero) y z r_lt s_lt = xor_assoc y z polynomial
halves (suc zero) zero y z r_lt s_lt =
    xor_assoc y z polynomial ∙ ap (bit_xor y) (xor_comm z polynomial) ∙ sym (xor_assoc y polynomial z)
halves (suc zero) (suc zero) y z r_lt s_lt = twice y z
halves (suc (suc r)) s y z r_lt s_lt = absurd (omega (arith, r_lt))
halves zero (suc (suc s)) y z r_lt s_lt = absurd (omega (arith, s_lt))
halves (suc zero) (suc (suc s)) y z r_lt s_lt = absurd (omega (arith, s_lt))

shifted_xor : (a b : ℕ) → shifted (bit_xor a b) ≡ bit_xor (shifted a) (shifted b)
unfolding shifted half
shifted_xor a b =
    ap (λ (bit : ℕ). half bit (bit_xor a b / 2)) (xor_mod a b 1)
    ∙ ap (half (bit_xor (a % 2) (b % 2))) (xor_shr a b 1)
    ∙ halves (a % 2) (b % 2) (a / 2) (b / 2) (omega arith) (omega arith)

eight_xor : (a b : ℕ) → shifted_by_eight (bit_xor a b) ≡ bit_xor (shifted_by_eight a) (shifted_by_eight b)
unfolding shifted_by_eight shifted
eight_xor a b =
    let s : ℕ → ℕ = shifted in
    ap (λ n. s (s (s (s (s (s (s n))))))) (shifted_xor a b)
    ∙ ap (λ n. s (s (s (s (s (s n)))))) (shifted_xor (s a) (s b))
    ∙ ap (λ n. s (s (s (s (s n))))) (shifted_xor (s (s a)) (s (s b)))
    ∙ ap (λ n. s (s (s (s n)))) (shifted_xor (s (s (s a))) (s (s (s b))))
    ∙ ap (λ n. s (s (s n))) (shifted_xor (s (s (s (s a)))) (s (s (s (s b)))))
    ∙ ap (λ n. s (s n)) (shifted_xor (s (s (s (s (s a))))) (s (s (s (s (s b))))))
    ∙ ap s (shifted_xor (s (s (s (s (s (s a)))))) (s (s (s (s (s (s b)))))))
    ∙ shifted_xor (s (s (s (s (s (s (s a))))))) (s (s (s (s (s (s (s b)))))))

shifted_even : (m n : ℕ) → m ≡ n * 2 → shifted m ≡ n
unfolding half shifted
shifted_even m n is =
    let low : m % 2 ≡ 0 = omega (arith, is) in
    let rest : m / 2 ≡ n = omega (arith, is) in
    ap (λ (bit : ℕ). half bit (m / 2)) low ∙ rest

eight_above : (h : ℕ) → shifted_by_eight (h * 256) ≡ h
unfolding shifted_by_eight shifted
eight_above h =
    let s : ℕ → ℕ = shifted in
    ap (λ n. s (s (s (s (s (s (s n))))))) (shifted_even (h * 256) (h * 128) (omega arith))
    ∙ ap (λ n. s (s (s (s (s (s n)))))) (shifted_even (h * 128) (h * 64) (omega arith))
    ∙ ap (λ n. s (s (s (s (s n))))) (shifted_even (h * 64) (h * 32) (omega arith))
    ∙ ap (λ n. s (s (s (s n)))) (shifted_even (h * 32) (h * 16) (omega arith))
    ∙ ap (λ n. s (s (s n))) (shifted_even (h * 16) (h * 8) (omega arith))
    ∙ ap (λ n. s (s n)) (shifted_even (h * 8) (h * 4) (omega arith))
    ∙ ap s (shifted_even (h * 4) (h * 2) (omega arith))
    ∙ shifted_even (h * 2) h refl

-- a register is its lowest eight bits and those above them
in_two : (n : ℕ) → n ≡ bit_xor (n % 256) (n / 256 * 256)
in_two n =
    let low : n % 256 < 256 = omega arith in
    let none : 0 < 256 = omega arith in
    let whole : n ≡ n / 256 * 256 + n % 256 = omega arith in
    let lower : 0 * 256 + n % 256 ≡ n % 256 = omega arith in
    let upper : n / 256 * 256 + 0 ≡ n / 256 * 256 = omega arith in
    whole
    ∙ ap (λ (h : ℕ). h * 256 + n % 256) (sym (xor_zero_l (n / 256)))
    ∙ ap (λ (l : ℕ). bit_xor 0 (n / 256) * 256 + l) (sym (xor_zero_r (n % 256)))
    ∙ sym (xor_block 8 0 (n / 256) (n % 256) 0 low none)
    ∙ ap (λ (l : ℕ). bit_xor l (n / 256 * 256 + 0)) lower
    ∙ ap (bit_xor (n % 256)) upper

-- zero octets one after the other, from the first or from the last
later : (k n : ℕ) → shifted_by_eight (after_octets k n) ≡ after_octets k (shifted_by_eight n)
later zero n = refl
later (suc k) n = later k (shifted_by_eight n)

after_xor : (k a b : ℕ) → after_octets k (bit_xor a b) ≡ bit_xor (after_octets k a) (after_octets k b)
after_xor zero a b = refl
after_xor (suc k) a b = ap (after_octets k) (eight_xor a b) ∙ after_xor k (shifted_by_eight a) (shifted_by_eight b)

-- what stands above the lowest eight bits comes an octet later
in_parts : (k n : ℕ) → after_octets (suc k) n ≡ bit_xor (after_octets (suc k) (n % 256)) (after_octets k (n / 256))
in_parts k n =
    ap (after_octets (suc k)) (in_two n)
    ∙ after_xor (suc k) (n % 256) (n / 256 * 256)
    ∙ ap (λ (h : ℕ). bit_xor (after_octets (suc k) (n % 256)) (after_octets k h)) (eight_above (n / 256))

in_four : (k n : ℕ) → after_octets (suc (suc (suc (suc k)))) n
    ≡ bit_xor (bit_xor (bit_xor (after_octets (suc (suc (suc (suc k)))) (n % 256)) (after_octets (suc (suc (suc k))) (n / 256 % 256))) (after_octets (suc (suc k)) (n / 65536 % 256))) (after_octets (suc k) (n / 16777216))
in_four k n =
    let a : ℕ = after_octets (suc (suc (suc (suc k)))) (n % 256) in
    let b : ℕ = after_octets (suc (suc (suc k))) (n / 256 % 256) in
    let second : n / 256 / 256 ≡ n / 65536 = omega arith in
    let third : n / 65536 / 256 ≡ n / 16777216 = omega arith in
    in_parts (suc (suc (suc k))) n
    ∙ ap (bit_xor a) (in_parts (suc (suc k)) (n / 256))
    ∙ ap (λ (m : ℕ). bit_xor a (bit_xor b (after_octets (suc (suc k)) m))) second
    ∙ ap (λ (m : ℕ). bit_xor a (bit_xor b m)) (in_parts (suc k) (n / 65536))
    ∙ ap (λ (m : ℕ). bit_xor a (bit_xor b (bit_xor (after_octets (suc (suc k)) (n / 65536 % 256)) (after_octets (suc k) m)))) third
    ∙ sym (xor_assoc a b _)
    ∙ sym (xor_assoc (bit_xor a b) (after_octets (suc (suc k)) (n / 65536 % 256)) _)

-- what so many octets make of the numbers below a power of two: of those below its half, and of these with the highest bit
abbrev with_bit : ℕ → List ℕ → List ℕ
with_bit high below = below ++ map (bit_xor high) below

abbrev of_bits : ℕ → ℕ → List ℕ
of_bits k zero = 0 ∷ []
of_bits k (suc n) = with_bit (after_octets k (2 ^ n)) (of_bits k n)

length_of_bits : (k n : ℕ) → length (of_bits k n) ≡ 2 ^ n
length_of_bits k zero = refl
length_of_bits k (suc n) =
    let below : List ℕ = of_bits k n in
    omega (arith, length-append below (map (bit_xor (after_octets k (2 ^ n))) below), length-map below (bit_xor (after_octets k (2 ^ n))), length_of_bits k n, pow-suc 2 n)

after_none : (k : ℕ) → after_octets k 0 ≡ 0
unfolding shifted_by_eight shifted
after_none zero = refl
after_none (suc k) = after_none k

-- the highest bit and those below it
with_highest : (n i : ℕ) → i < 2 ^ n → bit_xor (2 ^ n) i ≡ 2 ^ n + i
with_highest n i below =
    let none : 0 < 2 ^ n = omega (arith, below) in
    let high : 1 * 2 ^ n + 0 ≡ 2 ^ n = omega arith in
    let low : 0 * 2 ^ n + i ≡ i = omega arith in
    let sum : 1 * 2 ^ n + i ≡ 2 ^ n + i = omega arith in
    ap (λ (h : ℕ). bit_xor h i) (sym high)
    ∙ ap (bit_xor (1 * 2 ^ n + 0)) (sym low)
    ∙ xor_block n 1 0 0 i none below
    ∙ ap (λ (l : ℕ). 1 * 2 ^ n + l) (xor_zero_l i)
    ∙ sum

bits_at : (k n i : ℕ) → i < 2 ^ n → get_or (of_bits k n) i 0 ≡ after_octets k i
bits_at k zero zero below = sym (after_none k)
bits_at k zero (suc i) below = absurd (omega (arith, below))
bits_at k (suc n) i below = elim (cases_lt i (2 ^ n)) [
  | inl low ↦ get_or_append_left (of_bits k n) _ 0 i (omega (arith, low, length_of_bits k n)) ∙ bits_at k n i low
  | inr high ↦
      let rest : i - 2 ^ n < 2 ^ n = omega (arith, below, high, pow-suc 2 n) in
      let whole : 2 ^ n + (i - 2 ^ n) ≡ i = omega (arith, high) in
      get_or-append_right (of_bits k n) _ (2 ^ n) i 0 (length_of_bits k n) high
      ∙ get_or-map (bit_xor (after_octets k (2 ^ n))) (of_bits k n) (i - 2 ^ n) 0 0 (omega (arith, rest, length_of_bits k n))
      ∙ ap (bit_xor (after_octets k (2 ^ n))) (bits_at k n (i - 2 ^ n) rest)
      ∙ sym (after_xor k (2 ^ n) (i - 2 ^ n))
      ∙ ap (after_octets k) (with_highest n (i - 2 ^ n) rest ∙ whole)
]

-- a table has what so many octets make of each number of eight bits
abbrev IsTable : ℕ → List ℕ → Type 0
IsTable k table = (i : ℕ) → i < 256 → get_or table i 0 ≡ after_octets k i

is_table : (k : ℕ) (table : List ℕ) → table ≡ of_bits k 8 → IsTable k table
is_table k table is = λ i below. ap (λ (l : List ℕ). get_or l i 0) is ∙ bits_at k 8 i below

same_one : AFTER_ONE ≡ of_bits 1 8
unfolding shifted_by_eight shifted
same_one = refl

one : IsTable 1 AFTER_ONE
one = is_table 1 AFTER_ONE same_one

same_21 : AFTER_21 ≡ of_bits 21 8
unfolding shifted_by_eight shifted
same_21 = refl

is_21 : IsTable 21 AFTER_21
is_21 = is_table 21 AFTER_21 same_21

same_22 : AFTER_22 ≡ of_bits 22 8
unfolding shifted_by_eight shifted
same_22 = refl

is_22 : IsTable 22 AFTER_22
is_22 = is_table 22 AFTER_22 same_22

same_23 : AFTER_23 ≡ of_bits 23 8
unfolding shifted_by_eight shifted
same_23 = refl

is_23 : IsTable 23 AFTER_23
is_23 = is_table 23 AFTER_23 same_23

same_24 : AFTER_24 ≡ of_bits 24 8
unfolding shifted_by_eight shifted
same_24 = refl

is_24 : IsTable 24 AFTER_24
is_24 = is_table 24 AFTER_24 same_24

pub by_one : (register : ℕ) → bit_xor (get_or AFTER_ONE (register % 256) 0) (register / 256) ≡ shifted_by_eight register
by_one register =
    ap (λ (n : ℕ). bit_xor n (register / 256)) (one (register % 256) (omega arith))
    ∙ sym (in_parts 0 register)

pub by_four : (register : ℕ) → register < 2 ^ 32
    → bit_xor (bit_xor (bit_xor (get_or AFTER_24 (register % 256) 0) (get_or AFTER_23 (register / 256 % 256) 0)) (get_or AFTER_22 (register / 65536 % 256) 0)) (get_or AFTER_21 (register / 16777216) 0)
    ≡ after_octets 24 register
by_four register fits =
    let a : get_or AFTER_24 (register % 256) 0 ≡ after_octets 24 (register % 256) = is_24 (register % 256) (omega arith) in
    let b : get_or AFTER_23 (register / 256 % 256) 0 ≡ after_octets 23 (register / 256 % 256) = is_23 (register / 256 % 256) (omega arith) in
    let c : get_or AFTER_22 (register / 65536 % 256) 0 ≡ after_octets 22 (register / 65536 % 256) = is_22 (register / 65536 % 256) (omega arith) in
    let d : get_or AFTER_21 (register / 16777216) 0 ≡ after_octets 21 (register / 16777216) = is_21 (register / 16777216) (omega (arith, fits)) in
    together a b c d (in_four 20 register)
  where
    together : {t24 t23 t22 t21 a24 a23 a22 a21 whole : ℕ} → t24 ≡ a24 → t23 ≡ a23 → t22 ≡ a22 → t21 ≡ a21 → whole ≡ bit_xor (bit_xor (bit_xor a24 a23) a22) a21
        → bit_xor (bit_xor (bit_xor t24 t23) t22) t21 ≡ whole
    together is24 is23 is22 is21 whole_is = cc

-- an octet and what stands above it
over : (a m : ℕ) → a < 256 → a + m * 256 ≡ bit_xor a (m * 256)
over a m a_lt =
    let low : (a + m * 256) % 256 ≡ a = omega (arith, a_lt) in
    let high : (a + m * 256) / 256 ≡ m = omega (arith, a_lt) in
    in_two (a + m * 256)
    ∙ ap (λ (n : ℕ). bit_xor n ((a + m * 256) / 256 * 256)) low
    ∙ ap (λ (n : ℕ). bit_xor a (n * 256)) high

taken : (r a m : ℕ) → a < 256 → shifted_by_eight (bit_xor r (a + m * 256)) ≡ bit_xor (shifted_by_eight (bit_xor r a)) m
taken r a m a_lt =
    ap (λ (n : ℕ). shifted_by_eight (bit_xor r n)) (over a m a_lt)
    ∙ ap shifted_by_eight (sym (xor_assoc r a (m * 256)))
    ∙ eight_xor (bit_xor r a) (m * 256)
    ∙ ap (bit_xor (shifted_by_eight (bit_xor r a))) (eight_above m)

-- four octets at once, the first in the lowest bits
all_taken : (r a b c d : ℕ) (rest : List ℕ) → a < 256 → b < 256 → c < 256
    → register_after (after_octets 4 (bit_xor r (a + (b + (c + d * 256) * 256) * 256))) rest ≡ register_after r (a ∷ b ∷ c ∷ d ∷ rest)
all_taken r a b c d rest a_lt b_lt c_lt =
    let s : ℕ → ℕ = shifted_by_eight in
    ap (λ (n : ℕ). register_after n rest)
    (ap (after_octets 3) (taken r a (b + (c + d * 256) * 256) a_lt)
    ∙ ap (after_octets 2) (taken (s (bit_xor r a)) b (c + d * 256) b_lt)
    ∙ ap (after_octets 1) (taken (s (bit_xor (s (bit_xor r a)) b)) c d c_lt))

word : (a b c d : ℕ) → from_le_bytes w32 (a ∷ b ∷ c ∷ d ∷ []) ≡ a + (b + (c + d * 256) * 256) * 256
word a b c d = omega arith

-- ---- registers that are joined

-- what a register that comes in later was worth at the first of the octets
linear : (l : List ℕ) (r x : ℕ) → register_after (bit_xor r x) l ≡ bit_xor (register_after r l) (after_octets (length l) x)
linear [] r x = refl
linear (o ∷ l) r x =
    ap (λ (n : ℕ). register_after (shifted_by_eight n) l) (xor_assoc r x o ∙ ap (bit_xor r) (xor_comm x o) ∙ sym (xor_assoc r o x))
    ∙ ap (λ (n : ℕ). register_after n l) (eight_xor (bit_xor r o) x)
    ∙ linear l (shifted_by_eight (bit_xor r o)) (shifted_by_eight x)

in_front : (n : ℕ) (l : List ℕ) (r : ℕ) → register_after r l ≡ register_after (register_after r (take n l)) (drop n l)
in_front zero l r = refl
in_front (suc n) [] r = refl
in_front (suc n) (o ∷ l) r = in_front n l (shifted_by_eight (bit_xor r o))

-- a register, at the octets behind so many others
abbrev later_on : List ℕ → ℕ → ℕ
later_on [] x = x
later_on (c ∷ others) x = later_on others (after_octets 4 x)

-- a register that came in may as well come in behind the others
put_off : (others : List ℕ) (r x : ℕ) (l : List ℕ) → 4 * length others ≤ length l → joined_after (bit_xor r x) others l ≡ joined_after r (others ++ later_on others x ∷ []) l
put_off [] r x l long = in_front 4 l (bit_xor r x)
put_off (c ∷ others) r x l long =
    let four : length (take 4 l) ≡ 4 = omega (arith, length-take 4 l, long) in
    ap (λ (n : ℕ). joined_after (register_after n (take 4 l)) others (drop 4 l)) (xor_assoc r x c ∙ ap (bit_xor r) (xor_comm x c) ∙ sym (xor_assoc r c x))
    ∙ ap (λ (n : ℕ). joined_after n others (drop 4 l)) (linear (take 4 l) (bit_xor r c) x ∙ ap (λ (n : ℕ). bit_xor (register_after (bit_xor r c) (take 4 l)) (after_octets n x)) four)
    ∙ put_off others (register_after (bit_xor r c) (take 4 l)) (after_octets 4 x) (drop 4 l) (omega (arith, length-drop 4 l, long))

-- where no register comes in
abbrev none_of : ℕ → List ℕ
none_of zero = []
none_of (suc n) = 0 ∷ none_of n

none_in : (n r : ℕ) (l : List ℕ) → joined_after r (none_of n) l ≡ register_after r l
none_in zero r l = refl
none_in (suc n) r l =
    ap (λ (m : ℕ). joined_after (register_after m (take 4 l)) (none_of n) (drop 4 l)) (xor_zero_r r)
    ∙ none_in n (register_after r (take 4 l)) (drop 4 l)
    ∙ sym (in_front 4 l r)

pub one_alone : (r : ℕ) (l : List ℕ) → joined_after 0 (r ∷ 0 ∷ 0 ∷ 0 ∷ 0 ∷ 0 ∷ []) l ≡ register_after r l
one_alone r l =
    ap (λ (m : ℕ). joined_after (register_after m (take 4 l)) (none_of 5) (drop 4 l)) (xor_zero_l r)
    ∙ none_in 5 (register_after r (take 4 l)) (drop 4 l)
    ∙ sym (in_front 4 l r)

-- one register takes its four octets
word_taken : (a b c d r s t u v w next : ℕ) (rest : List ℕ) → a < 256 → b < 256 → c < 256 → 20 ≤ length rest
    → next ≡ after_octets 24 (bit_xor r (from_le_bytes w32 (a ∷ b ∷ c ∷ d ∷ [])))
    → joined_after 0 (r ∷ s ∷ t ∷ u ∷ v ∷ w ∷ []) (a ∷ b ∷ c ∷ d ∷ rest) ≡ joined_after 0 (s ∷ t ∷ u ∷ v ∷ w ∷ next ∷ []) rest
word_taken a b c d r s t u v w next rest a_lt b_lt c_lt long is =
    let others : List ℕ = s ∷ t ∷ u ∷ v ∷ w ∷ [] in
    let taken : ℕ = after_octets 4 (bit_xor r (from_le_bytes w32 (a ∷ b ∷ c ∷ d ∷ []))) in
    ap (λ (n : ℕ). joined_after (register_after n (a ∷ b ∷ c ∷ d ∷ [])) others rest) (xor_zero_l r)
    ∙ ap (λ (n : ℕ). joined_after n others rest) (sym (ap (λ (n : ℕ). after_octets 4 (bit_xor r n)) (word a b c d) ∙ all_taken r a b c d [] a_lt b_lt c_lt))
    ∙ ap (λ (n : ℕ). joined_after n others rest) (sym (xor_zero_l taken))
    ∙ put_off others 0 taken rest (omega (arith, long))
    ∙ ap (λ (n : ℕ). joined_after 0 (others ++ n ∷ []) rest) (sym is)

-- and all six do
pub six_taken : (registers octets more : List ℕ) (a b c d e f u v w x y z : ℕ) → length registers ≡ 6 → length octets ≡ 24 → AreOctets octets → 20 ≤ length more
    → u ≡ word_in octets 0 → v ≡ word_in octets 4 → w ≡ word_in octets 8 → x ≡ word_in octets 12 → y ≡ word_in octets 16 → z ≡ word_in octets 20
    → a ≡ after_octets 24 (bit_xor (get_or registers 0 0) u) → b ≡ after_octets 24 (bit_xor (get_or registers 1 0) v) → c ≡ after_octets 24 (bit_xor (get_or registers 2 0) w)
    → d ≡ after_octets 24 (bit_xor (get_or registers 3 0) x) → e ≡ after_octets 24 (bit_xor (get_or registers 4 0) y) → f ≡ after_octets 24 (bit_xor (get_or registers 5 0) z)
    → joined_after 0 (a ∷ b ∷ c ∷ d ∷ e ∷ f ∷ []) more ≡ joined_after 0 registers (octets ++ more)
six_taken registers octets more a b c d e f u v w x y z six all are long u_is v_is w_is x_is y_is z_is a_is b_is c_is d_is e_is f_is =
    let r : ℕ → ℕ = λ i. get_or registers i 0 in
    let o : ℕ → ℕ = λ i. get_or octets i 0 in
    let next : ℕ → ℕ → ℕ = λ register taken. after_octets 24 (bit_xor register taken) in
    sym (
    ap (λ (l : List ℕ). joined_after 0 l (octets ++ more)) (sym (whole 6 registers six))
    ∙ ap (λ (l : List ℕ). joined_after 0 (from_on 6 0 registers) (l ++ more)) (sym (whole 24 octets all))
    ∙ word_taken (o 0) (o 1) (o 2) (o 3) (r 0) (r 1) (r 2) (r 3) (r 4) (r 5) a (from_on 20 4 octets ++ more) (are 0) (are 1) (are 2) (omega (arith, long)) (a_is ∙ ap (next (r 0)) u_is)
    ∙ word_taken (o 4) (o 5) (o 6) (o 7) (r 1) (r 2) (r 3) (r 4) (r 5) a b (from_on 16 8 octets ++ more) (are 4) (are 5) (are 6) (omega (arith, long)) (b_is ∙ ap (next (r 1)) v_is)
    ∙ word_taken (o 8) (o 9) (o 10) (o 11) (r 2) (r 3) (r 4) (r 5) a b c (from_on 12 12 octets ++ more) (are 8) (are 9) (are 10) (omega (arith, long)) (c_is ∙ ap (next (r 2)) w_is)
    ∙ word_taken (o 12) (o 13) (o 14) (o 15) (r 3) (r 4) (r 5) a b c d (from_on 8 16 octets ++ more) (are 12) (are 13) (are 14) (omega (arith, long)) (d_is ∙ ap (next (r 3)) x_is)
    ∙ word_taken (o 16) (o 17) (o 18) (o 19) (r 4) (r 5) a b c d e (from_on 4 20 octets ++ more) (are 16) (are 17) (are 18) (omega (arith, long)) (e_is ∙ ap (next (r 4)) y_is)
    ∙ word_taken (o 20) (o 21) (o 22) (o 23) (r 5) a b c d e f more (are 20) (are 21) (are 22) long (f_is ∙ ap (next (r 5)) z_is))
