-- Octets, as hexadecimal digits, two at a time.
use Rattle.std.proofs.Common.{◌≡◌, ℕ, ◌+◌, ◌*◌, ◌/◌, ◌<◌, ◌≤◌, List, length, take, drop, slice_index, Result, Ok, Err, IsErr, refl, sym, ◌∙◌, arith}
use Rattle.hex.specs.Hex.{decode_of, decode_pairs, pair_value}
use Rattle.hex.specs.declared.error.FromHexError.{FromHexError}
use Rattle.hex.proofs.HexLemmas.{decode_of-even, decode_of-ok}
use Rattle.hex.proofs.Pairs.{decode_done, decode_err, prepend}

module _ (digits : List ℕ) where
  abbrev pub DigitsRead : Type 0
  DigitsRead = (its : List ℕ) × (decode_of digits ≡ Ok its)

  -- an odd number of digits is none, so half as many octets are enough
  pub not_read : (count : ℕ) → count ≡ length digits / 2 → (length digits ≡ 2 * count → ¬ DigitsRead) → ¬ DigitsRead
  not_read count half none p = none (omega (arith, half, (decode_of-ok digits p.0 p.1).0)) p

  faulty : (r : Result ℕ FromHexError) → IsErr r → (e : FromHexError) × (r ≡ Err e)
  faulty (Ok x) h = cc h
  faulty (Err e) h = (e, refl)

  module _ (octets : List ℕ) (place : ℕ) (long : length digits ≡ 2 * length octets) (so_far : decode_pairs 0 digits ≡ prepend (take place octets) (decode_pairs (2 * place) (drop (2 * place) digits))) where
    pub filled : length octets ≤ place → decode_of digits ≡ Ok octets
    filled end = decode_of-even digits (omega (arith, long)) ∙ decode_done digits octets place end (omega (arith, long, end)) so_far

    pub refused : place < length octets → IsErr (pair_value (slice_index digits (2 * place)) (slice_index digits (2 * place + 1)) (2 * place)) → ¬ DigitsRead
    refused within none p =
        let fault = faulty (pair_value (slice_index digits (2 * place)) (slice_index digits (2 * place + 1)) (2 * place)) none in
        let err : decode_of digits ≡ Err fault.0 =
        decode_of-even digits (omega (arith, long)) ∙ decode_err digits octets place fault.0 (omega (arith, long, within)) fault.1 so_far in
        cc (sym err ∙ p.1)
