-- Characters that are printed by their octets.
use Rattle.std.proofs.Common.{◌≡◌, ℕ, List, ◌+◌, ◌/◌, ◌%◌, ◌<◌, ◌≤◌, true, false, lt-ltb, [], ◌∷◌, Some, refl, arith, inl, inr}
use Rattle.std.proofs.lemmas.Bool.{and_parts, cases_lt, le-ltb}
use Rattle.std.proofs.lemmas.Bool.Decides.{nat_tests}
use Rattle.std.specs.Prelude.{nat_le, Bool, ◌&&◌, ◌||◌, ◌==◌}
use Rattle.std.proofs.lemmas.Str.{encode_ascii}
use Rattle.std.specs.Char.{encode_utf8, is_control}
use Rattle.std.specs.List.{flat_map, list_all, list_any}
use Rattle.rad_log.specs.Escaped.{escaped, is_plain as is_plain_in_log}
use Rattle.rad_audit.specs.Cells.{is_plain}
use Rattle.rad_audit.specs.Shown.{format_runs, is_escaped, is_format, octet_text}
use Rattle.rad_audit.specs.declared.shown.Within.{Within}
use Rattle.rad_audit.specs.declared.shown.Within.TheVariants.{Line, Row}

no_plain : (o : ℕ) → is_plain o ≡ false → is_plain_in_log (Some 92) o ≡ false
no_plain o e = grind arith

one : (o : ℕ) → is_plain o ≡ false → escaped (Some 92) (o ∷ []) ≡ flat_map octet_text (o ∷ [])
one o e = rw (no_plain o e) refl

more : (o : ℕ) (os : List ℕ) → 127 ≤ o → escaped (Some 92) os ≡ flat_map octet_text os → escaped (Some 92) (o ∷ os) ≡ flat_map octet_text (o ∷ os)
more o os l e = rw (no_plain o (grind arith), e) refl

-- the octets of a character that is not ASCII
wide : (c : ℕ) → 128 ≤ c → escaped (Some 92) (encode_utf8 c) ≡ flat_map octet_text (encode_utf8 c)
unfolding encode_utf8
wide c l = elim (cases_lt c 2048) [
  | inl two ↦ rw (le-ltb c 128 l, lt-ltb c 2048 two) (more (192 + c / 64) ((128 + c % 64) ∷ []) (omega arith) (more (128 + c % 64) [] (omega arith) refl))
  | inr past ↦ elim (cases_lt c 65536) [
    | inl three ↦ rw (le-ltb c 128 l, le-ltb c 2048 past, lt-ltb c 65536 three) (more (224 + c / 4096) ((128 + (c / 64) % 64) ∷ (128 + c % 64) ∷ []) (omega arith) (more (128 + (c / 64) % 64) ((128 + c % 64) ∷ []) (omega arith) (more (128 + c % 64) [] (omega arith) refl)))
    | inr four ↦ rw (le-ltb c 128 l, le-ltb c 2048 past, le-ltb c 65536 four) (more (240 + c / 262144) ((128 + (c / 4096) % 64) ∷ (128 + (c / 64) % 64) ∷ (128 + c % 64) ∷ []) (omega arith) (more (128 + (c / 4096) % 64) ((128 + (c / 64) % 64) ∷ (128 + c % 64) ∷ []) (omega arith) (more (128 + (c / 64) % 64) ((128 + c % 64) ∷ []) (omega arith) (more (128 + c % 64) [] (omega arith) refl))))
  ]
]

-- no format character is ASCII
none_in : (runs : List (ℕ × ℕ)) (c : ℕ) → c < 128 → list_all (λ run. nat_le 128 run.0) runs ≡ true → list_any (λ run. nat_le run.0 c && nat_le c run.1) runs ≡ false
none_in [] c l h = refl
none_in (r ∷ rs) c l h =
    let parts = and_parts (nat_le 128 r.0) (list_all (λ run. nat_le 128 run.0) rs) h in
    let past : nat_le r.0 c ≡ false = grind (arith, nat_tests, parts.0, l) in
    rw (past, none_in rs c l parts.1) refl

no_format : (c : ℕ) → c < 128 → is_format c ≡ false
no_format c l = none_in format_runs c l refl

no_plain_of : (c : ℕ) (f : Bool) → f ≡ false → c < 128 → ((is_control c || f) || (c == 37 || c == 92)) ≡ true → is_plain c ≡ false
no_plain_of c true none l e = absurd cc
no_plain_of c false none l e = grind arith

in_row : (within : Within) (c : ℕ) → is_escaped within c ≡ true → is_escaped Row c ≡ true
in_row Line c e = rw e refl
in_row Row c e = e

pub character_is : (within : Within) (c : ℕ) → is_escaped within c ≡ true → escaped (Some 92) (encode_utf8 c) ≡ flat_map octet_text (encode_utf8 c)
character_is within c e = elim (cases_lt c 128) [
  | inl small ↦
      rw (encode_ascii c small) (one c (no_plain_of c (is_format c) (no_format c small) small (in_row within c e)))
  | inr great ↦ wide c great
]
