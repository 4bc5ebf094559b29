-- Lines that are sealed one behind the other.
use Rattle.std.proofs.Common.{◌≡◌, ℕ, ◌+◌, ◌-◌, List, [], ◌∷◌, ◌++◌, length, take, drop, refl, sym, ap, ◌∙◌, append-nil, append_assoc, arith, length-append}
use Rattle.std.specs.Prelude.{map}
use Rattle.std.specs.List.{concat}
use Rattle.std.proofs.Math.Seq.{take-append_seam, drop-append_seam}
use Rattle.std.proofs.lemmas.List.{map-append}
use Rattle.std.proofs.lemmas.List.Folds.{concat-append}
use Rattle.std.proofs.lemmas.List.Sums.{fold-append}
use Rattle.sha2.specs.Sha256.{sha256}
use Rattle.sha2.proofs.Facts256.{length-sha256}
use Rattle.ledger_files.specs.Chains.{chain_after, chain_from}
use Rattle.ledger_files.specs.Tails.{bodies_in, body_in, line_after, lines_after, sum_after, sums_after, tail_of, text_after}
use Rattle.ledger_files.proofs.Tails.{tail_long}

pub body_there : (body tail : List ℕ) → length tail ≡ 75 → body_in (body ++ tail) ≡ body
body_there body tail n =
    let count : length (body ++ tail) - 75 ≡ length body = omega (arith, length-append body tail, n) in
    ap (λ (k : ℕ). take k (body ++ tail)) count ∙ take-append_seam body tail

pub seal_long : (before body : List ℕ) → length (tail_of (sum_after before body)) ≡ 75
seal_long before body = tail_long (sum_after before body) (length-sha256 (before ++ sha256 body))

pub line_long : (before body : List ℕ) → length (line_after before body) ≡ length body + 75
line_long before body = omega (arith, length-append body (tail_of (sum_after before body)), seal_long before body)

pub line_body : (before body : List ℕ) → body_in (line_after before body) ≡ body
line_body before body = body_there body (tail_of (sum_after before body)) (seal_long before body)

pub lines_bodies : (before : List ℕ) (bodies : List (List ℕ)) → bodies_in (lines_after before bodies) ≡ bodies
lines_bodies before [] = refl
lines_bodies before (body ∷ bodies) =
    ap (λ (x : List ℕ). x ∷ bodies_in (lines_after (sum_after before body) bodies)) (line_body before body)
    ∙ ap (λ (x : List (List ℕ)). body ∷ x) (lines_bodies (sum_after before body) bodies)

pub lines_append : (before : List ℕ) (a b : List (List ℕ)) → lines_after before (a ++ b) ≡ lines_after before a ++ lines_after (sums_after before a) b
lines_append before [] b = refl
lines_append before (body ∷ a) b = ap (λ (x : List (List ℕ)). line_after before body ∷ x) (lines_append (sum_after before body) a b)

pub text_append : (before : List ℕ) (a b : List (List ℕ)) → text_after before (a ++ b) ≡ text_after before a ++ text_after (sums_after before a) b
text_append before a b = ap concat (lines_append before a b) ∙ concat-append (lines_after before a) (lines_after (sums_after before a) b)

pub text_one : (before : List ℕ) (a : List (List ℕ)) (body : List ℕ) → text_after before (a ++ body ∷ []) ≡ text_after before a ++ line_after (sums_after before a) body
text_one before a body =
    text_append before a (body ∷ []) ∙ ap (λ (x : List ℕ). text_after before a ++ x) (append-nil (line_after (sums_after before a) body))

pub sums_append : (before : List ℕ) (a b : List (List ℕ)) → sums_after before (a ++ b) ≡ sums_after (sums_after before a) b
sums_append before a b = ap (chain_from before) (map-append sha256 a b) ∙ fold-append chain_after before (map sha256 a) (map sha256 b)

pub sums_one : (before : List ℕ) (a : List (List ℕ)) (body : List ℕ) → sums_after before (a ++ body ∷ []) ≡ sum_after (sums_after before a) body
sums_one before a body = sums_append before a (body ∷ [])

pub lines_count : (before : List ℕ) (bodies : List (List ℕ)) → length (lines_after before bodies) ≡ length bodies
lines_count before [] = refl
lines_count before (body ∷ bodies) = omega (arith, lines_count (sum_after before body) bodies)

-- The tail of a line among octets is set.
pub tail_set : (octets front body tail rest : List ℕ) (end : ℕ) (sum : List ℕ) → octets ≡ front ++ ((body ++ tail) ++ rest) → length tail ≡ 75 → end ≡ length (front ++ (body ++ tail))
    → (take (end - 75) (take end octets) ++ tail_of sum) ++ drop end octets ≡ front ++ ((body ++ tail_of sum) ++ rest)
tail_set octets front body tail rest end sum e n l =
    let all : List ℕ = front ++ (body ++ tail) in
    let whole : octets ≡ all ++ rest = e ∙ sym (append_assoc front (body ++ tail) rest) in
    let its : take end octets ≡ all = ap (take end) whole ∙ ap (λ (k : ℕ). take k (all ++ rest)) l ∙ take-append_seam all rest in
    let behind : drop end octets ≡ rest = ap (drop end) whole ∙ ap (λ (k : ℕ). drop k (all ++ rest)) l ∙ drop-append_seam all rest in
    let parts : all ≡ (front ++ body) ++ tail = sym (append_assoc front body tail) in
    let count : end - 75 ≡ length (front ++ body) = omega (arith, l, ap length parts, length-append (front ++ body) tail, n) in
    let before : take (end - 75) (take end octets) ≡ front ++ body =
    ap (take (end - 75)) (its ∙ parts) ∙ ap (λ (k : ℕ). take k ((front ++ body) ++ tail)) count ∙ take-append_seam (front ++ body) tail in
    ap (λ (x : List ℕ). (x ++ tail_of sum) ++ drop end octets) before
    ∙ ap (λ (x : List ℕ). ((front ++ body) ++ tail_of sum) ++ x) behind
    ∙ ap (λ (x : List ℕ). x ++ rest) (append_assoc front body (tail_of sum))
    ∙ append_assoc front (body ++ tail_of sum) rest
