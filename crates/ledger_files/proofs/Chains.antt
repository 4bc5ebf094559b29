-- What one line more adds to a chain.
use Rattle.std.proofs.Common.{◌≡◌, ℕ, List, [], ◌∷◌, ◌++◌, sym, ap, ◌∙◌}
use Rattle.std.specs.Prelude.{map}
use Rattle.std.proofs.lemmas.List.{map-append}
use Rattle.std.proofs.lemmas.List.Sums.{fold_push}
use Rattle.sha2.specs.Sha256.{sha256}
use Rattle.ledger_files.specs.Chains.{chain_after, chain_from, chain_of, chain_start}

pub digest_more : (sum : List ℕ) (digests : List (List ℕ)) (digest : List ℕ)
    → chain_from sum (digests ++ digest ∷ []) ≡ chain_after (chain_from sum digests) digest
digest_more sum digests digest = fold_push chain_after sum digests digest

pub line_more : (lines : List (List ℕ)) (line : List ℕ) → chain_of (lines ++ line ∷ []) ≡ chain_after (chain_of lines) (sha256 line)
line_more lines line =
    ap (chain_from chain_start) (map-append sha256 lines (line ∷ [])) ∙ digest_more chain_start (map sha256 lines) (sha256 line)

-- What a chain is behind one more digest, or one more line.
pub with_digest : (old new sum : List ℕ) (digests : List (List ℕ)) (digest : List ℕ) → new ≡ chain_after old digest → old ≡ chain_from sum digests
    → new ≡ chain_from sum (digests ++ digest ∷ [])
with_digest old new sum digests digest e h = e ∙ ap (λ (x : List ℕ). chain_after x digest) h ∙ sym (digest_more sum digests digest)

pub with_line : (old new : List ℕ) (lines : List (List ℕ)) (line : List ℕ) → new ≡ chain_after old (sha256 line) → old ≡ chain_of lines
    → new ≡ chain_of (lines ++ line ∷ [])
with_line old new lines line e h = e ∙ ap (λ (x : List ℕ). chain_after x (sha256 line)) h ∙ sym (line_more lines line)
