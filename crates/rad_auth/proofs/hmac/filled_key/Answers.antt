use Rattle.std.proofs.Common.{◌≡◌, ℕ, ◌<◌, ◌≤◌, List, ◌++◌, length, drop, replicate, refl, ◌∙◌, arith}
use Rattle.std.proofs.lemmas.Bool.Decides.{nat_tests}
use Rattle.std.proofs.lemmas.List.{drop-replicate}
use Rattle.md5.specs.Md5.{md5}
use Rattle.rad_auth.specs.Hmac.{key_block, short_key}
use Rattle.rad_auth.proofs.hmac.filled_key.Goals as goal

short_key_of_long : (key : List ℕ) → 64 < length key → short_key key ≡ md5 key
unfolding short_key
short_key_of_long key h = grind (arith, nat_tests)

short_key_of_short : (key : List ℕ) → length key ≤ 64 → short_key key ≡ key
unfolding short_key
short_key_of_short key h = grind (arith, nat_tests)

-- a buffer of zeros with a short key at its front
key_block_is : (n : ℕ) (key short buffer : List ℕ) → n ≡ 64 → short_key key ≡ short → buffer ≡ short ++ drop (length short) (replicate n 0) → buffer ≡ key_block key
unfolding key_block
key_block_is n key short buffer size is filled = rw (is, filled, drop-replicate {X = ℕ} (length short) n 0, size) refl

pub returns-then-key-gt-BLOCK_LENGTH : goal.returns-then-key-gt-BLOCK_LENGTH
returns-then-key-gt-BLOCK_LENGTH c =
    key_block_is 64 c.args.key.now c.digest.result _ refl (short_key_of_long _ c.if-key-gt-BLOCK_LENGTH.true ∙ (cc)) c.put.ensures

pub returns-else-key-gt-BLOCK_LENGTH : goal.returns-else-key-gt-BLOCK_LENGTH
returns-else-key-gt-BLOCK_LENGTH c =
    key_block_is 64 c.args.key.now c.args.key.now _ refl (short_key_of_short _ c.if-key-gt-BLOCK_LENGTH.false) c.put-else-key-gt-BLOCK_LENGTH.ensures
