-- HMAC with MD5 (RFC 2104 section 2). A block has 64 octets; a key is filled with zeros to one block, and a
-- longer key is replaced by its digest first.
use Rattle.std.specs.Prelude.{ℕ, ◌-◌, nat_lt, List, ◌++◌, length, map, replicate, bit_xor, if◌then◌else◌}
use Rattle.md5.specs.Md5.{md5}

-- The key, or its digest if it is longer than a block.
unfoldable pub short_key : List ℕ → List ℕ
short_key key = if nat_lt 64 (length key) then md5 key else key

-- The key filled with zeros to one block.
unfoldable pub key_block : List ℕ → List ℕ
key_block key = short_key key ++ replicate (64 - length (short_key key)) 0

-- Each octet combined with this one by exclusive or.
abbrev pub each_xor : ℕ → List ℕ → List ℕ
each_xor pad octets = map (λ octet. bit_xor octet pad) octets

-- H((K xor 5c..), H((K xor 36..), text)), where K is the key's block.
unfoldable pub hmac_md5 : List ℕ → List ℕ → List ℕ
hmac_md5 key text = md5 (each_xor 0x5c (key_block key) ++ md5 (each_xor 0x36 (key_block key) ++ text))
