-- The CRC-32 of octets (ISO 3309): the remainder of a division of polynomials over two elements, whose highest powers
-- stand in the lowest bits.
use Rattle.std.specs.Prelude.{ℕ, ◌/◌, ◌%◌, List, [], ◌∷◌, bit_xor, ◌==◌, if◌then◌else◌}

-- the register after one more bit
unfoldable pub shifted : ℕ → ℕ
shifted register = if register % 2 == 1 then bit_xor (register / 2) 0xedb88320 else register / 2

unfoldable pub shifted_by_eight : ℕ → ℕ
shifted_by_eight register = shifted (shifted (shifted (shifted (shifted (shifted (shifted (shifted register)))))))

abbrev pub register_after : ℕ → List ℕ → ℕ
register_after register [] = register
register_after register (octet ∷ octets) = register_after (shifted_by_eight (bit_xor register octet)) octets

unfoldable pub crc32 : List ℕ → ℕ
crc32 octets = bit_xor (register_after 0xffffffff octets) 0xffffffff
