-- A digest is sixteen octets, and the octets of a number are octets.
use Rattle.std.proofs.Common.{◌≡◌, ℕ, zero, suc, ◌*◌, ◌<◌, List, length, refl, arith, length-append}
use Rattle.std.specs.Int.{bytes_high_first, bytes_low_first, byte_at}
use Rattle.md5.specs.Md5.{md5, digest_bytes}
use Rattle.rad_packet.specs.Packet.{AreOctets}
use Rattle.rad_packet.proofs.Parts.{AreOctets-append, AreOctets-cons, AreOctets-nil}

byte_at-lt : (i n : ℕ) → byte_at i n < 256
byte_at-lt zero n = omega arith
byte_at-lt (suc i) n = omega arith

pub AreOctets-bytes_high_first : (k n : ℕ) → AreOctets (bytes_high_first k n)
AreOctets-bytes_high_first zero n = AreOctets-nil
AreOctets-bytes_high_first (suc k) n = AreOctets-cons (byte_at k n) (bytes_high_first k n) (byte_at-lt k n) (AreOctets-bytes_high_first k n)

AreOctets-bytes_low_first : (i k n : ℕ) → AreOctets (bytes_low_first i k n)
AreOctets-bytes_low_first i zero n = AreOctets-nil
AreOctets-bytes_low_first i (suc k) n = AreOctets-cons (byte_at i n) (bytes_low_first (suc i) k n) (byte_at-lt i n) (AreOctets-bytes_low_first (suc i) k n)

length-digest_bytes : (h : List ℕ) (n : ℕ) → length (digest_bytes h n) ≡ n * 4
unfolding digest_bytes
length-digest_bytes h zero = refl
length-digest_bytes h (suc n) = omega (arith, length-append {A = ℕ}, length-digest_bytes h n)

AreOctets-digest_bytes : (h : List ℕ) (n : ℕ) → AreOctets (digest_bytes h n)
unfolding digest_bytes
AreOctets-digest_bytes h zero = AreOctets-nil
AreOctets-digest_bytes h (suc n) = AreOctets-append (digest_bytes h n) _ (AreOctets-digest_bytes h n) (AreOctets-bytes_low_first 0 4 _)

pub length-md5 : (message : List ℕ) → length (md5 message) ≡ 16
unfolding md5
length-md5 message = length-digest_bytes _ 4

pub AreOctets-md5 : (message : List ℕ) → AreOctets (md5 message)
unfolding md5
AreOctets-md5 message = AreOctets-digest_bytes _ 4
