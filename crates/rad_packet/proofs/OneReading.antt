-- What a datagram that reads as a packet tells of it. Proofs of the crates above cite these.
use Rattle.std.proofs.Common.{◌≡◌, ℕ, ◌<◌, List, [], length, take, refl, sym, ap, ◌∙◌, arith}
use Rattle.std.proofs.lemmas.List.{append-nil, get_or_append_left, take_at}
use Rattle.rad_packet.specs.Packet.{IsPacketText, length_of}
use Rattle.rad_packet.specs.Reading.{ReadsAs}

-- its Length is the packet's
pub read_length : (datagram packet : List ℕ) → ReadsAs datagram packet → length_of datagram ≡ length packet
read_length datagram packet r =
    let high : 2 < length packet = omega (arith, r.is_packet.least) in
    let low : 3 < length packet = omega (arith, r.is_packet.least) in
    ap length_of r.whole ∙ (rw (get_or_append_left packet r.padding 0 2 high, get_or_append_left packet r.padding 0 3 low) r.is_packet.counted)

-- the packet is its front
pub read_front : (datagram packet : List ℕ) → ReadsAs datagram packet → packet ≡ take (length packet) datagram
read_front datagram packet r = sym (ap (take (length packet)) r.whole ∙ take_at packet r.padding (length packet) refl)

-- it reads as no other packet
pub one_packet : (datagram p q : List ℕ) → ReadsAs datagram p → ReadsAs datagram q → p ≡ q
one_packet datagram p q a b =
    let as_long : length p ≡ length q = sym (read_length datagram p a) ∙ read_length datagram q b in
    read_front datagram p a ∙ ap (λ (n : ℕ). take n datagram) as_long ∙ sym (read_front datagram q b)

-- a packet's text reads as itself alone
pub reads_alone : (text packet : List ℕ) → IsPacketText text → ReadsAs text packet → packet ≡ text
reads_alone text packet p r = one_packet text packet text r (record { is_packet = p; padding = []; whole = sym (append-nil text) })
