-- What reading octets tells of whether they are a packet, without padding.
use Rattle.std.proofs.Common.{◌≡◌, ◌≢◌, ℕ, List, [], length, take, sym, ap, ◌∙◌, subst}
use Rattle.std.proofs.lemmas.List.{append-nil}
use Rattle.std.proofs.Math.Seq.{take-length}
use Rattle.rad_packet.specs.Packet.{IsPacketText}
use Rattle.rad_packet.specs.Reading.{ReadsAs, Refuses}
use Rattle.rad_packet.specs.declared.faults.ReadFault.{ReadFault}
use Rattle.rad_packet.proofs.OneReading.{read_front, reads_alone}
use Rattle.rad_packet.proofs.Exclusive.{read_or_refused}

reads_itself : (octets : List ℕ) → IsPacketText octets → ReadsAs octets octets
reads_itself octets p = record { is_packet = p; padding = []; whole = sym (append-nil octets) }

-- what is refused is no packet
pub refused_is_none : (octets : List ℕ) (fault : ReadFault) → Refuses octets fault → ¬ IsPacketText octets
refused_is_none octets fault r p = read_or_refused octets octets fault (reads_itself octets p) r

-- nor is what reads as a packet of another length
pub padded_is_none : (octets packet : List ℕ) → ReadsAs octets packet → length packet ≢ length octets → ¬ IsPacketText octets
padded_is_none octets packet r n p = n (ap length (reads_alone octets packet p r))

-- what reads as a packet of its own length is that packet
pub same_is_whole : (octets packet : List ℕ) → ReadsAs octets packet → length packet ≡ length octets → packet ≡ octets
same_is_whole octets packet r n = read_front octets packet r ∙ ap (λ (m : ℕ). take m octets) n ∙ take-length octets

-- and it is one
pub same_is_packet : (octets packet : List ℕ) → ReadsAs octets packet → length packet ≡ length octets → IsPacketText octets
same_is_packet octets packet r n = subst IsPacketText (same_is_whole octets packet r n) r.is_packet
