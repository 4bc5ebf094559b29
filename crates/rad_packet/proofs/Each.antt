-- What holds of each attribute of a list. Proofs of the crates above cite these.
use Rattle.std.proofs.Common.{ℕ, List, [], ◌∷◌, ◌++◌, drop}
use Rattle.std.specs.List.{AllByRecursion}
use Rattle.rad_packet.specs.Attribute.{IsAttribute}
use Rattle.rad_packet.specs.Packet.{IsPacketText, packet_attributes}
use Rattle.rad_packet.proofs.Joined.{attributes_of-is}

module _ {X : Type 0} (P : X → Type 0) where
  pub AllByRecursion-append : (xs ys : List X) → AllByRecursion P xs → AllByRecursion P ys → AllByRecursion P (xs ++ ys)
  AllByRecursion-append [] ys a b = b
  AllByRecursion-append (x ∷ xs) ys a b = (a.0, AllByRecursion-append xs ys a.1 b)

  pub AllByRecursion-left : (xs ys : List X) → AllByRecursion P (xs ++ ys) → AllByRecursion P xs
  AllByRecursion-left [] ys a = tt
  AllByRecursion-left (x ∷ xs) ys a = (a.0, AllByRecursion-left xs ys a.1)

  pub AllByRecursion-right : (xs ys : List X) → AllByRecursion P (xs ++ ys) → AllByRecursion P ys
  AllByRecursion-right [] ys a = a
  AllByRecursion-right (x ∷ xs) ys a = AllByRecursion-right xs ys a.1

-- each attribute of a packet is one
pub packet_attributes-each : (text : List ℕ) → IsPacketText text → AllByRecursion IsAttribute (packet_attributes text)
packet_attributes-each text p = rw (attributes_of-is (drop 20 text) p.attributes.0 p.attributes.1) p.attributes.1.each
