-- Laws of the forwarded packet. Proofs of the crates above cite these.
use Rattle.std.proofs.Common.{◌≡◌, ℕ, ◌+◌, ◌<◌, ◌≤◌, List, [], ◌∷◌, ◌++◌, length, replicate, refl, sym, ap, ◌∙◌, subst, arith, length-append, length-drop}
use Rattle.rad_packet.specs.Attribute.{IsAttribute, attribute_text, joined, attributes_of}
use Rattle.rad_packet.specs.Packet.{IsPacketText, code_of, identifier_of, attribute_octets, packet_attributes, packet_text, with_attributes}
use Rattle.rad_packet.proofs.Each.{AllByRecursion-append, packet_attributes-each}
use Rattle.rad_packet.proofs.Joined.{attributes_of-joined}
use Rattle.rad_packet.proofs.Parts.{AreOctets-append, AreOctets-drop}
use Rattle.rad_packet.proofs.Walk.{joined-append, joined-packet_attributes}
use Rattle.rad_auth.specs.Authenticator.{IsRightRequest, request_authenticator}
use Rattle.rad_auth.specs.Forwarding.{forwarded}
use Rattle.rad_auth.specs.Mark.{mark_attribute, mark_text, EndsWithMark}
use Rattle.rad_auth.specs.declared.mark.Mark.{Mark}
use Rattle.rad_auth.proofs.Marks.{IsAttribute-mark, attribute_text-mark, joined-mark, length-mark_text, AreOctets-mark_text}
use Rattle.rad_auth.proofs.Signing.{code_of-accounting_request, identifier_of-accounting_request, attribute_octets-accounting_request, length-accounting_request, IsRightRequest-accounting_request, IsPacketText-accounting_request, accounting_request-made}
use Rattle.rad_auth.proofs.Packets.{with_attributes-packet_text}

-- The forwarded packet has the request's attributes in their order, and then the mark.
module _ (text : List ℕ) (mark : Mark) (identifier : ℕ) (secret : List ℕ) where
  octets : List ℕ
  octets = attribute_octets text ++ mark_text mark

  pub forwarded-code : code_of (forwarded text mark identifier secret) ≡ 4
  unfolding forwarded
  forwarded-code = code_of-accounting_request identifier _ secret

  pub forwarded-identifier : identifier_of (forwarded text mark identifier secret) ≡ identifier
  unfolding forwarded
  forwarded-identifier = identifier_of-accounting_request identifier _ secret

  pub forwarded-right : IsRightRequest secret (forwarded text mark identifier secret)
  unfolding forwarded
  forwarded-right = IsRightRequest-accounting_request identifier _ secret

  pub forwarded-attribute_octets : attribute_octets (forwarded text mark identifier secret) ≡ attribute_octets text ++ mark_text mark
  unfolding forwarded
  forwarded-attribute_octets = attribute_octets-accounting_request identifier _ secret

  whole : IsPacketText text → attribute_octets text ++ mark_text mark ≡ joined (packet_attributes text ++ mark_attribute mark ∷ [])
  whole p =
      ap (λ xs. xs ++ mark_text mark) (sym (joined-packet_attributes text p))
      ∙ ap (λ xs. joined (packet_attributes text) ++ xs) (sym (joined-mark mark))
      ∙ sym (joined-append (packet_attributes text) (mark_attribute mark ∷ []))

  pub forwarded-attributes : IsPacketText text → packet_attributes (forwarded text mark identifier secret) ≡ packet_attributes text ++ mark_attribute mark ∷ []
  forwarded-attributes p =
      ap attributes_of (forwarded-attribute_octets ∙ whole p) ∙ attributes_of-joined (packet_attributes text ++ mark_attribute mark ∷ [])

  pub forwarded-ends : IsPacketText text → EndsWithMark mark (forwarded text mark identifier secret)
  forwarded-ends p = record { before = packet_attributes text; last = forwarded-attributes p }

  pub forwarded-length : 20 ≤ length text → length (forwarded text mark identifier secret) ≡ length text + 12
  unfolding forwarded
  forwarded-length least =
      length-accounting_request identifier (attribute_octets text ++ mark_text mark) secret
      ∙ (omega (arith, length-append (attribute_octets text) (mark_text mark), length-mark_text mark, length-drop 20 text))

  pub forwarded-packet : IsPacketText text → length text ≤ 4084 → identifier < 256 → IsPacketText (forwarded text mark identifier secret)
  unfolding forwarded
  forwarded-packet p fits i =
      IsPacketText-accounting_request identifier (attribute_octets text ++ mark_text mark) secret i
      (AreOctets-append (attribute_octets text) (mark_text mark) (AreOctets-drop 20 text p.octets) (AreOctets-mark_text mark))
      (omega (arith, length-append (attribute_octets text) (mark_text mark), length-mark_text mark, length-drop 20 text, p.least)) (
        packet_attributes text ++ mark_attribute mark ∷ [],
        record {
          each = AllByRecursion-append IsAttribute (packet_attributes text) (mark_attribute mark ∷ []) (packet_attributes-each text p) (IsAttribute-mark mark, tt);
          whole = whole p;
        },
      )

-- so a packet that is the forwarded one ends with its mark
pub EndsWithMark-forwarded : (text : List ℕ) (mark : Mark) (identifier : ℕ) (secret packet : List ℕ) → IsPacketText text → packet ≡ forwarded text mark identifier secret → EndsWithMark mark packet
EndsWithMark-forwarded text mark identifier secret packet p e =
    let P : List ℕ → Type 0 = λ t. EndsWithMark mark t in
    subst P (sym e) (forwarded-ends text mark identifier secret p)

-- What `forward` does: it begins a packet, adds the request's attributes and the mark, takes the digest and
-- writes it in the Authenticator's place.
pub forwarded-made : (text secret begun pushed marked digest made : List ℕ) (mark : Mark) (identifier : ℕ)
    → begun ≡ packet_text 4 identifier (replicate 16 0) []
    → pushed ≡ with_attributes begun (attribute_octets text)
    → marked ≡ with_attributes pushed (attribute_text (mark_attribute mark))
    → digest ≡ request_authenticator secret marked
    → made ≡ packet_text (code_of marked) (identifier_of marked) digest (attribute_octets marked)
    → made ≡ forwarded text mark identifier secret
unfolding forwarded
forwarded-made text secret begun pushed marked digest made mark identifier b p m d e =
    let zeros : List ℕ = replicate 16 0 in
    let first : pushed ≡ packet_text 4 identifier zeros (attribute_octets text) =
    p ∙ ap (λ t. with_attributes t (attribute_octets text)) b ∙ with_attributes-packet_text 4 identifier zeros [] refl (attribute_octets text) in
    let second : marked ≡ packet_text 4 identifier zeros (attribute_octets text ++ mark_text mark) =
    m ∙ ap (λ t. with_attributes t (attribute_text (mark_attribute mark))) first
    ∙ with_attributes-packet_text 4 identifier zeros (attribute_octets text) refl (attribute_text (mark_attribute mark))
    ∙ ap (λ xs. packet_text 4 identifier zeros (attribute_octets text ++ xs)) (attribute_text-mark mark) in
    accounting_request-made identifier (attribute_octets text ++ mark_text mark) secret marked made second
    (e ∙ ap (λ x. packet_text (code_of marked) (identifier_of marked) x (attribute_octets marked)) d)
