use Rattle.std.proofs.Common.{◌≡◌, ◌∙◌, ◌++◌, ℕ, List, ap, sym, refl}
use Rattle.rad_packet.specs.Attribute.{joined}
use Rattle.rad_packet.specs.Packet.{IsPacketText, packet_text, code_of, identifier_of, authenticator_of, attribute_octets, packet_attributes}
use Rattle.rad_packet.proofs.Parts.{text-is_parts, length-authenticator_of}
use Rattle.rad_packet.proofs.Walk.{joined-packet_attributes}
use Rattle.rad_auth.specs.Authenticator.{IsRightResponse, response_authenticator}
use Rattle.rad_auth.specs.Mark.{mark_attribute}
use Rattle.rad_auth.proofs.OneKind.{same_last, SameParts}
use Rattle.rad_auth.proofs.Signing.{response_authenticator-placed}
use Rattle.rad_auth.proofs.laws.one_response.Goals as goal

-- a packet of this Code and Identifier is that of its Authenticator and its attributes
response_of_parts : (text : List ℕ) (identifier : ℕ) → IsPacketText text → code_of text ≡ 5 → identifier_of text ≡ identifier → text ≡ packet_text 5 identifier (authenticator_of text) (attribute_octets text)
response_of_parts text identifier p code id =
    text-is_parts text p
    ∙ ap (λ c. packet_text c (identifier_of text) (authenticator_of text) (attribute_octets text)) code
    ∙ ap (λ i. packet_text 5 i (authenticator_of text) (attribute_octets text)) id

-- two that have one Identifier and the same attributes, and are right for one Authenticator, are one
same_response : (secret request a b : List ℕ) (identifier : ℕ) → IsPacketText a → IsPacketText b → a ≡ packet_text 5 identifier (authenticator_of a) (attribute_octets a) → b ≡ packet_text 5 identifier (authenticator_of b) (attribute_octets b)
    → attribute_octets a ≡ attribute_octets b → IsRightResponse secret request a → IsRightResponse secret request b → a ≡ b
unfolding IsRightResponse
same_response secret request a b identifier p q pa pb octets right right' =
    let xs = attribute_octets a in
    let pb' : b ≡ packet_text 5 identifier (authenticator_of b) xs = pb ∙ ap (packet_text 5 identifier (authenticator_of b)) (sym octets) in
    let authenticator : authenticator_of a ≡ authenticator_of b =
    right ∙ ap (response_authenticator secret request) pa
    ∙ response_authenticator-placed secret request 5 identifier (authenticator_of a) (authenticator_of b) xs (length-authenticator_of a p.least) (length-authenticator_of b q.least)
    ∙ sym (ap (response_authenticator secret request) pb') ∙ sym right' in
    pa ∙ ap (λ x. packet_text 5 identifier x xs) authenticator ∙ sym pb'

pub returns : goal.returns
returns c = λ head sending reply client home a b p q.
    let same : SameParts p.before (mark_attribute p.mark) p.after q.before (mark_attribute q.mark) q.after =
    same_last 33 p.before (mark_attribute p.mark) p.after q.before (mark_attribute q.mark) q.after p.returned.last q.returned.last refl refl (sym p.returned.split ∙ q.returned.split) in
    let attributes : packet_attributes a ≡ packet_attributes b =
    p.response_attributes ∙ ap (λ xs. xs ++ p.after) same.before ∙ ap (λ ys. q.before ++ ys) same.after ∙ sym q.response_attributes in
    let octets : attribute_octets a ≡ attribute_octets b =
    sym (joined-packet_attributes a p.response_packet) ∙ ap joined attributes ∙ joined-packet_attributes b q.response_packet in
    same_response client head.authenticator a b head.identifier p.response_packet q.response_packet
    (response_of_parts a head.identifier p.response_packet p.response_code p.response_identifier) (response_of_parts b head.identifier q.response_packet q.response_code q.response_identifier)
    octets p.response_right q.response_right
