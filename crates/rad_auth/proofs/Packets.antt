-- A packet's text that is given by its parts.
use Rattle.std.proofs.Common.{◌≡◌, ℕ, ◌+◌, List, ◌++◌, length, ap, ◌∙◌, arith, length-append}
use Rattle.std.proofs.lemmas.List.{take_at, drop_at}
use Rattle.rad_packet.specs.Packet.{packet_text, with_attributes, authenticator_of, attribute_octets}

module _ (code identifier : ℕ) (authenticator attributes : List ℕ) (sixteen : length authenticator ≡ 16) where
  pub authenticator_of-packet_text : authenticator_of (packet_text code identifier authenticator attributes) ≡ authenticator
  authenticator_of-packet_text = take_at authenticator attributes 16 sixteen

  pub attribute_octets-packet_text : attribute_octets (packet_text code identifier authenticator attributes) ≡ attributes
  attribute_octets-packet_text = drop_at authenticator attributes 16 sixteen

  pub length-packet_text : length (packet_text code identifier authenticator attributes) ≡ 20 + length attributes
  length-packet_text = omega (arith, length-append authenticator attributes)

  pub with_attributes-packet_text : (more : List ℕ) → with_attributes (packet_text code identifier authenticator attributes) more ≡ packet_text code identifier authenticator (attributes ++ more)
  with_attributes-packet_text more =
      ap (λ a. packet_text code identifier a (attribute_octets (packet_text code identifier authenticator attributes) ++ more)) authenticator_of-packet_text
      ∙ ap (λ xs. packet_text code identifier authenticator (xs ++ more)) attribute_octets-packet_text
