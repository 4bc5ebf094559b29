-- Status-Server (RFC 5997 section 3) and its Message-Authenticator (RFC 3579 section 3.2).
use Rattle.std.specs.Prelude.{◌≡◌, ℕ, List, [], ◌∷◌, ◌++◌, length, take, replicate}
use Rattle.rad_packet.specs.Attribute.{Attribute, attribute_text, joined, of_kind}
use Rattle.rad_packet.specs.Packet.{packet_attributes, packet_text}
use Rattle.rad_auth.specs.Hmac.{hmac_md5}

-- A Message-Authenticator with this Value.
abbrev pub message_authenticator : List ℕ → Attribute
message_authenticator value = record { kind = 80; value = value }

-- The header of the packet's text, followed by these attributes.
unfoldable pub with_header_of : List ℕ → List Attribute → List ℕ
with_header_of text attributes = take 20 text ++ joined attributes

-- Sixteen zero octets, which stand in place of the Value while it is computed.
unfoldable pub no_value : List ℕ
no_value = replicate 16 0

-- The packet has exactly one Message-Authenticator, of Length 18. Its Value is the HMAC, under the secret, of the
-- packet with zeros in place of that Value.
pub record IsRightStatus (secret text : List ℕ) : Type 0 where
  pub before : List Attribute
  pub value : List ℕ
  pub after : List Attribute
  pub split : packet_attributes text ≡ before ++ message_authenticator value ∷ after
  pub none_before : of_kind 80 before ≡ []
  pub none_after : of_kind 80 after ≡ []
  pub counted : length value ≡ 16
  pub right : value ≡ hmac_md5 secret (with_header_of text (before ++ message_authenticator no_value ∷ after))

-- The Status-Server with this Identifier and Authenticator, whose only attribute is its Message-Authenticator under
-- this secret.
unfoldable pub status_server : ℕ → List ℕ → List ℕ → List ℕ
status_server identifier authenticator secret =
    let unsigned = packet_text 12 identifier authenticator (attribute_text (message_authenticator no_value)) in
    packet_text 12 identifier authenticator (attribute_text (message_authenticator (hmac_md5 secret unsigned)))
