-- Authenticators (RFC 2866 section 3). A secret and a packet's text are lists of octets.
use Rattle.std.specs.Prelude.{◌≡◌, ℕ, List, ◌++◌, take, replicate}
use Rattle.md5.specs.Md5.{md5}
use Rattle.rad_packet.specs.Packet.{packet_text, authenticator_of, attribute_octets}

-- The Request Authenticator of an Accounting-Request: the digest of Code, Identifier, Length, sixteen zero
-- octets, the attributes and the secret.
unfoldable pub request_authenticator : List ℕ → List ℕ → List ℕ
request_authenticator secret text = md5 (take 4 text ++ replicate 16 0 ++ attribute_octets text ++ secret)

-- The Response Authenticator of an answer: the digest of Code, Identifier, Length, the Authenticator of the
-- packet that is answered, the answer's attributes and the secret.
unfoldable pub response_authenticator : List ℕ → List ℕ → List ℕ → List ℕ
response_authenticator secret authenticator text = md5 (take 4 text ++ authenticator ++ attribute_octets text ++ secret)

-- The packet's Authenticator is the Request Authenticator under this secret.
unfoldable pub IsRightRequest : List ℕ → List ℕ → Type 0
IsRightRequest secret text = authenticator_of text ≡ request_authenticator secret text

-- The packet's Authenticator is the Response Authenticator under this secret for this Authenticator.
unfoldable pub IsRightResponse : List ℕ → List ℕ → List ℕ → Type 0
IsRightResponse secret authenticator text = authenticator_of text ≡ response_authenticator secret authenticator text

-- The Authenticator is the Request Authenticator, under this secret, of the Accounting-Request with this Identifier and these
-- attributes.
abbrev pub IsRequestOf : ℕ → List ℕ → List ℕ → List ℕ → Type 0
IsRequestOf identifier authenticator attributes secret = IsRightRequest secret (packet_text 4 identifier authenticator attributes)

-- The Accounting-Request with this Identifier and these attributes, signed under this secret.
unfoldable pub accounting_request : ℕ → List ℕ → List ℕ → List ℕ
accounting_request identifier attributes secret =
    packet_text 4 identifier (request_authenticator secret (packet_text 4 identifier (replicate 16 0) attributes)) attributes

-- The Accounting-Response with this Identifier and these attributes, to a packet with this Authenticator, signed under
-- this secret.
unfoldable pub accounting_response : ℕ → List ℕ → List ℕ → List ℕ → List ℕ
accounting_response identifier authenticator attributes secret =
    packet_text 5 identifier (response_authenticator secret authenticator (packet_text 5 identifier authenticator attributes)) attributes
