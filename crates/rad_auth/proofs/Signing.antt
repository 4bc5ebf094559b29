-- Packets that are signed: each is right by its authenticator, and has the parts that it was made of.
use Rattle.std.proofs.Common.{◌≡◌, ℕ, ◌+◌, ◌<◌, ◌≤◌, List, [], ◌∷◌, ◌++◌, length, set, take, drop, replicate, ◌/◌, ◌%◌, refl, sym, ap, ◌∙◌, lit<, length-append, append_assoc, arith}
use Rattle.std.proofs.lemmas.List.{append-nil, drop_at}
use borrow.Rule.Slice.PartMut.{put_mid}
use Rattle.md5.specs.Md5.{md5}
use Rattle.rad_packet.specs.Attribute.{AreAttributes}
use Rattle.rad_packet.specs.Packet.{AreOctets, IsPacketText, packet_text, code_of, identifier_of, authenticator_of, attribute_octets}
use Rattle.rad_packet.proofs.Parts.{packet_text-is, text-is_parts, length-authenticator_of}
use Rattle.rad_auth.specs.Authenticator.{request_authenticator, response_authenticator, IsRequestOf, IsRightRequest, IsRightResponse, accounting_request, accounting_response}
use Rattle.rad_auth.proofs.Digests.{length-md5, AreOctets-md5}
use Rattle.rad_auth.proofs.Packets.{authenticator_of-packet_text, attribute_octets-packet_text, length-packet_text}

pub length-request_authenticator : (secret text : List ℕ) → length (request_authenticator secret text) ≡ 16
unfolding request_authenticator
length-request_authenticator secret text = length-md5 _

AreOctets-request_authenticator : (secret text : List ℕ) → AreOctets (request_authenticator secret text)
unfolding request_authenticator
AreOctets-request_authenticator secret text = AreOctets-md5 _

pub length-response_authenticator : (secret authenticator text : List ℕ) → length (response_authenticator secret authenticator text) ≡ 16
unfolding response_authenticator
length-response_authenticator secret authenticator text = length-md5 _

AreOctets-response_authenticator : (secret authenticator text : List ℕ) → AreOctets (response_authenticator secret authenticator text)
unfolding response_authenticator
AreOctets-response_authenticator secret authenticator text = AreOctets-md5 _

-- neither authenticator depends on what stands in its place
request_authenticator-placed : (secret : List ℕ) (code identifier : ℕ) (a b attributes : List ℕ) → length a ≡ 16 → length b ≡ 16 → request_authenticator secret (packet_text code identifier a attributes) ≡ request_authenticator secret (packet_text code identifier b attributes)
unfolding request_authenticator
request_authenticator-placed secret code identifier a b attributes m n =
    let with : List ℕ → List ℕ = λ xs. md5 (take 4 (packet_text code identifier a attributes) ++ replicate 16 0 ++ xs ++ secret) in
    ap with (attribute_octets-packet_text code identifier a attributes m ∙ sym (attribute_octets-packet_text code identifier b attributes n))

pub response_authenticator-placed : (secret authenticator : List ℕ) (code identifier : ℕ) (a b attributes : List ℕ) → length a ≡ 16 → length b ≡ 16 → response_authenticator secret authenticator (packet_text code identifier a attributes) ≡ response_authenticator secret authenticator (packet_text code identifier b attributes)
unfolding response_authenticator
response_authenticator-placed secret authenticator code identifier a b attributes m n =
    let with : List ℕ → List ℕ = λ xs. md5 (take 4 (packet_text code identifier a attributes) ++ authenticator ++ xs ++ secret) in
    ap with (attribute_octets-packet_text code identifier a attributes m ∙ sym (attribute_octets-packet_text code identifier b attributes n))

-- The Accounting-Request with this Identifier and these attributes, signed with this secret.
module _ (identifier : ℕ) (attributes secret : List ℕ) where
  unsigned : List ℕ
  unsigned = packet_text 4 identifier (replicate 16 0) attributes

  pub code_of-accounting_request : code_of (accounting_request identifier attributes secret) ≡ 4
  unfolding accounting_request
  code_of-accounting_request = refl

  pub identifier_of-accounting_request : identifier_of (accounting_request identifier attributes secret) ≡ identifier
  unfolding accounting_request
  identifier_of-accounting_request = refl

  pub attribute_octets-accounting_request : attribute_octets (accounting_request identifier attributes secret) ≡ attributes
  unfolding accounting_request
  attribute_octets-accounting_request = attribute_octets-packet_text 4 identifier _ attributes (length-request_authenticator secret _)

  pub length-accounting_request : length (accounting_request identifier attributes secret) ≡ 20 + length attributes
  unfolding accounting_request
  length-accounting_request = length-packet_text 4 identifier _ attributes (length-request_authenticator secret _)

  pub IsRightRequest-accounting_request : IsRightRequest secret (accounting_request identifier attributes secret)
  unfolding accounting_request IsRightRequest
  IsRightRequest-accounting_request =
      let n = length-request_authenticator secret (packet_text 4 identifier (replicate 16 0) attributes) in
      authenticator_of-packet_text 4 identifier _ attributes n
      ∙ request_authenticator-placed secret 4 identifier (replicate 16 0) _ attributes refl n

  pub IsPacketText-accounting_request : identifier < 256 → AreOctets attributes → length attributes ≤ 4076 → AreAttributes attributes → IsPacketText (accounting_request identifier attributes secret)
  unfolding accounting_request
  IsPacketText-accounting_request i octets most are =
      packet_text-is 4 identifier _ attributes (lit< tt) i (AreOctets-request_authenticator secret _) (length-request_authenticator secret _) octets most are

-- The Accounting-Response with this Identifier and these attributes to a packet of this Authenticator, signed
-- with this secret.
module _ (identifier : ℕ) (authenticator attributes secret : List ℕ) where
  pub code_of-accounting_response : code_of (accounting_response identifier authenticator attributes secret) ≡ 5
  unfolding accounting_response
  code_of-accounting_response = refl

  pub identifier_of-accounting_response : identifier_of (accounting_response identifier authenticator attributes secret) ≡ identifier
  unfolding accounting_response
  identifier_of-accounting_response = refl

  pub attribute_octets-accounting_response : attribute_octets (accounting_response identifier authenticator attributes secret) ≡ attributes
  unfolding accounting_response
  attribute_octets-accounting_response = attribute_octets-packet_text 5 identifier _ attributes (length-response_authenticator secret authenticator _)

  pub IsRightResponse-accounting_response : length authenticator ≡ 16 → IsRightResponse secret authenticator (accounting_response identifier authenticator attributes secret)
  unfolding accounting_response IsRightResponse
  IsRightResponse-accounting_response m =
      let n = length-response_authenticator secret authenticator (packet_text 5 identifier authenticator attributes) in
      authenticator_of-packet_text 5 identifier _ attributes n
      ∙ response_authenticator-placed secret authenticator 5 identifier authenticator _ attributes m n

  pub IsPacketText-accounting_response : identifier < 256 → AreOctets attributes → length attributes ≤ 4076 → AreAttributes attributes → IsPacketText (accounting_response identifier authenticator attributes secret)
  unfolding accounting_response
  IsPacketText-accounting_response i octets most are =
      packet_text-is 5 identifier _ attributes (lit< tt) i (AreOctets-response_authenticator secret authenticator _) (length-response_authenticator secret authenticator _) octets most are

-- The response that is put together: its first four octets, the digest of its parts, and its attributes in two parts.
module _ (identifier : ℕ) (authenticator before after attributes secret signature : List ℕ) (count : ℕ)
    (sixteen : length authenticator ≡ 16) (counted : count ≡ 20 + length before + length after) (both : before ++ after ≡ attributes)
    (signed : signature ≡ md5 ((5 ∷ identifier ∷ (count / 256) ∷ (count % 256) ∷ []) ++ authenticator ++ before ++ after ++ secret)) where
  all_octets : count ≡ 20 + length attributes
  all_octets = omega (arith, ap length both, length-append before after)

  all_parts : (a : List ℕ) → (5 ∷ identifier ∷ (count / 256) ∷ (count % 256) ∷ []) ++ a ++ before ++ after ≡ packet_text 5 identifier a attributes
  all_parts a =
      ap (λ xs. 5 ∷ identifier ∷ (count / 256) ∷ (count % 256) ∷ xs) (append_assoc a before after ∙ ap (λ xs. a ++ xs) both)
      ∙ ap (λ n. 5 ∷ identifier ∷ (n / 256) ∷ (n % 256) ∷ (a ++ attributes)) all_octets

  signature-is : signature ≡ response_authenticator secret authenticator (packet_text 5 identifier authenticator attributes)
  unfolding response_authenticator
  signature-is =
      signed
      ∙ ap (λ xs. md5 (xs ++ secret)) (all_parts authenticator)
      ∙ ap (λ xs. md5 (5 ∷ identifier ∷ ((20 + length attributes) / 256) ∷ ((20 + length attributes) % 256) ∷ (authenticator ++ xs ++ secret))) (sym (drop_at authenticator attributes 16 sixteen))

  pub accounting_response-put : (5 ∷ identifier ∷ (count / 256) ∷ (count % 256) ∷ []) ++ signature ++ before ++ after ≡ accounting_response identifier authenticator attributes secret
  unfolding accounting_response
  accounting_response-put = all_parts signature ∙ ap (λ a. packet_text 5 identifier a attributes) signature-is

-- What a function does that signs: it takes the digest of the packet with these octets in place of the
-- Authenticator, and puts it there.
pub accounting_request-made : (identifier : ℕ) (attributes secret text made : List ℕ) → text ≡ packet_text 4 identifier (replicate 16 0) attributes → made ≡ packet_text (code_of text) (identifier_of text) (request_authenticator secret text) (attribute_octets text) → made ≡ accounting_request identifier attributes secret
unfolding accounting_request
accounting_request-made identifier attributes secret text made t m =
    m ∙ ap (λ x. packet_text (code_of x) (identifier_of x) (request_authenticator secret x) (attribute_octets x)) t
    ∙ ap (λ xs. packet_text 4 identifier (request_authenticator secret (packet_text 4 identifier (replicate 16 0) attributes)) xs) (attribute_octets-packet_text 4 identifier (replicate 16 0) attributes refl)

pub accounting_response-made : (identifier : ℕ) (authenticator attributes secret text made : List ℕ) → length authenticator ≡ 16 → text ≡ packet_text 5 identifier authenticator attributes → made ≡ packet_text (code_of text) (identifier_of text) (response_authenticator secret authenticator text) (attribute_octets text) → made ≡ accounting_response identifier authenticator attributes secret
unfolding accounting_response
accounting_response-made identifier authenticator attributes secret text made n t m =
    m ∙ ap (λ x. packet_text (code_of x) (identifier_of x) (response_authenticator secret authenticator x) (attribute_octets x)) t
    ∙ ap (λ xs. packet_text 5 identifier (response_authenticator secret authenticator (packet_text 5 identifier authenticator attributes)) xs) (attribute_octets-packet_text 5 identifier authenticator attributes n)

-- the digest that is taken is the authenticator
pub request_authenticator-taken : (secret text digest : List ℕ) → digest ≡ md5 (take 4 text ++ replicate 16 0 ++ drop 20 text ++ secret) → digest ≡ request_authenticator secret text
unfolding request_authenticator
request_authenticator-taken secret text digest d = d

pub response_authenticator-taken : (secret authenticator text digest : List ℕ) → digest ≡ md5 (take 4 text ++ authenticator ++ drop 20 text ++ secret) → digest ≡ response_authenticator secret authenticator text
unfolding response_authenticator
response_authenticator-taken secret authenticator text digest d = d

-- where no Authenticator is known, the digest with zeros in its place is the Request Authenticator
pub response_authenticator-unknown : (secret text : List ℕ) → response_authenticator secret (replicate 16 0) text ≡ request_authenticator secret text
unfolding request_authenticator response_authenticator
response_authenticator-unknown secret text = refl

-- What `sign` does: it writes the Identifier, takes the digest with zeros in place of the Authenticator, and
-- writes the digest there.
put_authenticator : (identifier : ℕ) (authenticator attributes digest : List ℕ) → length authenticator ≡ 16 → put_mid 4 16 (packet_text 4 identifier authenticator attributes) digest ≡ packet_text 4 identifier digest attributes
put_authenticator identifier authenticator attributes digest n =
    ap (λ xs. 4 ∷ identifier ∷ ((20 + length attributes) / 256) ∷ ((20 + length attributes) % 256) ∷ (digest ++ xs)) (drop_at authenticator attributes 16 n)

pub accounting_request-signed : (text : List ℕ) (identifier : ℕ) (secret digest : List ℕ) → IsPacketText text → code_of text ≡ 4 → digest ≡ md5 (take 4 (set text 1 identifier) ++ replicate 16 0 ++ drop 20 (set text 1 identifier) ++ secret) → put_mid 4 16 (set text 1 identifier) digest ≡ accounting_request identifier (attribute_octets text) secret
unfolding accounting_request
accounting_request-signed text identifier secret digest p code d =
    let a = authenticator_of text in
    let xs = attribute_octets text in
    let n : length a ≡ 16 = length-authenticator_of text p.least in
    let whole : text ≡ packet_text 4 (identifier_of text) a xs = text-is_parts text p ∙ ap (λ x. packet_text x (identifier_of text) a xs) code in
    let parts : set text 1 identifier ≡ packet_text 4 identifier a xs = ap (λ t. set t 1 identifier) whole in
    let right : digest ≡ request_authenticator secret (packet_text 4 identifier (replicate 16 0) xs) =
    request_authenticator-taken secret (set text 1 identifier) digest d
    ∙ ap (request_authenticator secret) parts
    ∙ request_authenticator-placed secret 4 identifier a (replicate 16 0) xs n refl in
    ap (λ t. put_mid 4 16 t digest) parts ∙ put_authenticator identifier a xs digest n ∙ ap (λ x. packet_text 4 identifier x xs) right

-- What is compared with the digest of the parts of a request: it is the Authenticator that makes this request right, or it is another.
module _ (identifier : ℕ) (authenticator attributes secret start digest : List ℕ) (sixteen : length authenticator ≡ 16)
    (begun : start ≡ 4 ∷ identifier ∷ ((20 + length attributes) / 256) ∷ ((20 + length attributes) % 256) ∷ [])
    (signed : digest ≡ md5 (start ++ replicate 16 0 ++ attributes ++ [] ++ secret)) where
  request_authenticator-parts : digest ≡ request_authenticator secret (packet_text 4 identifier authenticator attributes)
  unfolding request_authenticator
  request_authenticator-parts =
      signed
      ∙ ap (λ xs. md5 (xs ++ secret)) (append-nil (start ++ replicate 16 0 ++ attributes))
      ∙ ap (λ xs. md5 (xs ++ replicate 16 0 ++ attributes ++ secret)) begun
      ∙ ap (λ xs. md5 (take 4 (packet_text 4 identifier authenticator attributes) ++ replicate 16 0 ++ xs ++ secret)) (sym (attribute_octets-packet_text 4 identifier authenticator attributes sixteen))

  pub IsRequestOf-by : authenticator ≡ digest → IsRequestOf identifier authenticator attributes secret
  unfolding IsRightRequest
  IsRequestOf-by same = authenticator_of-packet_text 4 identifier authenticator attributes sixteen ∙ same ∙ request_authenticator-parts

  pub IsRequestOf-digest : IsRequestOf identifier authenticator attributes secret → authenticator ≡ digest
  unfolding IsRightRequest
  IsRequestOf-digest is = sym (authenticator_of-packet_text 4 identifier authenticator attributes sixteen) ∙ is ∙ sym request_authenticator-parts
