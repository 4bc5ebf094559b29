-- A packet's text and its parts.
use Rattle.std.proofs.Common.{◌≡◌, ℕ, zero, suc, ◌+◌, ◌-◌, ◌*◌, ◌/◌, ◌%◌, ◌<◌, ◌≤◌, List, [], ◌∷◌, ◌++◌, length, get_or, set, take, drop, refl, sym, ap, ◌∙◌, arith, length-append, length-drop, length-take, append_assoc, get_or-drop}
use Rattle.std.proofs.lemmas.List.{drop_at, append-nil, take-append-drop}
use Rattle.rad_packet.specs.Attribute.{Attribute, IsAttribute, attribute_text, joined, AreAttributes}
use Rattle.rad_packet.specs.Packet.{AreOctets, IsPacketText, packet_text, code_of, identifier_of, authenticator_of, attribute_octets, with_attributes}
use Rattle.rad_packet.specs.Reading.{BeginsAttribute}
use Rattle.rad_packet.proofs.Each.{AllByRecursion-append}
use Rattle.rad_packet.proofs.Walk.{joined-append}

-- octets by parts
pub AreOctets-append : (xs ys : List ℕ) → AreOctets xs → AreOctets ys → AreOctets (xs ++ ys)
AreOctets-append [] ys a b place = b place
AreOctets-append (x ∷ xs) ys a b zero = a 0
AreOctets-append (x ∷ xs) ys a b (suc place) = AreOctets-append xs ys (λ k. a (suc k)) b place

pub AreOctets-cons : (x : ℕ) (xs : List ℕ) → x < 256 → AreOctets xs → AreOctets (x ∷ xs)
AreOctets-cons x xs h a zero = h
AreOctets-cons x xs h a (suc place) = a place

pub AreOctets-nil : AreOctets []
AreOctets-nil place = omega arith

pub AreOctets-take : (n : ℕ) (xs : List ℕ) → AreOctets xs → AreOctets (take n xs)
AreOctets-take zero xs a place = omega arith
AreOctets-take (suc n) [] a place = omega arith
AreOctets-take (suc n) (x ∷ xs) a zero = a 0
AreOctets-take (suc n) (x ∷ xs) a (suc place) = AreOctets-take n xs (λ k. a (suc k)) place

pub AreOctets-drop : (n : ℕ) (xs : List ℕ) → AreOctets xs → AreOctets (drop n xs)
AreOctets-drop n xs a place = rw get_or-drop (a (n + place))

-- the text of parts that fit is a packet's
pub packet_text-is : (code identifier : ℕ) (authenticator attributes : List ℕ) → code < 256 → identifier < 256 → AreOctets authenticator → length authenticator ≡ 16 → AreOctets attributes → length attributes ≤ 4076 → AreAttributes attributes → IsPacketText (packet_text code identifier authenticator attributes)
packet_text-is code identifier authenticator attributes c i a n o most valid =
    let high : (20 + length attributes) / 256 < 256 = omega arith in
    let low : (20 + length attributes) % 256 < 256 = omega arith in
    let tail0 = authenticator ++ attributes in
    let tail1 = ((20 + length attributes) % 256) ∷ tail0 in
    let tail2 = ((20 + length attributes) / 256) ∷ tail1 in
    let tail3 = identifier ∷ tail2 in
    record {
      octets = AreOctets-cons code tail3 c (AreOctets-cons identifier tail2 i (AreOctets-cons _ tail1 high (AreOctets-cons _ tail0 low (AreOctets-append authenticator attributes a o))));
      counted = omega (arith, length-append authenticator attributes);
      least = omega (arith, length-append authenticator attributes);
      most = omega (arith, length-append authenticator attributes);
      attributes = rw (drop_at authenticator attributes 16 n) valid;
    }

-- a packet's text is that of its parts
pub text-is_parts : (text : List ℕ) → IsPacketText text → text ≡ packet_text (code_of text) (identifier_of text) (authenticator_of text) (attribute_octets text)
text-is_parts [] p = absurd (omega (arith, p.least))
text-is_parts (a ∷ []) p = absurd (omega (arith, p.least))
text-is_parts (a ∷ b ∷ []) p = absurd (omega (arith, p.least))
text-is_parts (a ∷ b ∷ c ∷ []) p = absurd (omega (arith, p.least))
text-is_parts (a ∷ b ∷ c ∷ d ∷ rest) p =
    let low : d < 256 = p.octets 3 in
    let n : 20 + length (drop 16 rest) ≡ 256 * c + d = omega (arith, p.counted, p.least, length-drop 16 rest) in
    let high_is : c ≡ (20 + length (drop 16 rest)) / 256 = omega arith in
    let low_is : d ≡ (20 + length (drop 16 rest)) % 256 = omega arith in
    let tail : rest ≡ take 16 rest ++ drop 16 rest = sym (take-append-drop 16 rest) in
    ap (λ x. a ∷ b ∷ x ∷ d ∷ rest) high_is
    ∙ (ap (λ x. a ∷ b ∷ ((20 + length (drop 16 rest)) / 256) ∷ x ∷ rest) low_is
    ∙ ap (λ xs. a ∷ b ∷ ((20 + length (drop 16 rest)) / 256) ∷ ((20 + length (drop 16 rest)) % 256) ∷ xs) tail)

pub length-authenticator_of : (text : List ℕ) → 20 ≤ length text → length (authenticator_of text) ≡ 16
length-authenticator_of text h = simp (length-take, length-drop) (omega arith)

-- a write below a place, seen up to that place
pub take-set : (n i : ℕ) (xs : List ℕ) (y : ℕ) → take n (set xs i y) ≡ set (take n xs) i y
take-set zero i xs y = refl
take-set (suc n) i [] y = refl
take-set (suc n) zero (x ∷ xs) y = refl
take-set (suc n) (suc i) (x ∷ xs) y = ap (λ ys. x ∷ ys) (take-set n i xs y)

-- texts of attributes, and more texts of attributes
pub AreAttributes-append : (xs ys : List ℕ) → AreAttributes xs → AreAttributes ys → AreAttributes (xs ++ ys)
AreAttributes-append xs ys (a, i) (b, j) = (a ++ b, record { each = AllByRecursion-append IsAttribute a b i.each j.each; whole = ap (λ t. t ++ ys) i.whole ∙ (ap (λ t. joined a ++ t) j.whole ∙ sym (joined-append a b)) })

pub AreAttributes-nil : AreAttributes []
AreAttributes-nil = ([], record { each = tt; whole = refl })

-- the text of a packet's parts, some changed, is a packet's
pub changed-is : (text : List ℕ) (code identifier : ℕ) (authenticator more : List ℕ) → IsPacketText text → code < 256 → identifier < 256 → AreOctets authenticator → length authenticator ≡ 16 → AreOctets more → AreAttributes more → length text + length more ≤ 4096 → IsPacketText (packet_text code identifier authenticator (attribute_octets text ++ more))
changed-is text code identifier authenticator more p c i a n o v most =
    packet_text-is code identifier authenticator (attribute_octets text ++ more) c i a n
    (AreOctets-append (drop 20 text) more (AreOctets-drop 20 text p.octets) o)
    (omega (arith, length-append (drop 20 text) more, length-drop 20 text, p.least))
    (AreAttributes-append (drop 20 text) more p.attributes v)

-- the same with no more attributes
pub same_attributes-is : (text : List ℕ) (code identifier : ℕ) (authenticator : List ℕ) → IsPacketText text → code < 256 → identifier < 256 → AreOctets authenticator → length authenticator ≡ 16 → IsPacketText (packet_text code identifier authenticator (attribute_octets text))
same_attributes-is text code identifier authenticator p c i a n =
    packet_text-is code identifier authenticator (attribute_octets text) c i a n
    (AreOctets-drop 20 text p.octets)
    (omega (arith, length-drop 20 text, p.least, p.most))
    p.attributes

-- the Authenticator of a packet's text is octets
pub AreOctets-authenticator_of : (text : List ℕ) → IsPacketText text → AreOctets (authenticator_of text)
AreOctets-authenticator_of text p = AreOctets-take 16 (drop 4 text) (AreOctets-drop 4 text p.octets)

pub set_identifier-is : (text : List ℕ) (identifier : ℕ) → IsPacketText text → set text 1 identifier ≡ packet_text (code_of text) identifier (authenticator_of text) (attribute_octets text)
set_identifier-is text identifier p = ap (λ t. set t 1 identifier) (text-is_parts text p)

pub set_authenticator-is : (text authenticator : List ℕ) → IsPacketText text → length authenticator ≡ 16 → take 4 text ++ authenticator ++ drop 20 text ≡ packet_text (code_of text) (identifier_of text) authenticator (attribute_octets text)
set_authenticator-is text authenticator p n = ap (λ t. take 4 t ++ authenticator ++ drop 20 text) (text-is_parts text p)

-- texts of attributes added, and Length set
pub add_attributes-is : (text more : List ℕ) (n : ℕ) → IsPacketText text → n ≡ length text + length more → set (set (text ++ more) 2 (n / 256)) 3 (n % 256) ≡ with_attributes text more
add_attributes-is text more n p e =
    let total : n ≡ 20 + length (drop 20 text ++ more) = omega (arith, e, length-append (drop 20 text) more, length-drop 20 text, p.least) in
    let parts = ap (λ t. set (set (t ++ more) 2 (n / 256)) 3 (n % 256)) (text-is_parts text p) in
    parts
    ∙ (ap (λ k. code_of text ∷ identifier_of text ∷ (k / 256) ∷ (k % 256) ∷ ((authenticator_of text ++ drop 20 text) ++ more)) total
    ∙ ap (λ xs. code_of text ∷ identifier_of text ∷ ((20 + length (drop 20 text ++ more)) / 256) ∷ ((20 + length (drop 20 text ++ more)) % 256) ∷ xs) (append_assoc (authenticator_of text) (drop 20 text) more))

pub AreAttributes-one : (a : Attribute) → IsAttribute a → AreAttributes (attribute_text a)
AreAttributes-one a v = (a ∷ [], record { each = (v, tt); whole = sym (append-nil (attribute_text a)) })

-- octets with a Type, and a Length that is in range, begin with an attribute
pub begins_attribute : (octets : List ℕ) (n : ℕ) → 2 ≤ length octets → n ≡ get_or octets 1 0 → 2 ≤ n → n ≤ length octets → AreOctets octets → BeginsAttribute octets n
begins_attribute [] n h e least most o = absurd (omega arith)
begins_attribute (kind ∷ []) n h e least most o = absurd (omega arith)
begins_attribute (kind ∷ len ∷ tail) n h e least most o =
    let value = take (n - 2) tail in
    let size : length value ≡ n - 2 = omega (arith, length-take (n - 2) tail) in
    let counted : length value + 2 ≡ len = omega (arith, size) in
    record {
      attribute = record { kind = kind; value = value };
      rest = drop (n - 2) tail;
      valid = record { kind = o 0; value = omega (arith, size, o 1) };
      whole = ap (λ k. kind ∷ k ∷ tail) (sym counted) ∙ ap (λ ys. kind ∷ (length value + 2) ∷ ys) (sym (take-append-drop (n - 2) tail));
      counted = omega (arith, size);
    }
