-- What makes a Status-Server right, seen at its last Message-Authenticator.
use Rattle.std.proofs.Common.{◌≡◌, ℕ, ◌+◌, ◌-◌, ◌/◌, ◌%◌, List, [], ◌∷◌, ◌++◌, length, take, drop, replicate, slice_range, refl, sym, ap, ◌∙◌, ◌↔◌, Bool, false, IsTrue, suc, ◌≢◌, subst, arith, length-append, append_assoc}
use Rattle.std.proofs.lemmas.List.{append-nil, nil_from_length, take_at, drop_at, take-append-drop}
use Rattle.std.proofs.lemmas.Bool.{false≢true}
use Rattle.rad_packet.specs.Attribute.{Attribute, attribute_text, joined, of_kind, attributes_of}
use Rattle.rad_packet.specs.Packet.{IsPacketText, packet_attributes, packet_text}
use Rattle.rad_packet.specs.Place.{IsLastAt}
use Rattle.rad_packet.proofs.Joined.{attributes_of-joined}
use Rattle.rad_packet.proofs.Walk.{joined-append, of_kind-append}
use Rattle.rad_auth.specs.Hmac.{hmac_md5}
use Rattle.rad_auth.specs.Status.{IsRightStatus, message_authenticator, no_value, with_header_of, status_server}
use Rattle.rad_auth.specs.internal.Zeroed.{zeroed_at}
use Rattle.rad_auth.proofs.Cuts.{attributes_parted, cut_here, cut_after, cut_front}
use Rattle.rad_auth.proofs.OneKind.{of_kind_first, same_last, SameParts}
use Rattle.rad_auth.proofs.Digests.{length-md5}

length-hmac_md5 : (key text : List ℕ) → length (hmac_md5 key text) ≡ 16
unfolding hmac_md5
length-hmac_md5 key text = length-md5 _

-- the packet with zeros in place of a Value
zeros_placed : (front zeros b e : List ℕ) → (front ++ (b ++ (80 ∷ 18 ∷ []))) ++ zeros ++ e ≡ front ++ (b ++ ((80 ∷ 18 ∷ zeros) ++ e))
zeros_placed front zeros b e = simp append_assoc

pub with_zeros : (text : List ℕ) (before after : List Attribute) (place n : ℕ)
    → take place text ≡ take 20 text ++ (joined before ++ (80 ∷ 18 ∷ [])) → drop n text ≡ joined after
    → take place text ++ no_value ++ drop n text ≡ with_header_of text (before ++ message_authenticator no_value ∷ after)
unfolding with_header_of no_value
with_zeros text before after place n front back =
    ap (λ xs. xs ++ replicate 16 0 ++ drop n text) front
    ∙ ap (λ xs. (take 20 text ++ (joined before ++ (80 ∷ 18 ∷ []))) ++ replicate 16 0 ++ xs) back
    ∙ zeros_placed (take 20 text) (replicate 16 0) (joined before) (joined after)
    ∙ ap (λ xs. take 20 text ++ xs) (sym (joined-append before (message_authenticator (replicate 16 0) ∷ after)))

-- Where the packet has one, of Length 18, its Value decides.
module _ (secret text : List ℕ) (place : ℕ) (p : IsPacketText text) (one : length (of_kind 80 (packet_attributes text)) ≡ 1) (f : IsLastAt text 80 place 18) where
  here : f.attribute ≡ message_authenticator f.attribute.value
  here = ap (λ kind. let a : Attribute = record { kind = kind; value = f.attribute.value } in a) f.has_kind

  sixteen : length f.attribute.value ≡ 16
  sixteen = omega (arith, f.stands.counted)

  none_before : of_kind 80 f.before ≡ []
  none_before =
      let all : of_kind 80 (packet_attributes text) ≡ of_kind 80 f.before ++ of_kind 80 (f.attribute ∷ f.after) =
      ap (of_kind 80) f.stands.split ∙ of_kind-append 80 f.before (f.attribute ∷ f.after) in
      let this : of_kind 80 (f.attribute ∷ f.after) ≡ f.attribute ∷ of_kind 80 f.after = of_kind_first 80 f.attribute f.after f.has_kind in
      nil_from_length (of_kind 80 f.before) (omega (arith, ap length all, ap length this, one, length-append (of_kind 80 f.before) (of_kind 80 (f.attribute ∷ f.after))))

  whole : drop 20 text ≡ (joined f.before ++ (80 ∷ 18 ∷ [])) ++ (f.attribute.value ++ joined f.after)
  whole =
      attributes_parted text f.before f.attribute f.after p f.stands.split
      ∙ ap (λ kind. joined f.before ++ ((kind ∷ (length f.attribute.value + 2) ∷ f.attribute.value) ++ joined f.after)) f.has_kind
      ∙ ap (λ n. joined f.before ++ ((80 ∷ (n + 2) ∷ f.attribute.value) ++ joined f.after)) sixteen
      ∙ sym (append_assoc (joined f.before) (80 ∷ 18 ∷ []) (f.attribute.value ++ joined f.after))

  at : place + 2 ≡ 20 + length (joined f.before ++ (80 ∷ 18 ∷ []))
  at = omega (arith, f.stands.offset, length-append (joined f.before) (80 ∷ 18 ∷ []))

  read_value : slice_range text (place + 2) (place + 2 + 16) ≡ f.attribute.value
  read_value =
      let n : place + 2 + 16 - (place + 2) ≡ 16 = omega arith in
      ap (λ m. take m (drop (place + 2) text)) n
      ∙ cut_here 20 text (joined f.before ++ (80 ∷ 18 ∷ [])) f.attribute.value (joined f.after) (place + 2) 16 p.least whole at (sym sixteen)

  zeroed : zeroed_at (place + 2) text ≡ with_header_of text (f.before ++ message_authenticator no_value ∷ f.after)
  unfolding zeroed_at
  zeroed =
      with_zeros text f.before f.after (place + 2) (place + 2 + 16)
      (cut_front 20 text (joined f.before ++ (80 ∷ 18 ∷ [])) f.attribute.value (joined f.after) (place + 2) 16 p.least whole at (sym sixteen))
      (cut_after 20 text (joined f.before ++ (80 ∷ 18 ∷ [])) f.attribute.value (joined f.after) (place + 2) 16 p.least whole at (sym sixteen))

  pub status-right : slice_range text (place + 2) (place + 2 + 16) ≡ hmac_md5 secret (zeroed_at (place + 2) text) → IsRightStatus secret text
  status-right h = record {
    before = f.before;
    value = f.attribute.value;
    after = f.after;
    split = f.stands.split ∙ ap (λ a. f.before ++ a ∷ f.after) here;
    none_before = none_before;
    none_after = f.last;
    counted = sixteen;
    right = sym read_value ∙ h ∙ ap (hmac_md5 secret) zeroed;
  }

  pub right-status : IsRightStatus secret text → slice_range text (place + 2) (place + 2 + 16) ≡ hmac_md5 secret (zeroed_at (place + 2) text)
  right-status s =
      let same : SameParts f.before f.attribute f.after s.before (message_authenticator s.value) s.after =
      same_last 80 f.before f.attribute f.after s.before (message_authenticator s.value) s.after f.last s.none_after f.has_kind refl (sym f.stands.split ∙ s.split) in
      read_value
      ∙ ap (λ a. a.value) same.here
      ∙ s.right
      ∙ ap (λ xs. hmac_md5 secret (with_header_of text (xs ++ message_authenticator no_value ∷ s.after))) (sym same.before)
      ∙ ap (λ ys. hmac_md5 secret (with_header_of text (f.before ++ message_authenticator no_value ∷ ys))) (sym same.after)
      ∙ ap (hmac_md5 secret) (sym zeroed)

-- what is found at the place decides
pub status-decided : (secret text octets : List ℕ) (place len : ℕ) (r : Bool) → octets ≡ text → IsPacketText text → length (of_kind 80 (packet_attributes text)) ≡ 1 → IsLastAt text 80 place len → len ≡ 18
    → (IsTrue r ↔ (slice_range octets (place + 2) (place + 2 + 16) ≡ hmac_md5 secret (zeroed_at (place + 2) octets)))
    → (IsTrue r ↔ IsRightStatus secret text)
status-decided secret text octets place len r same p one f n decides =
    let last : IsLastAt text 80 place 18 = let P : ℕ → Type 0 = λ m. IsLastAt text 80 place m in subst P n f in
    let value : slice_range octets (place + 2) (place + 2 + 16) ≡ slice_range text (place + 2) (place + 2 + 16) = ap (λ t. slice_range t (place + 2) (place + 2 + 16)) same in
    let digest : hmac_md5 secret (zeroed_at (place + 2) octets) ≡ hmac_md5 secret (zeroed_at (place + 2) text) = ap (λ t. hmac_md5 secret (zeroed_at (place + 2) t)) same in
    (λ t. status-right secret text place p one last (sym value ∙ decides.0 t ∙ digest), λ s. decides.1 (value ∙ right-status secret text place p one last s ∙ sym digest))

-- where there is not exactly one, or its Length is another, the packet is not right
one_value : (secret text : List ℕ) → IsRightStatus secret text → length (of_kind 80 (packet_attributes text)) ≡ 1
one_value secret text s =
    let all : of_kind 80 (packet_attributes text) ≡ of_kind 80 s.before ++ (message_authenticator s.value ∷ of_kind 80 s.after) =
    ap (of_kind 80) s.split ∙ of_kind-append 80 s.before (message_authenticator s.value ∷ s.after) ∙ ap (λ xs. of_kind 80 s.before ++ xs) (of_kind_first 80 (message_authenticator s.value) s.after refl) in
    ap length all ∙ ap (λ xs. length (xs ++ (message_authenticator s.value ∷ of_kind 80 s.after))) s.none_before ∙ ap (λ xs. suc (length xs)) s.none_after

pub none-wrong : (secret text : List ℕ) → (length (of_kind 80 (packet_attributes text)) ≢ 1) → (IsTrue false ↔ IsRightStatus secret text)
none-wrong secret text n = (λ t. absurd (false≢true t), λ s. absurd (n (one_value secret text s)))

pub other-length-wrong : (secret text : List ℕ) (place len : ℕ) → IsLastAt text 80 place len → (len ≢ 18) → (IsTrue false ↔ IsRightStatus secret text)
other-length-wrong secret text place len f n = (
  λ t. absurd (false≢true t),
  λ s.
      let same : SameParts f.before f.attribute f.after s.before (message_authenticator s.value) s.after =
      same_last 80 f.before f.attribute f.after s.before (message_authenticator s.value) s.after f.last s.none_after f.has_kind refl (sym f.stands.split ∙ s.split) in
      absurd (n (omega (arith, f.stands.counted, ap (λ a. length a.value) same.here, s.counted))),
)

-- The Status-Server that is made: it is right, and has 38 octets.
module _ (identifier : ℕ) (authenticator secret : List ℕ) (sixteen : length authenticator ≡ 16) where
  -- the text with each Value has the same header
  header : (value : List ℕ) → length value ≡ 16 → take 20 (packet_text 12 identifier authenticator (attribute_text (message_authenticator value))) ≡ 12 ∷ identifier ∷ 0 ∷ 38 ∷ authenticator
  header value n =
      let attributes : List ℕ = attribute_text (message_authenticator value) in
      let high : (20 + length attributes) / 256 ≡ 0 = omega arith in
      let low : (20 + length attributes) % 256 ≡ 38 = omega arith in
      ap (λ m. 12 ∷ identifier ∷ m ∷ ((20 + length attributes) % 256) ∷ take 16 (authenticator ++ attributes)) high
      ∙ ap (λ m. 12 ∷ identifier ∷ 0 ∷ m ∷ take 16 (authenticator ++ attributes)) low
      ∙ ap (λ xs. 12 ∷ identifier ∷ 0 ∷ 38 ∷ xs) (take_at authenticator attributes 16 sixteen)

  body : (value : List ℕ) → drop 20 (packet_text 12 identifier authenticator (attribute_text (message_authenticator value))) ≡ joined (message_authenticator value ∷ [])
  body value = drop_at authenticator (attribute_text (message_authenticator value)) 16 sixteen ∙ sym (append-nil (attribute_text (message_authenticator value)))

  -- the text with zeros is what the Value is computed over
  unsigned : (value : List ℕ) → length value ≡ 16 → with_header_of (packet_text 12 identifier authenticator (attribute_text (message_authenticator value))) (message_authenticator no_value ∷ []) ≡ packet_text 12 identifier authenticator (attribute_text (message_authenticator no_value))
  unfolding with_header_of no_value
  unsigned value n =
      let zeros : List ℕ = replicate 16 0 in
      ap (λ xs. xs ++ joined (message_authenticator zeros ∷ [])) (header value n ∙ sym (header zeros refl))
      ∙ ap (λ xs. take 20 (packet_text 12 identifier authenticator (attribute_text (message_authenticator zeros))) ++ xs) (sym (body zeros))
      ∙ take-append-drop 20 (packet_text 12 identifier authenticator (attribute_text (message_authenticator zeros)))

  pub IsRightStatus-made : (value : List ℕ) → value ≡ hmac_md5 secret (packet_text 12 identifier authenticator (attribute_text (message_authenticator no_value))) → IsRightStatus secret (packet_text 12 identifier authenticator (attribute_text (message_authenticator value)))
  IsRightStatus-made value right =
      let n : length value ≡ 16 = ap length right ∙ length-hmac_md5 secret _ in
      record {
        before = [];
        value = value;
        after = [];
        split = ap attributes_of (body value) ∙ attributes_of-joined (message_authenticator value ∷ []);
        none_before = refl;
        none_after = refl;
        counted = n;
        right = right ∙ ap (hmac_md5 secret) (sym (unsigned value n));
      }

  pub IsRightStatus-status_server : IsRightStatus secret (status_server identifier authenticator secret)
  unfolding status_server
  IsRightStatus-status_server = IsRightStatus-made _ refl

-- What `make_status` does: it writes the packet with zeros, takes the HMAC, and writes the packet with that.
pub status_server-made : (identifier : ℕ) (authenticator secret first value made : List ℕ)
    → first ≡ packet_text 12 identifier authenticator (attribute_text (message_authenticator (replicate 16 0)))
    → value ≡ hmac_md5 secret first
    → made ≡ packet_text 12 identifier authenticator (attribute_text (message_authenticator value))
    → made ≡ status_server identifier authenticator secret
unfolding status_server no_value
status_server-made identifier authenticator secret first value made f v m =
    m ∙ ap (λ x. packet_text 12 identifier authenticator (attribute_text (message_authenticator x))) (v ∙ ap (hmac_md5 secret) f)
