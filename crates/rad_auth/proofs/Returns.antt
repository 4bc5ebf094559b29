-- The mark that a reply returns, and the response without it.
use Rattle.std.proofs.Common.{◌≡◌, ◌≢◌, ℕ, ◌+◌, ◌-◌, ◌<◌, ◌≤◌, List, [], ◌∷◌, ◌++◌, length, take, drop, slice_range, refl, sym, ap, ◌∙◌, subst, Bool, true, false, Decides, eqb, arith, length-append, length-drop, length-take}
use Rattle.std.specs.Bool.{OnTrue, OnFalse}
use Rattle.std.specs.List.{AllByRecursion}
use Rattle.std.proofs.lemmas.List.{append-nil, drop-drop, same_from_push, take_rest}
use Rattle.std.proofs.lemmas.Bool.{false≢true}
use Rattle.std.proofs.lemmas.Bool.Decides.{Decides-eqb}
use Rattle.std.proofs.lemmas.Slice.Eq.{slice_eq-Decides}
use Rattle.std.specs.Cmp.Lexicographic.{pointwise}
use Rattle.rad_packet.specs.Attribute.{Attribute, IsAttribute, attribute_text, joined, of_kind, attributes_of, AreAttributes}
use Rattle.rad_packet.specs.Packet.{AreOctets, IsPacketText, code_of, identifier_of, authenticator_of, packet_attributes}
use Rattle.rad_packet.specs.Place.{StandsAt, IsLastAt}
use Rattle.rad_packet.proofs.Each.{AllByRecursion-left, AllByRecursion-right, packet_attributes-each}
use Rattle.rad_packet.proofs.Joined.{attributes_of-joined}
use Rattle.rad_packet.proofs.Parts.{AreOctets-append, AreOctets-take, AreOctets-drop, AreAttributes-append}
use Rattle.rad_packet.proofs.Walk.{joined-append}
use Rattle.rad_auth.specs.Answers.{Answers}
use Rattle.rad_auth.specs.Authenticator.{IsRightResponse, accounting_response}
use Rattle.rad_auth.specs.Mark.{EndsWithMark, mark_value, mark_attribute}
use Rattle.rad_auth.specs.Refusing.{ReturnsItsMark}
use Rattle.rad_auth.specs.internal.Returning.{HasAttributeAt, IsReturnedAt, octets_without}
use Rattle.rad_auth.specs.declared.mark.Mark.{Mark}
use Rattle.rad_auth.specs.declared.reply.RequestHead.{RequestHead}
use Rattle.rad_auth.proofs.Cuts.{attributes_parted, from_here, cut_here, cut_after, cut_before, cut_fits}
use Rattle.rad_auth.proofs.Marks.{length-mark_value}
use Rattle.rad_auth.proofs.OneKind.{same_last}
use Rattle.rad_auth.proofs.Signing.{code_of-accounting_response, identifier_of-accounting_response, attribute_octets-accounting_response, IsRightResponse-accounting_response, IsPacketText-accounting_response}

attribute_of_parts : (a b : Attribute) → a.kind ≡ b.kind → a.value ≡ b.value → a ≡ b
attribute_of_parts a b k v =
    ap (λ kind. let x : Attribute = record { kind = kind; value = a.value } in x) k
    ∙ ap (λ value. let x : Attribute = record { kind = b.kind; value = value } in x) v

-- two attributes of one text are one
attribute_text-same : (a b : Attribute) → attribute_text a ≡ attribute_text b → a ≡ b
attribute_text-same a b e =
    let k : a.kind ≡ b.kind = cc in
    let v : a.value ≡ b.value = cc in
    attribute_of_parts a b k v

-- the last twelve octets of the sending are its mark
pub mark_at_end : (sending : List ℕ) (mark : Mark) → IsPacketText sending → EndsWithMark mark sending → drop (length sending - 12) sending ≡ attribute_text (mark_attribute mark)
mark_at_end sending mark p ends =
    let t : List ℕ = attribute_text (mark_attribute mark) in
    let n : length t ≡ 12 = omega (arith, length-mark_value mark) in
    let whole : drop 20 sending ≡ joined ends.before ++ (t ++ []) = attributes_parted sending ends.before (mark_attribute mark) [] p ends.last in
    let counted : length sending ≡ 20 + length (joined ends.before) + 12 =
    omega (arith, ap length whole, length-append (joined ends.before) (t ++ []), length-append t [], length-drop 20 sending, p.least) in
    let place : length sending - 12 ≡ 20 + length (joined ends.before) = omega arith in
    from_here 20 sending (joined ends.before) t [] (length sending - 12) 12 p.least whole place (sym n) ∙ append-nil t

-- and the last ten are the mark's Value
pub value_at_end : (sending : List ℕ) (mark : Mark) → IsPacketText sending → EndsWithMark mark sending → drop (length sending - 10) sending ≡ mark_value mark
value_at_end sending mark p ends =
    let place : length sending - 10 ≡ length sending - 12 + 2 = omega (arith, p.least) in
    ap (λ n. drop n sending) place ∙ sym (drop-drop 2 (length sending - 12) sending) ∙ ap (drop 2) (mark_at_end sending mark p ends)

-- the octets at the place of an attribute are its text
pub attribute_at_place : (text : List ℕ) (before : List Attribute) (a : Attribute) (after : List Attribute) (place len : ℕ) → IsPacketText text → StandsAt text before a after place len → slice_range text place (place + len) ≡ attribute_text a
attribute_at_place text before a after place len p s =
    let n : place + len - place ≡ len = omega arith in
    let m : len ≡ length (attribute_text a) = omega (arith, s.counted) in
    ap (λ m. take m (drop place text)) n
    ∙ cut_here 20 text (joined before) (attribute_text a) (joined after) place len p.least (attributes_parted text before a after p s.split) s.offset m

-- The last Proxy-State of the reply is compared with the last octets of the sending.
module _ (sending reply : List ℕ) (place len : ℕ) (p : IsPacketText sending) (q : IsPacketText reply) (mark : Mark) (ends : EndsWithMark mark sending) (l : IsLastAt reply 33 place len) where
  pub same_returned : slice_range reply place (place + len) ≡ drop (length sending - 12) sending → IsReturnedAt sending reply place len
  same_returned e =
      let a : l.attribute ≡ mark_attribute mark =
      attribute_text-same l.attribute (mark_attribute mark)
      (sym (attribute_at_place reply l.before l.attribute l.after place len q l.stands) ∙ e ∙ mark_at_end sending mark p ends) in
      let split : packet_attributes reply ≡ l.before ++ mark_attribute mark ∷ l.after = l.stands.split ∙ ap (λ x. l.before ++ x ∷ l.after) a in
      record {
        mark = mark;
        before = l.before;
        after = l.after;
        returned = record { sent = ends; split = split; last = l.last };
        stands = record { split = split; offset = l.stands.offset; counted = l.stands.counted ∙ ap (λ x. length x.value + 2) a };
      }

  pub other_not_returned : slice_range reply place (place + len) ≢ drop (length sending - 12) sending → ReturnsItsMark sending reply → ⊥
  other_not_returned n (m, before, after, r) =
      let marks : mark_attribute m ≡ mark_attribute mark =
      (same_from_push r.sent.before ends.before (mark_attribute m) (mark_attribute mark) (sym r.sent.last ∙ ends.last)).1 in
      let a : l.attribute ≡ mark_attribute m =
      (same_last 33 l.before l.attribute l.after before (mark_attribute m) after l.last r.last l.has_kind refl (sym l.stands.split ∙ r.split)).here in
      n (attribute_at_place reply l.before l.attribute l.after place len q l.stands ∙ ap attribute_text (a ∙ marks) ∙ sym (mark_at_end sending mark p ends))

-- the comparison of what is read
pub compared : (sending reply sent read : List ℕ) (place len : ℕ) (r : Bool) → sent ≡ sending → read ≡ reply
    → r ≡ pointwise eqb (slice_range read place (place + len)) (take (length sent - (length sent - 12)) (drop (length sent - 12) sent))
    → Decides r (slice_range reply place (place + len) ≡ drop (length sending - 12) sending)
compared sending reply sent read place len r s t e =
    let left : slice_range read place (place + len) ≡ slice_range reply place (place + len) = ap (λ x. slice_range x place (place + len)) t in
    let right : take (length sent - (length sent - 12)) (drop (length sent - 12) sent) ≡ drop (length sending - 12) sending =
    take_rest sent (length sent - 12) ∙ ap (λ x. drop (length x - 12) x) s in
    slice_eq-Decides Decides-eqb _ _ r (e ∙ ap (λ x. pointwise eqb x (take (length sent - (length sent - 12)) (drop (length sent - 12) sent))) left ∙ ap (λ y. pointwise eqb (slice_range reply place (place + len)) y) right)

-- What stands before an attribute of a packet and after it.
module _ (text : List ℕ) (place len : ℕ) (p : IsPacketText text) (h : HasAttributeAt text place len) where
  all : AllByRecursion IsAttribute (h.before ++ h.attribute ∷ h.after)
  all = let P : List Attribute → Type 0 = λ xs. AllByRecursion IsAttribute xs in subst P h.stands.split (packet_attributes-each text p)

  whole : drop 20 text ≡ joined h.before ++ (attribute_text h.attribute ++ joined h.after)
  whole = attributes_parted text h.before h.attribute h.after p h.stands.split

  long : len ≡ length (attribute_text h.attribute)
  long = omega (arith, h.stands.counted)

  pub octets_before : slice_range text 20 place ≡ joined h.before
  octets_before = cut_before 20 text (joined h.before) (attribute_text h.attribute) (joined h.after) place len p.least whole h.stands.offset long

  pub octets_after : drop (place + len) text ≡ joined h.after
  octets_after = cut_after 20 text (joined h.before) (attribute_text h.attribute) (joined h.after) place len p.least whole h.stands.offset long

  pub place_fits : place + len ≤ length text
  place_fits = cut_fits 20 text (joined h.before) (attribute_text h.attribute) (joined h.after) place len p.least whole h.stands.offset long

  pub AreAttributes-before : AreAttributes (slice_range text 20 place)
  AreAttributes-before = (h.before, record { each = AllByRecursion-left IsAttribute h.before (h.attribute ∷ h.after) all; whole = octets_before })

  pub AreAttributes-after : AreAttributes (drop (place + len) text)
  AreAttributes-after = (h.after, record { each = (AllByRecursion-right IsAttribute h.before (h.attribute ∷ h.after) all).1; whole = octets_after })

  pub octets_without-joined : octets_without text place len ≡ joined (h.before ++ h.after)
  unfolding octets_without
  octets_without-joined =
      ap (λ xs. xs ++ drop (place + len) text) octets_before ∙ ap (λ xs. joined h.before ++ xs) octets_after ∙ sym (joined-append h.before h.after)

-- The same, of the octets that are read at the packet: what the range expressions give.
module _ (text octets : List ℕ) (place len : ℕ) (same : octets ≡ text) (p : IsPacketText text) (h : HasAttributeAt text place len) where
  before_read : take (place - 20) (drop 20 octets) ≡ slice_range text 20 place
  before_read = ap (λ t. take (place - 20) (drop 20 t)) same

  after_read : take (length octets - (place + len)) (drop (place + len) octets) ≡ drop (place + len) text
  after_read = take_rest octets (place + len) ∙ ap (drop (place + len)) same

  pub read-fits : place + len ≤ length octets
  read-fits = rw same (place_fits text place len p h)

  pub read-before : AreAttributes (take (place - 20) (drop 20 octets))
  read-before = rw before_read (AreAttributes-before text place len p h)

  pub read-after : AreAttributes (take (length octets - (place + len)) (drop (place + len) octets))
  read-after = rw after_read (AreAttributes-after text place len p h)

  pub read-others : take (place - 20) (drop 20 octets) ++ take (length octets - (place + len)) (drop (place + len) octets) ≡ octets_without text place len
  unfolding octets_without
  read-others = ap (λ xs. xs ++ take (length octets - (place + len)) (drop (place + len) octets)) before_read ∙ ap (λ xs. slice_range text 20 place ++ xs) after_read

-- the response without that attribute is a packet
pub response-packet : (text : List ℕ) (place len identifier : ℕ) (authenticator secret : List ℕ) → IsPacketText text → HasAttributeAt text place len → identifier < 256 → IsPacketText (accounting_response identifier authenticator (octets_without text place len) secret)
unfolding octets_without
response-packet text place len identifier authenticator secret p h i =
    let before : List ℕ = slice_range text 20 place in
    let after : List ℕ = drop (place + len) text in
    let octets : AreOctets (before ++ after) =
    AreOctets-append before after (AreOctets-take (place - 20) (drop 20 text) (AreOctets-drop 20 text p.octets)) (AreOctets-drop (place + len) text p.octets) in
    let most : length (before ++ after) ≤ 4076 =
    omega (arith, place_fits text place len p h, p.most, p.least, h.stands.offset, length-append before after, length-take (place - 20) (drop 20 text), length-drop 20 text, length-drop (place + len) text) in
    IsPacketText-accounting_response identifier authenticator (before ++ after) secret i octets most
    (AreAttributes-append before after (AreAttributes-before text place len p h) (AreAttributes-after text place len p h))

-- what follows from a comparison
pub on_true : (b : Bool) (P Q : Type 0) → Decides b P → (P → Q) → OnTrue b Q
on_true true P Q d h = h (d.0 refl)
on_true false P Q d h = tt

pub on_false : (b : Bool) (P Q : Type 0) → Decides b P → ((P → ⊥) → Q) → OnFalse b Q
on_false true P Q d h = tt
on_false false P Q d h = h (λ p. false≢true (d.1 p))

-- the response that is made answers the request
pub Answers-made : (head : RequestHead) (sending reply client home response : List ℕ) (place len : ℕ)
    → length head.authenticator ≡ 16 → head.identifier < 256
    → IsPacketText reply → code_of reply ≡ 5 → identifier_of reply ≡ identifier_of sending
    → IsRightResponse home (authenticator_of sending) reply → of_kind 80 (packet_attributes reply) ≡ []
    → IsReturnedAt sending reply place len
    → response ≡ accounting_response head.identifier head.authenticator (octets_without reply place len) client
    → Answers head sending reply client home response
Answers-made head sending reply client home response place len sixteen small p code identifier right none at made =
    let h : HasAttributeAt reply place len = record { before = at.before; attribute = mark_attribute at.mark; after = at.after; stands = at.stands } in
    let xs : List ℕ = octets_without reply place len in
    let a : List ℕ = head.authenticator in
    record {
      reply_packet = p;
      reply_code = code;
      reply_identifier = identifier;
      verified = right;
      no_message_authenticator = none;
      mark = at.mark;
      before = at.before;
      after = at.after;
      returned = at.returned;
      response_packet = rw made (response-packet reply place len head.identifier a client p h small);
      response_code = ap code_of made ∙ code_of-accounting_response head.identifier a xs client;
      response_identifier = ap identifier_of made ∙ identifier_of-accounting_response head.identifier a xs client;
      response_attributes =
          ap packet_attributes made
          ∙ ap attributes_of (attribute_octets-accounting_response head.identifier a xs client ∙ octets_without-joined reply place len p h)
          ∙ attributes_of-joined (at.before ++ at.after);
      response_right = rw made (IsRightResponse-accounting_response head.identifier a xs client sixteen);
    }
