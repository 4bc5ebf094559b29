-- The mark's text is that of an attribute, of twelve octets; and the mark with a Value.
use Rattle.std.proofs.Common.{◌≡◌, ℕ, ◌+◌, ◌<◌, ◌^◌, List, [], ◌∷◌, ◌++◌, length, take, drop, refl, sym, ap, ◌∙◌, arith, lit<, length-drop}
use Rattle.std.proofs.lemmas.List.{append-nil, take-append-drop, length-take-le, same_from_push}
use Rattle.std.proofs.lemmas.Nat.{be_bytes_2, be_bytes_8, from_be_bytes-to_be_bytes_2, from_be_bytes-to_be_bytes_8}
use Rattle.std.specs.Int.{w16, w64, to_be_bytes, from_be_bytes}
use Rattle.rad_packet.specs.Attribute.{Attribute, IsAttribute, attribute_text, joined}
use Rattle.rad_packet.specs.Packet.{AreOctets}
use Rattle.rad_packet.proofs.Parts.{AreOctets-append, AreOctets-cons, AreOctets-take, AreOctets-drop}
use Rattle.rad_auth.specs.Mark.{EndsWithMark, mark_value, mark_attribute, mark_text}
use Rattle.rad_auth.specs.declared.mark.Mark.{Mark}
use Rattle.rad_auth.proofs.Digests.{AreOctets-bytes_high_first}

pub length-mark_value : (mark : Mark) → length (mark_value mark) ≡ 10
unfolding mark_value
length-mark_value mark = refl

AreOctets-mark_value : (mark : Mark) → AreOctets (mark_value mark)
unfolding mark_value
AreOctets-mark_value mark =
    AreOctets-append (to_be_bytes w16 mark.lane) (to_be_bytes w64 mark.number) (AreOctets-bytes_high_first 2 mark.lane) (AreOctets-bytes_high_first 8 mark.number)

pub attribute_text-mark : (mark : Mark) → attribute_text (mark_attribute mark) ≡ mark_text mark
unfolding mark_text
attribute_text-mark mark = ap (λ n. 33 ∷ (n + 2) ∷ mark_value mark) (length-mark_value mark)

pub length-mark_text : (mark : Mark) → length (mark_text mark) ≡ 12
unfolding mark_text
length-mark_text mark = omega (arith, length-mark_value mark)

pub AreOctets-mark_text : (mark : Mark) → AreOctets (mark_text mark)
unfolding mark_text
AreOctets-mark_text mark = AreOctets-cons 0x21 (0x0c ∷ mark_value mark) (lit< tt) (AreOctets-cons 0x0c (mark_value mark) (lit< tt) (AreOctets-mark_value mark))

pub IsAttribute-mark : (mark : Mark) → IsAttribute (mark_attribute mark)
IsAttribute-mark mark = record { kind = lit< tt; value = omega (arith, length-mark_value mark) }

pub joined-mark : (mark : Mark) → joined (mark_attribute mark ∷ []) ≡ mark_text mark
joined-mark mark = append-nil (attribute_text (mark_attribute mark)) ∙ attribute_text-mark mark

-- Numbers that are read from the two parts of a Value are those of the mark with this Value.
pub mark_value-read : (value : List ℕ) (lane number : ℕ) → length value ≡ 10 → AreOctets value → lane ≡ from_be_bytes w16 (take 2 value) → number ≡ from_be_bytes w64 (drop 2 value) → mark_value (record { lane = lane; number = number }) ≡ value
unfolding mark_value
mark_value-read value lane number ten octets l n =
    let two : length (take 2 value) ≡ 2 = length-take-le 2 value (omega arith) in
    let eight : length (drop 2 value) ≡ 8 = omega (arith, length-drop 2 value) in
    ap (λ x. x ++ to_be_bytes w64 number) (be_bytes_2 (take 2 value) lane two (AreOctets-take 2 value octets) l)
    ∙ ap (λ x. take 2 value ++ x) (be_bytes_8 (drop 2 value) number eight (AreOctets-drop 2 value octets) n)
    ∙ take-append-drop 2 value

-- Marks with one Value are one mark, if their numbers fit.
pub same_mark : (a b : Mark) → a.lane < 2 ^ 16 → a.number < 2 ^ 64 → b.lane < 2 ^ 16 → b.number < 2 ^ 64 → mark_value a ≡ mark_value b → a ≡ b
unfolding mark_value
same_mark a b al an bl bn same =
    let lane : a.lane ≡ b.lane =
    sym (from_be_bytes-to_be_bytes_2 a.lane al) ∙ ap (λ x. from_be_bytes w16 (take 2 x)) same ∙ from_be_bytes-to_be_bytes_2 b.lane bl in
    let number : a.number ≡ b.number =
    sym (from_be_bytes-to_be_bytes_8 a.number an) ∙ ap (λ x. from_be_bytes w64 (drop 2 x)) same ∙ from_be_bytes-to_be_bytes_8 b.number bn in
    ap (λ l. let x : Mark = record { lane = l; number = a.number } in x) lane
    ∙ ap (λ n. let x : Mark = record { lane = b.lane; number = n } in x) number

-- A text that ends with a mark ends with each mark of the same Value.
pub EndsWithMark-value : (text : List ℕ) (a b : Mark) → EndsWithMark a text → mark_value b ≡ mark_value a → EndsWithMark b text
EndsWithMark-value text a b ends same = record {
  before = ends.before;
  last = ends.last ∙ ap (λ v. let x : Attribute = record { kind = 33; value = v } in ends.before ++ x ∷ []) (sym same);
}

-- It ends with one Value.
pub one_value : (text : List ℕ) (a b : Mark) → EndsWithMark a text → EndsWithMark b text → mark_value a ≡ mark_value b
one_value text a b p q = ap (λ (x : Attribute). x.value) (same_from_push p.before q.before (mark_attribute a) (mark_attribute b) (sym p.last ∙ q.last)).1
