-- A packet's text, cut at an attribute.
use Rattle.std.proofs.Common.{◌≡◌, ℕ, ◌+◌, ◌-◌, ◌≤◌, List, ◌∷◌, ◌++◌, length, take, drop, refl, sym, ap, ◌∙◌, arith, length-append, length-drop, append_assoc}
use Rattle.std.proofs.lemmas.List.{take_at, drop_at, drop-drop, take-append-drop, length-take-le}
use Rattle.rad_packet.specs.Attribute.{Attribute, attribute_text, joined}
use Rattle.rad_packet.specs.Packet.{IsPacketText, packet_attributes}
use Rattle.rad_packet.proofs.Walk.{joined-append, joined-packet_attributes}

-- the octets of the attributes, parted at one of them
pub attributes_parted : (text : List ℕ) (before : List Attribute) (a : Attribute) (after : List Attribute) → IsPacketText text → packet_attributes text ≡ before ++ a ∷ after → drop 20 text ≡ joined before ++ (attribute_text a ++ joined after)
attributes_parted text before a after p split =
    sym (joined-packet_attributes text p) ∙ ap joined split ∙ joined-append before (a ∷ after)

-- From place n on a text is these three parts; the second, of this length, begins at this place.
module _ (n : ℕ) (text b t e : List ℕ) (place len : ℕ) (least : n ≤ length text) (whole : drop n text ≡ b ++ (t ++ e)) (at : place ≡ n + length b) (counted : len ≡ length t) where
  pub from_here : drop place text ≡ t ++ e
  from_here =
      ap (λ m. drop m text) at ∙ sym (drop-drop (length b) n text) ∙ ap (drop (length b)) whole ∙ drop_at b (t ++ e) (length b) refl

  pub cut_here : take len (drop place text) ≡ t
  cut_here = ap (take len) from_here ∙ take_at t e len (sym counted)

  pub cut_after : drop (place + len) text ≡ e
  cut_after = sym (drop-drop len place text) ∙ ap (drop len) from_here ∙ drop_at t e len (sym counted)

  pub cut_before : take (place - n) (drop n text) ≡ b
  cut_before = let m : length b ≡ place - n = omega arith in ap (take (place - n)) whole ∙ take_at b (t ++ e) (place - n) m

  pub cut_front : take place text ≡ take n text ++ b
  cut_front =
      let parts : text ≡ (take n text ++ b) ++ (t ++ e) =
      sym (take-append-drop n text) ∙ ap (λ xs. take n text ++ xs) whole ∙ sym (append_assoc (take n text) b (t ++ e)) in
      let m : length (take n text ++ b) ≡ place = omega (arith, length-append (take n text) b, length-take-le n text least) in
      ap (take place) parts ∙ take_at (take n text ++ b) (t ++ e) place m

  pub cut_fits : place + len ≤ length text
  cut_fits =
      omega (arith, ap length whole, length-append b (t ++ e), length-append t e, length-drop n text)
