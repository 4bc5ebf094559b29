-- The attributes before the mark that ends a packet.
use Rattle.std.proofs.Common.{◌≡◌, ℕ, ◌+◌, ◌-◌, ◌≤◌, List, [], ◌++◌, length, take, drop, sym, ap, ◌∙◌, subst, arith, length-append, length-drop}
use Rattle.std.proofs.lemmas.List.{take_at}
use Rattle.rad_packet.specs.Attribute.{attribute_text, joined}
use Rattle.rad_packet.specs.Packet.{IsPacketText}
use Rattle.rad_auth.specs.Authenticator.{IsRequestOf}
use Rattle.rad_auth.specs.Mark.{EndsWithMark, mark_attribute}
use Rattle.rad_auth.specs.declared.mark.Mark.{Mark}
use Rattle.rad_auth.specs.declared.reply.RequestHead.{RequestHead}
use Rattle.rad_auth.proofs.Cuts.{attributes_parted}
use Rattle.rad_auth.proofs.Marks.{length-mark_value}
use Rattle.ledger_rules.specs.Judging.{IsRequest}

module _ (text : List ℕ) (mark : Mark) (p : IsPacketText text) (ends : EndsWithMark mark text) where
  whole : drop 20 text ≡ joined ends.before ++ (attribute_text (mark_attribute mark) ++ [])
  whole = attributes_parted text ends.before (mark_attribute mark) [] p ends.last

  counted : length text ≡ 32 + length (joined ends.before)
  counted = omega (arith, ap length whole, length-append (joined ends.before) (attribute_text (mark_attribute mark) ++ []), length-append (attribute_text (mark_attribute mark)) [], length-mark_value mark, length-drop 20 text, p.least)

  pub room_for_mark : 32 ≤ length text
  room_for_mark = omega (arith, counted)

  pub before_fits : length (joined ends.before) ≤ 4076
  before_fits = omega (arith, counted, p.most)

  pub octets_before : take (length text - 12 - 20) (drop 20 text) ≡ joined ends.before
  octets_before =
      let n : length (joined ends.before) ≡ length text - 12 - 20 = omega (arith, counted) in
      ap (take (length text - 12 - 20)) whole ∙ take_at (joined ends.before) (attribute_text (mark_attribute mark) ++ []) (length text - 12 - 20) n

-- The request with the attributes before the mark.
module _ (client : List ℕ) (head : RequestHead) (mark : Mark) (sent attributes : List ℕ) (before : (ends : EndsWithMark mark sent) → attributes ≡ joined ends.before) where
  pub request_by : EndsWithMark mark sent → IsRequestOf head.identifier head.authenticator attributes client → IsRequest client head mark sent
  request_by ends right = record { marked = ends; right = subst (λ xs. IsRequestOf head.identifier head.authenticator xs client) (before ends) right }

  pub request_right : IsRequest client head mark sent → IsRequestOf head.identifier head.authenticator attributes client
  request_right r = subst (λ xs. IsRequestOf head.identifier head.authenticator xs client) (sym (before r.marked)) r.right
