-- The parts of a reply, one behind the other, are found again.
use Rattle.std.proofs.Common.{◌≡◌, ℕ, ◌+◌, ◌-◌, ◌≤◌, List, ◌++◌, length, take, drop, slice_range, sym, ap, ◌∙◌, subst, arith, length-append, length-drop, append_assoc}
use Rattle.std.proofs.lemmas.List.{take_at, drop_at, drop-drop, drop-take, length-take-le}
use Rattle.rad_packet.specs.Packet.{IsPacketText}
use Rattle.rad_auth.specs.Answers.{Answers}
use Rattle.rad_auth.specs.internal.Parted.{parted, IsParted}
use Rattle.rad_auth.specs.Replied.{Replied, IsAnswer}
use Rattle.rad_auth.specs.declared.reply.RequestHead.{RequestHead}

-- what stands between two places
between : (whole front part back : List ℕ) (m n : ℕ) → whole ≡ front ++ (part ++ back) → m ≡ length front → n ≡ m + length part → slice_range whole m n ≡ part
between whole front part back m n w f p =
    let count : length part ≡ n - m = omega arith in
    ap (λ xs. take (n - m) (drop m xs)) w ∙ ap (take (n - m)) (drop_at front (part ++ back) m (sym f)) ∙ take_at part back (n - m) count

-- The last octets before a place, and those of the part that ends there.
pub part_end : (octets : List ℕ) (first end count : ℕ) → first ≤ end → end ≤ length octets → count ≤ end - first → take (end - (end - count)) (drop (end - count) octets) ≡ drop (length (slice_range octets first end) - count) (slice_range octets first end)
part_end octets first end count f w few =
    let n : ℕ = end - first - count in
    let part : length (take (end - first) (drop first octets)) ≡ end - first = length-take-le (end - first) (drop first octets) (omega (arith, length-drop first octets)) in
    let at : length (take (end - first) (drop first octets)) - count ≡ n = omega (arith, part) in
    let sum : end - first ≡ n + count = omega arith in
    let place : first + n ≡ end - count = omega arith in
    let same : count ≡ end - (end - count) = omega arith in
    sym (
    ap (λ k. drop k (take (end - first) (drop first octets))) at
    ∙ ap (λ m. drop n (take m (drop first octets))) sum
    ∙ drop-take n count (drop first octets)
    ∙ ap (take count) (drop-drop n first octets)
    ∙ ap (λ k. take count (drop k octets)) place
    ∙ ap (λ m. take m (drop (end - count) octets)) same
    )

-- Five lists one behind the other, and where each ends but the last; of the fourth its length.
module _ (head : RequestHead) (octets response sending reply client home : List ℕ) (first second third count : ℕ)
    (whole : octets ≡ response ++ sending ++ reply ++ client ++ home)
    (at_first : first ≡ length response) (at_second : second ≡ first + length sending) (at_third : third ≡ second + length reply) (counted : count ≡ length client) where
  whole_first : octets ≡ response ++ (sending ++ (reply ++ (client ++ home)))
  whole_first = whole ∙ simp append_assoc

  whole_second : octets ≡ (response ++ sending) ++ (reply ++ (client ++ home))
  whole_second = whole_first ∙ simp append_assoc

  whole_third : octets ≡ (response ++ sending ++ reply) ++ (client ++ home)
  whole_third = whole_first ∙ simp append_assoc

  is_first : take first octets ≡ response
  is_first = ap (take first) whole_first ∙ take_at response (sending ++ (reply ++ (client ++ home))) first (sym at_first)

  is_second : slice_range octets first second ≡ sending
  is_second = between octets response sending (reply ++ (client ++ home)) first second whole_first at_first at_second

  is_third : slice_range octets second third ≡ reply
  is_third =
      let front : second ≡ length (response ++ sending) = omega (arith, length-append response sending) in
      between octets (response ++ sending) reply (client ++ home) second third whole_second front at_third

  front_third : third ≡ length (response ++ sending ++ reply)
  front_third = omega (arith, length-append response sending, length-append (response ++ sending) reply)

  is_fourth : slice_range octets third (third + count) ≡ client
  is_fourth =
      let end : third + count ≡ third + length client = omega arith in
      between octets (response ++ sending ++ reply) client home third (third + count) whole_third front_third end

  is_last : drop (third + count) octets ≡ home
  is_last =
      let front : length (response ++ sending ++ reply ++ client) ≡ third + count = omega (arith, front_third, length-append (response ++ sending ++ reply) client) in
      ap (drop (third + count)) whole ∙ drop_at (response ++ sending ++ reply ++ client) home (third + count) front

  abbrev pub replied : Replied
  replied = record { head = head; sending = sending; reply = reply; client = client; home = home; response = response }

  pub parted-joined : parted head octets first second third count ≡ replied
  parted-joined = λ i. record { head = head; sending = is_second i; reply = is_third i; client = is_fourth i; home = is_last i; response = is_first i }

  pub IsParted-joined : IsPacketText sending → Answers head sending reply client home response → IsParted head octets first second third count
  IsParted-joined packet answers = record {
    first = omega arith;
    second = omega arith;
    within = omega (arith, front_third, ap length whole_third, length-append (response ++ sending ++ reply) (client ++ home));
    sending_packet = subst IsPacketText (sym is_second) packet;
    answers = let P : Replied → Type 0 = λ r. IsAnswer r in subst P (sym parted-joined) answers;
  }
