-- The Proxy-States of what departs: a forwarded request has its mark as the last one, and a probe has none.
use Rattle.std.proofs.Common.{◌≡◌, ℕ, ◌<◌, ◌^◌, List, [], ◌∷◌, ◌++◌, length, drop, refl, sym, ap, ◌∙◌}
use Rattle.std.specs.Int.{w64, from_be_bytes}
use Rattle.std.proofs.lemmas.List.{append-nil, drop_at, same_from_push}
use Rattle.std.proofs.lemmas.Nat.{from_be_bytes-to_be_bytes_8}
use Rattle.rad_packet.specs.Attribute.{Attribute, attribute_text, attributes_of, of_kind}
use Rattle.rad_packet.specs.Packet.{packet_text, packet_attributes}
use Rattle.rad_packet.proofs.Joined.{attributes_of-joined}
use Rattle.rad_packet.proofs.Walk.{of_kind-append}
use Rattle.rad_auth.specs.Hmac.{hmac_md5}
use Rattle.rad_auth.specs.Answers.{ReturnsMark}
use Rattle.rad_auth.specs.Mark.{EndsWithMark, mark_attribute, mark_value}
use Rattle.rad_auth.specs.Status.{message_authenticator, no_value, status_server}
use Rattle.rad_auth.specs.declared.mark.Mark.{Mark}
use Rattle.rad_auth.proofs.OneKind.{of_kind_first}

-- marks of one lane with one Value have one number
pub same_number : (lane a b : ℕ) → a < 2 ^ 64 → b < 2 ^ 64 → mark_value (record { lane = lane; number = a }) ≡ mark_value (record { lane = lane; number = b }) → a ≡ b
unfolding mark_value
same_number lane a b small_a small_b same =
    sym (from_be_bytes-to_be_bytes_8 a small_a) ∙ ap (λ x. from_be_bytes w64 (drop 2 x)) same ∙ from_be_bytes-to_be_bytes_8 b small_b

-- the attributes of a probe
abbrev ProbeAttributes : List ℕ → Type 0
ProbeAttributes octets = (value : List ℕ) × (packet_attributes octets ≡ message_authenticator value ∷ [])

probe_attributes : (identifier : ℕ) (random secret : List ℕ) → length random ≡ 16 → ProbeAttributes (status_server identifier random secret)
unfolding status_server
probe_attributes identifier random secret sixteen =
    let value : List ℕ = hmac_md5 secret (packet_text 12 identifier random (attribute_text (message_authenticator no_value))) in (
      value,
      ap attributes_of (drop_at random (attribute_text (message_authenticator value)) 16 sixteen ∙ sym (append-nil (attribute_text (message_authenticator value))))
          ∙ attributes_of-joined (message_authenticator value ∷ []),
    )

-- so it has no Proxy-State, and ends with no mark
pub probe_states : (identifier : ℕ) (random secret : List ℕ) → length random ≡ 16 → of_kind 33 (packet_attributes (status_server identifier random secret)) ≡ []
probe_states identifier random secret sixteen = ap (of_kind 33) (probe_attributes identifier random secret sixteen).1

pub last_state : (attributes before : List Attribute) (mark : Mark) → attributes ≡ before ++ mark_attribute mark ∷ [] → of_kind 33 attributes ≡ of_kind 33 before ++ mark_attribute mark ∷ []
last_state attributes before mark is =
    ap (of_kind 33) is ∙ of_kind-append 33 before (mark_attribute mark ∷ []) ∙ ap (λ xs. of_kind 33 before ++ xs) (of_kind_first 33 (mark_attribute mark) [] refl)

not_empty : (xs : List Attribute) (x : Attribute) → xs ++ x ∷ [] ≡ [] → ⊥
not_empty [] x is = cc
not_empty (y ∷ xs) x is = cc

pub ends_unmarked : (octets : List ℕ) (mark : Mark) → of_kind 33 (packet_attributes octets) ≡ [] → EndsWithMark mark octets → ⊥
ends_unmarked octets mark none ends =
    not_empty (of_kind 33 ends.before) (mark_attribute mark) (sym (last_state (packet_attributes octets) ends.before mark ends.last) ∙ none)

-- a reply that returns a mark, and has the Proxy-States of other octets: these have one, and if they end with a mark,
-- then with this one
module _ (sending reply asked : List ℕ) (mark : Mark) (before after : List Attribute) (returns : ReturnsMark sending reply mark before after) (states : of_kind 33 (packet_attributes reply) ≡ of_kind 33 (packet_attributes asked)) where
  returned : of_kind 33 (packet_attributes asked) ≡ of_kind 33 before ++ mark_attribute mark ∷ []
  returned =
      sym states ∙ ap (of_kind 33) returns.split ∙ of_kind-append 33 before (mark_attribute mark ∷ after)
      ∙ ap (λ xs. of_kind 33 before ++ xs) (of_kind_first 33 (mark_attribute mark) after refl ∙ ap (λ xs. mark_attribute mark ∷ xs) returns.last)

  pub has_states : of_kind 33 (packet_attributes asked) ≡ [] → ⊥
  has_states none = not_empty (of_kind 33 before) (mark_attribute mark) (sym returned ∙ none)

  pub returned_value : (other : Mark) → EndsWithMark other asked → mark_value mark ≡ mark_value other
  returned_value other ends =
      ap (λ (x : Attribute). x.value)
      (same_from_push (of_kind 33 before) (of_kind 33 ends.before) (mark_attribute mark) (mark_attribute other)
      (sym returned ∙ last_state (packet_attributes asked) ends.before other ends.last)).1
