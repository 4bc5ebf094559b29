-- Fields as they are read from the left: a value and the octets behind it, or nothing.
use Rattle.std.specs.Prelude.{ℕ, List, [], ◌∷◌, length, take, drop, Option, Some, None, nat_lt, nat_le, ◌&&◌, ◌==◌, if◌then◌else◌}
use Rattle.std.specs.Int.{Width, w16, w32, w64, byte_len, from_be_bytes}
use Rattle.rad_tables.specs.declared.duplicates.Key.{Key}
use Rattle.spool_files.specs.declared.entry.LocalAddress.{LocalAddress}
use Rattle.spool_files.specs.declared.entry.Begun.{Begun}
use Rattle.spool_files.specs.declared.entry.Came.{Came}
use Rattle.spool_files.specs.declared.entry.Answered.{Answered}
use Rattle.spool_files.specs.declared.entry.GivenUp.{GivenUp}
use Rattle.spool_files.specs.declared.entry.Head.{Head}
use Rattle.spool_files.specs.declared.entry.Head.TheVariants as heads
use Rattle.spool_files.specs.Batches.{Batch}
use Rattle.spool_files.specs.Entries.{Entry, least_text, greatest_text}

abbrev pub Reading : Type 0 → Type 0
Reading A = List ℕ → Option (A × List ℕ)

abbrev pub bind : {A B : Type 0} → Option A → (A → Option B) → Option B
bind (Some x) f = f x
bind None f = None

abbrev pub first_at : Reading ℕ
first_at [] = None
first_at (octet ∷ rest) = Some (octet, rest)

unfoldable pub octets_at : ℕ → Reading (List ℕ)
octets_at count octets = if nat_lt (length octets) count then None else Some (take count octets, drop count octets)

unfoldable pub number_at : Width → Reading ℕ
number_at w octets = if nat_lt (length octets) (byte_len w) then None else Some (from_be_bytes w (take (byte_len w) octets), drop (byte_len w) octets)

-- one field and then another
abbrev pub both_at : {A B : Type 0} → Reading A → Reading B → Reading (A × B)
both_at first second octets = bind (first octets) (λ a. bind (second a.1) (λ b. Some ((a.0, b.0), b.1)))

-- a field as a value of another type
abbrev pub as_at : {A B : Type 0} → (A → B) → Reading A → Reading B
as_at made field octets = bind (field octets) (λ a. Some (made a.0, a.1))

unfoldable pub key_at : Reading Key
key_at = as_at (λ p. record { authenticator = p.0; client = p.1.0; port = p.1.1.0; identifier = p.1.1.1 })
    (both_at (octets_at 16) (both_at (octets_at 4) (both_at (number_at w16) first_at)))

unfoldable pub address_at : Reading LocalAddress
address_at = as_at (λ p. record { address = p.0; port = p.1 }) (both_at (octets_at 4) (number_at w16))

unfoldable pub begun_at : Reading Begun
begun_at = as_at (λ p. record { version = p.0; run = p.1.0; number = p.1.1 }) (both_at (number_at w16) (both_at (number_at w64) (number_at w64)))

unfoldable pub came_at : Reading Came
came_at = as_at (λ p. record { key = p.0; ours = p.1.0; arrival = p.1.1.0; run = p.1.1.1.0; lane = p.1.1.1.1.0; number = p.1.1.1.1.1.0; moment = p.1.1.1.1.1.1 })
    (both_at key_at (both_at address_at (both_at (number_at w64) (both_at (number_at w64) (both_at (number_at w16) (both_at (number_at w64) (number_at w64)))))))

unfoldable pub answered_at : Reading Answered
answered_at = as_at (λ p. record { key = p.0; run = p.1.0; lane = p.1.1.0; serial = p.1.1.1.0; moment = p.1.1.1.1 })
    (both_at key_at (both_at (number_at w64) (both_at (number_at w16) (both_at (number_at w64) (number_at w64)))))

unfoldable pub given_up_at : Reading GivenUp
given_up_at = as_at (λ p. record { key = p.0; moment = p.1 }) (both_at key_at (number_at w64))

abbrev pub kind_at : ℕ → Reading Head
kind_at kind octets =
    if kind == 1 then as_at heads.Begun begun_at octets
    else (if kind == 2 then as_at heads.Came came_at octets
    else (if kind == 3 then as_at heads.Answered answered_at octets
    else (if kind == 4 then as_at heads.GivenUp given_up_at octets else None)))

unfoldable pub head_at : Reading Head
head_at octets = bind (first_at octets) (λ kind. kind_at kind.0 kind.1)

-- a text that such a head may have
unfoldable pub text_at : Head → Reading (List ℕ)
text_at head octets = bind (number_at w16 octets) (λ count. if nat_le (least_text head) count.0 && nat_le count.0 (greatest_text head) then octets_at count.0 count.1 else None)

unfoldable pub entry_at : Reading Entry
entry_at octets = bind (head_at octets) (λ head. bind (text_at head.0 head.1) (λ text. Some ((head.0, text.0), text.1)))

-- what stands behind an open gate
unfoldable pub frame_at : Reading Batch
frame_at octets = bind (number_at w32 octets) (λ count. bind (number_at w32 count.1) (λ check. bind (octets_at count.0 check.1) (λ body. Some ((check.0, body.0), body.1))))

unfoldable pub batch_at : Reading Batch
batch_at octets = bind (first_at octets) (λ gate. if gate.0 == 1 then frame_at gate.1 else None)
