-- A request's user and status (RFC 2866 section 5).
use Rattle.std.specs.Prelude.{ℕ, ◌==◌, List, [], ◌∷◌, Option, Some, None, option_map, find}
use Rattle.std.specs.Int.{w32, from_be_bytes}
use Rattle.rad_packet.specs.Packet.{packet_attributes}

-- The Value of a packet's first attribute of a Type.
unfoldable pub first_value : ℕ → List ℕ → Option (List ℕ)
first_value kind text = option_map (λ a. a.value) (find (λ a. a.kind == kind) (packet_attributes text))

-- The number that four octets are, the most significant first.
abbrev pub status_in : Option (List ℕ) → Option ℕ
status_in (Some (a ∷ b ∷ c ∷ d ∷ [])) = Some (from_be_bytes w32 (a ∷ b ∷ c ∷ d ∷ []))
status_in (Some octets) = None
status_in None = None
