-- Numbers, addresses and ports as texts (own).
use Rattle.std.specs.Prelude.{◌≡◌, ℕ, ◌+◌, ◌≤◌, List, [], ◌∷◌, length, All, take, drop, position, Option, Some, None, option_map, option_and_then, Bool, ◌&&◌, not, ◌==◌, nat_lt, nat_le, slice_index, if◌then◌else◌}
use Rattle.std.specs.List.{list_all}
use Rattle.std.specs.Char.{is_ascii_digit}
use Rattle.std.specs.Str.Parse.{digits_value}
use Rattle.rad_config.specs.declared.reading.address.Endpoint.{Endpoint}

infixl 10 ◌>>=◌
abbrev pub ◌>>=◌ : {A B : Type 0} → Option A → (A → Option B) → Option B
o >>= f = option_and_then f o

-- A decimal number: one digit or more, with no leading 0 unless it is the only digit.
abbrev pub is_number : List ℕ → Bool
is_number text =
    (nat_lt 0 (length text) && not (nat_lt 1 (length text) && (slice_index text 0 == 48))) && list_all is_ascii_digit text

-- The number that a text is, if it is from `least` to `most`.
unfoldable pub number_in : ℕ → ℕ → List ℕ → Option ℕ
number_in least most text =
    let number = digits_value 10 text in
    if is_number text && (nat_le least number && nat_le number most) then Some number else None

-- The octets before the first octet of this value, and those after it.
unfoldable pub around_first : ℕ → List ℕ → Option (List ℕ × List ℕ)
around_first octet text = option_map (λ i. (take i text, drop (i + 1) text)) (position (λ o. o == octet) text)

-- An address has four octets.
pub record IsAddress (octets : List ℕ) : Type 0 where
  pub four : length octets ≡ 4
  pub octet : All (λ o. o ≤ 255) octets

-- An address: four numbers from 0 to 255, joined by `.`
unfoldable pub address_in : List ℕ → Option (List ℕ)
address_in text = do
  first ← around_first 46 text
  second ← around_first 46 first.1
  third ← around_first 46 second.1
  a ← number_in 0 255 first.0
  b ← number_in 0 255 second.0
  c ← number_in 0 255 third.0
  d ← number_in 0 255 third.1
  Some (a ∷ b ∷ c ∷ d ∷ [])

-- An address and port: an address, `:`, and a number from 1 to 65535.
unfoldable pub endpoint_in : List ℕ → Option Endpoint
endpoint_in text = do
  parts ← around_first 58 text
  address ← address_in parts.0
  port ← number_in 1 65535 parts.1
  Some (record { address = address; port = port })
