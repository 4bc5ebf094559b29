-- Secrets (RFC 2865 section 3): a secret has at least one octet. That it has at most 128 octets is own.
use Rattle.std.specs.Prelude.{◌≡◌, ℕ, ◌<◌, List, [], length}
use Rattle.rad_auth.specs.declared.secret.SecretFault.{SecretFault}
use Rattle.rad_auth.specs.declared.secret.SecretFault.TheVariants.{Empty, TooLong}

-- Why octets are not a secret.
abbrev pub RefusesSecret : List ℕ → SecretFault → Type 0
RefusesSecret octets Empty = octets ≡ []
RefusesSecret octets TooLong = 128 < length octets
