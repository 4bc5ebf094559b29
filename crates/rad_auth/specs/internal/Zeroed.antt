-- The octets over which the Value of a Message-Authenticator is computed, by the place of that Value. No public clause
-- cites this module.
use Rattle.std.specs.Prelude.{ℕ, ◌+◌, List, ◌++◌, take, drop}
use Rattle.rad_auth.specs.Status.{no_value}

-- The text with zeros in place of the sixteen octets from this place on.
unfoldable pub zeroed_at : ℕ → List ℕ → List ℕ
zeroed_at place text = take place text ++ no_value ++ drop (place + 16) text
