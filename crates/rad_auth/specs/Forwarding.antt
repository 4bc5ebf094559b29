-- Forwarding (RFC 2866 section 2.1, Proxy; RFC 2865 section 5.33).
use Rattle.std.specs.Prelude.{ℕ, List, ◌++◌}
use Rattle.rad_packet.specs.Packet.{attribute_octets}
use Rattle.rad_auth.specs.Authenticator.{accounting_request}
use Rattle.rad_auth.specs.Mark.{mark_text}
use Rattle.rad_auth.specs.declared.mark.Mark.{Mark}

-- The forwarded packet: an Accounting-Request with this Identifier and with the attributes of the request followed by
-- the mark, signed under this secret.
unfoldable pub forwarded : List ℕ → Mark → ℕ → List ℕ → List ℕ
forwarded text mark identifier secret = accounting_request identifier (attribute_octets text ++ mark_text mark) secret
