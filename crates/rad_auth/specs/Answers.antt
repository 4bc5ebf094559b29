-- When a response answers a request after a home server's reply (RFC 2866 section 2.1, Proxy; RFC 2865 section 5.33).
-- That a reply with a Message-Authenticator is not accepted is own.
use Rattle.std.specs.Prelude.{◌≡◌, ℕ, List, [], ◌∷◌, ◌++◌}
use Rattle.rad_packet.specs.Attribute.{Attribute, of_kind}
use Rattle.rad_packet.specs.Packet.{IsPacketText, code_of, identifier_of, authenticator_of, packet_attributes}
use Rattle.rad_auth.specs.Authenticator.{IsRightResponse}
use Rattle.rad_auth.specs.Mark.{EndsWithMark, mark_attribute}
use Rattle.rad_auth.specs.declared.mark.Mark.{Mark}
use Rattle.rad_auth.specs.declared.reply.RequestHead.{RequestHead}

-- The last attribute of the sending is this mark, and the last Proxy-State of the reply is the same mark. `before` are
-- the reply's attributes before it, and `after` those after it.
pub record ReturnsMark (sending reply : List ℕ) (mark : Mark) (before after : List Attribute) : Type 0 where
  pub sent : EndsWithMark mark sending
  pub split : packet_attributes reply ≡ before ++ mark_attribute mark ∷ after
  pub last : of_kind 33 after ≡ []

-- The response answers the request with this head, after this reply to this sending, under the secrets of the client
-- and of the home server.
pub record Answers (head : RequestHead) (sending reply client home response : List ℕ) : Type 0 where
  -- The reply is an Accounting-Response with the sending's Identifier.
  pub reply_packet : IsPacketText reply
  pub reply_code : code_of reply ≡ 5
  pub reply_identifier : identifier_of reply ≡ identifier_of sending
  -- It is valid under the home server's secret for the sending.
  pub verified : IsRightResponse home (authenticator_of sending) reply
  -- It has no Message-Authenticator.
  pub no_message_authenticator : of_kind 80 (packet_attributes reply) ≡ []
  -- Its last Proxy-State is the sending's mark.
  pub mark : Mark
  pub before : List Attribute
  pub after : List Attribute
  pub returned : ReturnsMark sending reply mark before after
  -- The response is the Accounting-Response with the request's Identifier and with the reply's other attributes in
  -- their order. It is valid under the client's secret for the request.
  pub response_packet : IsPacketText response
  pub response_code : code_of response ≡ 5
  pub response_identifier : identifier_of response ≡ head.identifier
  pub response_attributes : packet_attributes response ≡ before ++ after
  pub response_right : IsRightResponse client head.authenticator response
