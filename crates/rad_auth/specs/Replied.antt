-- The parts of a reply that is kept (own).
use Rattle.std.specs.Prelude.{ℕ, List}
use Rattle.rad_auth.specs.Answers.{Answers}
use Rattle.rad_auth.specs.declared.reply.RequestHead.{RequestHead}

-- The head of a request, the sending and the reply to it, the secrets of the client and of the home server, and the
-- response. The packets are texts, and the secrets are lists of octets.
pub record Replied : Type 0 where
  pub head : RequestHead
  pub sending : List ℕ
  pub reply : List ℕ
  pub client : List ℕ
  pub home : List ℕ
  pub response : List ℕ

-- Its response answers the request.
abbrev pub IsAnswer : Replied → Type 0
IsAnswer r = Answers r.head r.sending r.reply r.client r.home r.response
