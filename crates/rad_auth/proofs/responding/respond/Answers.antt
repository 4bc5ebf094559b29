use Rattle.std.proofs.Common.{◌≡◌, ◌↔◌, subst, sym, Bool, true, false, IsTrue, List, ℕ, refl}
use Rattle.rad_packet.specs.Packet.{authenticator_of}
use Rattle.rad_auth.specs.Authenticator.{IsRightResponse}
use Rattle.rad_auth.proofs.responding.respond.Goals as goal

-- What the comparison of the reply's Authenticator says. What was compared comes first, and then that it is the sending's Authenticator
-- and the home server's secret: a wrong body breaks one of these equations, and antt tells so at once.
module _ (sending reply home : List ℕ) (authenticator secret : List ℕ) (r : Bool) (decided : IsTrue r ↔ IsRightResponse secret authenticator reply) (is : authenticator ≡ authenticator_of sending) (own : secret ≡ home) where
  right_here : r ≡ true → IsRightResponse home (authenticator_of sending) reply
  right_here same = subst (λ (s : List ℕ). IsRightResponse s (authenticator_of sending) reply) own (subst (λ (a : List ℕ). IsRightResponse secret a reply) is (decided.0 same))

  wrong_here : r ≡ false → ¬ IsRightResponse home (authenticator_of sending) reply
  wrong_here other right =
      let same : r ≡ true = decided.1 (subst (λ (a : List ℕ). IsRightResponse secret a reply) (sym is) (subst (λ (s : List ℕ). IsRightResponse s (authenticator_of sending) reply) (sym own) right)) in
      cc

pub returns-then-not-check_response-clause-refused : goal.returns-then-not-check_response-clause-refused
returns-then-not-check_response-clause-refused c =
    wrong_here c.args.sending.now c.args.reply.now c.args.home.now _ _ _ c.check_response.ensures c.authenticator.ensures refl c.if-not-check_response.true

pub respond_to_right-requires-clause-right : goal.respond_to_right-requires-clause-right
respond_to_right-requires-clause-right c =
    right_here c.args.sending.now c.args.reply.now c.args.home.now _ _ _ c.check_response.ensures c.authenticator.ensures refl c.if-not-check_response.false
