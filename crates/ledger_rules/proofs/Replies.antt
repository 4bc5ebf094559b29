-- What a response that was made shows of the entry's.
use Rattle.std.proofs.Common.{◌≡◌, ◌≢◌, ℕ, true, false, List, subst}
use Rattle.rad_packet.specs.Packet.{code_of, identifier_of}
use Rattle.rad_auth.specs.Answers.{Answers}
use Rattle.rad_auth.specs.Refusing.{IsAnsweredOrRefused, RefusesReply}
use Rattle.rad_auth.specs.Replied.{Replied, IsAnswer}
use Rattle.rad_auth.specs.declared.reply.RequestHead.{RequestHead}
use Rattle.rad_auth.specs.declared.responding.ReplyFault.{ReplyFault}
use Rattle.rad_auth.specs.declared.responding.ReplyFault.TheVariants.{OutOfMemory}
use Rattle.ledger_rules.specs.Judging.{IsReply}

-- A response answers what it was made for.
pub made_for : (made : Replied) (head : RequestHead) (sending reply client home response : List ℕ) → IsAnswer made → made.head ≡ head → made.sending ≡ sending → made.reply ≡ reply → made.client ≡ client → made.home ≡ home → made.response ≡ response → Answers head sending reply client home response
made_for made head sending reply client home response a h s r c o p =
    subst (λ x. Answers head sending reply client home x) p
    (subst (λ x. Answers head sending reply client x made.response) o
    (subst (λ x. Answers head sending reply x made.home made.response) c
    (subst (λ x. Answers head sending x made.client made.home made.response) r
    (subst (λ x. Answers head x made.reply made.client made.home made.response) s
    (subst (λ x. Answers x made.sending made.reply made.client made.home made.response) h a)))))

module _ (home sent reply : List ℕ) where
  -- What is no Accounting-Response of the Identifier is no reply.
  pub other_code : code_of reply ≢ 5 → ¬ IsReply home sent reply
  other_code n r = n r.answers.reply_code

  pub other_identifier : identifier_of reply ≢ identifier_of sent → ¬ IsReply home sent reply
  other_identifier n r = n r.answers.reply_identifier

  -- Nor is what is refused, but for want of memory.
  pub refused : (fault : ReplyFault) → ((s r h : List ℕ) → IsAnsweredOrRefused s r h) → RefusesReply sent reply home fault → fault ≢ OutOfMemory → ¬ IsReply home sent reply
  refused fault law is other r = other (law sent reply home r.head r.client r.response fault r.answers is)

  module _ (head : RequestHead) (client response : List ℕ) (answers : Answers head sent reply client home response) where
    -- After a reply that is right there is a response.
    pub is_reply : IsReply home sent reply
    is_reply = record { head = head; client = client; response = response; answers = answers }

    -- The response that was made is the entry's, or the entry's is none.
    pub is_response : (its : List ℕ) → response ≡ its → Answers head sent reply client home its
    is_response its e = subst (λ x. Answers head sent reply client home x) e answers

    pub is_no_response : (its : List ℕ) → ((h : RequestHead) (s r c o a b : List ℕ) → Answers h s r c o a → Answers h s r c o b → a ≡ b) → response ≢ its → ¬ Answers head sent reply client home its
    is_no_response its one n other = n (one head sent reply client home response its answers other)

-- A test is not both.
pub other_octets : false ≡ true → ⊥
other_octets e = cc
