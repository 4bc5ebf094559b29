-- What is wrong with an entry, out of what its parts show.
use Rattle.std.proofs.Common.{◌≡◌, ℕ, subst, true, false, List, Option, Some, None, MatchOption, IfSome, Result, Ok, Err, IfOk}
use Rattle.std.specs.Bool.{IsTrue}
use Rattle.rad_packet.specs.Packet.{IsPacketText}
use Rattle.ledger_rules.specs.Judging.{ArePackets, ArePacketsRight, HasSent, HasRequest, IsRequest, IsResponse, IsSent, IsWrong, IsWrongPacket, JudgesReply, head_of, mark_of}
use Rattle.rad_auth.specs.declared.mark.Mark.{Mark}
use Rattle.rad_auth.specs.declared.reply.RequestHead.{RequestHead}
use Rattle.ledger_rules.specs.declared.entry.Entry.{Entry}
use Rattle.ledger_rules.specs.declared.reason.Reason.{Reason}
use Rattle.ledger_rules.specs.declared.reason.Reason.TheVariants.{NotEntry, NoPacket, WrongSent, WrongRequest, WrongReply, WrongResponse, SerialNotAbove, UnknownLane, RecordTwice, UnknownRecord, WrongWords, FileAgain, OtherLanes, WrongSum}

module _ (e : Entry) where
  pub sent_is_none : ¬ IsPacketText e.sent.now → ¬ ArePackets e
  sent_is_none n p = n p.sent

  pub reply_is_none : ¬ IsPacketText e.reply.now → ¬ ArePackets e
  reply_is_none n p = n p.reply

  pub response_is_none : ¬ IsPacketText e.response.now → ¬ ArePackets e
  response_is_none n p = n p.response

  pub are_packets : IsPacketText e.sent.now → IsPacketText e.reply.now → IsPacketText e.response.now → ArePackets e
  are_packets s r p = record { sent = s; reply = r; response = p }

  -- what is told of what was sent by its mark and its octets is told of the entry
  module _ (home : Option (List ℕ)) (mark : Mark) (sent : List ℕ) (marked : mark ≡ mark_of e) (whole : sent ≡ e.sent.now) where
    pub has_sent : IfSome home (λ secret. IsSent secret mark sent) → HasSent home e
    has_sent s = rw (marked, whole) at s

    pub not_sent : (IfSome home (λ secret. IsSent secret mark sent) → IsTrue false) → ¬ HasSent home e
    not_sent n s = let no : false ≡ true = n (rw (marked, whole) s) in cc

    -- of its request by its head too
    module _ (client : Option (List ℕ)) (head : RequestHead) (heads : head ≡ head_of e) where
      pub has_request : IfSome client (λ secret. IsRequest secret head mark sent) → HasRequest client e
      has_request r = rw (heads, marked, whole) at r

      pub no_request : (IfSome client (λ secret. IsRequest secret head mark sent) → IsTrue false) → ¬ HasRequest client e
      no_request n r = let no : false ≡ true = n (rw (heads, marked, whole) r) in cc

  -- and of its response, where the home server's secret is not known
  module _ (client : Option (List ℕ)) (head : RequestHead) (response : List ℕ) (heads : head ≡ head_of e) (whole : response ≡ e.response.now) (p : ArePackets e) (q : HasRequest client e) where
    pub is_right : IfSome client (λ secret. IsResponse secret head response) → ArePacketsRight e None client
    is_right r = record { packets = p; sent = tt; request = q; reply = tt; response = rw (heads, whole) at r }

    pub no_response : (IfSome client (λ secret. IsResponse secret head response) → IsTrue false) → IsWrongPacket e None client WrongResponse
    no_response n = (p, tt, q, tt, λ r. let no : false ≡ true = n (rw (heads, whole) r) in cc)

  module _ (home : List ℕ) (client : Option (List ℕ)) (p : ArePackets e) (s : HasSent (Some home) e) (q : HasRequest client e) where
    by_reason : (wrong : Option Reason) → JudgesReply home client (head_of e) e.sent.now e.reply.now e.response.now wrong → MatchOption wrong (ArePacketsRight e (Some home) client) (λ reason. IsWrongPacket e (Some home) client reason)
    by_reason None j = record { packets = p; sent = s; request = q; reply = j.0; response = j.1 }
    by_reason (Some NotEntry) j = j
    by_reason (Some NoPacket) j = absurd j
    by_reason (Some WrongSent) j = absurd j
    by_reason (Some WrongRequest) j = absurd j
    by_reason (Some WrongReply) j = (p, s, q, j)
    by_reason (Some WrongResponse) j = (p, s, q, j.0, j.1)
    by_reason (Some SerialNotAbove) j = j
    by_reason (Some UnknownLane) j = j
    by_reason (Some RecordTwice) j = j
    by_reason (Some UnknownRecord) j = j
    by_reason (Some WrongWords) j = j
    by_reason (Some FileAgain) j = j
    by_reason (Some OtherLanes) j = j
    by_reason (Some WrongSum) j = j

    -- what is told of the reply and the response is told of the packets
    pub judged : {E : Type 0} (result : Result (Option Reason) E) → IfOk result (λ wrong. JudgesReply home client (head_of e) e.sent.now e.reply.now e.response.now wrong) → IfOk result (λ wrong. MatchOption wrong (ArePacketsRight e (Some home) client) (λ reason. IsWrongPacket e (Some home) client reason))
    judged (Ok wrong) j = by_reason wrong j
    judged (Err refused) j = tt

    -- the same by the head and the packets that were read
    pub judged_of : {E : Type 0} (result : Result (Option Reason) E) (head : RequestHead) (sent reply : List ℕ) → head ≡ head_of e → sent ≡ e.sent.now → reply ≡ e.reply.now → IfOk result (λ wrong. JudgesReply home client head sent reply e.response.now wrong) → IfOk result (λ wrong. MatchOption wrong (ArePacketsRight e (Some home) client) (λ reason. IsWrongPacket e (Some home) client reason))
    judged_of result head sent reply h o r j = judged result (
        subst (λ x. IfOk result (λ wrong. JudgesReply home client (head_of e) e.sent.now x e.response.now wrong)) r
        (subst (λ x. IfOk result (λ wrong. JudgesReply home client (head_of e) x reply e.response.now wrong)) o
        (subst (λ x. IfOk result (λ wrong. JudgesReply home client x sent reply e.response.now wrong)) h j)))

  module _ (home client : Option (List ℕ)) (next : Option ℕ) (Twice : Type 0) where
    -- what is wrong with the packets is wrong first
    pub packets_first : (reason : Reason) → IsWrongPacket e home client reason → IsWrong e home client next Twice reason
    packets_first NotEntry w = w
    packets_first NoPacket w = w
    packets_first WrongSent w = w
    packets_first WrongRequest w = w
    packets_first WrongReply w = w
    packets_first WrongResponse w = w
    packets_first SerialNotAbove w = absurd w
    packets_first UnknownLane w = absurd w
    packets_first RecordTwice w = absurd w
    packets_first UnknownRecord w = w
    packets_first WrongWords w = w
    packets_first FileAgain w = w
    packets_first OtherLanes w = w
    packets_first WrongSum w = w
