-- Why a reply gives no response: the first of these faults that applies. If none of the first three applies, memory
-- may still be refused.
use Rattle.std.specs.Prelude.{◌≡◌, ◌≢◌, ℕ, List, []}
use Rattle.rad_packet.specs.Attribute.{Attribute, of_kind}
use Rattle.rad_packet.specs.Packet.{authenticator_of, packet_attributes}
use Rattle.rad_auth.specs.Answers.{Answers, ReturnsMark}
use Rattle.rad_auth.specs.Authenticator.{IsRightResponse}
use Rattle.rad_auth.specs.declared.mark.Mark.{Mark}
use Rattle.rad_auth.specs.declared.reply.RequestHead.{RequestHead}
use Rattle.rad_auth.specs.declared.responding.ReplyFault.{ReplyFault}
use Rattle.rad_auth.specs.declared.responding.ReplyFault.TheVariants.{BadAuthenticator, MessageAuthenticatorHere, NoProxyState, OutOfMemory}

-- The last Proxy-State of the reply is the mark of the sending.
abbrev pub ReturnsItsMark : List ℕ → List ℕ → Type 0
ReturnsItsMark sending reply =
    (mark : Mark) × (before : List Attribute) × (after : List Attribute) × ReturnsMark sending reply mark before after

abbrev pub RefusesReply : List ℕ → List ℕ → List ℕ → ReplyFault → Type 0
RefusesReply sending reply home BadAuthenticator = ¬ IsRightResponse home (authenticator_of sending) reply
RefusesReply sending reply home MessageAuthenticatorHere =
    IsRightResponse home (authenticator_of sending) reply × (of_kind 80 (packet_attributes reply) ≢ [])
RefusesReply sending reply home NoProxyState =
    IsRightResponse home (authenticator_of sending) reply × (of_kind 80 (packet_attributes reply) ≡ [])
    × ¬ ReturnsItsMark sending reply
RefusesReply sending reply home OutOfMemory =
    IsRightResponse home (authenticator_of sending) reply × (of_kind 80 (packet_attributes reply) ≡ [])
    × ReturnsItsMark sending reply

-- No reply is refused for two different faults.
abbrev pub IsRefusedOnce : List ℕ → List ℕ → List ℕ → Type 0
IsRefusedOnce sending reply home =
    (e f : ReplyFault) → RefusesReply sending reply home e → RefusesReply sending reply home f → e ≡ f

-- If a response answers a request after this reply, the reply is refused only if memory is refused.
abbrev pub IsAnsweredOrRefused : List ℕ → List ℕ → List ℕ → Type 0
IsAnsweredOrRefused sending reply home =
    (head : RequestHead) (client response : List ℕ) (fault : ReplyFault)
    → Answers head sending reply client home response → RefusesReply sending reply home fault → fault ≡ OutOfMemory
