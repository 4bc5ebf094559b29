-- No two faults refuse one reply, and one that has a response is refused for want of memory alone.
use Rattle.std.proofs.Common.{◌≡◌, List, ℕ, refl}
use Rattle.rad_auth.specs.Answers.{Answers}
use Rattle.rad_auth.specs.Refusing.{RefusesReply}
use Rattle.rad_auth.specs.declared.reply.RequestHead.{RequestHead}
use Rattle.rad_auth.specs.declared.responding.ReplyFault.{ReplyFault}
use Rattle.rad_auth.specs.declared.responding.ReplyFault.TheVariants.{BadAuthenticator, MessageAuthenticatorHere, NoProxyState, OutOfMemory}

pub one_fault : (sending reply home : List ℕ) (e f : ReplyFault) → RefusesReply sending reply home e → RefusesReply sending reply home f → e ≡ f
one_fault sending reply home BadAuthenticator BadAuthenticator d h = refl
one_fault sending reply home BadAuthenticator MessageAuthenticatorHere d h = absurd (d h.0)
one_fault sending reply home BadAuthenticator NoProxyState d h = absurd (d h.0)
one_fault sending reply home BadAuthenticator OutOfMemory d h = absurd (d h.0)
one_fault sending reply home MessageAuthenticatorHere BadAuthenticator d h = absurd (h d.0)
one_fault sending reply home MessageAuthenticatorHere MessageAuthenticatorHere d h = refl
one_fault sending reply home MessageAuthenticatorHere NoProxyState d h = absurd (d.1 h.1)
one_fault sending reply home MessageAuthenticatorHere OutOfMemory d h = absurd (d.1 h.1)
one_fault sending reply home NoProxyState BadAuthenticator d h = absurd (h d.0)
one_fault sending reply home NoProxyState MessageAuthenticatorHere d h = absurd (h.1 d.1)
one_fault sending reply home NoProxyState NoProxyState d h = refl
one_fault sending reply home NoProxyState OutOfMemory d h = absurd (d.2 h.2)
one_fault sending reply home OutOfMemory BadAuthenticator d h = absurd (h d.0)
one_fault sending reply home OutOfMemory MessageAuthenticatorHere d h = absurd (h.1 d.1)
one_fault sending reply home OutOfMemory NoProxyState d h = absurd (h.2 d.2)
one_fault sending reply home OutOfMemory OutOfMemory d h = refl

pub only_memory : (sending reply home : List ℕ) (head : RequestHead) (client response : List ℕ) (fault : ReplyFault) → Answers head sending reply client home response → RefusesReply sending reply home fault → fault ≡ OutOfMemory
only_memory sending reply home head client response fault a h =
    one_fault sending reply home fault OutOfMemory h (a.verified, a.no_message_authenticator, (a.mark, a.before, a.after, a.returned))
