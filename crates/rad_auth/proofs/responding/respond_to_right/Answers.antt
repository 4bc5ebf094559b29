use Rattle.std.proofs.Common.{rules, ◌≡◌, ◌<◌, subst, sym, length, arith, Bool, List, ℕ, [], refl, ap, ◌∙◌}
use Rattle.rad_packet.specs.Attribute.{of_kind}
use Rattle.rad_packet.specs.Packet.{packet_attributes, authenticator_of}
use Rattle.std.specs.Bool.{OnTrue}
use Rattle.rad_auth.specs.Authenticator.{IsRightResponse}
use Rattle.rad_auth.specs.Mark.{mark_attribute}
use Rattle.rad_auth.specs.Refusing.{RefusesReply, ReturnsItsMark}
use Rattle.rad_auth.specs.declared.responding.ReplyFault.TheVariants.{OutOfMemory}
use Rattle.rad_auth.specs.internal.Returning.{IsLastOrNone, IsReturnedAt}
use Rattle.rad_auth.proofs.OneKind.{none_among}
use Rattle.rad_auth.proofs.Returns.{Answers-made}
use Rattle.rad_auth.proofs.responding.respond_to_right.Goals as goal

-- a reply without a Proxy-State returns no mark
none_returned : (sending reply : List ℕ) → of_kind 33 (packet_attributes reply) ≡ [] → ¬ ReturnsItsMark sending reply
none_returned sending reply none (mark, before, after, returned) =
    none_among 33 before (mark_attribute mark) after (ap (of_kind 33) (sym returned.split) ∙ none) refl

pub returns-in_err-last-clause-refused : goal.returns-in_err-last-clause-refused
returns-in_err-last-clause-refused c =
    let right : IsRightResponse c.args.home.now (authenticator_of c.args.sending.now) c.args.reply.now = c.requires.right in
    let fault = c.in_err-last.ensures.0 in
    let some = c.in_err-last.ensures.1 in
    search (rules, right, fault, some)

pub returns-in_default-clause-refused : goal.returns-in_default-clause-refused
returns-in_default-clause-refused c =
    let none : of_kind 33 (packet_attributes c.args.reply.now) ≡ [] = subst (IsLastOrNone c.args.reply.now) c.in_default.is c.in_ok-last.ensures.1 in (
      c.requires.right,
      c.in_ok-last.ensures.0,
      none_returned c.args.sending.now c.args.reply.now none,
    )

pub returns-then-not-is_returned_mark-clause-refused : goal.returns-then-not-is_returned_mark-clause-refused
returns-then-not-is_returned_mark-clause-refused c = (
  c.requires.right,
  c.in_ok-last.ensures.0,
  c.if-not-is_returned_mark.ensures.other,
)

pub returns-in_err-response-clause-refused : goal.returns-in_err-response-clause-refused
returns-in_err-response-clause-refused c =
    let at : IsReturnedAt c.args.sending.now c.args.reply.now c.in-Some.last.place c.in-Some.last.length = c.if-not-is_returned_mark.ensures.returned in
    let refused : RefusesReply c.args.sending.now c.args.reply.now c.args.home.now OutOfMemory = (
      c.requires.right,
      c.in_ok-last.ensures.0,
      (at.mark, at.before, at.after, at.returned),
    ) in
    search (rules, refused)

pub returns-in_err-keep-clause-refused : goal.returns-in_err-keep-clause-refused
returns-in_err-keep-clause-refused c =
    let at : IsReturnedAt c.args.sending.now c.args.reply.now c.in-Some.last.place c.in-Some.last.length = c.if-not-is_returned_mark.ensures.returned in
    let refused : RefusesReply c.args.sending.now c.args.reply.now c.args.home.now OutOfMemory = (
      c.requires.right,
      c.in_ok-last.ensures.0,
      (at.mark, at.before, at.after, at.returned),
    ) in
    search (rules, refused)

pub keep-requires : goal.keep-requires
keep-requires c =
    let sixteen : length c.args.head.authenticator ≡ 16 = omega arith in
    let none : of_kind 80 (packet_attributes c.args.reply.now) ≡ [] = c.in_ok-last.ensures.0 in
    let at : IsReturnedAt c.args.sending.now c.args.reply.now c.in-Some.last.place c.in-Some.last.length =
    subst (λ (b : Bool). OnTrue b (IsReturnedAt c.args.sending.now c.args.reply.now c.in-Some.last.place c.in-Some.last.length)) c.if-not-is_returned_mark.false c.is_returned_mark.ensures.returned in
    let small : c.args.head.identifier < 256 = omega arith in
    Answers-made c.args.head c.args.sending.now c.args.reply.now c.args.client.now c.args.home.now _ c.in-Some.last.place c.in-Some.last.length
    sixteen small c.write_response.ensures.reply c.requires.code c.requires.identifier c.requires.right none at c.in_ok-response.ensures.made
