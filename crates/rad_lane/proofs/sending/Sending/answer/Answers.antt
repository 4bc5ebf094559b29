use Rattle.std.proofs.Common.{◌≡◌, ◌≤◌, refl, ap, sym, ◌∙◌, subst, arith, List, ℕ}
use Rattle.rad_packet.specs.Packet.{identifier_of}
use Rattle.rad_auth.specs.Forwarding.{forwarded}
use Rattle.rad_auth.specs.Mark.{EndsWithMark}
use Rattle.rad_auth.specs.Replied.{Replied, IsAnswer}
use Rattle.rad_auth.specs.Refusing.{RefusesReply}
use Rattle.rad_auth.specs.declared.mark.Mark.{Mark}
use Rattle.rad_auth.specs.declared.reply.RequestHead.{RequestHead}
use Rattle.rad_auth.specs.declared.responding.ReplyFault.{ReplyFault}
use Rattle.rad_auth.specs.declared.responding.ReplyFault.TheVariants.{OutOfMemory}
use Rattle.rad_auth.proofs.Forwards.{forwarded-ends}
use Rattle.rad_lane.specs.declared.stamp.Stamp.{Stamp}
use Rattle.rad_lane.specs.Hears.{KeepsAnswer}
use Rattle.rad_lane.specs.Outstanding.{Outstanding, AnswerKept, IsForwarded, IsAnswered}
use Rattle.rad_lane.specs.Stamp.{Recorded, IsRecord}
use Rattle.rad_lane.proofs.NotDone.{not_done, told_fault}
use Rattle.rad_lane.proofs.sending.Sending.answer.Goals as goal

pub respond-requires-clause-code : goal.respond-requires-clause-code
respond-requires-clause-code c = c.requires.code

pub respond-requires-clause-identifier : goal.respond-requires-clause-identifier
respond-requires-clause-identifier c = c.requires.identifier ∙ ap (λ text. identifier_of text) (sym c.packet.ensures)

pub respond-requires-clause-mark : goal.respond-requires-clause-mark
respond-requires-clause-mark c =
    let i = c.self.invariant in
    let mark : Mark = record { lane = i.lane; number = c.self.inside.request.recorded.stamp.number } in
    let same = c.packet.ensures ∙ ap (λ (o : Outstanding). o.octets) (sym c.self.view_is) ∙ i.octets in
    (mark, subst (λ (text : List ℕ). EndsWithMark mark text) (sym same) (forwarded-ends _ _ i.identifier _ i.is_record.packet))

-- what answers a sending
answers_sending : (o : Outstanding) (stamp : Stamp) (now serial : ℕ) (made : Replied) → IsForwarded o → IsAnswer made
    → stamp ≡ o.request.stamp → made.head.identifier ≡ stamp.identifier → made.head.authenticator ≡ stamp.authenticator
    → made.sending ≡ o.octets → made.client ≡ o.request.client_secret → made.home ≡ o.home → stamp.moment ≤ now
    → IsAnswered (record { stamp = stamp; moment = now; serial = serial; reply = made })
answers_sending o stamp now serial made f answers same identifier authenticator sending client home since =
    let recorded : Recorded = record { stamp = stamp; text = o.request.text; client_secret = made.client } in
    let here : o.request ≡ recorded = λ i. record { stamp = (sym same) i; text = o.request.text; client_secret = (sym client) i } in
    record {
      head_identifier = identifier;
      head_authenticator = authenticator;
      answers = answers;
      text = o.request.text;
      is_record = let P : Recorded → Type 0 = λ r. IsRecord r in subst P here f.is_record;
      lane = f.lane;
      identifier = f.identifier;
      sending =
          sending ∙ f.octets
          ∙ ap (λ (s : Stamp). forwarded o.request.text (record { lane = f.lane; number = s.number }) f.identifier o.home) (sym same)
          ∙ ap (λ (secret : List ℕ). forwarded o.request.text (record { lane = f.lane; number = stamp.number }) f.identifier secret) (sym home);
      since = since;
    }

pub with_outgoing-requires : goal.with_outgoing-requires
with_outgoing-requires c =
    let made = c.in_ok-reply.ensures.made in
    let stamp : c.stamp-stamp.result ≡ c.args.self.now.request.stamp = c.stamp-stamp.ensures.value ∙ ap (λ (o : Outstanding). o.request.stamp) c.self.view_is in
    let sent : c.in_ok-reply.reply.sending ≡ c.args.self.now.octets = made.1 ∙ c.packet.ensures in
    let client : c.in_ok-reply.reply.client ≡ c.args.self.now.request.client_secret =
    made.3 ∙ c.client_secret-client.ensures ∙ ap (λ (o : Outstanding). o.request.client_secret) c.self.view_is in
    let home : c.in_ok-reply.reply.home ≡ c.args.self.now.home = made.4 ∙ ap (λ (o : Outstanding). o.home) c.self.view_is in
    let since : c.stamp-stamp.result.moment ≤ c.args.now = omega (arith, ap (λ (s : Stamp). s.moment) stamp, c.requires.since) in
    let forwarded_here : IsForwarded c.args.self.now = let P : Outstanding → Type 0 = λ o. IsForwarded o in subst P c.self.view_is c.self.invariant in
    answers_sending c.args.self.now c.stamp-stamp.result c.args.now c.args.serial c.in_ok-reply.reply forwarded_here c.in_ok-reply.ensures.answers stamp
    (ap (λ (h : RequestHead). h.identifier) made.0) (ap (λ (h : RequestHead). h.authenticator) made.0) sent client home since

-- a reply is refused for its sending as it is for what was compared
refused_here : (o : Outstanding) (packet sending compared home : List ℕ) (fault : ReplyFault) → RefusesReply sending compared home fault → sending ≡ o.octets → compared ≡ packet → home ≡ o.home → RefusesReply o.octets packet o.home fault
refused_here o packet sending compared home fault refused octets same secret =
    let P : List ℕ → Type 0 = λ text. RefusesReply text compared home fault in
    let Q : List ℕ → Type 0 = λ text. RefusesReply o.octets text home fault in
    let R : List ℕ → Type 0 = λ text. RefusesReply o.octets packet text fault in
    subst R secret (subst Q same (subst P octets refused))

-- memory may be refused after a reply that is verified
memory_refused : (o : Outstanding) (packet : List ℕ) (made : Replied) → IsAnswer made → made.sending ≡ o.octets → made.reply ≡ packet → made.home ≡ o.home → RefusesReply o.octets packet o.home OutOfMemory
memory_refused o packet made answers sending reply home =
    rw (sym sending, sym reply, sym home) (answers.verified, answers.no_message_authenticator, (answers.mark, answers.before, answers.after, answers.returned))

-- the answer that is kept
keeps_made : (o : Outstanding) (packet : List ℕ) (stamp : Stamp) (now serial : ℕ) (made : Replied) (answer : AnswerKept) → answer ≡ record { stamp = stamp; moment = now; serial = serial; reply = made } → IsAnswer made
    → stamp ≡ o.request.stamp → made.head.identifier ≡ stamp.identifier → made.head.authenticator ≡ stamp.authenticator
    → made.sending ≡ o.octets → made.reply ≡ packet → made.client ≡ o.request.client_secret → made.home ≡ o.home → KeepsAnswer o.home now serial o packet answer
keeps_made o packet stamp now serial made answer is answers same identifier authenticator sending reply client home =
    rw is record {
      stamp = same;
      moment = refl;
      serial = refl;
      head_identifier = identifier ∙ ap (λ (s : Stamp). s.identifier) same;
      head_authenticator = authenticator ∙ ap (λ (s : Stamp). s.authenticator) same;
      sending = sending;
      reply = reply;
      client = client;
      home = home;
      answers = rw (sym sending, sym reply, sym client, sym home) answers;
    }

pub returns-in_err-reply-clause-err : goal.returns-in_err-reply-clause-err
returns-in_err-reply-clause-err c =
    let home = ap (λ (o : Outstanding). o.home) c.self.view_is in
    let refused = refused_here c.args.self.now c.args.packet.now _ _ _ c.in_err-reply.field-0.0 c.in_err-reply.ensures.refused c.packet.ensures refl home in
    told_fault c.from_residual.result _ _ c.from_residual.ensures refused

pub returns-in_default-clause-err : goal.returns-in_default-clause-err
returns-in_default-clause-err c =
    let made = c.in_ok-reply.ensures.made in
    let home = made.4 ∙ ap (λ (o : Outstanding). o.home) c.self.view_is in
    memory_refused c.args.self.now c.args.packet.now c.in_ok-reply.reply c.in_ok-reply.ensures.answers (made.1 ∙ c.packet.ensures) made.2 home

pub returns-clause-kept : goal.returns-clause-kept
returns-clause-kept c =
    let made = c.in_ok-reply.ensures.made in
    let stamp : c.stamp-stamp.result ≡ c.args.self.now.request.stamp = c.stamp-stamp.ensures.value ∙ ap (λ (o : Outstanding). o.request.stamp) c.self.view_is in
    let client : c.in_ok-reply.reply.client ≡ c.args.self.now.request.client_secret =
    made.3 ∙ c.client_secret-client.ensures ∙ ap (λ (o : Outstanding). o.request.client_secret) c.self.view_is in
    let home : c.in_ok-reply.reply.home ≡ c.args.self.now.home = made.4 ∙ ap (λ (o : Outstanding). o.home) c.self.view_is in
    keeps_made c.args.self.now c.args.packet.now c.stamp-stamp.result c.args.now c.args.serial c.in_ok-reply.reply c.in-Ok.made.0 c.in-Ok.ensures.answer c.in_ok-reply.ensures.answers stamp
    (ap (λ (h : RequestHead). h.identifier) made.0) (ap (λ (h : RequestHead). h.authenticator) made.0) (made.1 ∙ c.packet.ensures) made.2 client home

pub returns-in_err-reply-clause-kept : goal.returns-in_err-reply-clause-kept
returns-in_err-reply-clause-kept c = not_done c.from_residual.result _ c.from_residual.ensures.0

pub returns-in_err-reply-clause-out : goal.returns-in_err-reply-clause-out
returns-in_err-reply-clause-out c = not_done c.from_residual.result _ c.from_residual.ensures.0

pub returns-clause-out : goal.returns-clause-out
returns-clause-out c = c.in-Ok.ensures.out
