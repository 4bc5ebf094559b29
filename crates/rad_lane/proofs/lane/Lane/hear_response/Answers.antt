use Rattle.std.proofs.Common.{ℕ, Some, refl, ap, sym, subst, ◌∙◌}
use Rattle.std.specs.FinMap as map
use Rattle.rad_lane.specs.declared.entry.Entry.{Entry}
use Rattle.rad_auth.specs.declared.responding.ReplyFault.TheVariants as reply
use Rattle.rad_lane.specs.Book.{Book}
use Rattle.rad_lane.specs.Hears.{HearsReply, HearsProbe}
use Rattle.rad_lane.proofs.HearingRefused.{pair_is, refused_answer, refused_probe, refused_unknown, right_by, hears_probe, at_last, wrong_by, hears_answer, hears_fault, passed_by, is_outstanding, answers_sending}
use Rattle.rad_lane.proofs.LawfulAfterAnswer.{there_by, remembers}
use Rattle.rad_lane.proofs.lane.Lane.hear_response.Goals as goal

pub returns-in-None : goal.returns-in-None
returns-in-None g c = λ moment datagram at read. (
  refused_unknown c.args.self.now c.args.slot.port datagram c.args.packet.now read c.requires.code c.args.slot (pair_is c.args.slot c.args.packet.now c.requires.identifier)
      (ap (λ (b : Book). map.get b.held c.args.slot) (sym c.self.view_is) ∙ sym c.in-None.ensures.value),
  refl,
)

pub returns-then-not-check_response : goal.returns-then-not-check_response
returns-then-not-check_response g c = λ moment datagram at read.
    let there = ap (λ (b : Book). map.get b.held c.args.slot) (sym c.self.view_is) ∙ sym c.in-Some-Probe.ensures.value ∙ ap (λ (e : Entry). Some e) c.in-Some-Probe.field-0-is in
    let home = c.home.ensures ∙ ap (λ (b : Book). b.setup.home_secret) c.self.view_is in (
      refused_probe c.args.self.now c.args.slot.port datagram c.args.packet.now read c.requires.code c.args.slot (pair_is c.args.slot c.args.packet.now c.requires.identifier)
          c.in-Some-Probe.probe there (wrong_by _ _ _ _ _ _ c.if-not-check_response.true c.check_response.ensures.1 home c.authenticator.ensures),
      refl,
    )

pub go_up_if_down-requires : goal.go_up_if_down-requires
go_up_if_down-requires g c = record { later = c.requires.later }

pub returns-else-not-check_response : goal.returns-else-not-check_response
returns-else-not-check_response g c = λ moment datagram at read.
    let there = ap (λ (b : Book). map.get b.held c.args.slot) (sym c.self.view_is) ∙ sym c.in-Some-Probe.ensures.value ∙ ap (λ (e : Entry). Some e) c.in-Some-Probe.field-0-is in
    let home = c.home.ensures ∙ ap (λ (b : Book). b.setup.home_secret) c.self.view_is in
    subst (λ (now : ℕ). HearsProbe c.args.self.now now c.args.slot.port datagram c.go_up_if_down.new.self) at
    (hears_probe c.args.self.now c.args.slot.port datagram c.args.packet.now read c.requires.code c.args.slot (pair_is c.args.slot c.args.packet.now c.requires.identifier)
    c.args.now c.in-Some-Probe.probe there (right_by _ _ _ _ _ _ c.if-not-check_response.false c.check_response.ensures.0 home c.authenticator.ensures) _ c.go_up_if_down.ensures)

pub answer-requires-clause-since : goal.answer-requires-clause-since
answer-requires-clause-since g c =
    let o = is_outstanding _ _ c.self.view_is c.self.invariant.consistent.lawful c.args.slot c.in-Some-Sending.sending (there_by _ _ _ c.in-Some-Sending.ensures.value c.in-Some-Sending.field-0-is) in
    passed_by _ _ _ o.passed c.requires.later

pub answer-requires-clause-identifier : goal.answer-requires-clause-identifier
answer-requires-clause-identifier g c =
    let o = is_outstanding _ _ c.self.view_is c.self.invariant.consistent.lawful c.args.slot c.in-Some-Sending.sending (there_by _ _ _ c.in-Some-Sending.ensures.value c.in-Some-Sending.field-0-is) in
    sym c.requires.identifier ∙ sym o.identifier

pub returns-in_err-answer-in-Some-Sending : goal.returns-in_err-answer-in-Some-Sending
returns-in_err-answer-in-Some-Sending g c = λ moment datagram at read.
    let o = is_outstanding _ _ c.self.view_is c.self.invariant.consistent.lawful c.args.slot c.in-Some-Sending.sending (there_by _ _ _ c.in-Some-Sending.ensures.value c.in-Some-Sending.field-0-is) in
    hears_fault _ _ _ _ _ _ _ c.from_residual.result
    (refused_answer c.args.self.now c.args.slot.port datagram c.args.packet.now read c.requires.code c.args.slot (pair_is c.args.slot c.args.packet.now c.requires.identifier) _ o.there _ o.home _ c.in_err-answer-in-Some-Sending.ensures.err)
    refl refl c.from_residual.ensures

pub keep_answer-requires-clause-later : goal.keep_answer-requires-clause-later
keep_answer-requires-clause-later g c = c.requires.later

pub keep_answer-requires-clause-answers : goal.keep_answer-requires-clause-answers
keep_answer-requires-clause-answers g c =
    let o = is_outstanding _ _ c.self.view_is c.self.invariant.consistent.lawful c.args.slot c.in-Some-Sending.sending (there_by _ _ _ c.in-Some-Sending.ensures.value c.in-Some-Sending.field-0-is) in
    let served = ap (λ (b : Book). b.served) c.self.view_is in
    let keeps = answers_sending _ c.args.slot c.in-Some-Sending.sending o _ _ _ _ served c.in_ok-answer-in-Some-Sending.ensures.kept in
    record { entry = c.in-Some-Sending.sending; there = o.there; packet = c.args.packet.now; keeps = keeps }

pub returns-in_err-keep_answer-in-Some-Sending : goal.returns-in_err-keep_answer-in-Some-Sending
returns-in_err-keep_answer-in-Some-Sending g c = λ moment datagram at read.
    let o = is_outstanding _ _ c.self.view_is c.self.invariant.consistent.lawful c.args.slot c.in-Some-Sending.sending (there_by _ _ _ c.in-Some-Sending.ensures.value c.in-Some-Sending.field-0-is) in
    let served = ap (λ (b : Book). b.served) c.self.view_is in
    let keeps = answers_sending _ c.args.slot c.in-Some-Sending.sending o _ _ _ _ served c.in_ok-answer-in-Some-Sending.ensures.kept in
    hears_fault _ _ _ _ _ _ _ c.from_residual-in_err-keep_answer-in-Some-Sending.result
    (refused_answer c.args.self.now c.args.slot.port datagram c.args.packet.now read c.requires.code c.args.slot (pair_is c.args.slot c.args.packet.now c.requires.identifier) _ o.there _ refl reply.OutOfMemory (remembers _ _ _ _ _ _ keeps))
    c.in_err-keep_answer-in-Some-Sending.ensures.err.0 c.in_err-keep_answer-in-Some-Sending.ensures.err.1
    c.from_residual-in_err-keep_answer-in-Some-Sending.ensures

pub go_up_if_down-requires-in-Some-Sending : goal.go_up_if_down-requires-in-Some-Sending
go_up_if_down-requires-in-Some-Sending g c = record { later = at_last c.keep_answer.new.self c.args.now (ap (λ (b : Book). b.last) c.in_ok-keep_answer-in-Some-Sending.ensures.ok) }

pub returns-in_ok-keep_answer-in-Some-Sending : goal.returns-in_ok-keep_answer-in-Some-Sending
returns-in_ok-keep_answer-in-Some-Sending g c = λ moment datagram at read.
    let o = is_outstanding _ _ c.self.view_is c.self.invariant.consistent.lawful c.args.slot c.in-Some-Sending.sending (there_by _ _ _ c.in-Some-Sending.ensures.value c.in-Some-Sending.field-0-is) in
    let served = ap (λ (b : Book). b.served) c.self.view_is in
    let keeps = answers_sending _ c.args.slot c.in-Some-Sending.sending o _ _ _ _ served c.in_ok-answer-in-Some-Sending.ensures.kept in (
      c.in_ok-answer-in-Some-Sending.answer,
      subst (λ (now : ℕ). HearsReply c.args.self.now now c.args.slot.port datagram c.in_ok-answer-in-Some-Sending.answer c.go_up_if_down-in-Some-Sending.new.self) at
          (hears_answer c.args.self.now c.args.slot.port datagram c.args.packet.now read c.requires.code c.args.slot (pair_is c.args.slot c.args.packet.now c.requires.identifier) _ _ o.there _ keeps _ _ c.in_ok-keep_answer-in-Some-Sending.ensures.ok c.go_up_if_down-in-Some-Sending.ensures),
      c.in_ok-answer-in-Some-Sending.ensures.out,
    )
