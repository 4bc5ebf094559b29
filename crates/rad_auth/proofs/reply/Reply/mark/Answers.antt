use Rattle.std.proofs.Common.{◌≡◌, ℕ, ◌-◌, ◌≤◌, List, length, take, drop, slice_range, ap, ◌∙◌, arith, length-take}
use Rattle.rad_auth.specs.Mark.{EndsWithMark, mark_value}
use Rattle.rad_auth.proofs.Marks.{EndsWithMark-value, one_value, same_mark}
use Rattle.rad_auth.proofs.Parted.{part_end}
use Rattle.rad_auth.proofs.Returns.{value_at_end}
use Rattle.rad_auth.proofs.reply.Reply.mark.Goals as goal

-- the mark that is read is that of the parts
ends_with : (c : goal.After-of_value) → EndsWithMark c.of_value.result (slice_range c.self.inside.octets c.self.inside.response_end c.self.inside.sending_end)
ends_with c =
    let octets : List ℕ = c.self.inside.octets in
    let first : ℕ = c.self.inside.response_end in
    let end : ℕ = c.self.inside.sending_end in
    let p = c.self.invariant in
    let within : end ≤ length octets = omega (arith, p.second, p.within) in
    let few : 10 ≤ end - first = omega (arith, p.sending_packet.least, length-take (end - first) (drop first octets)) in
    let sent = p.answers.returned.sent in
    let read : mark_value c.of_value.result ≡ drop (length (slice_range octets first end) - 10) (slice_range octets first end) =
    c.of_value.ensures
    ∙ ap (λ xs. take (c.from-end.result - (c.from-end.result - 10)) (drop (c.from-end.result - 10) xs)) c.as_slice.ensures
    ∙ ap (λ e. take (e - (e - 10)) (drop (e - 10) octets)) c.from-end.ensures
    ∙ part_end octets first end 10 p.first within few in
    EndsWithMark-value _ p.answers.mark c.of_value.result sent (read ∙ value_at_end _ p.answers.mark p.sending_packet sent)

pub returns-clause-packet : goal.returns-clause-packet
returns-clause-packet c = rw (← c.self.view_is) c.self.invariant.sending_packet

pub returns-clause-ends : goal.returns-clause-ends
returns-clause-ends c = rw (← c.self.view_is) (ends_with c)

pub returns-clause-alone : goal.returns-clause-alone
returns-clause-alone c = λ mark lane number ends.
    same_mark c.of_value.result mark (omega arith) (omega arith) lane number (one_value _ c.of_value.result mark (returns-clause-ends c) ends)
