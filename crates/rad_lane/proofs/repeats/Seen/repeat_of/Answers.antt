use Rattle.std.proofs.Common.{rules, ◌≡◌, ◌∙◌, ℕ, ◌+◌, ◌≤◌, Some, sym, ap, arith}
use Rattle.rad_lane.specs.Book.{Book}
use Rattle.rad_lane.specs.Outstanding.{AnswerKept}
use Rattle.rad_lane.specs.Repeat.{fresh, repeats_answered, answer_to}
use Rattle.rad_lane.proofs.repeats.Seen.repeat_of.Goals as goal

-- a request that was answered a span ago is repeated no more
over_by : (book : Book) (now number span : ℕ) (answer : AnswerKept) → book.setup.limits.span ≡ span → answer.moment + span ≤ now → fresh ≡ repeats_answered book now number (Some answer)
over_by book now number span answer is over = search rules

pub returns-else-get-from : goal.returns-else-get-from
returns-else-get-from c = λ book span answered.
    let there = c.in-Some-answer_of.ensures ∙ ap (λ xs. answer_to c.in-Some.number xs) (sym answered) in
    rw (c.in-Some.is, ← there)
    (over_by book c.args.now c.in-Some.number c.args.self.now.span c.in-Some-answer_of.answer.now span
    (omega (arith, c.if-get-from.false, c.get.ensures.value, c.moment.ensures, c.get-2.ensures.value, c.from.ensures)))
