use Rattle.std.proofs.Common.{◌≡◌, ◌-◌, ◌∷◌, [], ◌++◌, ℕ, leb, List, Bool, true, false, ◌&&◌, refl, sym, ap, ◌∙◌, rules}
use Rattle.std.proofs.lemmas.List.{map_push}
use Rattle.spool_files.specs.declared.entry.Head.{Head}
use Rattle.spool_files.specs.declared.entry.Head.TheVariants as heads
use Rattle.spool_files.specs.Entries.{Entry}
use Rattle.spool_files.specs.Counting.{is_last, is_request, is_answer_within, request_entries, answer_entries}
use Rattle.spool_files.proofs.CountLemmas.{and_false, passed_by, request_counted, answer_counted}
use Rattle.spool_files.proofs.counting.Counted.count.Goals as goal

pub returns-then-not-branch : goal.returns-then-not-branch
returns-then-not-branch c = λ done later counts.
    let is_not : c.in_ok-note.field-0 ≡ false = search rules in
    let not_last : is_last c.args.head.now (done ++ later) ≡ false = sym (c.in_ok-note.ensures.last (done ++ later) counts.known) ∙ is_not in
    passed_by c.args.now c.args.span c.args.self.now _ done later c.args.head.now c.args.text.now counts (c.in_ok-note.ensures.known (done ++ later) c.args.text.now counts.known) refl refl
    (and_false _ _ not_last) (and_false _ _ not_last)

pub returns-in_ok-push-in-Came : goal.returns-in_ok-push-in-Came
returns-in_ok-push-in-Came c = λ done later counts.
    let entry : Entry = (c.args.head.now, c.args.text.now) in
    let is : c.in_ok-note.field-0 ≡ true = search rules in
    let last : is_last c.args.head.now (done ++ later) ≡ true = sym (c.in_ok-note.ensures.last (done ++ later) counts.known) ∙ is in
    let copied : c.in_ok-octets-in-Came.octets.items ≡ c.args.text.now = search rules in
    let same : (heads.Came c.in-Came.came, c.in_ok-octets-in-Came.octets.items) ≡ entry =
    ap (λ (text : List ℕ). (heads.Came c.in-Came.came, text)) copied ∙ ap (λ (head : Head). (head, c.args.text.now)) (sym c.in-Came.is) in
    let pushed : request_entries c.push.new.self.items ≡ request_entries c.args.self.now.requests.items ++ entry ∷ [] =
    ap request_entries c.in_ok-push-in-Came.ensures.items ∙ map_push _ c.args.self.now.requests.items _ ∙ ap (λ (e : Entry). request_entries c.args.self.now.requests.items ++ e ∷ []) same in
    request_counted c.args.now c.args.span c.args.self.now _ done later c.args.head.now c.args.text.now counts (c.in_ok-note.ensures.known (done ++ later) c.args.text.now counts.known) pushed refl
    (ap (λ (head : Head). is_request (head, c.args.text.now) && is_last c.args.head.now (done ++ later)) c.in-Came.is ∙ last)
    (ap (λ (head : Head). is_answer_within c.args.now c.args.span (head, c.args.text.now) && is_last c.args.head.now (done ++ later)) c.in-Came.is)

pub returns-in_ok-push-in-Answered : goal.returns-in_ok-push-in-Answered
returns-in_ok-push-in-Answered c = λ done later counts.
    let entry : Entry = (c.args.head.now, c.args.text.now) in
    let is : c.in_ok-note.field-0 ≡ true = search rules in
    let last : is_last c.args.head.now (done ++ later) ≡ true = sym (c.in_ok-note.ensures.last (done ++ later) counts.known) ∙ is in
    let within : leb (c.args.now - c.in-Answered.answered.moment) c.args.span ≡ true = search rules in
    let copied : c.in_ok-octets-in-Answered.octets.items ≡ c.args.text.now = search rules in
    let same : (heads.Answered c.in-Answered.answered, c.in_ok-octets-in-Answered.octets.items) ≡ entry =
    ap (λ (text : List ℕ). (heads.Answered c.in-Answered.answered, text)) copied ∙ ap (λ (head : Head). (head, c.args.text.now)) (sym c.in-Answered.is) in
    let pushed : answer_entries c.push-then-saturating_sub-span.new.self.items ≡ answer_entries c.args.self.now.answers.items ++ entry ∷ [] =
    ap answer_entries c.in_ok-push-in-Answered.ensures.items ∙ map_push _ c.args.self.now.answers.items _ ∙ ap (λ (e : Entry). answer_entries c.args.self.now.answers.items ++ e ∷ []) same in
    answer_counted c.args.now c.args.span c.args.self.now _ done later c.args.head.now c.args.text.now counts (c.in_ok-note.ensures.known (done ++ later) c.args.text.now counts.known) refl pushed
    (ap (λ (head : Head). is_request (head, c.args.text.now) && is_last c.args.head.now (done ++ later)) c.in-Answered.is)
    (ap (λ (head : Head). is_answer_within c.args.now c.args.span (head, c.args.text.now) && is_last c.args.head.now (done ++ later)) c.in-Answered.is
    ∙ ap (λ (b : Bool). b && is_last c.args.head.now (done ++ later)) within ∙ last)

pub returns-else-saturating_sub-span : goal.returns-else-saturating_sub-span
returns-else-saturating_sub-span c = λ done later counts.
    let late : leb (c.args.now - c.in-Answered.answered.moment) c.args.span ≡ false = search rules in
    passed_by c.args.now c.args.span c.args.self.now _ done later c.args.head.now c.args.text.now counts (c.in_ok-note.ensures.known (done ++ later) c.args.text.now counts.known) refl refl
    (ap (λ (head : Head). is_request (head, c.args.text.now) && is_last c.args.head.now (done ++ later)) c.in-Answered.is)
    (ap (λ (head : Head). is_answer_within c.args.now c.args.span (head, c.args.text.now) && is_last c.args.head.now (done ++ later)) c.in-Answered.is
    ∙ ap (λ (b : Bool). b && is_last c.args.head.now (done ++ later)) late)

pub returns-in-Begun : goal.returns-in-Begun
returns-in-Begun c = λ done later counts.
    passed_by c.args.now c.args.span c.args.self.now _ done later c.args.head.now c.args.text.now counts (c.in_ok-note.ensures.known (done ++ later) c.args.text.now counts.known) refl refl
    (ap (λ (head : Head). is_request (head, c.args.text.now) && is_last c.args.head.now (done ++ later)) c.in-Begun.is)
    (ap (λ (head : Head). is_answer_within c.args.now c.args.span (head, c.args.text.now) && is_last c.args.head.now (done ++ later)) c.in-Begun.is)

pub returns-in-GivenUp : goal.returns-in-GivenUp
returns-in-GivenUp c = λ done later counts.
    passed_by c.args.now c.args.span c.args.self.now _ done later c.args.head.now c.args.text.now counts (c.in_ok-note.ensures.known (done ++ later) c.args.text.now counts.known) refl refl
    (ap (λ (head : Head). is_request (head, c.args.text.now) && is_last c.args.head.now (done ++ later)) c.in-GivenUp.is)
    (ap (λ (head : Head). is_answer_within c.args.now c.args.span (head, c.args.text.now) && is_last c.args.head.now (done ++ later)) c.in-GivenUp.is)
