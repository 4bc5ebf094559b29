use Rattle.std.proofs.Common.{◌≡◌, length, rules, sym, ap, ◌∙◌}
use Rattle.std.proofs.lemmas.List.{nil_from_length}
use Rattle.spool_files.specs.Counting.{request_entries, answer_entries}
use Rattle.spool_files.proofs.CountLemmas.{removal, none_reversed}
use Rattle.spool_files.proofs.counting.Counted.is_empty.Goals as goal

pub returns-then-is_empty-clause-keeps : goal.returns-then-is_empty-clause-keeps
returns-then-is_empty-clause-keeps c = λ is now span oldest newer counts.
    let no_requests : length c.args.self.now.requests.items ≡ 0 = search rules in
    let no_answers : length c.args.self.now.answers.items ≡ 0 = search rules in
    removal now span oldest newer
    (none_reversed _ (sym counts.requests ∙ ap request_entries (nil_from_length c.args.self.now.requests.items no_requests)))
    (none_reversed _ (sym counts.answers ∙ ap answer_entries (nil_from_length c.args.self.now.answers.items no_answers)))
