use Rattle.std.proofs.Common.{◌-◌, ◌++◌, List, ℕ, take, ap, ◌∙◌}
use Rattle.ledger_files.specs.Tails.{tail_of}
use Rattle.ledger_files.proofs.Seals.{tail_set}
use Rattle.ledger_files.proofs.batch.put_tail.Goals as goal

pub returns-clause-tail : goal.returns-clause-tail
returns-clause-tail c = λ front body tail rest e n l.
    let octets = c.args.octets.now in
    let end : ℕ = c.args.end in
    let before = c.split_at_mut-front.result.0.now in
    let room = c.write_tail.new.room in
    let behind = c.split_at_mut-front.result.1.now in
    ap (λ (x : List ℕ). (x ++ room) ++ behind) (c.split_at_mut-tail.ensures.front ∙ ap (take (end - 75)) c.split_at_mut-front.ensures.front)
    ∙ ap (λ (x : List ℕ). (take (end - 75) (take end octets) ++ x) ++ behind) c.write_tail.ensures
    ∙ ap (λ (x : List ℕ). (take (end - 75) (take end octets) ++ tail_of c.args.sum) ++ x) c.split_at_mut-front.ensures.back
    ∙ tail_set octets front body tail rest end c.args.sum e n l
