use Rattle.std.proofs.Common.{◌≡◌, min, ◌++◌, ◌∙◌, sym, ap, arith, length, take, drop}
use Rattle.std.proofs.lemmas.List.{drop_min}
use Rattle.raw_lists.specs.Sliding.{items_in, below, since}
use Rattle.raw_lists.proofs.Parted.{front_has_all, rest_stays}
use Rattle.raw_lists.proofs.rows.take_below.Goals as goal

pub returns-in-Some-clause-row : goal.returns-in-Some-clause-row
returns-in-Some-clause-row g c =
    let number_of = g.T.Numbered.number_of in let number = c.args.number in let items = c.in-Some.row.items in
    let end : c.min.result ≡ min c.args.end (length items) = omega arith in
    let none = ap (λ k. below number_of number (drop k items)) end ∙ ap (λ l. below number_of number l) (drop_min c.args.end items) ∙ ap (λ r. below number_of number (drop c.args.end (items_in r))) (sym c.in-Some.is) ∙ c.requires.none_behind in
    c.put_back.ensures.row
    ∙ ap (λ l. l ++ c.part_first.new.row.items) (c.part_first.ensures.kept ∙ ap (λ l. l ++ since number_of number (take c.min.result items)) c.requires.none_kept)
    ∙ ap (λ l. since number_of number (take c.min.result items) ++ l) c.part_first.ensures.row
    ∙ rest_stays number_of number c.min.result items none
    ∙ ap (λ r. since number_of number (items_in r)) (sym c.in-Some.is)

pub returns-in-Some-clause-taken : goal.returns-in-Some-clause-taken
returns-in-Some-clause-taken g c =
    let number_of = g.T.Numbered.number_of in let number = c.args.number in let items = c.in-Some.row.items in
    let end : c.min.result ≡ min c.args.end (length items) = omega arith in
    let none = ap (λ k. below number_of number (drop k items)) end ∙ ap (λ l. below number_of number l) (drop_min c.args.end items) ∙ ap (λ r. below number_of number (drop c.args.end (items_in r))) (sym c.in-Some.is) ∙ c.requires.none_behind in
    c.part_first.ensures.taken
    ∙ ap (λ l. c.args.taken.now.items ++ l) (front_has_all number_of number c.min.result items none ∙ ap (λ r. below number_of number (items_in r)) (sym c.in-Some.is))
