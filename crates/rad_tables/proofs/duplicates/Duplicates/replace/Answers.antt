use Rattle.std.proofs.Common.{◌≡◌, None, Ok, Err, ap, sym, ◌∙◌}
use Rattle.std.specs.Prelude.{OnErr}
use Rattle.std.specs.FinMap as map
use Rattle.rad_tables.proofs.KeyLemmas.{get_key, one_inserted}
use Rattle.rad_tables.proofs.duplicates.Duplicates.replace.Goals as goal

pub returns-clause-last : goal.returns-clause-last
returns-clause-last c =
    c.in_ok-insert.ensures.old ∙ sym (get_key c.self.inside.numbers.entries c.args.key)
    ∙ ap (λ m. map.get m c.args.key) c.self.view_is

pub returns-clause-ok : goal.returns-clause-ok
returns-clause-ok c =
    one_inserted c.self.inside.numbers.entries c.insert.new.self.entries c.args.key c.args.number c.in_ok-insert.ensures.updates.0
    ∙ ap (λ m. map.insert m c.args.key c.args.number) c.self.view_is

pub returns-in_err-insert-clause-absent : goal.returns-in_err-insert-clause-absent
returns-in_err-insert-clause-absent c =
    elim c.from_residual.result as (λ r. OnErr r (map.get c.args.self.now c.args.key ≡ None)) [
      | Ok last ↦ tt
      | Err refused ↦
          ap (λ m. map.get m c.args.key) (sym c.self.view_is)
          ∙ get_key c.self.inside.numbers.entries c.args.key
          ∙ c.in_err-insert.ensures.absent
    ]
