use Rattle.std.proofs.Common.{rules, ◌≡◌, ◌∙◌, sym, ap, drop}
use Rattle.std.proofs.lemmas.Bool.{eq-eqb}
use Rattle.std.specs.Int.{w64, from_be_bytes}
use Rattle.rad_auth.proofs.Halves.{same_of_halves}
use Rattle.rad_auth.proofs.authenticators.is_same.Goals as goal

pub returns-then-first_half : goal.returns-then-first_half
returns-then-first_half c =
    let first : c.first_half.result ≡ c.first_half-2.result = search rules in (
      λ last.
          let second : c.last_half.result ≡ c.last_half-then-first_half.result = search (last, rules) in
          same_of_halves c.args.one.now c.args.other.now (search rules) (search rules) (search rules) (search rules)
          (sym c.first_half.ensures ∙ first ∙ c.first_half-2.ensures)
          (sym c.last_half.ensures ∙ second ∙ c.last_half-then-first_half.ensures),
      λ same. eq-eqb c.last_half.result c.last_half-then-first_half.result (c.last_half.ensures ∙ ap (λ x. from_be_bytes w64 (drop 8 x)) same ∙ sym c.last_half-then-first_half.ensures),
    )
