use Rattle.std.proofs.Common.{◌≡◌, [], ◌∷◌, ◌++◌, ℕ, length, refl, ap, arith, length-append}
use Rattle.std.proofs.lemmas.List.{length-replicate}
use Rattle.ledger_files.specs.Tails.{no_tail}
use Rattle.ledger_files.proofs.Ends.{holds_more}
use Rattle.ledger_files.proofs.batch.Batch.add.Goals as goal

pub returns-clause-lines : goal.returns-clause-lines
returns-clause-lines c =
    let old = c.args.self.now in
    let line = c.args.body.now ++ no_tail in
    let octets = c.in_ok-add_line.ensures in
    let end : c.len.result ≡ length (old.octets.items ++ line) = omega (arith, ap length octets, c.add_line.new.octets.ok.0, c.len.ensures) in
    let ends : c.push_reserved-2.new.self.items ≡ old.ends.items ++ length (old.octets.items ++ line) ∷ [] = cc in
    λ lines h. holds_more old _ line lines h octets ends refl refl refl (omega (arith, length-append c.args.body.now no_tail, length-replicate {A = ℕ} 75 0))
