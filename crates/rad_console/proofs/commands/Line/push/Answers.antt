use Rattle.std.proofs.Common.{rules, ◌≡◌, ◌≤◌, ◌++◌, length, take, ◌+◌, ◌-◌, min, sym, ap, ◌∙◌, arith}
use Rattle.std.proofs.lemmas.List.{length-take-le}
use Rattle.std.proofs.lemmas.Slice.{take-put_mid}
use Rattle.rad_console.proofs.CommandLemmas.{fits_behind}
use Rattle.rad_console.proofs.commands.Line.push.Goals as goal

pub returns : goal.returns
returns c =
    let start = c.self.inside.count in
    let count = c.min-count.result in
    let octets = c.args.octets.now in
    let front = c.args.self.now in
    let short : start ≤ 64 = search rules in
    let now : take start c.self.inside.octets ≡ front = search rules in
    let counted : length front ≡ start = ap length (sym now) ∙ length-take-le start c.self.inside.octets (omega (arith, short, c.self.told)) in
    let most : count ≡ min (length octets) (64 - length front) = c.min-count.ensures ∙ ap (λ n. min (length octets) (64 - n)) (sym counted) in
    let given : c.copy_from_slice.new.self ≡ take count octets = search rules in
    let within : count ≤ length octets = omega (arith, most) in
    let long : length c.copy_from_slice.new.self ≡ count = ap length given ∙ length-take-le count octets within in
    take-put_mid start (start + count - start) c.self.inside.octets c.copy_from_slice.new.self (start + count)
    (omega (arith, long)) (omega (arith, short, c.self.told))
    ∙ ap (λ xs. xs ++ c.copy_from_slice.new.self) now
    ∙ ap (λ xs. front ++ xs) given
    ∙ fits_behind front octets count (omega (arith, counted, short)) most
