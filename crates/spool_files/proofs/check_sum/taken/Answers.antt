use Rattle.std.proofs.Common.{rules, ◌≡◌, length, arith}
use Rattle.spool_files.proofs.CheckSumLemmas.{six_taken}
use Rattle.spool_files.proofs.check_sum.taken.Goals as goal

pub returns : goal.returns
returns c = λ more long.
    let six : length c.args.registers.now ≡ 6 = search rules in
    six_taken c.args.registers.now c.args.octets.now more _ _ _ _ _ _ _ _ _ _ _ _ six c.requires (λ i. omega (arith, c.type_inv.octets i)) long
    c.word_at.ensures c.word_at-2.ensures c.word_at-3.ensures c.word_at-4.ensures c.word_at-5.ensures c.word_at-6.ensures
    c.after_24.ensures c.after_24-2.ensures c.after_24-3.ensures c.after_24-4.ensures c.after_24-5.ensures c.after_24-6.ensures
