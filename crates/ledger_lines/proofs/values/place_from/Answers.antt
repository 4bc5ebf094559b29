use Rattle.std.proofs.Common.{◌≡◌, ◌≢◌, ◌≤◌, [], get_or, map, true, false, arith, below_more}
use Rattle.std.specs.Str.{bytes_eq}
use Rattle.ledger_lines.proofs.Known.{blank, is_here, is_not_here}
use Rattle.ledger_lines.proofs.values.place_from.Goals as goal

pub returns-then-eq : goal.returns-then-eq
returns-then-eq c =
    let same : bytes_eq (get_or c.args.known.now c.loop-place.place blank).now c.args.key.now ≡ true = grind arith in
    (c.loop-place-test.true, is_here c.args.known.now c.loop-place.place c.args.key.now c.loop-place-test.true same)

pub loop-place-preserved : goal.loop-place-preserved
loop-place-preserved c =
    let other : bytes_eq (get_or c.args.known.now c.loop-place.place blank).now c.args.key.now ≡ false = grind arith in
    λ place from lt. below_more (λ n. c.args.from ≤ n → get_or (map (λ k. k.now) c.args.known.now) n [] ≢ c.args.key.now) c.loop-place.place
    (λ n below lower. c.loop-place.invariant n lower below)
    (λ _. is_not_here c.args.known.now c.loop-place.place c.args.key.now c.loop-place-test.true other) place lt from
