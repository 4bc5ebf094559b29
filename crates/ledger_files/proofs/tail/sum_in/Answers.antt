use Rattle.std.proofs.Common.{◌≡◌, Ok, take, drop, refl, ap, ◌∙◌, arith}
use Rattle.std.proofs.lemmas.Bool.Decides.{Decides-eqb}
use Rattle.std.proofs.lemmas.Slice.Eq.{slice_eq-Decides}
use Rattle.ledger_files.specs.Tails.{tail_of}
use Rattle.ledger_files.proofs.Tails.{decoded, opposed, same_sum, whole_tail, tail_same}
use Rattle.ledger_files.proofs.tail.sum_in.Goals as goal

pub returns-in_default : goal.returns-in_default
returns-in_default c = λ sum long octets is.
    c.in_default.not-Ok sum (c.from_hex.ensures ∙ decoded (take 64 (drop 8 c.args.tail.now)) c.args.tail.now sum refl c.requires long octets is)

pub returns-then-eq : goal.returns-then-eq
returns-then-eq c =
    let same = slice_eq-Decides Decides-eqb c.split_at.result.0.now c.args.tail.now c.eq.result c.eq.ensures in
    whole_tail c.args.tail.now c.split_at.result.0.now c.write_tail.new.room c.in-Ok.sum (omega arith) c.write_tail.ensures c.split_at.ensures.front (same.0 c.if-eq.true)

pub returns-else-eq : goal.returns-else-eq
returns-else-eq c = λ sum long octets is.
    let tail = c.args.tail.now in
    let same = slice_eq-Decides Decides-eqb c.split_at.result.0.now tail c.eq.result c.eq.ensures in
    let ok : c.from_hex.result ≡ Ok sum = c.from_hex.ensures ∙ decoded (take 64 (drop 8 tail)) tail sum refl c.requires long octets is in
    let one : c.in-Ok.sum ≡ sum = same_sum c.from_hex.result c.in-Ok.sum sum c.in-Ok.is ok in
    let its : c.write_tail.new.room ≡ tail_of sum = c.write_tail.ensures ∙ ap tail_of one in
    opposed c.eq.result (same.1 (tail_same tail c.split_at.result.0.now c.write_tail.new.room sum c.requires long its c.split_at.ensures.front is)) c.if-eq.false
