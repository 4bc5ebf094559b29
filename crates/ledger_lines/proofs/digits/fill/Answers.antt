use Rattle.std.proofs.Common.{◌*◌, arith}
use Rattle.hex.proofs.Pairs.{decode_step}
use Rattle.ledger_lines.proofs.Pairs.{filled, refused}
use Rattle.ledger_lines.proofs.digits.fill.Goals as goal

pub loop-place-preserved : goal.loop-place-preserved
loop-place-preserved c = decode_step _ _ c.loop-place.place _ (omega arith) (omega arith) (c.in-Some.ensures (2 * c.loop-place.place)) c.loop-place.invariant

pub returns-in-None : goal.returns-in-None
returns-in-None c = λ long. refused _ c.loop-place.octets c.loop-place.place (omega arith) c.loop-place.invariant (omega arith) (c.in-None.ensures (2 * c.loop-place.place))

pub returns : goal.returns
returns c = (omega arith, filled _ c.loop-place.octets c.loop-place.place (omega arith) c.loop-place.invariant (omega arith))
