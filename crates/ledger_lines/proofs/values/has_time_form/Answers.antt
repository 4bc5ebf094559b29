use Rattle.std.proofs.Common.{codes, get_or, refl, sym, arith}
use Rattle.std.specs.Bool.{IsTrue}
use borrow.Author.Count.{below_more}
use Rattle.ledger_lines.specs.Lines.{has_form}
use Rattle.ledger_lines.proofs.values.has_time_form.Goals as goal

pub returns : goal.returns
returns c = (λ t. record { long = omega arith; formed = λ place lt. c.loop-place.invariant place (omega arith) }, λ is. refl)

pub loop-place-preserved : goal.loop-place-preserved
loop-place-preserved c =
    below_more (λ place. IsTrue (has_form (get_or (codes "dddd-dd-ddTdd:dd:dd.dddZ") place 0) (get_or c.args.octets.now place 0))) c.loop-place.place c.loop-place.invariant (sym c.if-not-fits.ensures)
