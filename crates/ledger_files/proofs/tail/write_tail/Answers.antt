use Rattle.std.proofs.Common.{length, ap, ◌∙◌, arith}
use Rattle.hex.specs.Hex.{encode_lower}
use Rattle.ledger_files.proofs.Tails.{three_parts, ok_then}
use Rattle.ledger_files.proofs.tail.write_tail.Goals as goal

pub returns : goal.returns
returns c =
    three_parts c.args.sum c.copy_from_slice.new.self c.encode_to_slice.new.output c.copy_from_slice-2.new.self
    c.copy_from_slice.ensures.after
    (ok_then c.encode_to_slice.result _ (c.encode_to_slice.ensures.fits.1 (omega (arith, c.split_at_mut-digits.ensures.front_len, ap length c.as_slice.ensures))) c.encode_to_slice.ensures.written ∙ ap encode_lower c.as_slice.ensures)
    c.copy_from_slice-2.ensures.after
