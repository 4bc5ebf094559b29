use Rattle.std.proofs.Common.{◌-◌, ◌∙◌, length, take, drop, ap, arith}
use Rattle.ledger_rules.proofs.Requests.{room_for_mark, octets_before}
use Rattle.ledger_rules.proofs.packets.attributes_before.Goals as goal

pub slice_bounds-result-count : goal.slice_bounds-result-count
slice_bounds-result-count c =
    omega (arith, ap length c.octets-octets.ensures.value, room_for_mark c.args.packet.now c.args.mark c.octets-octets.ensures.packet c.requires)

pub slice_bounds-result-start : goal.slice_bounds-result-start
slice_bounds-result-start c = omega (arith, slice_bounds-result-count c)

pub returns-clause-before : goal.returns-clause-before
returns-clause-before c = λ ends.
    ap (λ xs. take (length xs - 12 - 20) (drop 20 xs)) c.octets-octets.ensures.value ∙ octets_before c.args.packet.now c.args.mark c.octets-octets.ensures.packet ends
