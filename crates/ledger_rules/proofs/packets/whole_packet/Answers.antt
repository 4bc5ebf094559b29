use Rattle.std.proofs.Common.{◌≡◌, length, sym, ap, ◌∙◌}
use Rattle.ledger_rules.proofs.Whole.{refused_is_none, padded_is_none, same_is_whole, same_is_packet}
use Rattle.ledger_rules.proofs.packets.whole_packet.Goals as goal

pub returns-in_default : goal.returns-in_default
returns-in_default c = refused_is_none c.args.octets.now c.in_default.field-0 c.in_default.ensures

pub returns-then-octets : goal.returns-then-octets
returns-then-octets c =
    let octets = c.args.octets.now in
    let same : length c.in-Ok.packet ≡ length octets = sym (ap length c.octets.ensures.value) ∙ c.if-octets.true in
    (same_is_whole octets c.in-Ok.packet c.in-Ok.ensures same, same_is_packet octets c.in-Ok.packet c.in-Ok.ensures same)

pub returns-else-octets : goal.returns-else-octets
returns-else-octets c = padded_is_none c.args.octets.now c.in-Ok.packet c.in-Ok.ensures (λ e. c.if-octets.false (ap length c.octets.ensures.value ∙ e))
