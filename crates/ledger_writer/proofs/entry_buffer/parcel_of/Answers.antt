use Rattle.std.proofs.Common.{◌≡◌, ◌++◌, refl, sym, ap, ◌∙◌, subst}
use Rattle.ledger_writer.specs.Parcels.{AreCounted, octets_of}
use Rattle.ledger_writer.proofs.Parcels.{counted_sum, three_at_front}
use Rattle.ledger_writer.proofs.entry_buffer.parcel_of.Goals as goal

pub returns-in-Response : goal.returns-in-Response
returns-in-Response c =
    let head = c.args.head in
    let a = c.split_at.result.0.now in
    let b = c.split_at-in-Response.result.0.now in
    let d = c.split_at-in-Response-2.result.0.now in
    let rest = c.split_at-in-Response-2.result.1.now in
    let counted : AreCounted head.its a b d =
    subst (λ its. AreCounted its a b d) (sym c.in-Response.is) (sym c.split_at.ensures.front_len, sym c.split_at-in-Response.ensures.front_len, sym c.split_at-in-Response-2.ensures.front_len) in
    let first = c.split_at.ensures.by_index.0 in
    let second = c.split_at-in-Response.ensures.by_index.0 in
    let third = c.split_at-in-Response-2.ensures.by_index.0 in
    let octets : c.args.octets.now ≡ a ++ (b ++ (d ++ rest)) = first ∙ ap (λ l. a ++ l) (second ∙ ap (λ l. b ++ l) third) in
    record { its_head = refl; counted = counted; packets = three_at_front c.args.octets.now a b d rest (octets_of head) octets (counted_sum head.its a b d counted) }
