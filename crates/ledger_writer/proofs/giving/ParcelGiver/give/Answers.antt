use Rattle.std.proofs.Common.{◌≡◌, [], ◌∷◌, ◌++◌, length, sym, ap, ◌∙◌, rules}
use Rattle.rtrb.specs.Ring.{sent}
use Rattle.ledger_writer.specs.Parcels.{all_octets}
use Rattle.ledger_writer.proofs.Parcels.{given_whole}
use Rattle.ledger_writer.proofs.giving.ParcelGiver.give.Goals as goal

pub invariant_of-self-2 : goal.invariant_of-self-2
invariant_of-self-2 c =
    let old = c.args.self.now in
    let parcel = c.args.parcel.now in
    let packets : sent c.push-3.new.ring ≡ ((sent old.packets ++ parcel.sent.now) ++ parcel.reply.now) ++ parcel.response.now = search rules in
    let heads : sent c.push_reserved.new.self ≡ sent old.heads ++ parcel.head ∷ [] = search rules in
    record { whole = ap length packets ∙ given_whole (sent old.packets) parcel.sent.now parcel.reply.now parcel.response.now (sent old.heads) parcel.head c.requires old.whole ∙ sym (ap all_octets heads) }
