use Rattle.std.proofs.Common.{◌≡◌, ℕ, List, [], ◌∷◌, ◌++◌, length, take, vec_len, sym, ap, ◌∙◌, arith, rules}
use Rattle.std.proofs.lemmas.List.{length-take-le}
use Rattle.rtrb.specs.Ring.{received}
use Rattle.ledger_writer.specs.Parcels.{Fits, all_octets, octets_of}
use Rattle.ledger_writer.specs.declared.parcel.ParcelHead.{ParcelHead}
use Rattle.ledger_writer.proofs.Parcels.{fits_within, same_first, whole_with_one}
use Rattle.ledger_writer.proofs.entry_buffer.EntryBuffer.take.Goals as goal

-- The head that was looked at is the one that is taken.
heads_with_one : (c : goal.After-pop_known) → received c.pop_known.new.self ≡ received c.args.self.now.heads ++ c.peek_known.result.now ∷ []
heads_with_one c =
    let head : ParcelHead = c.peek_known.result.now in
    let same : head ≡ c.pop_known.result = same_first head c.pop_known.result _ _ c.peek_known.ensures c.pop_known.ensures.received.1 in
    let looked : received c.is_empty.new.self ≡ received c.args.self.now.heads = search rules in
    c.pop_known.ensures.received.0 ∙ ap (λ (l : List ParcelHead). l ++ c.pop_known.result ∷ []) looked ∙ ap (λ (h : ParcelHead). received c.args.self.now.heads ++ h ∷ []) (sym same)

pub invariant_of-self-then-take_octets : goal.invariant_of-self-then-take_octets
invariant_of-self-then-take_octets c =
    let old = c.args.self.now in
    let head : ParcelHead = c.peek_known.result.now in
    let fit : Fits head = search rules in
    let within = fits_within head.its fit in
    let room : vec_len c.take_octets.new.room ≡ 12288 = c.take_octets.ensures.room ∙ old.has_room in
    let octets : List ℕ = take (octets_of head) c.take_octets.new.room.items in
    let packets : received c.take_octets.new.packets ≡ received old.packets ++ octets = search rules in
    let count : length octets ≡ octets_of head = length-take-le (octets_of head) c.take_octets.new.room.items (omega (arith, within, room)) in
    record {
      whole = ap length packets ∙ whole_with_one (received old.packets) octets (received old.heads) head old.whole count ∙ sym (ap all_octets (heads_with_one c));
      has_room = room;
      fits = within;
    }
