use Rattle.std.proofs.Common.{◌≡◌, ◌-◌, ◌+◌, length, drop, slice_range, Decides, Some, arith, ap}
use Rattle.rad_packet.proofs.Walk.{last_within}
use Rattle.rad_auth.proofs.Returns.{compared, on_true, on_false, same_returned, other_not_returned}
use Rattle.rad_auth.proofs.responding.is_returned_mark.Goals as goal

pub overflow_add-last : goal.overflow_add-last
overflow_add-last c =
    let packet = c.octets.ensures.packet in
    let within = last_within 33 c.args.reply.now (Some c.args.last) packet c.requires.last in
    omega (arith, within, packet.most)

pub slice_bounds-eq-end : goal.slice_bounds-eq-end
slice_bounds-eq-end c =
    let packet = c.octets.ensures.packet in
    let within = last_within 33 c.args.reply.now (Some c.args.last) packet c.requires.last in
    let same = ap length c.octets.ensures.value in
    omega (arith, within, same)

pub returns-clause-returned : goal.returns-clause-returned
returns-clause-returned c =
    let sending = c.args.sending.now in
    let reply = c.args.reply.now in
    let at = c.args.last in
    let same : Decides c.eq.result (slice_range reply at.place (at.place + at.length) ≡ drop (length sending - 12) sending) =
    compared sending reply c.octets-sent.result.now c.octets.result.now at.place at.length c.eq.result c.octets-sent.ensures.value c.octets.ensures.value c.eq.ensures in
    on_true c.eq.result _ _ same (same_returned sending reply at.place at.length c.octets-sent.ensures.packet c.octets.ensures.packet c.requires.mark.0 c.requires.mark.1 c.requires.last)

pub returns-clause-other : goal.returns-clause-other
returns-clause-other c =
    let sending = c.args.sending.now in
    let reply = c.args.reply.now in
    let at = c.args.last in
    let same : Decides c.eq.result (slice_range reply at.place (at.place + at.length) ≡ drop (length sending - 12) sending) =
    compared sending reply c.octets-sent.result.now c.octets.result.now at.place at.length c.eq.result c.octets-sent.ensures.value c.octets.ensures.value c.eq.ensures in
    on_false c.eq.result _ _ same (other_not_returned sending reply at.place at.length c.octets-sent.ensures.packet c.octets.ensures.packet c.requires.mark.0 c.requires.mark.1 c.requires.last)
