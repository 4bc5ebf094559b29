use Rattle.std.proofs.Common.{◌≡◌, ◌+◌, ◌≤◌, ℕ, List, length, ap, ◌∙◌, arith}
use Rattle.rad_auth.specs.Forwarding.{forwarded}
use Rattle.rad_auth.specs.declared.mark.Mark.{Mark}
use Rattle.rad_auth.proofs.Forwards.{forwarded-length}
use Rattle.rad_lane.proofs.FirstSent.{first_wait_least, first_wait_most, octets_so, forwarded_so, first_so}
use Rattle.rad_lane.proofs.sending.Sending.first.Goals as goal

-- the forwarded packet has twelve octets more
longer : (octets datagram packet text : List ℕ) (mark : Mark) (identifier : ℕ) (secret : List ℕ) (room : ℕ) → octets ≡ datagram → datagram ≡ forwarded packet mark identifier secret → packet ≡ text → 20 ≤ length text → length text + 12 ≤ room → length octets ≤ room
longer octets datagram packet text mark identifier secret room same made is least fits =
    let counted = ap length (same ∙ made) in
    let whole = forwarded-length packet mark identifier secret (omega (arith, least, ap length is)) in
    omega (arith, counted, whole, ap length is, fits)

pub fill_spare-octets-requires-clause-room : goal.fill_spare-octets-requires-clause-room
fill_spare-octets-requires-clause-room c =
    longer _ _ _ _ _ _ _ _ c.bytes.ensures.value (rw c.unwrap.ensures at c.forward.ensures.ok) c.packet.ensures.value c.packet.ensures.is_record.packet.least c.requires

pub due_after-requires-clause-first_least : goal.due_after-requires-clause-first_least
due_after-requires-clause-first_least c = first_wait_least _ _ c.numbers-limits.ensures.value c.numbers-limits.ensures.in_range

pub due_after-requires-clause-first_most : goal.due_after-requires-clause-first_most
due_after-requires-clause-first_most c = first_wait_most _ _ c.numbers-limits.ensures.value c.numbers-limits.ensures.in_range

pub invariant_of-result : goal.invariant_of-result
invariant_of-result c =
    let octets = octets_so c.args.setup.now c.args.request.recorded c.args.identifier c.forward.new.datagram c.packet.result c.lane.result c.stamp.result c.home.result.now (rw c.unwrap.ensures at c.forward.ensures.ok) c.packet.ensures.value c.lane.ensures c.stamp.ensures.value c.home.ensures in
    forwarded_so c.args.setup.now c.args.request.recorded c.args.identifier c.fill_spare-octets.new.self.recorded c.fill_spare-octets.ensures.record c.fill_spare-octets.result (c.fill_spare-octets.ensures.octets ∙ c.bytes.ensures.value ∙ octets) c.home-2.result.now c.home-2.ensures _ _ _ c.stamp.ensures.is_record c.ranges.identifier

pub returns-clause-octets : goal.returns-clause-octets
returns-clause-octets c =
    octets_so c.args.setup.now c.args.request.recorded c.args.identifier c.forward.new.datagram c.packet.result c.lane.result c.stamp.result c.home.result.now (rw c.unwrap.ensures at c.forward.ensures.ok) c.packet.ensures.value c.lane.ensures c.stamp.ensures.value c.home.ensures

pub returns-clause-sending : goal.returns-clause-sending
returns-clause-sending c =
    let octets = octets_so c.args.setup.now c.args.request.recorded c.args.identifier c.forward.new.datagram c.packet.result c.lane.result c.stamp.result c.home.result.now (rw c.unwrap.ensures at c.forward.ensures.ok) c.packet.ensures.value c.lane.ensures c.stamp.ensures.value c.home.ensures in
    first_so c.args.setup.now c.args.request.recorded c.args.identifier c.fill_spare-octets.new.self.recorded c.fill_spare-octets.ensures.record c.fill_spare-octets.result (c.fill_spare-octets.ensures.octets ∙ c.bytes.ensures.value ∙ octets) c.home-2.result.now c.home-2.ensures c.args.now c.due_after.result c.numbers-limits.result (c.numbers-limits.ensures.value ∙ c.limits.ensures.value) c.due_after.ensures
