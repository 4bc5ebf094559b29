use Rattle.std.proofs.Common.{arith, subst, sym}
use Rattle.std.proofs.lemmas.List.{take_rest}
use Rattle.rad_packet.specs.Attribute.{AreAttributes}
use Rattle.rad_packet.proofs.packet_ref.PacketRef.attributes.Goals as goal

pub slice_bounds-over-count : goal.slice_bounds-over-count
slice_bounds-over-count c = c.self.invariant.least

pub slice_bounds-over-start : goal.slice_bounds-over-start
slice_bounds-over-start c = omega arith

pub slice_bounds-over-end : goal.slice_bounds-over-end
slice_bounds-over-end c = omega arith

pub over-requires : goal.over-requires
over-requires c = subst AreAttributes (sym (take_rest c.self.inside.octets.now 20)) c.self.invariant.attributes

pub returns-clause-attributes : goal.returns-clause-attributes
returns-clause-attributes c = let e = take_rest c.self.inside.octets.now 20 in cc

pub returns-clause-packet : goal.returns-clause-packet
returns-clause-packet c = rw (sym c.self.view_is) c.self.invariant
