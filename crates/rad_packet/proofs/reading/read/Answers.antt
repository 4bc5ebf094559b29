use Rattle.std.proofs.Common.{◌≡◌, ◌+◌, ◌*◌, drop, sym, arith, length-take}
use Rattle.std.proofs.lemmas.List.{take-append-drop}
use Rattle.rad_packet.specs.Packet.{AreOctets, length_of}
use Rattle.rad_packet.proofs.Scan.{packet_here, invalid_at, out_of_range}
use Rattle.rad_packet.proofs.reading.read.Goals as goal

pub returns-in-Some : goal.returns-in-Some
returns-in-Some c =
    let n = 256 * c.from.result + c.from-2.result in
    let counted : n ≡ length_of c.args.datagram.now = omega (arith, c.from.ensures, c.from-2.ensures) in (
      omega arith,
      record { least = omega arith; most = omega arith; here = omega arith },
      invalid_at c.args.datagram.now n counted (omega arith) (omega arith) c.in-Some.place c.in-Some.ensures,
    )

pub returns-in-None : goal.returns-in-None
returns-in-None c =
    let n = 256 * c.from.result + c.from-2.result in
    let counted : n ≡ length_of c.args.datagram.now = omega (arith, c.from.ensures, c.from-2.ensures) in
    let octets : AreOctets c.args.datagram.now = λ i. omega (arith, c.type_inv.datagram i) in
    rw c.over.ensures
    (record {
      is_packet = packet_here c.args.datagram.now n counted (omega arith) (omega arith) (omega arith) octets c.in-None.ensures;
      padding = drop n c.args.datagram.now;
      whole = sym (take-append-drop n c.args.datagram.now);
    })

pub returns-then-datagram-lt-HEADER_LENGTH : goal.returns-then-datagram-lt-HEADER_LENGTH
returns-then-datagram-lt-HEADER_LENGTH c = omega arith

pub bounds-datagram-2 : goal.bounds-datagram-2
bounds-datagram-2 c = omega arith

pub overflow_mul-length : goal.overflow_mul-length
overflow_mul-length c = omega arith

pub bounds-datagram-3 : goal.bounds-datagram-3
bounds-datagram-3 c = omega arith

pub overflow_add-length : goal.overflow_add-length
overflow_add-length c = omega arith

pub returns-then-length-lt-HEADER_LENGTH : goal.returns-then-length-lt-HEADER_LENGTH
returns-then-length-lt-HEADER_LENGTH c = (c.if-datagram-lt-HEADER_LENGTH.false, out_of_range _ _ (omega (arith, c.from.ensures, c.from-2.ensures)) c.then-length-lt-HEADER_LENGTH.either)

pub returns-then-datagram-length : goal.returns-then-datagram-length
returns-then-datagram-length c = (omega arith, omega arith, omega arith, omega arith)

pub slice_bounds-octets-end : goal.slice_bounds-octets-end
slice_bounds-octets-end c = omega (arith, length-take (256 * c.from.result + c.from-2.result) c.args.datagram.now)

pub first_invalid-requires : goal.first_invalid-requires
first_invalid-requires c = omega (arith, length-take (256 * c.from.result + c.from-2.result) c.args.datagram.now)

pub over-requires : goal.over-requires
over-requires c =
    let n = 256 * c.from.result + c.from-2.result in
    let counted : n ≡ length_of c.args.datagram.now = omega (arith, c.from.ensures, c.from-2.ensures) in
    let octets : AreOctets c.args.datagram.now = λ i. omega (arith, c.type_inv.datagram i) in
    packet_here c.args.datagram.now n counted (omega arith) (omega arith) (omega arith) octets c.in-None.ensures
