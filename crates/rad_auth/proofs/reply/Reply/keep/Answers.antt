use Rattle.std.proofs.Common.{◌≡◌, ℕ, ◌+◌, List, ◌++◌, length, ap, arith}
use Rattle.rad_auth.proofs.Parted.{IsParted-joined, parted-joined}
use Rattle.rad_auth.proofs.reply.Reply.keep.Goals as goal

pub invariant_of-result : goal.invariant_of-result
invariant_of-result c =
    let response : List ℕ = c.args.response.items in
    let whole : c.from_vec.result ≡ response ++ c.args.sending.now ++ c.args.reply.now ++ c.args.client.now ++ c.args.home.now =
    cc (c.in_ok-extend_from_slice.ensures.items, c.in_ok-extend_from_slice-2.ensures.items, c.in_ok-extend_from_slice-3.ensures.items, c.in_ok-extend_from_slice-4.ensures.items) in
    let first : c.len-response_end.result ≡ length response = omega arith in
    let second : c.len-sending_end.result ≡ c.len-response_end.result + length c.args.sending.now = omega (arith, c.in_ok-extend_from_slice.ensures.len, ap length c.octets.ensures.value) in
    let third : c.len-reply_end.result ≡ c.len-sending_end.result + length c.args.reply.now = omega (arith, c.in_ok-extend_from_slice-2.ensures.len, ap length c.octets-2.ensures.value) in
    let count : length c.octets-5.result.now ≡ length c.args.client.now = ap length c.octets-5.ensures.value in
    IsParted-joined c.args.head c.from_vec.result response c.args.sending.now c.args.reply.now c.args.client.now c.args.home.now _ _ _ _ whole first second third count c.octets.ensures.packet c.requires

pub overflow_cast-response_end : goal.overflow_cast-response_end
overflow_cast-response_end c = omega (arith, c.requires.response_packet.most)

pub overflow_cast-sending_end : goal.overflow_cast-sending_end
overflow_cast-sending_end c =
    let sending = ap length c.octets.ensures.value in
    omega (arith, c.requires.response_packet.most, c.octets.ensures.packet.most, c.in_ok-extend_from_slice.ensures.len, sending)

pub overflow_cast-reply_end : goal.overflow_cast-reply_end
overflow_cast-reply_end c =
    let sending = ap length c.octets.ensures.value in
    let reply = ap length c.octets-2.ensures.value in
    omega (arith, c.requires.response_packet.most, c.octets.ensures.packet.most, c.octets-2.ensures.packet.most, c.in_ok-extend_from_slice.ensures.len, c.in_ok-extend_from_slice-2.ensures.len, sending, reply)

pub returns : goal.returns
returns c =
    let response : List ℕ = c.args.response.items in
    let whole : c.from_vec.result ≡ response ++ c.args.sending.now ++ c.args.reply.now ++ c.args.client.now ++ c.args.home.now =
    cc (c.in_ok-extend_from_slice.ensures.items, c.in_ok-extend_from_slice-2.ensures.items, c.in_ok-extend_from_slice-3.ensures.items, c.in_ok-extend_from_slice-4.ensures.items) in
    let first : c.len-response_end.result ≡ length response = omega arith in
    let second : c.len-sending_end.result ≡ c.len-response_end.result + length c.args.sending.now = omega (arith, c.in_ok-extend_from_slice.ensures.len, ap length c.octets.ensures.value) in
    let third : c.len-reply_end.result ≡ c.len-sending_end.result + length c.args.reply.now = omega (arith, c.in_ok-extend_from_slice-2.ensures.len, ap length c.octets-2.ensures.value) in
    let count : length c.octets-5.result.now ≡ length c.args.client.now = ap length c.octets-5.ensures.value in
    parted-joined c.args.head c.from_vec.result response c.args.sending.now c.args.reply.now c.args.client.now c.args.home.now _ _ _ _ whole first second third count
