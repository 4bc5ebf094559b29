use Rattle.std.proofs.Common.{refl, option_copied, Some, None}
use Rattle.ledger_rules.proofs.Judged.{sent_is_none, reply_is_none, response_is_none, are_packets, has_sent, not_sent, has_request, no_request, is_right, no_response, judged_of}
use Rattle.ledger_rules.proofs.judging.judge_packets.Goals as goal

pub returns-in_default : goal.returns-in_default
returns-in_default c = sent_is_none c.args.entry.now c.in_default.ensures

pub returns-in_default-whole_packet : goal.returns-in_default-whole_packet
returns-in_default-whole_packet c = reply_is_none c.args.entry.now c.in_default-whole_packet.ensures

pub returns-in_default-whole_packet-2 : goal.returns-in_default-whole_packet-2
returns-in_default-whole_packet-2 c = response_is_none c.args.entry.now c.in_default-whole_packet-2.ensures

pub returns-then-not-is_sent : goal.returns-then-not-is_sent
returns-then-not-is_sent c =
    let e = c.args.entry.now in (
      are_packets e c.in-Some.ensures.1 c.in-Some-whole_packet.ensures.1 c.in-Some-whole_packet-2.ensures.1,
      not_sent e (option_copied c.args.home) c.mark_of-mark.result c.in-Some.sent c.mark_of-mark.ensures c.in-Some.ensures.0 c.if-not-is_sent.ensures.1,
    )

pub returns-then-not-is_request : goal.returns-then-not-is_request
returns-then-not-is_request c =
    let e = c.args.entry.now in
    let home = option_copied c.args.home in
    let mark = c.mark_of-mark.result in
    let sent = c.in-Some.sent in (
      are_packets e c.in-Some.ensures.1 c.in-Some-whole_packet.ensures.1 c.in-Some-whole_packet-2.ensures.1,
      has_sent e home mark sent c.mark_of-mark.ensures c.in-Some.ensures.0 (c.if-not-is_sent.ensures.0 refl),
      no_request e home mark sent c.mark_of-mark.ensures c.in-Some.ensures.0 (option_copied c.args.client) c.head_of-head.result c.head_of-head.ensures c.if-not-is_request.ensures.1,
    )

pub judge_reply-requires : goal.judge_reply-requires
judge_reply-requires c = (c.mark_of-mark.result, rw c.in-Some-home.is at (c.if-not-is_sent.ensures.0 refl))

pub returns-in-Some-home : goal.returns-in-Some-home
returns-in-Some-home c =
    let e = c.args.entry.now in
    let home = c.in-Some-home.home.now in
    let client = option_copied c.args.client in
    let mark = c.mark_of-mark.result in
    let head = c.head_of-head.result in
    let sent = c.in-Some.sent in
    let packets = are_packets e c.in-Some.ensures.1 c.in-Some-whole_packet.ensures.1 c.in-Some-whole_packet-2.ensures.1 in
    let is_sent = has_sent e (Some home) mark sent c.mark_of-mark.ensures c.in-Some.ensures.0 (rw c.in-Some-home.is at (c.if-not-is_sent.ensures.0 refl)) in
    let is_request = has_request e (Some home) mark sent c.mark_of-mark.ensures c.in-Some.ensures.0 client head c.head_of-head.ensures (c.if-not-is_request.ensures.0 refl) in
    rw c.in-Some-home.is
    (judged_of e home client packets is_sent is_request c.judge_reply.result head sent c.in-Some-whole_packet.reply c.head_of-head.ensures c.in-Some.ensures.0 c.in-Some-whole_packet.ensures.0 c.judge_reply.ensures)

pub returns-in-None : goal.returns-in-None
returns-in-None c =
    let e = c.args.entry.now in
    let client = option_copied c.args.client in
    let head = c.head_of-head.result in
    let packets = are_packets e c.in-Some.ensures.1 c.in-Some-whole_packet.ensures.1 c.in-Some-whole_packet-2.ensures.1 in
    let is_request = has_request e None c.mark_of-mark.result c.in-Some.sent c.mark_of-mark.ensures c.in-Some.ensures.0 client head c.head_of-head.ensures (c.if-not-is_request.ensures.0 refl) in
    rw c.in-None.is
    (is_right e client head c.in-Some-whole_packet-2.response c.head_of-head.ensures c.in-Some-whole_packet-2.ensures.0 packets is_request (c.if-is_response.ensures.0 refl))

pub returns-in-None-2 : goal.returns-in-None-2
returns-in-None-2 c =
    let e = c.args.entry.now in
    let client = option_copied c.args.client in
    let head = c.head_of-head.result in
    let packets = are_packets e c.in-Some.ensures.1 c.in-Some-whole_packet.ensures.1 c.in-Some-whole_packet-2.ensures.1 in
    let is_request = has_request e None c.mark_of-mark.result c.in-Some.sent c.mark_of-mark.ensures c.in-Some.ensures.0 client head c.head_of-head.ensures (c.if-not-is_request.ensures.0 refl) in
    rw c.in-None.is
    (no_response e client head c.in-Some-whole_packet-2.response c.head_of-head.ensures c.in-Some-whole_packet-2.ensures.0 packets is_request c.if-is_response.ensures.1)
