use Rattle.std.proofs.Common.{◌≡◌, ◌≢◌, sym, ◌∙◌}
use Rattle.std.proofs.lemmas.Slice.Eq.{bytes_eq-Decides}
use Rattle.ledger_rules.proofs.Replies.{is_reply, is_response, is_no_response, other_octets}
use Rattle.ledger_rules.proofs.judging.judge_reply.Goals.{in-Some-2, in-None}
use Rattle.ledger_rules.proofs.judging.judge_reply.Goals as goal

-- the client's secret is not known: the response is made for the home server's
pub returns-in_default : goal.returns-in_default
returns-in_default c =
    let home = c.args.home.now in
    elim c.match-branch-2.branch [
      | in-Some-2 w ↦ (
          let made = rw w.in-Some-2.is at c.in_ok-response_after.ensures in
          rw (w.result-is, c.in_default.is) (is_reply home c.args.sent.now c.args.reply.now c.args.head home w.in-Some-2.field-0.response made, tt))
      | in-None w ↦ rw w.result-is (rw w.in-None.is at c.in_ok-response_after.ensures)
    ]

pub returns-in-None-2 : goal.returns-in-None-2
returns-in-None-2 c = rw c.in-None-2.is at c.in_ok-response_after-2.ensures

pub returns-in-Some-3 : goal.returns-in-Some-3
returns-in-Some-3 c =
    let home = c.args.home.now in
    let client = c.in-Some.client.now in
    let response = c.in-Some-3.made.response in
    let made = rw c.in-Some-3.is at c.in_ok-response_after-2.ensures in
    let same : response ≡ c.args.response.now = sym c.response.ensures ∙ (bytes_eq-Decides c.response.result.now c.args.response.now).0 (sym c.if-eq.ensures) in
    rw c.in-Some.is (
      is_reply home c.args.sent.now c.args.reply.now c.args.head client response made,
      is_response home c.args.sent.now c.args.reply.now c.args.head client response made c.args.response.now same,
    )

pub returns-in-Some-2-2 : goal.returns-in-Some-2-2
returns-in-Some-2-2 c =
    let home = c.args.home.now in
    let client = c.in-Some.client.now in
    let response = c.in-Some-3.made.response in
    let made = rw c.in-Some-3.is at c.in_ok-response_after-2.ensures in
    let other : response ≢ c.args.response.now = λ e. other_octets (c.if-eq.ensures ∙ (bytes_eq-Decides c.response.result.now c.args.response.now).1 (c.response.ensures ∙ e)) in
    rw c.in-Some.is (
      is_reply home c.args.sent.now c.args.reply.now c.args.head client response made,
      is_no_response home c.args.sent.now c.args.reply.now c.args.head client response made c.args.response.now c.one_response.ensures other,
    )

pub response_after-requires : goal.response_after-requires
response_after-requires c = c.requires

pub response_after-requires-2 : goal.response_after-requires-2
response_after-requires-2 c = c.requires
