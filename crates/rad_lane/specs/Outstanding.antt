-- Sendings that are unanswered, and answers (own).
use Rattle.std.specs.Prelude.{◌≡◌, ℕ, ◌+◌, ◌<◌, ◌≤◌, List, Bool, nat_le}
use Rattle.rad_auth.specs.Forwarding.{forwarded}
use Rattle.rad_auth.specs.Answers.{Answers}
use Rattle.rad_auth.specs.Replied.{Replied}
use Rattle.rad_lane.specs.declared.stamp.Stamp.{Stamp}
use Rattle.rad_tables.specs.Waiting.{wait_of}
use Rattle.rad_lane.specs.Stamp.{Recorded, IsRecord}
use Rattle.rad_lane.specs.Setup.{LaneSetup}

-- A request that was sent and is unanswered: its record, the octets sent, the number of sendings in this round, and
-- when the next one is due; and the home server's secret and the number of sendings in a round, which are the lane's.
pub record Outstanding : Type 0 where
  pub request : Recorded
  pub octets : List ℕ
  pub sendings : ℕ
  pub due : ℕ
  pub home : List ℕ
  pub tries : ℕ

-- The octets are the forwarded packet of a record, for some lane and Identifier.
pub record IsForwarded (entry : Outstanding) : Type 0 where
  pub is_record : IsRecord entry.request
  pub lane : ℕ
  pub identifier : ℕ
  pub octet : identifier < 256
  pub octets : entry.octets ≡ forwarded entry.request.text (record { lane = lane; number = entry.request.stamp.number }) identifier entry.home

-- The octets to be sent for a record under an Identifier: its request, forwarded with the lane's mark.
abbrev pub octets_of : LaneSetup → Recorded → ℕ → List ℕ
octets_of setup r identifier =
    forwarded r.text (record { lane = setup.lane; number = r.stamp.number }) identifier setup.home_secret

-- The entry after the first sending of a record under an Identifier.
abbrev pub first_sending : LaneSetup → ℕ → Recorded → ℕ → Outstanding
first_sending setup now r identifier = record {
  request = r;
  octets = octets_of setup r identifier;
  sendings = 1;
  due = now + wait_of setup.limits.first_wait 1;
  home = setup.home_secret;
  tries = setup.limits.tries;
}

-- The entry after one more sending. The wait until it is due again doubles with each sending of a round, from the
-- given first wait, up to two minutes.
abbrev pub sent_again : ℕ → ℕ → Outstanding → Outstanding
sent_again first_wait now entry = record entry {
  sendings = entry.sendings + 1;
  due = now + wait_of first_wait (entry.sendings + 1);
}

-- The entry with a new round, due at once.
abbrev pub renewed : ℕ → Outstanding → Outstanding
renewed now entry = record entry { sendings = 0; due = now }

-- A sending is spent if its round has used its `tries`.
abbrev pub is_spent : Outstanding → Bool
is_spent entry = nat_le entry.tries entry.sendings

-- The order of sendings: by due time and, at the same due time, by number.
abbrev pub due_and_number : Outstanding → ℕ × ℕ
due_and_number entry = (entry.due, entry.request.stamp.number)

-- An answer: the stamp that it answers, its moment, its serial, and the sending, the reply and the response with both
-- secrets.
pub record AnswerKept : Type 0 where
  pub stamp : Stamp
  pub moment : ℕ
  pub serial : ℕ
  pub reply : Replied

-- The record that was answered, of which this is the text.
abbrev pub answered_record : AnswerKept → List ℕ → Recorded
answered_record answer text = record { stamp = answer.stamp; text = text; client_secret = answer.reply.client }

-- The response answers the request of the stamp, after a verified reply to the forwarded packet of a record of that
-- stamp, for some lane and Identifier. The answer was given no earlier than the request was accepted.
pub record IsAnswered (answer : AnswerKept) : Type 0 where
  pub head_identifier : answer.reply.head.identifier ≡ answer.stamp.identifier
  pub head_authenticator : answer.reply.head.authenticator ≡ answer.stamp.authenticator
  pub answers : Answers answer.reply.head answer.reply.sending answer.reply.reply answer.reply.client answer.reply.home answer.reply.response
  pub text : List ℕ
  pub is_record : IsRecord (answered_record answer text)
  pub lane : ℕ
  pub identifier : ℕ
  pub sending : answer.reply.sending ≡ forwarded text (record { lane = lane; number = answer.stamp.number }) identifier answer.reply.home
  pub since : answer.stamp.moment ≤ answer.moment
