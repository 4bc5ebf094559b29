-- How a right reply is heard.
use Rattle.std.proofs.Common.{◌≡◌, ℕ, List, Some, None, Result, Ok, Err, refl, sym, ap, ◌∙◌, subst}
use Rattle.std.specs.FinMap as map
use Rattle.rad_packet.specs.Packet.{code_of, authenticator_of, packet_attributes}
use Rattle.rad_packet.specs.Reading.{ReadsAs}
use Rattle.rad_packet.proofs.OneReading.{one_packet}
use Rattle.rad_packet.proofs.Exclusive.{read_or_refused}
use Rattle.rad_packet.specs.Attribute.{of_kind}
use Rattle.rad_auth.specs.Authenticator.{IsRightResponse}
use Rattle.rad_auth.specs.Refusing.{ReturnsItsMark}
use Rattle.rad_tables.specs.declared.slots.Slot.{Slot}
use Rattle.rad_lane.specs.declared.hearing.Heard.{Heard}
use Rattle.rad_lane.specs.declared.hearing.Heard.TheVariants.{Answer, ProbeAnswered}
use Rattle.rad_lane.specs.declared.hearing.HearFault.{HearFault}
use Rattle.rad_lane.specs.declared.hearing.HearFault.TheVariants.{Unread, WrongCode, Unknown, BadAuthenticator, MessageAuthenticatorHere, NoProxyState, OutOfMemory}
use Rattle.rad_lane.specs.declared.outgoing.Outgoing.{Outgoing}
use Rattle.rad_lane.specs.declared.entry.Entry.{Entry}
use Rattle.rad_lane.specs.declared.entry.Entry.TheVariants.{Sending as sending, Probe as probe}
use Rattle.rad_lane.specs.Outstanding.{Outstanding, AnswerKept}
use Rattle.rad_lane.specs.Book.{Book, moment_in, outstanding_at}
use Rattle.rad_lane.specs.Hears.{Hears, KeepsAnswer, GoesOut, IsRightAnswer, pair}
use Rattle.rad_progress.specs.Replies.{IsRightReply, IsItsAnswer, IsAnsweredBy}

one_sending : (a b : Outstanding) → Some (sending a) ≡ Some (sending b) → a ≡ b
one_sending a b is = cc

-- the answer that is kept is that of this entry
pub its_answer : (secret : List ℕ) (now count : ℕ) (entry other : Outstanding) (packet : List ℕ) (answer : AnswerKept) (outgoing : Outgoing) → other ≡ entry → KeepsAnswer secret now count other packet answer → GoesOut answer outgoing → IsItsAnswer entry outgoing
its_answer secret now count entry other packet answer outgoing one keeps goes = record {
  client = goes.client ∙ ap (λ s. s.client) keeps.stamp ∙ ap (λ (o : Outstanding). o.request.stamp.client) one;
  port = goes.port ∙ ap (λ s. s.port) keeps.stamp ∙ ap (λ (o : Outstanding). o.request.stamp.port) one;
  identifier = ap (λ r. r.head.identifier) goes.reply ∙ keeps.head_identifier ∙ ap (λ (o : Outstanding). o.request.stamp.identifier) one;
  authenticator = ap (λ r. r.head.authenticator) goes.reply ∙ keeps.head_authenticator ∙ ap (λ (o : Outstanding). o.request.stamp.authenticator) one;
  sending = ap (λ r. r.sending) goes.reply ∙ keeps.sending ∙ ap (λ (o : Outstanding). o.octets) one;
}

module _ (old : Book) (slot : Slot) (entry : Outstanding) (moment port : ℕ) (datagram : List ℕ) (there : outstanding_at old slot entry) (r : IsRightReply old.setup.home_secret slot entry.octets port datagram) where
  same_packet : (packet : List ℕ) → ReadsAs datagram packet → packet ≡ r.packet
  same_packet packet read = one_packet datagram packet r.packet read r.read

  -- the pair of the packet is the request's
  pub its_pair : (packet : List ℕ) → ReadsAs datagram packet → pair port packet ≡ slot
  its_pair packet read = ap (pair port) (same_packet packet read) ∙ r.at

  found : (packet : List ℕ) → ReadsAs datagram packet → map.get old.held (pair port packet) ≡ Some (sending entry)
  found packet read = ap (map.get old.held) (its_pair packet read) ∙ there

  same_entry : (packet : List ℕ) → ReadsAs datagram packet → (other : Outstanding) → outstanding_at old (pair port packet) other → other ≡ entry
  same_entry packet read other is = one_sending other entry (sym is ∙ found packet read)

  not_there : (packet : List ℕ) → ReadsAs datagram packet → map.get old.held (pair port packet) ≡ None → ⊥
  not_there packet read none = let here = found packet read in cc

  not_probe : (packet octets : List ℕ) → ReadsAs datagram packet → map.get old.held (pair port packet) ≡ Some (probe octets) → ⊥
  not_probe packet octets read is = let here = found packet read in cc

  right_answer : (packet : List ℕ) → ReadsAs datagram packet → (kept : Entry) → map.get old.held (pair port packet) ≡ Some kept → IsRightAnswer old kept packet
  right_answer packet read kept is =
      let one : sending entry ≡ kept = let here = found packet read in cc in
      subst (λ (x : Entry). IsRightAnswer old x packet) one
      (subst (λ (p : List ℕ). IsRightResponse old.setup.home_secret (authenticator_of entry.octets) p) (sym (same_packet packet read)) r.right)

  pub heard_by : (result : Result Heard HearFault) (new : Book) → Hears old moment port datagram result new → IsAnsweredBy entry result
  heard_by (Ok (Answer outgoing)) new h =
      its_answer old.setup.home_secret (moment_in old moment) old.served entry h.1.entry h.1.packet h.0 outgoing
      (same_entry h.1.packet h.1.read h.1.entry h.1.there) h.1.keeps h.2
  heard_by (Ok ProbeAnswered) new h = not_probe h.packet h.octets h.read h.there
  heard_by (Err (Unread fault)) new h = absurd (read_or_refused datagram r.packet fault r.read h.0)
  heard_by (Err WrongCode) new h = absurd (h.0.2 (ap code_of (same_packet h.0.0 h.0.1) ∙ r.code))
  heard_by (Err Unknown) new h = absurd (not_there h.0.0 h.0.1 h.0.2.1)
  heard_by (Err BadAuthenticator) new h = absurd (h.0.2.3 (right_answer h.0.0 h.0.1 h.0.2.1 h.0.2.2))
  heard_by (Err MessageAuthenticatorHere) new h =
      absurd (h.0.2.3.1 (ap (λ p. of_kind 80 (packet_attributes p)) (same_packet h.0.0 h.0.1) ∙ r.unsigned))
  heard_by (Err NoProxyState) new h =
      absurd (h.0.2.3.2 (subst (λ (o : Outstanding). ReturnsItsMark o.octets h.0.0) (sym (same_entry h.0.0 h.0.1 h.0.2.1 h.0.2.2))
      (subst (λ (p : List ℕ). ReturnsItsMark entry.octets p) (sym (same_packet h.0.0 h.0.1)) r.returned)))
  heard_by (Err OutOfMemory) new h = refl

-- the same with everything named
pub is_heard : (old : Book) (slot : Slot) (entry : Outstanding) (moment port : ℕ) (datagram : List ℕ) (result : Result Heard HearFault) (new : Book) → outstanding_at old slot entry → IsRightReply old.setup.home_secret slot entry.octets port datagram → Hears old moment port datagram result new → IsAnsweredBy entry result
is_heard old slot entry moment port datagram result new there r h = heard_by old slot entry moment port datagram there r result new h
