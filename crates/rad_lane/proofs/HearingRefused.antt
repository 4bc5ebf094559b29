-- Why a packet from the home server is not heard, and what it is heard as where its reply is kept.
use Rattle.std.proofs.Common.{◌≡◌, ℕ, ◌≤◌, List, Bool, Some, None, false, true, sym, ap, ◌∙◌, subst, arith}
use Rattle.std.specs.Prelude.{IsTrue, Result, Ok, Err, IsErr}
use Rattle.std.specs.Result.{IsErrAnd}
use Rattle.std.specs.FinMap as map
use Rattle.std.proofs.lemmas.Bool.{false≢true}
use Rattle.rad_packet.specs.Packet.{code_of, identifier_of, authenticator_of}
use Rattle.rad_packet.specs.Reading.{ReadsAs}
use Rattle.rad_auth.specs.Authenticator.{IsRightResponse}
use Rattle.rad_auth.specs.Refusing.{RefusesReply}
use Rattle.rad_auth.specs.declared.responding.ReplyFault.{ReplyFault}
use Rattle.rad_auth.specs.declared.responding.ReplyFault.TheVariants as reply
use Rattle.rad_tables.specs.declared.slots.Slot.{Slot}
use Rattle.rad_lane.specs.declared.hearing.Heard.{Heard}
use Rattle.rad_lane.specs.declared.hearing.HearFault.{HearFault}
use Rattle.rad_lane.specs.declared.hearing.HearFault.TheVariants.{BadAuthenticator, Unknown}
use Rattle.rad_lane.specs.declared.entry.Entry.TheVariants.{Sending as sending, Probe as probe}
use Rattle.rad_lane.specs.Outstanding.{Outstanding, AnswerKept}
use Rattle.rad_lane.specs.Book.{Book, outstanding_at}
use Rattle.rad_lane.specs.Hears.{Hears, HearsReply, HearsProbe, KeepsAnswer, RefusesToHear, pair, fault_of, with_answer}
use Rattle.rad_lane.specs.Watch.{GoesUpIfDown}
use Rattle.rad_lane.specs.Lawful.{IsLawful}
use Rattle.rad_lane.proofs.LawfulAfterAnswer.{has_passed, identifier_is}

-- the pair at which a packet with the Identifier of the pair arrived
pub pair_is : (slot : Slot) (packet : List ℕ) → slot.identifier ≡ identifier_of packet → slot ≡ pair slot.port packet
pair_is slot packet same = ap (λ (i : ℕ). let s : Slot = record { port = slot.port; identifier = i } in s) same

pub passed_by : (moment last now : ℕ) → moment ≤ last → last ≤ now → moment ≤ now
passed_by moment last now passed later = omega (arith, passed, later)

module _ (book : Book) (port : ℕ) (datagram packet : List ℕ) (read : ReadsAs datagram packet) (code : code_of packet ≡ 5) (slot : Slot) (is_pair : slot ≡ pair port packet) where
  by_reason : (entry : Outstanding) → outstanding_at book (pair port packet) entry → (reason : ReplyFault) → RefusesReply entry.octets packet book.setup.home_secret reason → RefusesToHear book port datagram (fault_of reason)
  by_reason entry there reply.BadAuthenticator refuses = (packet, read, (code, sending entry, there, refuses))
  by_reason entry there reply.MessageAuthenticatorHere refuses = (packet, read, (code, entry, there, refuses))
  by_reason entry there reply.NoProxyState refuses = (packet, read, (code, entry, there, refuses))
  by_reason entry there reply.OutOfMemory refuses = (packet, read, (code, entry, there, refuses))

  pub refused_answer : (entry : Outstanding) → outstanding_at book slot entry → (secret : List ℕ) → secret ≡ book.setup.home_secret → (reason : ReplyFault) → RefusesReply entry.octets packet secret reason → RefusesToHear book port datagram (fault_of reason)
  refused_answer entry there secret same reason refuses =
      by_reason entry (ap (map.get book.held) (sym is_pair) ∙ there) reason
      (subst (λ (home : List ℕ). RefusesReply entry.octets packet home reason) same refuses)

  -- a reply that is kept as an answer, after which a lane that was down goes up
  pub hears_answer : (now : ℕ) (entry : Outstanding) → outstanding_at book slot entry → (answer : AnswerKept) → KeepsAnswer book.setup.home_secret now book.served entry packet answer → (after new : Book) → after ≡ with_answer book now slot answer → GoesUpIfDown now (record after { last = now }) new after.watch → HearsReply book now port datagram answer new
  hears_answer now entry there answer keeps after new is goes = record {
    packet = packet;
    read = read;
    code = code;
    entry = entry;
    there = ap (map.get book.held) (sym is_pair) ∙ there;
    keeps = keeps;
    book =
        subst (λ (s : Slot). GoesUpIfDown now (with_answer book now s answer) new book.watch) is_pair
        (subst (λ (b : Book). GoesUpIfDown now (record b { last = now }) new b.watch) is goes);
  }

  pub refused_probe : (octets : List ℕ) → map.get book.held slot ≡ Some (probe octets) → (IsRightResponse book.setup.home_secret (authenticator_of octets) packet → ⊥) → RefusesToHear book port datagram BadAuthenticator
  refused_probe octets there wrong = (packet, read, (code, probe octets, ap (map.get book.held) (sym is_pair) ∙ there, wrong))

  pub refused_unknown : map.get book.held slot ≡ None → RefusesToHear book port datagram Unknown
  refused_unknown none = (packet, read, (code, ap (map.get book.held) (sym is_pair) ∙ none))

  -- a valid answer to the probe, after which a lane that was down goes up
  pub hears_probe : (now : ℕ) (octets : List ℕ) → map.get book.held slot ≡ Some (probe octets) → IsRightResponse book.setup.home_secret (authenticator_of octets) packet → (new : Book) → GoesUpIfDown now (record book { last = now }) new book.watch → HearsProbe book now port datagram new
  hears_probe now octets there right new goes = record {
    packet = packet;
    read = read;
    code = code;
    octets = octets;
    there = ap (map.get book.held) (sym is_pair) ∙ there;
    right = right;
    book = goes;
  }

-- the moment of an answer that is kept is the last one
pub at_last : (after : Book) (now : ℕ) → after.last ≡ now → after.last ≤ now
at_last after now same = omega (arith, same)

pub right_by : (b : Bool) (home secret auth authenticator packet : List ℕ) → b ≡ true → (IsTrue b → IsRightResponse home auth packet) → home ≡ secret → auth ≡ authenticator → IsRightResponse secret authenticator packet
right_by b home secret auth authenticator packet is_true h same_home same_auth = rw (← same_home, ← same_auth) (h is_true)

pub wrong_by : (b : Bool) (home secret auth authenticator packet : List ℕ) → b ≡ false → (IsRightResponse home auth packet → IsTrue b) → home ≡ secret → auth ≡ authenticator → IsRightResponse secret authenticator packet → ⊥
wrong_by b home secret auth authenticator packet is_false h same_home same_auth right =
    let told : IsTrue false = subst IsTrue is_false (h (rw (same_home, same_auth) right)) in cc

-- a fault that is handed on
pub hears_fault : (book after : Book) (moment port : ℕ) (datagram : List ℕ) (fault told : HearFault) (result : Result Heard HearFault) → RefusesToHear book port datagram fault → told ≡ fault → after ≡ book → IsErr result × IsErrAnd result (λ f. f ≡ told) → Hears book moment port datagram result after
hears_fault book after moment port datagram fault told (Err f) refuses same stays is =
    (subst (λ e. RefusesToHear book port datagram e) (sym (is.1 ∙ same)) refuses, stays)
hears_fault book after moment port datagram fault told (Ok heard) refuses same stays is = absurd (false≢true is.0)

-- what a lane knows of a sending that is outstanding
pub record IsOutstanding (book : Book) (slot : Slot) (entry : Outstanding) : Type 0 where
  pub there : outstanding_at book slot entry
  pub home : entry.home ≡ book.setup.home_secret
  pub passed : entry.request.stamp.moment ≤ book.last
  pub identifier : identifier_of entry.octets ≡ slot.identifier

pub is_outstanding : (book value : Book) → book ≡ value → IsLawful book → (slot : Slot) (entry : Outstanding) → outstanding_at book slot entry → IsOutstanding value slot entry
is_outstanding book value same l slot entry there =
    subst (λ (b : Book). IsOutstanding b slot entry) same (record {
      there = there;
      home = (l.holds_its_own slot (sending entry) there).1.0;
      passed = has_passed book l slot entry there;
      identifier = identifier_is book slot entry l there;
    })

-- its answer is the next of the book
pub answers_sending : (book : Book) (slot : Slot) (entry : Outstanding) → IsOutstanding book slot entry → (now count : ℕ) (packet : List ℕ) (answer : AnswerKept) → count ≡ book.served → KeepsAnswer entry.home now count entry packet answer → KeepsAnswer book.setup.home_secret now book.served entry packet answer
answers_sending book slot entry o now count packet answer counted keeps =
    subst (λ (secret : List ℕ). KeepsAnswer secret now book.served entry packet answer) o.home
    (subst (λ (n : ℕ). KeepsAnswer entry.home now n entry packet answer) counted keeps)
