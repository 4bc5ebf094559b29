-- On a source port that a lane lacks nothing is outstanding, so nothing that reads as an Accounting-Response is heard.
use Rattle.std.proofs.Common.{◌≡◌, ℕ, ◌≤◌, List, Some, Result, Ok, Err, refl, subst, arith}
use Rattle.std.specs.FinMap as map
use Rattle.rad_packet.specs.Packet.{code_of}
use Rattle.rad_packet.specs.Reading.{ReadsAs}
use Rattle.rad_packet.proofs.OneReading.{one_packet}
use Rattle.rad_packet.proofs.Exclusive.{read_or_refused}
use Rattle.rad_lane.specs.declared.hearing.Heard.{Heard}
use Rattle.rad_lane.specs.declared.hearing.Heard.TheVariants.{Answer, ProbeAnswered}
use Rattle.rad_lane.specs.declared.hearing.HearFault.{HearFault}
use Rattle.rad_lane.specs.declared.hearing.HearFault.TheVariants.{Unread, WrongCode, Unknown, BadAuthenticator, MessageAuthenticatorHere, NoProxyState, OutOfMemory}
use Rattle.rad_lane.specs.declared.entry.Entry.{Entry}
use Rattle.rad_lane.specs.Book.{Book}
use Rattle.rad_lane.specs.Lawful.{IsLawful}
use Rattle.rad_lane.specs.Hears.{Hears, pair}

module _ (book : Book) (lawful : IsLawful book) (port : ℕ) (lacks : book.setup.ports ≤ port) where
  none_there : (packet : List ℕ) (entry : Entry) → map.get book.held (pair port packet) ≡ Some entry → ⊥
  none_there packet entry there =
      let own = lawful.holds_its_own (pair port packet) entry there in
      omega (arith, own.0.0, lacks)

  module _ (datagram packet : List ℕ) (read : ReadsAs datagram packet) (code : code_of packet ≡ 5) where
    pub unknown_there : (moment : ℕ) (answer : Result Heard HearFault) (new : Book) → Hears book moment port datagram answer new → answer ≡ Err Unknown
    unknown_there moment (Ok (Answer outgoing)) new h = absurd (none_there h.1.packet _ h.1.there)
    unknown_there moment (Ok ProbeAnswered) new h = absurd (none_there h.packet _ h.there)
    unknown_there moment (Err (Unread fault)) new h = absurd (read_or_refused datagram packet fault read h.0)
    unknown_there moment (Err WrongCode) new h =
        absurd (h.0.2 (subst (λ (p : List ℕ). code_of p ≡ 5) (one_packet datagram packet h.0.0 read h.0.1) code))
    unknown_there moment (Err Unknown) new h = refl
    unknown_there moment (Err BadAuthenticator) new h = absurd (none_there h.0.0 _ h.0.2.2)
    unknown_there moment (Err MessageAuthenticatorHere) new h = absurd (none_there h.0.0 _ h.0.2.2)
    unknown_there moment (Err NoProxyState) new h = absurd (none_there h.0.0 _ h.0.2.2)
    unknown_there moment (Err OutOfMemory) new h = absurd (none_there h.0.0 _ h.0.2.2)

-- The same with everything named.
pub unknown_port : (old : Book) (moment port : ℕ) (datagram packet : List ℕ) (answer : Result Heard HearFault) (new : Book) → IsLawful old → old.setup.ports ≤ port → ReadsAs datagram packet → code_of packet ≡ 5 → Hears old moment port datagram answer new → answer ≡ Err Unknown
unknown_port old moment port datagram packet answer new lawful lacks read code h = unknown_there old lawful port lacks datagram packet read code moment answer new h
