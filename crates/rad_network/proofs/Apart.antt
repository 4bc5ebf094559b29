-- Of the records that a lane accepted, each has a number of its own, and octets of its own.
use Rattle.std.proofs.Common.{◌≡◌, ℕ, ◌<◌, ◌≤◌, ◌^◌, List, [], ◌∷◌, ◌++◌, length, Ok, Err, refl, sym, ap, ◌∙◌, subst, inl, inr, arith, length-append}
use Rattle.std.specs.Prelude.{All}
use Rattle.std.specs.List.{Contains}
use Rattle.std.proofs.lemmas.List.Elements.{All-head}
use Rattle.rad_realms.specs.Checking.{Request}
use Rattle.rad_auth.specs.Mark.{EndsWithMark}
use Rattle.rad_auth.specs.declared.mark.Mark.{Mark}
use Rattle.rad_auth.proofs.Forwards.{EndsWithMark-forwarded}
use Rattle.rad_auth.proofs.Marks.{one_value}
use Rattle.rad_lane.specs.declared.accepting.Taken.TheVariants.{New, Waiting, Again}
use Rattle.rad_lane.specs.declared.running.Event.{Event}
use Rattle.rad_lane.specs.declared.running.Event.TheVariants.{Accept as accept, Step as step, Hear as hear, Drain as drain, Turn as turn}
use Rattle.rad_lane.specs.declared.running.GivenAnswer.{GivenAnswer}
use Rattle.rad_lane.specs.declared.running.GivenAnswer.TheVariants.{Accept as accepted, Step as stepped, Hear as heard, Drain as drained, Turn as turned}
use Rattle.rad_lane.specs.Setup.{LaneSetup, IsOfItsRealms}
use Rattle.rad_lane.specs.Stamp.{Recorded, IsRecord}
use Rattle.rad_lane.specs.Outstanding.{octets_of}
use Rattle.rad_lane.specs.Datagrams.{Datagrams}
use Rattle.rad_lane.specs.Book.{Book, moment_in, next_number}
use Rattle.rad_lane.specs.Lawful.{IsLawful}
use Rattle.rad_lane.specs.Accepts.{Accepts, record_of, stamp_of}
use Rattle.rad_lane.specs.Runs.{Gives}
use Rattle.rad_lane.proofs.ListLemmas.{All-right}
use Rattle.rad_network.specs.World.{World, new_world}
use Rattle.rad_network.specs.Happens.{Happening, Happens, Lives, Life, accepts}
use Rattle.rad_network.specs.Happens.Happening.{called, came, replied}
use Rattle.rad_network.specs.Asking.{AreApart}
use Rattle.rad_network.proofs.Among.{none_there, parted}
use Rattle.rad_network.proofs.Marks.{same_number}
use Rattle.rad_network.proofs.Stands.{Stands, stands_at_first}
use Rattle.rad_network.proofs.AfterCall.{numbers_grow}
use Rattle.rad_network.proofs.InLife.{stands_after, stands_in_life}

-- these records are numbered below this number, each with its own
record AreNumbered (records : List Recorded) (next : ℕ) : Type 0 where
  are : (r : Recorded) → Contains records r → IsRecord r × (r.stamp.number < next)
  alone : (a b : Recorded) → Contains records a → Contains records b → a.stamp.number ≡ b.stamp.number → a ≡ b

none_more : (records : List Recorded) (m n : ℕ) → m ≤ n → AreNumbered records m → AreNumbered records n
none_more records m n most h = record {
  are = λ r there. let was = h.are r there in (was.0, let low = was.1 in omega (arith, low, most));
  alone = h.alone;
}

one_more : (records : List Recorded) (m n : ℕ) (new : Recorded) → IsRecord new → new.stamp.number ≡ m → m < n → AreNumbered records m → AreNumbered (new ∷ records) n
one_more records m n new is_record number less h = record {
  are = λ r there. elim (parted new records r there) [
    | inl is ↦ subst (λ (x : Recorded). IsRecord x × (x.stamp.number < n)) is (is_record, omega (arith, number, less))
    | inr before ↦ let was = h.are r before in (was.0, let low = was.1 in omega (arith, low, less))
  ];
  alone = λ a b there_a there_b same. elim (parted new records a there_a) [
    | inl is_a ↦ elim (parted new records b there_b) [
      | inl is_b ↦ sym is_a ∙ is_b
      | inr before_b ↦
          let low = (h.are b before_b).1 in
          let its = ap (λ (x : Recorded). x.stamp.number) is_a in
          absurd (omega (arith, low, its, number, same))
    ]
    | inr before_a ↦ elim (parted new records b there_b) [
      | inl is_b ↦
          let low = (h.are a before_a).1 in
          let its = ap (λ (x : Recorded). x.stamp.number) is_b in
          absurd (omega (arith, low, its, number, same))
      | inr before_b ↦ h.alone a b before_a before_b same
    ]
  ];
}

module _ (old : World) (s : Stands old) (next : Book) (lawful : IsLawful next) (h : AreNumbered old.accepted (next_number old.book)) where
  numbered_new : (request : Request) (moment number : ℕ) (d : Datagrams) → Accepts old.book request moment (Ok (New number)) d next → AreNumbered (record_of (next_number old.book) request (moment_in old.book moment) ∷ old.accepted) (next_number next)
  numbered_new request moment number d g =
      let new : Recorded = record_of (next_number old.book) request (moment_in old.book moment) in
      let P : Recorded → Type 0 = λ r. IsRecord r × IsOfItsRealms next.setup r.text in
      let queued : All P (old.book.queued ++ new ∷ []) = subst (λ (qs : List Recorded). All P qs) (ap (λ (b : Book). b.queued) g.3) lawful.of_its_realms in
      let more = ap (λ (b : Book). length b.accepted) g.3 ∙ length-append old.book.accepted (stamp_of (next_number old.book) request (moment_in old.book moment) ∷ []) in
      let opening = ap (λ (b : Book). b.opening) g.3 in
      one_more old.accepted (next_number old.book) (next_number next) new
      (All-head P new [] (All-right old.book.queued (new ∷ []) P queued)).0 refl (omega (arith, more, opening)) h

  numbered_still : (event : Event) (answer : GivenAnswer) (d : Datagrams) → Gives old.book event answer d next → AreNumbered old.accepted (next_number next)
  numbered_still event answer d g = none_more old.accepted (next_number old.book) (next_number next) (numbers_grow old.book s.lawful s.fits next event answer d g) h

  numbered_by : (event : Event) (answer : GivenAnswer) (d : Datagrams) → Gives old.book event answer d next → AreNumbered (accepts old.book event answer ++ old.accepted) (next_number next)
  numbered_by (accept request moment) (accepted (Ok (New number))) d g = numbered_new request.now moment number d g
  numbered_by (accept request moment) (accepted (Ok (Waiting number))) d g = numbered_still (accept request moment) (accepted (Ok (Waiting number))) d g
  numbered_by (accept request moment) (accepted (Ok (Again number))) d g = numbered_still (accept request moment) (accepted (Ok (Again number))) d g
  numbered_by (accept request moment) (accepted (Err refusal)) d g = numbered_still (accept request moment) (accepted (Err refusal)) d g
  numbered_by (step moment random) (stepped action) d g = numbered_still (step moment random) (stepped action) d g
  numbered_by (hear moment port datagram) (heard result) d g = numbered_still (hear moment port datagram) (heard result) d g
  numbered_by drain (drained count) d g = numbered_still drain (drained count) d g
  numbered_by (turn moment) (turned result) d g = numbered_still (turn moment) (turned result) d g
  numbered_by event answer d g = absurd g

abbrev IsNumbered : World → Type 0
IsNumbered world = AreNumbered world.accepted (next_number world.book)

numbered_after : (old : World) (happening : Happening) (new : World) → Stands old → Happens old happening new → IsNumbered old → IsNumbered new
numbered_after old (called event answer d) new s h numbered = subst IsNumbered (sym h.world) (numbered_by old s h.next h.lawful numbered event answer d h.gives)
numbered_after old (came sent) new s h numbered = subst IsNumbered (sym h.world) numbered
numbered_after old (replied asked reply) new s h numbered = subst IsNumbered (sym h.world) numbered

numbered_later : (old : World) (happenings : List Happening) (new : World) → Stands old → Lives old happenings new → IsNumbered old → IsNumbered new
numbered_later old [] new s h numbered = subst IsNumbered (sym h) numbered
numbered_later old (happening ∷ later) new s h numbered =
    numbered_later h.0 later new (stands_after old happening h.0 h.1 s) h.2 (numbered_after old happening h.0 s h.1 numbered)

numbered_at_first : (setup : LaneSetup) → IsNumbered (new_world setup)
numbered_at_first setup = record {
  are = λ r there. absurd (none_there r there);
  alone = λ a b there. absurd (none_there a there);
}

pub are_apart : (world : World) → Life world → AreApart world
are_apart world life one other i j there_one there_other same =
    let s = stands_in_life world life in
    let numbered = numbered_later (new_world life.setup) life.happenings world (stands_at_first life.setup life.lawful) life.lives (numbered_at_first life.setup) in
    let of_one = numbered.are one there_one in
    let of_other = numbered.are other there_other in
    let setup : LaneSetup = world.book.setup in
    let mark_of : Recorded → Mark = λ r. record { lane = setup.lane; number = r.stamp.number } in
    let ends_one : EndsWithMark (mark_of one) (octets_of setup one i) = EndsWithMark-forwarded one.text (mark_of one) i setup.home_secret (octets_of setup one i) of_one.0.packet refl in
    let ends_other : EndsWithMark (mark_of other) (octets_of setup one i) = EndsWithMark-forwarded other.text (mark_of other) j setup.home_secret (octets_of setup one i) of_other.0.packet same in
    let low_one = of_one.1 in
    let low_other = of_other.1 in
    let fits = s.fits in
    let small_one : one.stamp.number < 2 ^ 62 = omega (arith, low_one, fits) in
    let small_other : other.stamp.number < 2 ^ 62 = omega (arith, low_other, fits) in
    numbered.alone one other there_one there_other
    (same_number setup.lane one.stamp.number other.stamp.number (omega (arith, small_one)) (omega (arith, small_other))
    (one_value (octets_of setup one i) (mark_of one) (mark_of other) ends_one ends_other))
