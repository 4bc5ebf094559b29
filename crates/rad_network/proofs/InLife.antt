-- What stands in a life, and what an answer in it says.
use Rattle.std.proofs.Common.{◌≡◌, ℕ, ◌<◌, ◌^◌, List, [], ◌∷◌, Option, Some, None, Ok, refl, sym, ap, ◌∙◌, subst, arith}
use Rattle.std.specs.List.{Contains}
use Rattle.rad_packet.specs.Attribute.{of_kind, Attribute}
use Rattle.rad_packet.specs.Packet.{packet_attributes}
use Rattle.rad_auth.specs.Mark.{EndsWithMark, mark_value}
use Rattle.rad_auth.specs.Replied.{Replied}
use Rattle.rad_auth.specs.declared.mark.Mark.{Mark}
use Rattle.rad_auth.proofs.Forwards.{EndsWithMark-forwarded}
use Rattle.rad_auth.proofs.Marks.{one_value}
use Rattle.rad_tables.specs.declared.slots.Slot.{Slot}
use Rattle.rad_lane.specs.declared.outgoing.Outgoing.{Outgoing}
use Rattle.rad_lane.specs.declared.hearing.Heard.TheVariants.{Answer}
use Rattle.rad_lane.specs.declared.running.Event.{Event}
use Rattle.rad_lane.specs.declared.running.Event.TheVariants.{Accept as accept, Step as step, Hear as hear, Drain as drain, Turn as turn}
use Rattle.rad_lane.specs.declared.running.GivenAnswer.TheVariants.{Hear as heard}
use Rattle.rad_lane.specs.Datagrams.{Datagrams}
use Rattle.rad_lane.specs.Outstanding.{Outstanding}
use Rattle.rad_lane.specs.Hears.{Hears, pair}
use Rattle.rad_network.specs.World.{Departed, HomeReply, World, new_world}
use Rattle.rad_network.specs.Happens.{Happening, Happens, Lives, Life, IsCalled, OnlyHomeReplies}
use Rattle.rad_network.specs.Happens.Happening.{called, came, replied}
use Rattle.rad_network.specs.Acknowledged.{IsAcknowledged, record_head}
use Rattle.rad_network.proofs.Marks.{same_number, probe_states, ends_unmarked, has_states, returned_value}
use Rattle.rad_network.proofs.Stands.{Stands, Forwards, IsMade, as_departed, unsent_within, stands_at_first, stands_after_coming, stands_after_reply}
use Rattle.rad_network.proofs.AfterCall.{stands_after_call}
use Rattle.rad_auth.specs.Forwarding.{forwarded}
use Rattle.rad_lane.specs.Book.{Book, outstanding_at}
use Rattle.rad_auth.specs.Answers.{Answers, ReturnsMark}
use Rattle.rad_auth.specs.declared.reply.RequestHead.{RequestHead}

pub stands_after : (old : World) (happening : Happening) (new : World) → Happens old happening new → Stands old → Stands new
stands_after old (called event answer d) new h s = stands_after_call old event answer d new h s
stands_after old (came sent) new h s = stands_after_coming old sent new h s
stands_after old (replied asked reply) new h s = stands_after_reply old asked reply new h s

pub stands_later : (old : World) (happenings : List Happening) (new : World) → Lives old happenings new → Stands old → Stands new
stands_later old [] new h s = subst Stands (sym h) s
stands_later old (happening ∷ later) new h s = stands_later h.0 later new h.2 (stands_after old happening h.0 h.1 s)

pub stands_in_life : (world : World) → Life world → Stands world
stands_in_life world life = stands_later (new_world life.setup) life.happenings world life.lives (stands_at_first life.setup life.lawful)

module _ (world : World) (s : Stands world) where
  -- a number that departed fits in a mark
  number_fits : (sent : Departed) (number : ℕ) → Contains world.departed sent → sent.number ≡ Some number → number < 2 ^ 64
  number_fits sent number there is =
      let low = s.below sent number there is in
      let most = unsent_within world.book s.lawful in
      let fits = s.fits in
      let small : number < 2 ^ 62 = omega (arith, low, most, fits) in
      omega (arith, small)

  abbrev mark_of : ℕ → Mark
  mark_of number = record { lane = world.book.setup.lane; number = number }

  forwards_marked : (number : ℕ) (octets : List ℕ) → Forwards world.book.setup number octets → EndsWithMark (mark_of number) octets
  forwards_marked number octets f =
      EndsWithMark-forwarded f.request.text (mark_of number) f.identifier world.book.setup.home_secret octets f.is_record.packet
      (f.made ∙ ap (λ n. forwarded f.request.text (mark_of n) f.identifier world.book.setup.home_secret) f.numbered)

  made_probe : (octets : List ℕ) → IsMade world.book.setup None octets → of_kind 33 (packet_attributes octets) ≡ []
  made_probe octets made =
      ap (λ o. of_kind 33 (packet_attributes o)) made.2.made ∙ probe_states made.0.identifier made.2.random world.book.setup.home_secret made.2.sixteen

  -- what departed with one Value in its mark is one
  of_one_value : (a b : Departed) (m n : ℕ) → Contains world.departed a → Contains world.departed b → a.number ≡ Some m → b.number ≡ Some n → mark_value (mark_of m) ≡ mark_value (mark_of n) → a.octets ≡ b.octets
  of_one_value a b m n there_a there_b is_a is_b same =
      let one = same_number world.book.setup.lane m n (number_fits a m there_a is_a) (number_fits b n there_b is_b) same in
      s.alike a b n there_a there_b (is_a ∙ ap Some one) is_b

  marked_by : (mark : Mark) (octets : List ℕ) (number : Option ℕ) → IsMade world.book.setup number octets → EndsWithMark mark octets → (m : ℕ) × (number ≡ Some m) × (mark_value mark ≡ mark_value (mark_of m))
  marked_by mark octets (Some m) made ends = (m, refl, one_value octets mark (mark_of m) ends (forwards_marked m octets made))
  marked_by mark octets None made ends = absurd (ends_unmarked octets mark (made_probe octets made) ends)

  marked_sent : (mark : Mark) (sent : Departed) → Contains world.departed sent → EndsWithMark mark sent.octets → (m : ℕ) × (sent.number ≡ Some m) × (mark_value mark ≡ mark_value (mark_of m))
  marked_sent mark sent there ends = marked_by mark sent.octets sent.number (s.made sent there) ends

  pub received_alike : (mark : Mark) (a b : List ℕ) → Contains world.received a → Contains world.received b → EndsWithMark mark a → EndsWithMark mark b → a ≡ b
  received_alike mark a b there_a there_b ends_a ends_b =
      let from_a = s.received a there_a in
      let from_b = s.received b there_b in
      let of_a = marked_sent mark from_a.0 from_a.1 (subst (EndsWithMark mark) (sym from_a.2) ends_a) in
      let of_b = marked_sent mark from_b.0 from_b.1 (subst (EndsWithMark mark) (sym from_b.2) ends_b) in
      sym from_a.2 ∙ of_one_value from_a.0 from_b.0 of_a.0 of_b.0 from_a.1 from_b.1 of_a.1 of_b.1 (sym of_a.2 ∙ of_b.2) ∙ from_b.2

  -- the octets to which a reply was made are those whose mark it returns
  module _ (entry : Outstanding) (slot : Slot) (there : outstanding_at world.book slot entry) (asked reply : List ℕ) (r : Contains world.replies (record { asked = asked; reply = reply })) (mark : Mark) (before after : List Attribute) (returns : ReturnsMark entry.octets reply mark before after) where
    asked_by : (sent : Departed) (number : Option ℕ) → sent.number ≡ number → Contains world.departed sent → sent.octets ≡ asked → asked ≡ entry.octets
    asked_by sent None is departed octets =
        let made : IsMade world.book.setup None sent.octets = subst (λ n. IsMade world.book.setup n sent.octets) is (s.made sent departed) in
        absurd (has_states entry.octets reply asked mark before after returns (s.replied _ r).1.states (ap (λ o. of_kind 33 (packet_attributes o)) (sym octets) ∙ made_probe sent.octets made))
    asked_by sent (Some m) is departed octets =
        let made : IsMade world.book.setup (Some m) sent.octets = subst (λ n. IsMade world.book.setup n sent.octets) is (s.made sent departed) in
        let own = marked_sent mark (as_departed entry) (s.out slot entry there) returns.sent in
        let value = returned_value entry.octets reply asked mark before after returns (s.replied _ r).1.states (mark_of m) (subst (EndsWithMark (mark_of m)) octets (forwards_marked m sent.octets made)) in
        sym octets ∙ of_one_value sent (as_departed entry) m own.0 departed (s.out slot entry there) is own.1 (sym value ∙ own.2)

    pub asked_is : asked ≡ entry.octets
    asked_is =
        let from = s.received asked (s.replied _ r).0 in
        asked_by from.0 from.0.number refl from.1 from.2

  pub hears_acknowledged : (moment port : ℕ) (datagram : List ℕ) (outgoing : Outgoing) (next : Book) → OnlyHomeReplies world datagram → Hears world.book moment port datagram (Ok (Answer outgoing)) next → IsAcknowledged world outgoing
  hears_acknowledged moment port datagram outgoing next genuine h =
      let slot = pair port h.1.packet in
      let entry = h.1.entry in
      let answers = h.1.keeps.answers in
      let reply = genuine (as_departed entry) h.1.packet (s.out slot entry h.1.there) h.1.read answers.verified in
      let is = asked_is entry slot h.1.there reply.0 h.1.packet reply.1 answers.mark answers.before answers.after answers.returned in
      let its = s.lawful.forwards_its_record slot entry h.1.there in
      let given : outgoing.reply ≡ h.0.reply = h.2.reply in
      let reply_is : h.1.packet ≡ outgoing.reply.reply = sym h.1.keeps.reply ∙ ap (λ (r : Replied). r.reply) (sym given) in
      let response_is : h.0.reply.response ≡ outgoing.reply.response = ap (λ (r : Replied). r.response) (sym given) in
      let head_is : h.0.reply.head ≡ record_head entry.request =
      ap (λ i. let x : RequestHead = record { identifier = i; authenticator = h.0.reply.head.authenticator } in x) h.1.keeps.head_identifier
      ∙ ap (λ a. let x : RequestHead = record { identifier = entry.request.stamp.identifier; authenticator = a } in x) h.1.keeps.head_authenticator in
      let client : List ℕ = entry.request.client_secret in
      let home : List ℕ = world.book.setup.home_secret in
      let made : Answers (record_head entry.request) entry.octets outgoing.reply.reply client home outgoing.reply.response =
      subst (λ (x : RequestHead). Answers x entry.octets outgoing.reply.reply client home outgoing.reply.response) head_is
      (subst (λ p. Answers h.0.reply.head entry.octets p client home outgoing.reply.response) reply_is
      (subst (λ o. Answers h.0.reply.head entry.octets h.1.packet client home o) response_is answers)) in
      record {
        slot = slot;
        entry = entry;
        there = h.1.there;
        is_record = its.is_record;
        made = its.octets;
        received = subst (λ o. Contains world.received o) is (s.replied _ reply.1).0;
        replied = subst (λ (x : HomeReply). Contains world.replies x)
            (ap (λ o. let x : HomeReply = record { asked = o; reply = h.1.packet } in x) is
            ∙ ap (λ p. let x : HomeReply = record { asked = entry.octets; reply = p } in x) reply_is)
            reply.1;
        answers = made;
        client = h.2.client ∙ ap (λ s. s.client) h.1.keeps.stamp;
        port = h.2.port ∙ ap (λ s. s.port) h.1.keeps.stamp;
        valid = record {
          packet = made.response_packet;
          code = made.response_code;
          identifier_is = made.response_identifier;
          right = made.response_right;
        };
      }

  pub call_acknowledged : (event : Event) (outgoing : Outgoing) (d : Datagrams) (new : World) → IsCalled world event (heard (Ok (Answer outgoing))) d new → IsAcknowledged world outgoing
  call_acknowledged (hear moment port datagram) outgoing d new h = hears_acknowledged moment port datagram.now outgoing h.next h.genuine h.gives.0
  call_acknowledged (accept request moment) outgoing d new h = absurd h.gives
  call_acknowledged (step moment random) outgoing d new h = absurd h.gives
  call_acknowledged drain outgoing d new h = absurd h.gives
  call_acknowledged (turn moment) outgoing d new h = absurd h.gives
