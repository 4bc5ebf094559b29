-- What stands at each moment of a life: what departed, was received and was replied to.
use Rattle.std.proofs.Common.{◌≡◌, ℕ, ◌+◌, ◌<◌, ◌≤◌, ◌^◌, List, ◌∷◌, length, Option, Some, None, sym, ap, ◌∙◌, subst, inl, inr, arith, length-append}
use Rattle.std.specs.Prelude.{map as each}
use Rattle.std.specs.List.{Contains}
use Rattle.std.specs.FinMap as map
use Rattle.rad_tables.specs.declared.slots.Slot.{Slot}
use Rattle.rad_tables.specs.Pairs.{slot_cmp}
use Rattle.rad_lane.specs.declared.entry.Entry.{Entry}
use Rattle.rad_lane.specs.declared.entry.Entry.TheVariants.{Sending as sending}
use Rattle.rad_lane.specs.Setup.{LaneSetup}
use Rattle.rad_lane.specs.Stamp.{Recorded, IsRecord}
use Rattle.rad_lane.specs.Outstanding.{Outstanding, octets_of}
use Rattle.rad_lane.specs.Empty.{empty_book}
use Rattle.rad_lane.specs.Book.{Book, next_number, outstanding_at}
use Rattle.rad_lane.specs.Lawful.{IsLawful, IsProbe}
use Rattle.rad_network.specs.World.{Departed, HomeReply, Response, World, new_world}
use Rattle.rad_network.specs.Happens.{IsReplyTo, Comes, Replies}
use Rattle.rad_network.proofs.Among.{earlier, parted, none_there}

-- the number of the next request to be sent for the first time
abbrev pub unsent : Book → ℕ
unsent book = book.opening + length book.sent

-- these octets forward a record of this number, or are a probe
pub record Forwards (setup : LaneSetup) (number : ℕ) (octets : List ℕ) : Type 0 where
  pub request : Recorded
  pub is_record : IsRecord request
  pub numbered : request.stamp.number ≡ number
  pub identifier : ℕ
  pub octet : identifier < 256
  pub made : octets ≡ octets_of setup request identifier

abbrev pub IsMade : LaneSetup → Option ℕ → List ℕ → Type 0
IsMade setup (Some number) octets = Forwards setup number octets
IsMade setup None octets = (slot : Slot) × (slot.identifier < 256) × IsProbe setup slot octets

-- an outstanding request, as it departed
abbrev pub as_departed : Outstanding → Departed
as_departed entry = record { number = Some entry.request.stamp.number; octets = entry.octets }

abbrev pub AllDeparted : Book → List Departed → Type 0
AllDeparted book departed = (slot : Slot) (entry : Outstanding) → outstanding_at book slot entry → Contains departed (as_departed entry)

pub record Stands (world : World) : Type 0 where
  pub lawful : IsLawful world.book
  pub fits : next_number world.book ≤ 2 ^ 62
  pub made : (sent : Departed) → Contains world.departed sent → IsMade world.book.setup sent.number sent.octets
  pub below : (sent : Departed) (number : ℕ) → Contains world.departed sent → sent.number ≡ Some number → number < unsent world.book
  pub alike : (a b : Departed) (number : ℕ) → Contains world.departed a → Contains world.departed b → a.number ≡ Some number → b.number ≡ Some number → a.octets ≡ b.octets
  pub out : AllDeparted world.book world.departed
  pub received : (octets : List ℕ) → Contains world.received octets → (sent : Departed) × Contains world.departed sent × (sent.octets ≡ octets)
  pub replied : (r : HomeReply) → Contains world.replies r → Contains world.received r.asked × IsReplyTo world.book.setup.home_secret r.asked r.reply

-- what was sent for the first time has a lower number than what is queued
pub unsent_within : (book : Book) → IsLawful book → unsent book ≤ next_number book
unsent_within book lawful =
    let all = ap length lawful.in_order ∙ length-append book.sent (each (λ r. r.stamp) book.queued) in
    omega (arith, all)

pub nothing_at : (slot : Slot) (entry : Entry) → map.get (map.empty {X = Entry} {R = slot_cmp}) slot ≡ Some entry → ⊥
nothing_at slot entry h = let none : map.get (map.empty {X = Entry} {R = slot_cmp}) slot ≡ None = map.get-empty slot_cmp slot in cc

pub stands_at_first : (setup : LaneSetup) → IsLawful (empty_book setup) → Stands (new_world setup)
stands_at_first setup lawful = record {
  lawful = lawful;
  fits = omega arith;
  made = λ sent h. absurd (none_there sent h);
  below = λ sent number h is. absurd (none_there sent h);
  alike = λ a b number h. absurd (none_there a h);
  out = λ slot entry h. absurd (nothing_at slot (sending entry) h);
  received = λ octets h. absurd (none_there octets h);
  replied = λ r h. absurd (none_there r h);
}

-- the home server receives, and replies
pub stands_after_coming : (old : World) (sent : Departed) (new : World) → Comes old sent new → Stands old → Stands new
stands_after_coming old sent new h s = subst Stands (sym h.world) (record {
  lawful = s.lawful;
  fits = s.fits;
  made = s.made;
  below = s.below;
  alike = s.alike;
  out = s.out;
  received = λ octets there. elim (parted sent.octets old.received octets there) [
    | inl is ↦ (sent, h.departed, is)
    | inr before ↦ s.received octets before
  ];
  replied = λ r there. let was = s.replied r there in (earlier sent.octets old.received r.asked was.0, was.1);
})

pub stands_after_reply : (old : World) (asked reply : List ℕ) (new : World) → Replies old asked reply new → Stands old → Stands new
stands_after_reply old asked reply new h s = subst Stands (sym h.world) (record {
  lawful = s.lawful;
  fits = s.fits;
  made = s.made;
  below = s.below;
  alike = s.alike;
  out = s.out;
  received = s.received;
  replied = λ r there. elim (parted (record { asked = asked; reply = reply }) old.replies r there) [
    | inl is ↦ subst (λ (x : HomeReply). Contains old.received x.asked × IsReplyTo old.book.setup.home_secret x.asked x.reply) is (h.received, h.right)
    | inr before ↦ s.replied r before
  ];
})

-- a call
module _ (old : World) (s : Stands old) (next : Book) (records : List Recorded) (given : List Response) (lawful : IsLawful next) (setup : next.setup ≡ old.book.setup) (fits : next_number next ≤ 2 ^ 62) (grows : unsent old.book ≤ unsent next) where
  same_setup : (octets : List ℕ) (number : Option ℕ) → IsMade old.book.setup number octets → IsMade next.setup number octets
  same_setup octets number made = subst (λ x. IsMade x number octets) (sym setup) made

  replies_still : (r : HomeReply) → Contains old.replies r → Contains old.received r.asked × IsReplyTo next.setup.home_secret r.asked r.reply
  replies_still r there = subst (λ x. Contains old.received r.asked × IsReplyTo x.home_secret r.asked r.reply) (sym setup) (s.replied r there)

  -- that sends nothing
  pub stands_quiet : AllDeparted next old.departed → Stands (record old { book = next; accepted = records; given = given })
  stands_quiet out = record {
    lawful = lawful;
    fits = fits;
    made = λ sent there. same_setup sent.octets sent.number (s.made sent there);
    below = λ sent number there is. let low = s.below sent number there is in omega (arith, low, grows);
    alike = s.alike;
    out = out;
    received = s.received;
    replied = replies_still;
  }

  -- and one that sends this
  pub stands_sent : (x : Departed) → IsMade old.book.setup x.number x.octets → ((number : ℕ) → x.number ≡ Some number → number < unsent next) → ((number : ℕ) (b : Departed) → x.number ≡ Some number → Contains old.departed b → b.number ≡ Some number → x.octets ≡ b.octets) → AllDeparted next (x ∷ old.departed) → Stands (record old { book = next; accepted = records; departed = x ∷ old.departed; given = given })
  stands_sent x made below alike out = record {
    lawful = lawful;
    fits = fits;
    made = λ sent there. same_setup sent.octets sent.number (elim (parted x old.departed sent there) [
      | inl is ↦ subst (λ (y : Departed). IsMade old.book.setup y.number y.octets) is made
      | inr before ↦ s.made sent before
    ]);
    below = λ sent number there is. elim (parted x old.departed sent there) [
      | inl same ↦ below number (ap (λ (y : Departed). y.number) same ∙ is)
      | inr before ↦ let low = s.below sent number before is in omega (arith, low, grows)
    ];
    alike = λ a b number there_a there_b is_a is_b. elim (parted x old.departed a there_a) [
      | inl same_a ↦ elim (parted x old.departed b there_b) [
        | inl same_b ↦ ap (λ (y : Departed). y.octets) (sym same_a ∙ same_b)
        | inr before_b ↦ ap (λ (y : Departed). y.octets) (sym same_a) ∙ alike number b (ap (λ (y : Departed). y.number) same_a ∙ is_a) before_b is_b
      ]
      | inr before_a ↦ elim (parted x old.departed b there_b) [
        | inl same_b ↦ sym (alike number a (ap (λ (y : Departed). y.number) same_b ∙ is_b) before_a is_a) ∙ ap (λ (y : Departed). y.octets) same_b
        | inr before_b ↦ s.alike a b number before_a before_b is_a is_b
      ]
    ];
    out = out;
    received = λ octets there. let was = s.received octets there in (was.0, earlier x old.departed was.0 was.1, was.2);
    replied = replies_still;
  }
