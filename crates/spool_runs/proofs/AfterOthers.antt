-- A run after others is a life of its lane in which the home server also received what it had received in earlier runs with the
-- same octets as something that departed, and replied to it as it did then.
use Rattle.std.proofs.Common.{◌≡◌, ℕ, true, false, List, [], ◌∷◌, ◌++◌, refl, sym, ap, ap₂, subst, ◌∙◌, inl, inr, Ordering}
use Rattle.std.specs.Prelude.{◌⊎◌}
use Rattle.std.specs.List.{Contains, AllByRecursion}
use Rattle.std.specs.declared.cmp.Ordering.TheVariants.{Less, Equal, Greater}
use Rattle.std.specs.Ordering.{nat_cmp, is_eq, eq_by_cmp}
use Rattle.std.specs.Cmp.{eq_by_cmp_equiv}
use Rattle.std.specs.Cmp.Lexicographic.{slice_cmp, nat_list_cmp_total}
use Rattle.std.proofs.lemmas.Bool.{cases_Bool}
use Rattle.std.proofs.lemmas.Map.Lookups.{exact_bytes}
use Rattle.std.proofs.lemmas.List.Elements.{Contains-append_left, Contains-append_right, Contains-append_cases}
use Rattle.rad_packet.specs.Packet.{authenticator_of}
use Rattle.rad_auth.specs.Answers.{Answers}
use Rattle.rad_auth.specs.Authenticator.{IsRightResponse}
use Rattle.rad_lane.specs.declared.running.Event.{Event}
use Rattle.rad_lane.specs.declared.running.Event.TheVariants.{Accept as accept, Step as step, Hear as hear, Drain as drain, Turn as turn}
use Rattle.rad_lane.specs.declared.running.GivenAnswer.{GivenAnswer}
use Rattle.rad_lane.specs.Setup.{LaneSetup}
use Rattle.rad_lane.specs.Stamp.{Recorded}
use Rattle.rad_lane.specs.Outstanding.{octets_of}
use Rattle.rad_lane.specs.Book.{Book}
use Rattle.rad_lane.specs.Datagrams.{Datagrams}
use Rattle.rad_lane.specs.Lawful.{IsLawful}
use Rattle.rad_lane.specs.Runs.{Gives}
use Rattle.rad_progress.proofs.AfterCalls.{call_setup}
use Rattle.rad_network.specs.Acknowledged.{record_head}
use Rattle.rad_network.specs.Asking.{Asked, HaveOneAuthenticator, IsReceived, OnlyTheNasAsks, Takes, UsesNoKeyTwice, WasAsked}
use Rattle.rad_network.specs.Happens.{Happening, Happens, IsGenuine, IsReplyTo, Life, Lives, after_call, departs, accepts, responds}
use Rattle.rad_network.specs.Happens.Happening.{called, came, replied}
use Rattle.rad_network.specs.World.{Departed, HomeReply, Response, World, new_world}
use Rattle.rad_network.proofs.Serves.{acknowledged_received}
use Rattle.spool_files.proofs.Rows.{All-push}
use Rattle.spool_runs.specs.Network.{AnsweredMeansReceived, AreRuns, EachLifeIsARun, HappensAfter, IsEverReceived, IsGenuineEver, LaneRun, LivesAfter, Past, past_of}
use Rattle.spool_runs.proofs.Among.{behind, first_in, none_there, parted}

-- ---- octets that are the same

equal_of : (o : Ordering) → is_eq o ≡ true → o ≡ Equal
equal_of Less h = cc
equal_of Equal h = refl
equal_of Greater h = cc

same_octets : (a b : List ℕ) → (a ≡ b) ⊎ (a ≡ b → ⊥)
same_octets a b = elim (cases_Bool (eq_by_cmp (slice_cmp nat_cmp) a b)) [
  | inl is ↦ inl (exact_bytes a b (equal_of (slice_cmp nat_cmp a b) is))
  | inr other ↦ inr (λ same. no (sym (ap (eq_by_cmp (slice_cmp nat_cmp) a) (sym same) ∙ (eq_by_cmp_equiv nat_list_cmp_total).refl a) ∙ other))
]
  where
    no : true ≡ false → ⊥
    no e = cc (e)

-- ---- what the home server did in earlier runs

record IsPast (secret : List ℕ) (received : List (List ℕ)) (replies : List HomeReply) : Type 0 where
  right : (r : HomeReply) → Contains replies r → Contains received r.asked × IsReplyTo secret r.asked r.reply

record Replied (secret : List ℕ) (world : World) : Type 0 where
  same_secret : world.book.setup.home_secret ≡ secret
  past : IsPast secret world.received world.replies

replied_step : (secret : List ℕ) (past : Past) (old : World) (happening : Happening) (new : World) → HappensAfter past old happening new → Replied secret old → Replied secret new
replied_step secret past old (called event answer d) new h s = subst (Replied secret) (sym h.world) (record {
  same_secret = ap (λ (x : LaneSetup). x.home_secret) (call_setup old.book event answer d h.next h.gives) ∙ s.same_secret;
  past = record { right = s.past.right };
})
replied_step secret past old (came sent) new h s = subst (Replied secret) (sym h.world) (record {
  same_secret = s.same_secret;
  past = record { right = λ r there. let x = s.past.right r there in (behind sent.octets old.received r.asked x.0, x.1) };
})
replied_step secret past old (replied asked reply) new h s = subst (Replied secret) (sym h.world) (record {
  same_secret = s.same_secret;
  past = record {
    right = λ r there. elim (parted (let x : HomeReply = record { asked = asked; reply = reply } in x) old.replies r there) [
      | inl same ↦ subst (λ (x : HomeReply). Contains old.received x.asked × IsReplyTo secret x.asked x.reply) same (h.received, subst (λ x. IsReplyTo x asked reply) s.same_secret h.right)
      | inr before ↦ s.past.right r before
    ];
  };
})

replied_later : (secret : List ℕ) (past : Past) (old : World) (happenings : List Happening) (new : World) → LivesAfter past old happenings new → Replied secret old → Replied secret new
replied_later secret past old [] new lives s = subst (Replied secret) (sym lives) s
replied_later secret past old (happening ∷ later) new lives s = replied_later secret past lives.0 later new lives.2 (replied_step secret past old happening lives.0 lives.1 s)

replied_in : (secret : List ℕ) (past : Past) (world : World) → LaneRun secret past world → Replied secret world
replied_in secret past world run =
    replied_later secret past (new_world run.setup) run.happenings world run.lives
    (record { same_secret = run.same_secret; past = record { right = λ r there. absurd (none_there r there) } })

is_past : (secret : List ℕ) (worlds : List World) → AreRuns secret worlds → IsPast secret (past_of worlds).received (past_of worlds).replies
is_past secret [] runs = record { right = λ r there. absurd (none_there r there) }
is_past secret (world ∷ earlier) runs = record {
  right = λ r there. elim (Contains-append_cases world.replies (past_of earlier).replies r there) [
    | inl here ↦ let x = (replied_in secret (past_of earlier) world runs.0).past.right r here in (Contains-append_left world.received (past_of earlier).received r.asked x.0, x.1)
    | inr before ↦ let x = (is_past secret earlier runs.1).right r before in (Contains-append_right world.received (past_of earlier).received r.asked x.0, x.1)
  ];
}

-- ---- a life beside the run

module _ (secret : List ℕ) (past : Past) (is : IsPast secret past.received past.replies) (asked : List Asked) where
  record Alongside (world : World) : Type 0 where
    life : Life world
    asks : OnlyTheNasAsks asked life.happenings

  lives_on : (first : World) (happenings : List Happening) (old : World) (happening : Happening) (new : World) → Lives first happenings old → Happens old happening new → Lives first (happenings ++ happening ∷ []) new
  lives_on first [] old happening new lives h = (new, subst (λ (w : World). Happens w happening new) lives h, refl)
  lives_on first (one ∷ happenings) old happening new lives h = (lives.0, lives.1, lives_on lives.0 happenings old happening new lives.2 h)

  goes_on : (old : World) (happening : Happening) (new : World) → Alongside old → Happens old happening new → WasAsked asked happening → Alongside new
  goes_on old happening new a h asks = record {
    life = record {
      setup = a.life.setup;
      lawful = a.life.lawful;
      happenings = a.life.happenings ++ happening ∷ [];
      lives = lives_on (new_world a.life.setup) a.life.happenings old happening new a.life.lives h;
    };
    asks = All-push (WasAsked asked) a.life.happenings happening a.asks asks;
  }

  -- the same world, in which the home server received and replied to more of what it had in earlier runs
  record IsMore (old new : World) : Type 0 where
    along : Alongside new
    book : new.book ≡ old.book
    accepted : new.accepted ≡ old.accepted
    departed : new.departed ≡ old.departed
    given : new.given ≡ old.given
    received : (o : List ℕ) → Contains new.received o → Contains old.received o ⊎ Contains past.received o
    replies : (r : HomeReply) → Contains new.replies r → Contains old.replies r ⊎ Contains past.replies r
    has_received : (o : List ℕ) → Contains old.received o → Contains new.received o
    has_replies : (r : HomeReply) → Contains old.replies r → Contains new.replies r

  no_more : (world : World) → Alongside world → IsMore world world
  no_more world a = record {
    along = a;
    book = refl;
    accepted = refl;
    departed = refl;
    given = refl;
    received = λ o there. inl there;
    replies = λ r there. inl there;
    has_received = λ o there. there;
    has_replies = λ r there. there;
  }

  more_still : (old mid new : World) → IsMore old mid → IsMore mid new → IsMore old new
  more_still old mid new a b = record {
    along = b.along;
    book = b.book ∙ a.book;
    accepted = b.accepted ∙ a.accepted;
    departed = b.departed ∙ a.departed;
    given = b.given ∙ a.given;
    received = λ o there. elim (b.received o there) [ inl mid_has ↦ a.received o mid_has | inr early ↦ inr early ];
    replies = λ r there. elim (b.replies r there) [ inl mid_has ↦ a.replies r mid_has | inr early ↦ inr early ];
    has_received = λ o there. b.has_received o (a.has_received o there);
    has_replies = λ r there. b.has_replies r (a.has_replies r there);
  }

  -- what departed comes to the home server, and it replies as it did in an earlier run
  replied_again : (world : World) (sent : Departed) (r : HomeReply) → Alongside world → world.book.setup.home_secret ≡ secret → Contains world.departed sent → Contains past.replies r → r.asked ≡ sent.octets → IsMore world (record world { received = sent.octets ∷ world.received; replies = r ∷ world.replies })
  replied_again world sent r a same_secret departed there same =
      let p = is.right r there in
      let w1 : World = record world { received = sent.octets ∷ world.received } in
      let w2 : World = record world { received = sent.octets ∷ world.received; replies = r ∷ world.replies } in
      let one : Alongside w1 = goes_on world (came sent) w1 a (record { departed = departed; world = refl }) tt in
      let two : Alongside w2 = goes_on w1 (replied r.asked r.reply) w2 one
      (record {
        received = subst (Contains (sent.octets ∷ world.received)) (sym same) (first_in sent.octets world.received);
        right = subst (λ x. IsReplyTo x r.asked r.reply) (sym same_secret) p.1;
        world = refl;
      }) tt in
      record {
        along = two;
        book = refl;
        accepted = refl;
        departed = refl;
        given = refl;
        received = λ o o_there. elim (parted sent.octets world.received o o_there) [
          | inl is_sent ↦ inr (subst (Contains past.received) (same ∙ is_sent) p.0)
          | inr before ↦ inl before
        ];
        replies = λ x x_there. elim (parted r world.replies x x_there) [
          | inl is_r ↦ inr (subst (Contains past.replies) is_r there)
          | inr before ↦ inl before
        ];
        has_received = λ o o_there. behind sent.octets world.received o o_there;
        has_replies = λ x x_there. behind r world.replies x x_there;
      }

  -- for each of some replies of earlier runs to the same octets
  record Caught (old : World) (sent : Departed) (rs : List HomeReply) : Type 0 where
    next : World
    more : IsMore old next
    early : (r : HomeReply) → Contains rs r → r.asked ≡ sent.octets → Contains next.replies r

  caught : (rs : List HomeReply) → ((r : HomeReply) → Contains rs r → Contains past.replies r) → (old : World) (sent : Departed) → Alongside old → old.book.setup.home_secret ≡ secret → Contains old.departed sent → Caught old sent rs
  caught [] of old sent a same_secret departed = record { next = old; more = no_more old a; early = λ r there. absurd (none_there r there) }
  caught (r ∷ rs) of old sent a same_secret departed =
      let c = caught rs (λ x there. of x (behind r rs x there)) old sent a same_secret departed in
      elim (same_octets r.asked sent.octets) [
        | inl same ↦
            let m = replied_again c.next sent r c.more.along (ap (λ (b : Book). b.setup.home_secret) c.more.book ∙ same_secret) (subst (λ ds. Contains ds sent) (sym c.more.departed) departed) (of r (first_in r rs)) same in
            record {
              next = record c.next { received = sent.octets ∷ c.next.received; replies = r ∷ c.next.replies };
              more = more_still old c.next _ c.more m;
              early = λ x there is_same. elim (parted r rs x there) [
                | inl is_r ↦ subst (Contains (r ∷ c.next.replies)) is_r (first_in r c.next.replies)
                | inr other ↦ m.has_replies x (c.early x other is_same)
              ];
            }
        | inr other ↦ record {
          next = c.next;
          more = c.more;
          early = λ x there is_same. elim (parted r rs x there) [
            | inl is_r ↦ absurd (other (ap (λ (y : HomeReply). y.asked) is_r ∙ is_same))
            | inr later ↦ c.early x later is_same
          ];
        }
      ]

  -- for all that departs
  record CaughtAll (old : World) (all : List Departed) : Type 0 where
    next : World
    more : IsMore old next
    early : (sent : Departed) (r : HomeReply) → Contains all sent → Contains past.replies r → r.asked ≡ sent.octets → Contains next.replies r

  caught_all : (all : List Departed) (old : World) → Alongside old → old.book.setup.home_secret ≡ secret → ((sent : Departed) → Contains all sent → Contains old.departed sent) → CaughtAll old all
  caught_all [] old a same_secret departed = record { next = old; more = no_more old a; early = λ sent r there. absurd (none_there sent there) }
  caught_all (one ∷ all) old a same_secret departed =
      let c = caught_all all old a same_secret (λ sent there. departed sent (behind one all sent there)) in
      let d = caught past.replies (λ r there. there) c.next one c.more.along (ap (λ (b : Book). b.setup.home_secret) c.more.book ∙ same_secret) (subst (λ ds. Contains ds one) (sym c.more.departed) (departed one (first_in one all))) in
      record {
        next = d.next;
        more = more_still old c.next d.next c.more d.more;
        early = λ sent r there in_past same. elim (parted one all sent there) [
          | inl is_one ↦ d.early r in_past (same ∙ sym (ap (λ (x : Departed). x.octets) is_one))
          | inr later ↦ d.more.has_replies r (c.early sent r later in_past same)
        ];
      }

  -- ---- the run and the life beside it

  record Beside (world : World) : Type 0 where
    other : World
    along : Alongside other
    same_secret : other.book.setup.home_secret ≡ secret
    book : other.book ≡ world.book
    accepted : other.accepted ≡ world.accepted
    departed : other.departed ≡ world.departed
    given : other.given ≡ world.given
    received : (o : List ℕ) → Contains other.received o → Contains world.received o ⊎ Contains past.received o
    replies : (r : HomeReply) → Contains other.replies r → Contains world.replies r ⊎ Contains past.replies r
    has_received : (o : List ℕ) → Contains world.received o → Contains other.received o
    has_replies : (r : HomeReply) → Contains world.replies r → Contains other.replies r
    early : (sent : Departed) (r : HomeReply) → Contains world.departed sent → Contains past.replies r → r.asked ≡ sent.octets → Contains other.replies r

  module _ (old : World) (s : Beside old) where
    genuine : (event : Event) → IsGenuineEver past old event → IsGenuine s.other event
    genuine (accept request moment) g = tt
    genuine (step moment random) g = tt
    genuine (hear moment port datagram) g = λ sent packet there reads right.
        let here : Contains old.departed sent = subst (λ ds. Contains ds sent) s.departed there in
        elim (g sent packet here reads (subst (λ (b : Book). IsRightResponse b.setup.home_secret (authenticator_of sent.octets) packet) s.book right)) [
          | inl now ↦ (now.0, s.has_replies _ now.1)
          | inr then_so ↦ (sent.octets, s.early sent (let x : HomeReply = record { asked = sent.octets; reply = packet } in x) here then_so refl)
        ]
    genuine drain g = tt
    genuine (turn moment) g = tt

    called_beside : (event : Event) (answer : GivenAnswer) (d : Datagrams) (next : Book) → Gives old.book event answer d next → IsLawful next → IsGenuineEver past old event → WasAsked asked (called event answer d) → Beside (after_call old event answer d next)
    called_beside event answer d next gives lawful g asks =
        let gives' : Gives s.other.book event answer d next = subst (λ (b : Book). Gives b event answer d next) (sym s.book) gives in
        let o1 : World = after_call s.other event answer d next in
        let along1 : Alongside o1 = goes_on s.other (called event answer d) o1 s.along (record { next = next; gives = gives'; lawful = lawful; genuine = genuine event g; world = refl }) asks in
        let secret1 : o1.book.setup.home_secret ≡ secret = ap (λ (x : LaneSetup). x.home_secret) (call_setup s.other.book event answer d next gives') ∙ s.same_secret in
        let c = caught_all (departs answer d.after) o1 along1 secret1 (λ sent there. Contains-append_left (departs answer d.after) s.other.departed sent there) in
        record {
          other = c.next;
          along = c.more.along;
          same_secret = ap (λ (b : Book). b.setup.home_secret) c.more.book ∙ secret1;
          book = c.more.book;
          accepted = c.more.accepted ∙ ap₂ (λ (b : Book) (rs : List Recorded). accepts b event answer ++ rs) s.book s.accepted;
          departed = c.more.departed ∙ ap (λ ds. departs answer d.after ++ ds) s.departed;
          given = c.more.given ∙ ap (λ gs. responds event answer d.after ++ gs) s.given;
          received = λ o there. elim (c.more.received o there) [ inl here ↦ s.received o here | inr early ↦ inr early ];
          replies = λ r there. elim (c.more.replies r there) [ inl here ↦ s.replies r here | inr early ↦ inr early ];
          has_received = λ o there. c.more.has_received o (s.has_received o there);
          has_replies = λ r there. c.more.has_replies r (s.has_replies r there);
          early = λ sent r there in_past same. elim (Contains-append_cases (departs answer d.after) old.departed sent there) [
            | inl now ↦ c.early sent r now in_past same
            | inr before ↦ c.more.has_replies r (s.early sent r before in_past same)
          ];
        }

    came_beside : (sent : Departed) → Contains old.departed sent → Beside (record old { received = sent.octets ∷ old.received })
    came_beside sent departed =
        let o1 : World = record s.other { received = sent.octets ∷ s.other.received } in
        record {
          other = o1;
          along = goes_on s.other (came sent) o1 s.along (record { departed = subst (λ ds. Contains ds sent) (sym s.departed) departed; world = refl }) tt;
          same_secret = s.same_secret;
          book = s.book;
          accepted = s.accepted;
          departed = s.departed;
          given = s.given;
          received = λ o there. elim (parted sent.octets s.other.received o there) [
            | inl same ↦ inl (subst (Contains (sent.octets ∷ old.received)) same (first_in sent.octets old.received))
            | inr before ↦ elim (s.received o before) [ inl here ↦ inl (behind sent.octets old.received o here) | inr early ↦ inr early ]
          ];
          replies = s.replies;
          has_received = λ o there. elim (parted sent.octets old.received o there) [
            | inl same ↦ subst (Contains (sent.octets ∷ s.other.received)) same (first_in sent.octets s.other.received)
            | inr before ↦ behind sent.octets s.other.received o (s.has_received o before)
          ];
          has_replies = s.has_replies;
          early = s.early;
        }

    replied_beside : (to reply : List ℕ) → Contains old.received to → IsReplyTo old.book.setup.home_secret to reply → Beside (record old { replies = record { asked = to; reply = reply } ∷ old.replies })
    replied_beside to reply received right =
        let r : HomeReply = record { asked = to; reply = reply } in
        let o1 : World = record s.other { replies = r ∷ s.other.replies } in
        record {
          other = o1;
          along = goes_on s.other (replied to reply) o1 s.along
              (record { received = s.has_received to received; right = subst (λ (b : Book). IsReplyTo b.setup.home_secret to reply) (sym s.book) right; world = refl }) tt;
          same_secret = s.same_secret;
          book = s.book;
          accepted = s.accepted;
          departed = s.departed;
          given = s.given;
          received = s.received;
          replies = λ x there. elim (parted r s.other.replies x there) [
            | inl same ↦ inl (subst (Contains (r ∷ old.replies)) same (first_in r old.replies))
            | inr before ↦ elim (s.replies x before) [ inl here ↦ inl (behind r old.replies x here) | inr early ↦ inr early ]
          ];
          has_received = s.has_received;
          has_replies = λ x there. elim (parted r old.replies x there) [
            | inl same ↦ subst (Contains (r ∷ s.other.replies)) same (first_in r s.other.replies)
            | inr before ↦ behind r s.other.replies x (s.has_replies x before)
          ];
          early = λ sent x there in_past same. behind r s.other.replies x (s.early sent x there in_past same);
        }

  beside_step : (old : World) (happening : Happening) (new : World) → HappensAfter past old happening new → WasAsked asked happening → Beside old → Beside new
  beside_step old (called event answer d) new h asks s = subst Beside (sym h.world) (called_beside old s event answer d h.next h.gives h.lawful h.genuine asks)
  beside_step old (came sent) new h asks s = subst Beside (sym h.world) (came_beside old s sent h.departed)
  beside_step old (replied to reply) new h asks s = subst Beside (sym h.world) (replied_beside old s to reply h.received h.right)

  beside_later : (old : World) (happenings : List Happening) (new : World) → LivesAfter past old happenings new → AllByRecursion (WasAsked asked) happenings → Beside old → Beside new
  beside_later old [] new lives asks s = subst Beside (sym lives) s
  beside_later old (happening ∷ later) new lives asks s = beside_later lives.0 later new lives.2 asks.1 (beside_step old happening lives.0 lives.1 asks.0 s)

  beside_run : (world : World) (run : LaneRun secret past world) → OnlyTheNasAsks asked run.happenings → Beside world
  beside_run world run asks = beside_later (new_world run.setup) run.happenings world run.lives asks (record {
    other = new_world run.setup;
    along = record { life = record { setup = run.setup; lawful = run.lawful; happenings = []; lives = refl }; asks = tt };
    same_secret = run.same_secret;
    book = refl;
    accepted = refl;
    departed = refl;
    given = refl;
    received = λ o there. inl there;
    replies = λ r there. inl there;
    has_received = λ o there. there;
    has_replies = λ r there. there;
    early = λ sent r there. absurd (none_there sent there);
  })

  ever_received : (world : World) (s : Beside world) (request : Asked) (response : Response) → IsReceived s.other request response → IsEverReceived past world request response
  ever_received world s request response r = record {
    recorded = r.recorded;
    accepted = subst (λ rs. Contains rs r.recorded) s.accepted r.accepted;
    is_record = r.is_record;
    client = r.client;
    port = r.port;
    text = r.text;
    identifier = r.identifier;
    octets = r.octets;
    made = r.made ∙ ap (λ (b : Book). octets_of b.setup r.recorded r.identifier) s.book;
    received = s.received r.octets r.received;
    reply = r.reply;
    replied_so = s.replies (let x : HomeReply = record { asked = r.octets; reply = r.reply } in x) r.replied;
    answers = subst (λ (b : Book). Answers (record_head r.recorded) r.octets r.reply r.recorded.client_secret b.setup.home_secret response.octets) s.book r.answers;
  }

  received_after : (world : World) (run : LaneRun secret past world) → OnlyTheNasAsks asked run.happenings → HaveOneAuthenticator asked world → UsesNoKeyTwice asked
      → (request : Asked) (response : Response) → Contains asked request → Contains world.given response → Takes request response → IsEverReceived past world request response
  received_after world run asks one no_key request response there given takes =
      let s = beside_run world run asks in
      ever_received world s request response
      (acknowledged_received asked s.other s.along.life s.along.asks
      (λ x a b in_given in_a in_b. one x a b (subst (λ gs. Contains gs x) s.given in_given) in_a in_b)
      no_key request response there (subst (λ gs. Contains gs response) (sym s.given) given) takes)

pub answered_received : (secret : List ℕ) (world : World) (earlier : List World) → AreRuns secret (world ∷ earlier) → AnsweredMeansReceived secret world earlier
answered_received secret world earlier runs run asked asks one no_key = received_after secret (past_of earlier) (is_past secret earlier runs.1) asked world run asks one no_key

-- ---- each life is a run

genuine_ever : (past : Past) (world : World) (event : Event) → IsGenuine world event → IsGenuineEver past world event
genuine_ever past world (accept request moment) g = tt
genuine_ever past world (step moment random) g = tt
genuine_ever past world (hear moment port datagram) g = λ sent packet there reads right. inl (g sent packet there reads right)
genuine_ever past world drain g = tt
genuine_ever past world (turn moment) g = tt

one_after : (past : Past) (old : World) (happening : Happening) (new : World) → Happens old happening new → HappensAfter past old happening new
one_after past old (called event answer d) new h = record { next = h.next; gives = h.gives; lawful = h.lawful; genuine = genuine_ever past old event h.genuine; world = h.world }
one_after past old (came sent) new h = h
one_after past old (replied to reply) new h = h

all_after : (past : Past) (old : World) (happenings : List Happening) (new : World) → Lives old happenings new → LivesAfter past old happenings new
all_after past old [] new lives = lives
all_after past old (happening ∷ later) new lives = (lives.0, one_after past old happening lives.0 lives.1, all_after past lives.0 later new lives.2)

pub life_is_run : EachLifeIsARun
life_is_run past world life = record {
  setup = life.setup;
  lawful = life.lawful;
  same_secret = refl;
  happenings = life.happenings;
  lives = all_after past (new_world life.setup) life.happenings world life.lives;
}
