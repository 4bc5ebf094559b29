-- None of the requests that a lane ever accepted is accepted again within its span.
use Rattle.std.proofs.Common.{◌≡◌, ℕ, ◌+◌, ◌<◌, ◌≤◌, Bool, true, false, cond, List, [], ◌∷◌, ◌++◌, length, get_or, Some, None, Ok, Err, refl, sym, ap, ◌∙◌, subst, inl, inr, arith, append_assoc}
use Rattle.std.specs.Prelude.{◌⊎◌, ◌==◌, max, All, AllPairs, filter, not, nat_lt}
use Rattle.std.specs.List.{Contains, flat_map}
use Rattle.std.proofs.lemmas.Bool.{eqb-true, lt-ltb, cases_Bool}
use Rattle.std.proofs.lemmas.List.{append-nil}
use Rattle.std.proofs.lemmas.List.Elements.{All-nil, All-append, All-weaker, All-contains, All-contains_itself, Contains-append_cases}
use Rattle.std.proofs.lemmas.List.Quantifiers.{all_pairs_push}
use Rattle.rad_lane.specs.declared.stamp.Stamp.{Stamp}
use Rattle.rad_lane.specs.declared.accepting.Taken.TheVariants.{New, Waiting, Again}
use Rattle.rad_lane.specs.declared.hearing.Heard.TheVariants.{Answer, ProbeAnswered}
use Rattle.rad_lane.specs.declared.stepping.Action.{Action}
use Rattle.rad_lane.specs.declared.stepping.Action.TheVariants.{Sent, Resent, Probed, WentDown, WentUp, Idle}
use Rattle.rad_lane.specs.declared.watch.Watch.{Watch}
use Rattle.rad_lane.specs.declared.watch.Watch.TheVariants.{Up as up, Down as down}
use Rattle.rad_lane.specs.Steps.{StepsBy}
use Rattle.rad_lane.specs.Empty.{empty_book}
use Rattle.rad_lane.specs.declared.turning.Volume.{Volume}
use Rattle.rad_lane.specs.declared.turning.TurnFault.TheVariants.{NothingToTurn, OutOfMemory}
use Rattle.rad_lane.specs.declared.running.Event.{Event}
use Rattle.rad_lane.specs.declared.running.Event.TheVariants.{Accept as accept, Step as step, Hear as hear, Drain as drain, Turn as turn}
use Rattle.rad_lane.specs.declared.running.GivenAnswer.{GivenAnswer}
use Rattle.rad_lane.specs.declared.running.GivenAnswer.TheVariants.{Accept as accepted, Step as stepped, Hear as heard, Drain as drained, Turn as turned}
use Rattle.rad_lane.specs.Setup.{LaneSetup}
use Rattle.rad_lane.specs.Outstanding.{AnswerKept}
use Rattle.rad_lane.specs.Datagrams.{Datagrams}
use Rattle.rad_lane.specs.Book.{Book, moment_in}
use Rattle.rad_lane.specs.Repeat.{answer_to}
use Rattle.rad_lane.specs.Lawful.{IsLawful}
use Rattle.rad_lane.specs.Accepts.{stamp_of}
use Rattle.rad_lane.specs.Hears.{with_answer, pair}
use Rattle.rad_lane.specs.LosesNone.{stamps_cut, new_stamp, last_after}
use Rattle.rad_lane.specs.Volumes.{IsOver, IsCut, is_below, answers_below, opening_after}
use Rattle.rad_lane.specs.Runs.{Gives}
use Rattle.rad_lane.proofs.ListLemmas.{found_holds, All-left}
use Rattle.rad_lane.proofs.LawfulAfterCut.{cut_below}
use Rattle.rad_lane.proofs.NoRepeatOfFresh.{unrepeated}
use Rattle.rad_lane.proofs.RunsLoseNone.{gives_keeps}
use Rattle.rad_progress.proofs.AfterCalls.{call_setup}
use Rattle.rad_network.specs.World.{World, new_world}
use Rattle.rad_network.specs.Happens.{Happening, Happens, Lives, Life}
use Rattle.rad_network.specs.Happens.Happening.{called, came, replied}
use Rattle.rad_network.specs.Repeating.{IsAgainAfterItsSpan, requests_gone, answers_in, answers_gone, accepted_ever, answers_ever}
use Rattle.rad_network.proofs.Among.{earlier, later_on, parted}
use Rattle.rad_network.proofs.AnswersFound.{answers_accepted, one_of_number}
use Rattle.rad_network.proofs.Serves.{heard_like}

-- what stands in a list stands in it with more behind it
pub followed : {X : Type 0} (xs more : List X) (y : X) → Contains xs y → Contains (xs ++ more) y
followed xs more y there = All-contains (Contains (xs ++ more)) xs y (All-left xs more (Contains (xs ++ more)) (All-contains_itself (xs ++ more))) there

-- and in one of the two parts into which a test parts it
passed_by : {X : Type 0} (b : Bool) (x y : X) (xs : List X) → b ≡ true → (x ≡ y) ⊎ Contains xs y → Contains (cond b (x ∷ xs) xs) y
passed_by true x y xs is h = elim h [ inl same ↦ (0, omega arith, same) | inr behind ↦ earlier x xs y behind ]
passed_by false x y xs is h = cc

kept_by : {X : Type 0} (b : Bool) (x y : X) (xs : List X) → Contains xs y → Contains (cond b (x ∷ xs) xs) y
kept_by true x y xs h = earlier x xs y h
kept_by false x y xs h = h

passes : {X : Type 0} (p : X → Bool) (xs : List X) (y : X) → p y ≡ true → Contains xs y → Contains (filter p xs) y
passes p [] y is there = there
passes p (x ∷ xs) y is there = elim (parted x xs y there) [
  | inl same ↦ passed_by (p x) x y (filter p xs) (ap p same ∙ is) (inl same)
  | inr behind ↦ kept_by (p x) x y (filter p xs) (passes p xs y is behind)
]

either_part : {X : Type 0} (p : X → Bool) (xs : List X) (y : X) → Contains xs y → Contains (filter p xs ++ filter (λ x. not (p x)) xs) y
either_part p xs y there = elim (cases_Bool (p y)) [
  | inl is ↦ followed (filter p xs) (filter (λ x. not (p x)) xs) y (passes p xs y is there)
  | inr not_so ↦ later_on (filter p xs) (filter (λ x. not (p x)) xs) y (passes (λ x. not (p x)) xs y (ap not not_so) there)
]

-- the answers of the book stay, in it or in a volume
abbrev KeepsAnswers : Book → GivenAnswer → Book → Type 0
KeepsAnswers old answer new = (a : AnswerKept) → Contains old.answered a → Contains (answers_in answer ++ new.answered) a

same_answers : (old new : Book) → new.answered ≡ old.answered → (a : AnswerKept) → Contains old.answered a → Contains new.answered a
same_answers old new same a there = subst (λ (xs : List AnswerKept). Contains xs a) (sym same) there

step_answers : (old new : Book) (now : ℕ) (random : List ℕ) (action : Action) (d : Datagrams) (w : Watch) → StepsBy w old now random action d new → new.answered ≡ old.answered
step_answers old new now random (Sent number slot) d up h = ap (λ (b : Book). b.answered) h.9
step_answers old new now random (Resent number slot) d up h = ap (λ (b : Book). b.answered) h.4
step_answers old new now random (Probed slot) d up h = absurd h
step_answers old new now random WentDown d up h = ap (λ (b : Book). b.answered) h.3
step_answers old new now random WentUp d up h = absurd h
step_answers old new now random (Idle None) d up h = ap (λ (b : Book). b.answered) h.3
step_answers old new now random (Idle (Some moment)) d up h = ap (λ (b : Book). b.answered) h.7
step_answers old new now random (Sent number slot) d (down until next out) h = absurd h
step_answers old new now random (Resent number slot) d (down until next out) h = absurd h
step_answers old new now random (Probed slot) d (down until next out) h = ap (λ (b : Book). b.answered) h.2.2
step_answers old new now random WentDown d (down until next out) h = absurd h
step_answers old new now random WentUp d (down until next out) h = ap (λ (b : Book). b.answered) h.2.others
step_answers old new now random (Idle None) d (down until next out) h = absurd h
step_answers old new now random (Idle (Some moment)) d (down until next out) h = ap (λ (b : Book). b.answered) h.4

keeps_answers : (old new : Book) (event : Event) (answer : GivenAnswer) (d : Datagrams) → Gives old event answer d new → KeepsAnswers old answer new
keeps_answers old new (accept request moment) (accepted (Ok (New number))) d h = same_answers old new (ap (λ (b : Book). b.answered) h.3)
keeps_answers old new (accept request moment) (accepted (Ok (Waiting number))) d h = same_answers old new (ap (λ (b : Book). b.answered) h.1)
keeps_answers old new (accept request moment) (accepted (Ok (Again number))) d h = same_answers old new (ap (λ (b : Book). b.answered) h.1)
keeps_answers old new (accept request moment) (accepted (Err refusal)) d h = same_answers old new (ap (λ (b : Book). b.answered) h.2)
keeps_answers old new (step moment random) (stepped action) d h = same_answers old new (step_answers old new (moment_in old moment) random action d old.watch h.0)
keeps_answers old new (hear moment port datagram) (heard (Ok (Answer outgoing))) d h = λ a there.
    let l = heard_like (moment_in old moment) (with_answer old (moment_in old moment) (pair port h.0.1.packet) h.0.0) new old.watch h.0.1.book in
    subst (λ (xs : List AnswerKept). Contains xs a) (sym l.1) (followed old.answered (h.0.0 ∷ []) a there)
keeps_answers old new (hear moment port datagram) (heard (Ok ProbeAnswered)) d h = same_answers old new (heard_like (moment_in old moment) (record old { last = moment_in old moment }) new old.watch h.0.book).1
keeps_answers old new (hear moment port datagram) (heard (Err fault)) d h = same_answers old new (ap (λ (b : Book). b.answered) h.0.1)
keeps_answers old new drain (drained count) d h = same_answers old new (ap (λ (b : Book). b.answered) h.0.book)
keeps_answers old new (turn moment) (turned (Ok volume)) d h = λ a there.
    let bound = opening_after old h.0.0 in
    subst (λ (v : Volume). Contains (v.answered ++ new.answered) a) (sym h.0.4)
    (subst (λ (b : Book). Contains (answers_below bound old.answered ++ b.answered) a) (sym h.0.5) (either_part (is_below bound) old.answered a there))
keeps_answers old new (turn moment) (turned (Err NothingToTurn)) d h = same_answers old new (ap (λ (b : Book). b.answered) h.0.1)
keeps_answers old new (turn moment) (turned (Err OutOfMemory)) d h = same_answers old new (ap (λ (b : Book). b.answered) h.0.4)
keeps_answers old new event answer d h = absurd h

-- the moments never go back
latest_last : (old : Book) (event : Event) (answer : GivenAnswer) → old.last ≤ last_after old.last event answer
latest_last old (accept request moment) (accepted (Ok taken)) = omega arith
latest_last old (step moment random) (stepped action) = omega arith
latest_last old (hear moment port datagram) (heard (Ok what)) = omega arith
latest_last old (turn moment) (turned (Ok volume)) = omega arith
latest_last old event answer = omega arith

-- an answer that is found is that of the request
found_answer : (book : Book) → IsLawful book → (stamp : Stamp) (answer : AnswerKept) → Contains book.accepted stamp → answer_to stamp.number book.answered ≡ Some answer → Contains book.answered answer × (answer.stamp ≡ stamp)
found_answer book l stamp answer there is =
    let test : AnswerKept → Bool = λ a. a.stamp.number == stamp.number in
    let kept = found_holds test (Contains book.answered) book.answered answer (All-contains_itself book.answered) is in
    let accepted = found_holds test (λ a. Contains book.accepted a.stamp) book.answered answer (answers_accepted book l) is in
    (kept.0, one_of_number book l answer.stamp stamp accepted.0 there (eqb-true answer.stamp.number stamp.number kept.1))

-- each request that is gone was answered a span before this moment
abbrev IsGone : List AnswerKept → ℕ → ℕ → Stamp → Type 0
IsGone answers span last stamp = (answer : AnswerKept) × Contains answers answer × (answer.stamp ≡ stamp) × (answer.moment + span ≤ last)

record Holds (gone : List Stamp) (answers : List AnswerKept) (book : Book) : Type 0 where
  lawful : IsLawful book
  over : All (IsGone answers book.setup.limits.span book.last) gone
  pairs : AllPairs (IsAgainAfterItsSpan (answers ++ book.answered) book.setup.limits.span) (gone ++ book.accepted)

module _ (gone : List Stamp) (answers : List AnswerKept) (old : Book) (s : Holds gone answers old) (new : Book) (event : Event) (answer : GivenAnswer) (d : Datagrams) (h : Gives old event answer d new) where
  abbrev more : List AnswerKept
  more = answers ++ answers_in answer

  same_span : new.setup.limits.span ≡ old.setup.limits.span
  same_span = ap (λ x. x.limits.span) (call_setup old event answer d new h)

  later : old.last ≤ new.last
  later = let after = latest_last old event answer in let is = (gives_keeps old new event answer d h).last in omega (arith, after, is)

  kept_answers : (a : AnswerKept) → Contains (answers ++ old.answered) a → Contains (more ++ new.answered) a
  kept_answers a there =
      subst (λ (xs : List AnswerKept). Contains xs a) (sym (append_assoc answers (answers_in answer) new.answered)) (elim (Contains-append_cases answers old.answered a there) [
        | inl before ↦ followed answers (answers_in answer ++ new.answered) a before
        | inr here ↦ later_on answers (answers_in answer ++ new.answered) a (keeps_answers old new event answer d h a here)
      ])

  again_still : (a b : Stamp) → IsAgainAfterItsSpan (answers ++ old.answered) old.setup.limits.span a b → IsAgainAfterItsSpan (more ++ new.answered) new.setup.limits.span a b
  again_still a b was same =
      let its = was same in
      let spans = same_span in
      let after = its.3 in
      (its.0, kept_answers its.0 its.1, its.2, omega (arith, after, spans))

  gone_still : All (IsGone more new.setup.limits.span new.last) gone
  gone_still = All-weaker _ _ still gone s.over
    where
      still : (stamp : Stamp) → IsGone answers old.setup.limits.span old.last stamp → IsGone more new.setup.limits.span new.last stamp
      still stamp was =
          let spans = same_span in
          let before = was.3 in
          let rises = later in
          (was.0, followed answers (answers_in answer) was.0 was.1, was.2, omega (arith, before, spans, rises))

  pairs_still : AllPairs (IsAgainAfterItsSpan (more ++ new.answered) new.setup.limits.span) (gone ++ old.accepted)
  pairs_still i j x less within = again_still (get_or (gone ++ old.accepted) i x) (get_or (gone ++ old.accepted) j x) (s.pairs i j x less within)

  -- the list of all is longer by what the call accepted
  all_is : (gone ++ stamps_cut answer) ++ new.accepted ≡ (gone ++ old.accepted) ++ new_stamp old.last event answer
  all_is =
      append_assoc gone (stamps_cut answer) new.accepted
      ∙ ap (λ (ss : List Stamp). gone ++ ss) (gives_keeps old new event answer d h).kept
      ∙ sym (append_assoc gone old.accepted (new_stamp old.last event answer))

  -- what is cut is over
  cut_over : (cut kept : List Stamp) (now : ℕ) → old.last ≤ now → IsCut old now cut kept → answers_in answer ≡ answers_below (opening_after old cut) old.answered → new.last ≡ now → All (IsGone more new.setup.limits.span new.last) cut
  cut_over cut kept now since is below last =
      λ k x within. over (get_or cut k x) (is.over k x within, cut_below old s.lawful now since cut kept is k x within, All-left cut kept (Contains old.accepted) (subst (λ (ss : List Stamp). All (Contains old.accepted) ss) is.parts (All-contains_itself old.accepted)) k x within)
    where
      over : (stamp : Stamp) → IsOver old now stamp × (stamp.number < opening_after old cut) × Contains old.accepted stamp → IsGone more new.setup.limits.span new.last stamp
      over stamp its =
          let found = found_answer old s.lawful stamp its.0.0 its.2 its.0.1 in
          let spans = same_span in
          let after = its.0.2 in
          let low : nat_lt its.0.0.stamp.number (opening_after old cut) ≡ true = lt-ltb its.0.0.stamp.number (opening_after old cut) (subst (λ (x : Stamp). x.number < opening_after old cut) (sym found.1) its.1) in (
            its.0.0,
            later_on answers (answers_in answer) its.0.0 (subst (λ (xs : List AnswerKept). Contains xs its.0.0) (sym below) (passes (is_below (opening_after old cut)) old.answered its.0.0 low found.0)),
            found.1,
            omega (arith, after, spans, last),
          )

-- after a call
module _ (gone : List Stamp) (answers : List AnswerKept) (old : Book) (s : Holds gone answers old) (new : Book) (lawful : IsLawful new) where
  abbrev After : GivenAnswer → Type 0
  After answer = Holds (gone ++ stamps_cut answer) (answers ++ answers_in answer) new

  -- that accepts nothing new
  no_more : (event : Event) (answer : GivenAnswer) (d : Datagrams) → Gives old event answer d new → new_stamp old.last event answer ≡ [] → All (IsGone (answers ++ answers_in answer) new.setup.limits.span new.last) (stamps_cut answer) → After answer
  no_more event answer d h none cut = record {
    lawful = lawful;
    over = All-append (IsGone (answers ++ answers_in answer) new.setup.limits.span new.last) gone (stamps_cut answer) (gone_still gone answers old s new event answer d h) cut;
    pairs = subst (λ (ss : List Stamp). AllPairs (IsAgainAfterItsSpan ((answers ++ answers_in answer) ++ new.answered) new.setup.limits.span) ss)
        (sym (all_is gone answers old s new event answer d h ∙ ap (λ (ss : List Stamp). (gone ++ old.accepted) ++ ss) none ∙ append-nil (gone ++ old.accepted)))
        (pairs_still gone answers old s new event answer d h);
  }

  -- that accepts one more
  one_more : (request : _) (moment number : ℕ) (d : Datagrams) → Gives old (accept request moment) (accepted (Ok (New number))) d new → After (accepted (Ok (New number)))
  one_more request moment number d h = record {
    lawful = lawful;
    over = All-append (IsGone (answers ++ []) new.setup.limits.span new.last) gone [] (gone_still gone answers old s new event answer d h) (All-nil _);
    pairs = subst (λ (ss : List Stamp). AllPairs R ss) (sym (all_is gone answers old s new event answer d h))
        (all_pairs_push R (gone ++ old.accepted) stamp (pairs_still gone answers old s new event answer d h) apart);
  }
    where
      event : Event
      event = accept request moment

      answer : GivenAnswer
      answer = accepted (Ok (New number))

      stamp : Stamp
      stamp = stamp_of number request.now (max old.last moment)

      R : Stamp → Stamp → Type 0
      R a b = IsAgainAfterItsSpan ((answers ++ []) ++ new.answered) new.setup.limits.span a b

      Before : Stamp → Type 0
      Before a = IsAgainAfterItsSpan (answers ++ old.answered) old.setup.limits.span a stamp

      of_gone : (a : Stamp) → IsGone answers old.setup.limits.span old.last a → Before a
      of_gone a its = λ same. let over = its.3 in (its.0, followed answers old.answered its.0 its.1, its.2, omega (arith, over))

      of_accepted : All Before old.accepted
      of_accepted k x within same =
          let its = unrepeated old s.lawful (max old.last moment) (omega arith) stamp refl h.0 k x within same in
          let found = found_answer old s.lawful (get_or old.accepted k x) its.0 (All-contains_itself old.accepted k x within) its.1 in
          (its.0, later_on answers old.answered its.0 found.0, found.1, its.2)

      all_before : All Before (gone ++ old.accepted)
      all_before = All-append Before gone old.accepted (All-weaker (IsGone answers old.setup.limits.span old.last) Before of_gone gone s.over) of_accepted

      apart : (k : ℕ) (x : Stamp) → k < length (gone ++ old.accepted) → R (get_or (gone ++ old.accepted) k x) stamp
      apart k x within = again_still gone answers old s new event answer d h (get_or (gone ++ old.accepted) k x) stamp (all_before k x within)

  call_holds : (event : Event) (answer : GivenAnswer) (d : Datagrams) → Gives old event answer d new → After answer
  call_holds (accept request moment) (accepted (Ok (New number))) d h = one_more request moment number d h
  call_holds (accept request moment) (accepted (Ok (Waiting number))) d h = no_more (accept request moment) (accepted (Ok (Waiting number))) d h refl (All-nil _)
  call_holds (accept request moment) (accepted (Ok (Again number))) d h = no_more (accept request moment) (accepted (Ok (Again number))) d h refl (All-nil _)
  call_holds (accept request moment) (accepted (Err refusal)) d h = no_more (accept request moment) (accepted (Err refusal)) d h refl (All-nil _)
  call_holds (step moment random) (stepped action) d h = no_more (step moment random) (stepped action) d h refl (All-nil _)
  call_holds (hear moment port datagram) (heard result) d h = no_more (hear moment port datagram) (heard result) d h refl (All-nil _)
  call_holds drain (drained count) d h = no_more drain (drained count) d h refl (All-nil _)
  call_holds (turn moment) (turned (Ok volume)) d h =
      let cut : volume.stamps ≡ h.0.0 = ap (λ (v : Volume). v.stamps) h.0.4 in
      let below : volume.answered ≡ answers_below (opening_after old h.0.0) old.answered = ap (λ (v : Volume). v.answered) h.0.4 in
      no_more (turn moment) (turned (Ok volume)) d h refl
      (subst (λ (ss : List Stamp). All (IsGone (answers ++ volume.answered) new.setup.limits.span new.last) ss) (sym cut)
      (cut_over gone answers old s new (turn moment) (turned (Ok volume)) d h h.0.0 h.0.1 (moment_in old moment) (omega arith) h.0.2 below (ap (λ (b : Book). b.last) h.0.5)))
  call_holds (turn moment) (turned (Err fault)) d h = no_more (turn moment) (turned (Err fault)) d h refl (All-nil _)
  call_holds event answer d h = absurd h

-- the same list, with nothing behind it
nothing_behind : (gone : List Stamp) (answers : List AnswerKept) (book : Book) → Holds gone answers book → Holds (gone ++ []) (answers ++ []) book
nothing_behind gone answers book s =
    subst (λ (as_gone : List Stamp). Holds as_gone (answers ++ []) book) (sym (append-nil gone))
    (subst (λ (as_answers : List AnswerKept). Holds gone as_answers book) (sym (append-nil answers)) s)

holds_after : (gone : List Stamp) (answers : List AnswerKept) (old : World) (happening : Happening) (new : World) → Happens old happening new → Holds gone answers old.book → Holds (gone ++ requests_gone happening) (answers ++ answers_gone happening) new.book
holds_after gone answers old (called event answer d) new h s =
    subst (λ (w : World). Holds (gone ++ stamps_cut answer) (answers ++ answers_in answer) w.book) (sym h.world) (call_holds gone answers old.book s h.next h.lawful event answer d h.gives)
holds_after gone answers old (came sent) new h s = subst (λ (w : World). Holds (gone ++ []) (answers ++ []) w.book) (sym h.world) (nothing_behind gone answers old.book s)
holds_after gone answers old (replied asked reply) new h s = subst (λ (w : World). Holds (gone ++ []) (answers ++ []) w.book) (sym h.world) (nothing_behind gone answers old.book s)

holds_later : (gone : List Stamp) (answers : List AnswerKept) (old : World) (happenings : List Happening) (new : World) → Lives old happenings new → Holds gone answers old.book → Holds (gone ++ flat_map requests_gone happenings) (answers ++ flat_map answers_gone happenings) new.book
holds_later gone answers old [] new h s = subst (λ (w : World). Holds (gone ++ []) (answers ++ []) w.book) (sym h) (nothing_behind gone answers old.book s)
holds_later gone answers old (happening ∷ later) new h s =
    subst (λ (all : List Stamp). Holds all (answers ++ flat_map answers_gone (happening ∷ later)) new.book) (append_assoc gone (requests_gone happening) (flat_map requests_gone later))
    (subst (λ (all : List AnswerKept). Holds ((gone ++ requests_gone happening) ++ flat_map requests_gone later) all new.book) (append_assoc answers (answers_gone happening) (flat_map answers_gone later))
    (holds_later (gone ++ requests_gone happening) (answers ++ answers_gone happening) h.0 later new h.2 (holds_after gone answers old happening h.0 h.1 s)))

holds_at_first : (setup : LaneSetup) → IsLawful (empty_book setup) → Holds [] [] (empty_book setup)
holds_at_first setup lawful = record { lawful = lawful; over = All-nil _; pairs = λ i j x less within. absurd (omega (arith, less, within)) }

pub none_again : (world : World) (life : Life world) → AllPairs (IsAgainAfterItsSpan (answers_ever life.happenings world.book) world.book.setup.limits.span) (accepted_ever life.happenings world.book)
none_again world life = (holds_later [] [] (new_world life.setup) life.happenings world life.lives (holds_at_first life.setup life.lawful)).pairs
