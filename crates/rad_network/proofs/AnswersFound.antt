-- The answer that a request repeats is that of a request with its key.
use Rattle.std.proofs.Common.{◌≡◌, ℕ, zero, suc, ◌<◌, Bool, true, false, cond, List, [], ◌∷◌, ◌++◌, length, get_or, Option, Some, None, refl, sym, ap, ◌∙◌, subst, arith}
use Rattle.std.specs.Prelude.{map as each, All, ◌==◌}
use Rattle.std.specs.List.{Contains}
use Rattle.std.specs.Ordering.{is_eq}
use Rattle.std.proofs.lemmas.Bool.{eqb-true}
use Rattle.std.proofs.lemmas.List.Elements.{All-head, All-tail, All-filter, All-contains_itself, filter_passes}
use Rattle.std.proofs.lemmas.List.Sorted.{All-permutation}
use Rattle.rad_tables.specs.declared.duplicates.Key.{Key}
use Rattle.rad_tables.specs.Keys.{key_cmp}
use Rattle.rad_lane.specs.declared.stamp.Stamp.{Stamp}
use Rattle.rad_lane.specs.Stamp.{key_of}
use Rattle.rad_lane.specs.Outstanding.{AnswerKept}
use Rattle.rad_lane.specs.Book.{Book, outstanding_of}
use Rattle.rad_lane.specs.Repeat.{fresh, again, repeats, repeats_last, repeats_answered, of_key, last_of, answer_to}
use Rattle.rad_lane.specs.Lawful.{IsLawful}
use Rattle.rad_lane.proofs.ListLemmas.{found_holds, All-unmap, All-left, All-right}
use Rattle.rad_lane.proofs.LawfulAfterCut.{numbered_at}
use Rattle.rad_lane.proofs.NoRepeatOfFresh.{same_key}

-- what all have, the last one has
last_holds : (P : Stamp → Type 0) (stamps : List Stamp) (last : Stamp) → All P stamps → last_of stamps ≡ Some last → P last
last_holds P [] last all is = cc
last_holds P (stamp ∷ []) last all is =
    let same : stamp ≡ last = cc in
    subst P same (All-head P stamp [] all)
last_holds P (stamp ∷ next ∷ later) last all is = last_holds P (next ∷ later) last (All-tail P stamp (next ∷ later) all) is

-- a place in a list has one item, whatever stands for none
one_item : {X : Type 0} (xs : List X) (k : ℕ) (d e : X) → k < length xs → get_or xs k d ≡ get_or xs k e
one_item [] k d e within = absurd (omega (arith, within))
one_item (x ∷ xs) zero d e within = refl
one_item (x ∷ xs) (suc k) d e within = one_item xs k d e (omega (arith, within))

module _ (book : Book) (l : IsLawful book) where
  -- two accepted requests of one number are one
  pub one_of_number : (a b : Stamp) → Contains book.accepted a → Contains book.accepted b → a.number ≡ b.number → a ≡ b
  one_of_number a b (i, within_i, is_a) (j, within_j, is_b) same =
      let at_a = numbered_at book.accepted book.opening l.numbered i a within_i in
      let at_b = numbered_at book.accepted book.opening l.numbered j b within_j in
      let number_a = ap (λ (s : Stamp). s.number) is_a in
      let number_b = ap (λ (s : Stamp). s.number) is_b in
      let one : i ≡ j = omega (arith, at_a, at_b, number_a, number_b, same) in
      sym is_a ∙ ap (λ k. get_or book.accepted k a) one ∙ one_item book.accepted j a b within_j ∙ is_b

  -- each answer that the book keeps is that of an accepted request
  pub answers_accepted : All (λ (a : AnswerKept). Contains book.accepted a.stamp) book.answered
  answers_accepted =
      let queue : List Stamp = each (λ r. r.stamp) book.queued in
      let outs : List Stamp = each (λ e. e.request.stamp) (outstanding_of book) in
      let all : All (Contains book.accepted) (book.sent ++ queue) = subst (λ (ss : List Stamp). All (Contains book.accepted) ss) l.in_order (All-contains_itself book.accepted) in
      let sent : All (Contains book.accepted) book.sent = All-left book.sent queue (Contains book.accepted) all in
      All-unmap (Contains book.accepted) (λ (a : AnswerKept). a.stamp) book.answered
      (All-right outs (each (λ a. a.stamp) book.answered) (Contains book.accepted) (All-permutation (Contains book.accepted) book.sent (outs ++ each (λ a. a.stamp) book.answered) l.placed_once sent))

  -- what the answer found has, and of which request it is
  pub record IsFound (key : Key) (octets : List ℕ) (answer : AnswerKept) : Type 0 where
    pub number : ℕ
    pub kept : answer_to number book.answered ≡ Some answer
    pub key_is : key_of answer.stamp ≡ key
    pub response : octets ≡ answer.reply.response

  abbrev pub Found : Key → List ℕ → Type 0
  Found key octets = (answer : AnswerKept) × IsFound key octets answer

  of_answer : (key : Key) (now number : ℕ) (octets : List ℕ) (stamp : Stamp) → Contains book.accepted stamp → key_of stamp ≡ key → (o : Option AnswerKept) → answer_to stamp.number book.answered ≡ o → repeats_answered book now stamp.number o ≡ again number octets → Found key octets
  of_answer key now number octets stamp there its None is found = cc
  of_answer key now number octets stamp there its (Some answer) is found =
      let holds = found_holds (λ (a : AnswerKept). a.stamp.number == stamp.number) (λ (a : AnswerKept). Contains book.accepted a.stamp) book.answered answer answers_accepted is in
      let number_is : answer.stamp.number ≡ stamp.number = eqb-true answer.stamp.number stamp.number holds.1 in (
        answer,
        record {
          number = stamp.number;
          kept = is;
          key_is = ap key_of (one_of_number answer.stamp stamp holds.0 there number_is) ∙ its;
          response = told _ found;
        },
      )
    where
      told : (b : Bool) → cond b (again stamp.number answer.reply.response) fresh ≡ again number octets → octets ≡ answer.reply.response
      told true same = cc
      told false same = cc

  of_last : (key : Key) (now number : ℕ) (octets : List ℕ) (last : Option Stamp) → last_of (of_key key book.accepted) ≡ last → repeats_last book now last ≡ again number octets → Found key octets
  of_last key now number octets None is found = cc
  of_last key now number octets (Some stamp) is found =
      let has : Stamp → Bool = λ s. is_eq (key_cmp (key_of s) key) in
      let there = last_holds (Contains book.accepted) (of_key key book.accepted) stamp (All-filter has (Contains book.accepted) book.accepted (All-contains_itself book.accepted)) is in
      let its = last_holds (λ s. has s ≡ true) (of_key key book.accepted) stamp (filter_passes has book.accepted) is in
      of_answer key now number octets stamp there (same_key (key_of stamp) key its) (answer_to stamp.number book.answered) refl found

  pub found_again : (key : Key) (now number : ℕ) (octets : List ℕ) → repeats book key now ≡ again number octets → Found key octets
  unfolding repeats
  found_again key now number octets found = of_last key now number octets (last_of (of_key key book.accepted)) refl found
