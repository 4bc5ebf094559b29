-- A request that repeats none comes a span after the answer to the last one of its key, or is the first of it.
use Rattle.std.proofs.Common.{◌≡◌, ℕ, zero, suc, ◌+◌, ◌≤◌, ◌<◌, List, [], ◌∷◌, length, get_or, Bool, true, false, cond, Option, Some, None, ◌⊎◌, inl, inr, refl, sym, ap, ◌∙◌, arith}
use Rattle.std.specs.Prelude.{nat_lt}
use Rattle.std.specs.Ordering.{is_eq}
use Rattle.std.specs.Cmp.{eq_by_cmp_equiv}
use Rattle.std.proofs.lemmas.Bool.Decides.{leb_tells}
use Rattle.std.proofs.lemmas.List.Elements.{All-get_or}
use Rattle.rad_tables.specs.declared.duplicates.Key.{Key}
use Rattle.rad_tables.specs.Keys.{key_cmp}
use Rattle.rad_tables.proofs.KeyLemmas.{exact_keys, keys_total, tied}
use Rattle.rad_lane.specs.declared.stamp.Stamp.{Stamp}
use Rattle.rad_lane.specs.Stamp.{key_of}
use Rattle.rad_lane.specs.Outstanding.{AnswerKept}
use Rattle.rad_lane.specs.Book.{Book}
use Rattle.rad_lane.specs.Repeat.{fresh, again, repeats, repeats_last, repeats_answered, of_key, last_of, answer_to}
use Rattle.rad_lane.specs.Lawful.{IsLawful, NoRepeatWithinSpan}

abbrev has_key : Key → Stamp → Bool
has_key key stamp = is_eq (key_cmp (key_of stamp) key)

pub same_key : (a b : Key) → is_eq (key_cmp a b) ≡ true → a ≡ b
same_key a b h = exact_keys a b (tied a b h)

pub ties_itself : (a : Key) → is_eq (key_cmp a a) ≡ true
ties_itself a = (eq_by_cmp_equiv keys_total).refl a

-- none of the stamps has the key, or this one is the last that has it
record IsLastOf (key : Key) (stamps : List Stamp) (d : Stamp) : Type 0 where
  place : ℕ
  within : place < length stamps
  last : last_of (of_key key stamps) ≡ Some (get_or stamps place d)
  has : has_key key (get_or stamps place d) ≡ true
  later : (k : ℕ) → place < k → k < length stamps → has_key key (get_or stamps k d) ≡ false

abbrev HasNone : Key → List Stamp → Stamp → Type 0
HasNone key stamps d = (of_key key stamps ≡ []) × ((k : ℕ) → k < length stamps → has_key key (get_or stamps k d) ≡ false)

last_behind : (stamp : Stamp) (stamps : List Stamp) (last : Stamp) → last_of stamps ≡ Some last → last_of (stamp ∷ stamps) ≡ Some last
last_behind stamp [] last h = cc
last_behind stamp (next ∷ stamps) last h = h

last_in_more : (b : Bool) (stamp : Stamp) (stamps : List Stamp) (last : Stamp) → last_of stamps ≡ Some last → last_of (cond b (stamp ∷ stamps) stamps) ≡ Some last
last_in_more true stamp stamps last h = last_behind stamp stamps last h
last_in_more false stamp stamps last h = h

-- what has the key in a longer list, behind the first
has_none_behind : (key : Key) (stamp : Stamp) (stamps : List Stamp) (d : Stamp) → ((k : ℕ) → k < length stamps → has_key key (get_or stamps k d) ≡ false) → (k : ℕ) → 0 < k → k < length (stamp ∷ stamps) → has_key key (get_or (stamp ∷ stamps) k d) ≡ false
has_none_behind key stamp stamps d h zero above within = absurd (omega arith)
has_none_behind key stamp stamps d h (suc k) above within = h k (omega arith)

has_none_of_all : (key : Key) (stamp : Stamp) (stamps : List Stamp) (d : Stamp) → has_key key stamp ≡ false → ((k : ℕ) → k < length stamps → has_key key (get_or stamps k d) ≡ false) → (k : ℕ) → k < length (stamp ∷ stamps) → has_key key (get_or (stamp ∷ stamps) k d) ≡ false
has_none_of_all key stamp stamps d first h zero within = first
has_none_of_all key stamp stamps d first h (suc k) within = h k (omega arith)

has_none_after : (key : Key) (stamp : Stamp) (stamps : List Stamp) (d : Stamp) (place : ℕ) → ((k : ℕ) → place < k → k < length stamps → has_key key (get_or stamps k d) ≡ false) → (k : ℕ) → suc place < k → k < length (stamp ∷ stamps) → has_key key (get_or (stamp ∷ stamps) k d) ≡ false
has_none_after key stamp stamps d place h zero above within = absurd (omega arith)
has_none_after key stamp stamps d place h (suc k) above within = h k (omega arith) (omega arith)

none_in_more : (key : Key) (stamp : Stamp) (stamps : List Stamp) (d : Stamp) (b : Bool) → b ≡ has_key key stamp → HasNone key stamps d → HasNone key (stamp ∷ stamps) d ⊎ IsLastOf key (stamp ∷ stamps) d
none_in_more key stamp stamps d true is h = inr (record {
  place = 0;
  within = omega arith;
  last = rw (← is) (ap (λ (rest : List Stamp). last_of (stamp ∷ rest)) h.0);
  has = sym is;
  later = has_none_behind key stamp stamps d h.1;
})
none_in_more key stamp stamps d false is h = inl (rw (← is) h.0, has_none_of_all key stamp stamps d (sym is) h.1)

last_or_none : (key : Key) (stamps : List Stamp) (d : Stamp) → HasNone key stamps d ⊎ IsLastOf key stamps d
last_or_none key [] d = inl (refl, λ k within. absurd (omega arith))
last_or_none key (stamp ∷ stamps) d = elim (last_or_none key stamps d) [
  | inl none ↦ none_in_more key stamp stamps d (has_key key stamp) refl none
  | inr l ↦ inr (record {
    place = suc l.place;
    within = omega (arith, l.within);
    last = last_in_more (has_key key stamp) stamp (of_key key stamps) _ l.last;
    has = l.has;
    later = has_none_after key stamp stamps d l.place l.later;
  })
]

-- the answer to a request of this number is a span old
abbrev IsOver : Book → ℕ → ℕ → Type 0
IsOver book number now = (answer : AnswerKept) × (answer_to number book.answered ≡ Some answer) × (answer.moment + book.setup.limits.span ≤ now)

over_by_test : (book : Book) (number now : ℕ) (answer : AnswerKept) (b : Bool) → b ≡ nat_lt now (answer.moment + book.setup.limits.span) → cond b (again number answer.reply.response) fresh ≡ fresh → answer.moment + book.setup.limits.span ≤ now
over_by_test book number now answer true is h = cc
over_by_test book number now answer false is h = elim (leb_tells (suc now) (answer.moment + book.setup.limits.span)) [
  | inl before ↦ cc
  | inr behind ↦ omega (arith, behind.1)
]

over_by_answer : (book : Book) (number now : ℕ) (answer : Option AnswerKept) → answer ≡ answer_to number book.answered → repeats_answered book now number answer ≡ fresh → IsOver book number now
over_by_answer book number now None is h = cc
over_by_answer book number now (Some answer) is h = (answer, sym is, over_by_test book number now answer _ refl h)

over_if_fresh : (book : Book) (key : Key) (now : ℕ) (last : Stamp) → last_of (of_key key book.accepted) ≡ Some last → repeats book key now ≡ fresh → IsOver book last.number now
unfolding repeats
over_if_fresh book key now last is h =
    let here : repeats_last book now (Some last) ≡ fresh = ap (λ l. repeats_last book now l) (sym is) ∙ h in
    over_by_answer book last.number now _ refl here

module _ (book : Book) (lawful : IsLawful book) (now : ℕ) (later : book.last ≤ now) (stamp : Stamp) (moment : stamp.moment ≡ now) (new : repeats book (key_of stamp) now ≡ fresh) where
  -- the last one of the key is this one, or comes after it
  over_by_last : (k : ℕ) (d : Stamp) → k < length book.accepted → key_of (get_or book.accepted k d) ≡ key_of stamp → IsLastOf (key_of stamp) book.accepted d → IsOver book (get_or book.accepted k d).number now
  over_by_last k d within same l = elim (leb_tells (suc k) l.place) [
    | inl before ↦
        let last_same : key_of (get_or book.accepted k d) ≡ key_of (get_or book.accepted l.place d) = same ∙ sym (same_key _ _ l.has) in
        let answer : (answer : AnswerKept) × (answer_to (get_or book.accepted k d).number book.answered ≡ Some answer) × (answer.moment + book.setup.limits.span ≤ (get_or book.accepted l.place d).moment) = lawful.no_repeat k l.place d (omega (arith, before.1)) l.within last_same in
        let passed : (get_or book.accepted l.place d).moment ≤ book.last = All-get_or (λ s. s.moment ≤ book.last) book.accepted l.place d l.within lawful.passed in
        (answer.0, answer.1, omega (arith, answer.2, passed))
    | inr not_before ↦ elim (leb_tells (suc l.place) k) [
      | inl after ↦ let without = l.later k (omega (arith, after.1)) within in let having : has_key (key_of stamp) (get_or book.accepted k d) ≡ true = ap (λ key. is_eq (key_cmp key (key_of stamp))) same ∙ ties_itself (key_of stamp) in cc
      | inr not_after ↦
          let here : k ≡ l.place = omega (arith, not_before.1, not_after.1) in
          rw here (over_if_fresh book (key_of stamp) now (get_or book.accepted l.place d) l.last new)
    ]
  ]

  pub unrepeated : (k : ℕ) (d : Stamp) → k < length book.accepted → NoRepeatWithinSpan book (get_or book.accepted k d) stamp
  unrepeated k d within same = elim (last_or_none (key_of stamp) book.accepted d) [
    | inl none ↦ let without = none.1 k within in let having : has_key (key_of stamp) (get_or book.accepted k d) ≡ true = ap (λ key. is_eq (key_cmp key (key_of stamp))) same ∙ ties_itself (key_of stamp) in cc
    | inr l ↦ rw moment (over_by_last k d within same l)
  ]
