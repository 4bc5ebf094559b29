-- The fields of a lane as an answer is kept.
use Rattle.std.proofs.Common.{◌≡◌, ℕ, ◌+◌, ◌-◌, ◌<◌, ◌≤◌, List, [], ◌∷◌, ◌++◌, length, set, Option, Some, sym, ap, ◌∙◌, subst, arith, Fits, w64}
use Rattle.std.specs.FinMap as map
use Rattle.rad_tables.specs.declared.slots.Slot.{Slot}
use Rattle.rad_tables.specs.Keys.{key_cmp}
use Rattle.rad_tables.specs.Pairs.{Table}
use Rattle.rad_lane.specs.declared.answered.AnswerIndex.{AnswerIndex}
use Rattle.rad_lane.specs.declared.stamp.Stamp.{Stamp}
use Rattle.rad_lane.specs.declared.entry.Entry.{Entry}
use Rattle.rad_lane.specs.declared.watch.Watch.{Watch}
use Rattle.rad_lane.specs.Stamp.{Kept}
use Rattle.rad_lane.specs.Setup.{LaneSetup}
use Rattle.rad_lane.specs.Outstanding.{AnswerKept}
use Rattle.rad_lane.specs.Book.{Book}
use Rattle.rad_lane.specs.Hears.{with_answer}
use Rattle.rad_lane.specs.internal.Invariant.{IsConsistent, book_of}
use Rattle.rad_lane.specs.internal.KeepAnswer.{AnswersSending}
use Rattle.rad_lane.proofs.LawfulAfterAnswer.{number_since, number_within, stands_answered, served_within, one_less}

module _ (setup : LaneSetup) (opening : ℕ) (accepted : List Stamp) (kept : List Kept) (answered : List AnswerKept) (served : ℕ) (slots : Table Entry) (drain : Option ℕ) (watch : Watch) (last : ℕ) where
  abbrev before : Book
  before = book_of setup opening accepted kept answered served slots drain watch last

  module _ (value : Book) (same : before ≡ value) (ports : ℕ) (numbers : map.FinMap key_cmp ℕ) (cells : List (Option AnswerIndex)) (count : ℕ) (s : IsConsistent before kept ports numbers cells count) where
    -- the list of answers as it is read again
    module _ (room : List AnswerKept) (is_room : room ≡ answered) where
      same_book : book_of setup opening accepted kept room served slots drain watch last ≡ before
      same_book = ap (λ (xs : List AnswerKept). book_of setup opening accepted kept xs served slots drain watch last) is_room

      pub stands_unchanged : IsConsistent (book_of setup opening accepted kept room served slots drain watch last) kept ports numbers cells count
      stands_unchanged = subst (λ (b : Book). IsConsistent b kept ports numbers cells count) (sym same_book) s

      pub seen_unchanged : book_of setup opening accepted kept room served slots drain watch last ≡ value
      seen_unchanged = same_book ∙ same

    pub served_fits : Fits w64 (served + 1)
    served_fits = let few = served_within before s.lawful in let fits = s.numbers_fit in omega (arith, few, fits)

    module _ (now : ℕ) (slot : Slot) (answer : AnswerKept) (answers : AnswersSending value now slot answer) where
      answers_here : AnswersSending before now slot answer
      answers_here = subst (λ (b : Book). AnswersSending b now slot answer) (sym same) answers

      pub one_outstanding : 1 ≤ count
      one_outstanding =
          let less = one_less before s.lawful slot answers_here.entry answers_here.there in
          let counted = s.counted in
          omega (arith, less, counted)

      module _ (stamp : Stamp) (is : stamp ≡ answer.stamp) where
        number_is : stamp.number ≡ answers_here.entry.request.stamp.number
        number_is = ap (λ (t : Stamp). t.number) (is ∙ answers_here.keeps.stamp)

        pub since_the_opening : opening ≤ stamp.number
        since_the_opening = subst (λ n. opening ≤ n) (sym number_is) (number_since before s.lawful slot answers_here.entry answers_here.there)

        pub place_within : stamp.number - opening < length cells
        place_within =
            let within = number_within before s.lawful slot answers_here.entry answers_here.there in
            let cells_are = s.cells_are in
            let number = number_is in
            omega (arith, within, cells_are, number)

        module _ (later : value.last ≤ now) (all : List AnswerKept) (all_are : all ≡ answered ++ answer ∷ []) (left : Table Entry) (left_is : left ≡ record { ports = slots.ports; entries = map.remove slots.entries slot; allotted = slots.allotted }) where
          abbrev kept_book : Book
          kept_book = book_of setup opening accepted kept all (served + 1) left drain watch now

          kept_book_is : kept_book ≡ with_answer before now slot answer
          kept_book_is =
              ap (λ (xs : List AnswerKept). book_of setup opening accepted kept xs (served + 1) left drain watch now) all_are
              ∙ ap (λ (t : Table Entry). book_of setup opening accepted kept (answered ++ answer ∷ []) (served + 1) t drain watch now) left_is

          pub kept_seen : kept_book ≡ with_answer value now slot answer
          kept_seen = kept_book_is ∙ ap (λ (b : Book). with_answer b now slot answer) same

          pub stands_kept : (noted : List (Option AnswerIndex)) → noted ≡ set cells (stamp.number - opening) (Some (record { serial = served; moment = now })) → ports ≡ slots.ports → IsConsistent kept_book kept left.ports numbers noted (count - 1)
          stands_kept noted noted_is of_slots =
              let later_here : before.last ≤ now = subst (λ (b : Book). b.last ≤ now) (sym same) later in
              let ports_left : ports ≡ left.ports = of_slots ∙ ap (λ (t : Table Entry). t.ports) (sym left_is) in
              let cells_left = noted_is ∙ ap (λ n. set cells (n - opening) (Some (record { serial = served; moment = now }))) number_is in
              subst (λ (b : Book). IsConsistent b kept left.ports numbers noted (count - 1)) (sym kept_book_is)
              (subst (λ n. IsConsistent (with_answer before now slot answer) kept n numbers noted (count - 1)) ports_left
              (subst (λ (xs : List (Option AnswerIndex)). IsConsistent (with_answer before now slot answer) kept ports numbers xs (count - 1)) (sym cells_left)
              (stands_answered before s.lawful slot answers_here.entry answers_here.there now later_here _ answer answers_here.keeps cells s.cells_are s.indices kept ports numbers count s)))
