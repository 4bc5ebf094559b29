-- A list of blocks whose first or last one is at hand. Proofs of the crate above cite this.
use Rattle.std.proofs.Common.{◌≡◌, ◌-◌, ◌<◌, ◌≤◌, ◌⊎◌, inl, inr, true, false, List, [], ◌∷◌, ◌++◌, None, refl, sym, ap, ◌∙◌, subst, arith, length, get_or, drop, append-nil}
use Rattle.std.specs.Prelude.{Bool, Option, Some}
use Rattle.std.specs.Borrow.{Bor}
use Rattle.std.specs.Map.Iter.{TakesFirst, deref}
use Rattle.raw_lists.specs.Queue.{Queue, oldest}
use Rattle.raw_lists.specs.Blocks.{fresh, items_of, first_items, first_count, room_of, pushed, has_none, begins_empty, ends_empty, AllHaveItems, IsChain, BeginsEmptied, IsLine, HasAtMostOneEmpty, EndsWith, IsFirstPopped, IsSettled, IsJoined}
use Rattle.raw_lists.proofs.Blocks.{none_is, some_is, have_chained, chain_begins, oldest_first, items_of_joined, room_of_joined, chained, last_room, last_items, last_chained, freed_first}

module _ {T : Type 0} where
  pub room_at_end : (front : List (Queue T)) (q : Queue T) → room_of (front ++ q ∷ []) ≡ q.room
  room_at_end front q = room_of_joined front (q ∷ []) (omega arith) ∙ last_room q

  pub pushed_at_end : (front : List (Queue T)) (q : Queue T) (item : T) → pushed (front ++ q ∷ []) item ≡ front ++ record { items = q.items ++ item ∷ []; room = q.room - 1 } ∷ []
  unfolding pushed
  pushed_at_end [] q item = refl
  pushed_at_end (b ∷ []) q item = refl
  pushed_at_end (b ∷ c ∷ bs) q item = ap (λ l. b ∷ l) (pushed_at_end (c ∷ bs) q item)

  pub first_filled : (b : Queue T) (bs : List (Queue T)) → IsChain (b ∷ bs) → 0 < length (items_of (b ∷ bs)) → 0 < length b.items
  unfolding IsChain items_of
  first_filled b [] h some = subst (λ l. 0 < length l) (append-nil b.items) some
  first_filled b (c ∷ cs) h some = h.0

  pub first_popped : (b left : Queue T) (bs : List (Queue T)) (item : T) → b.items ≡ item ∷ left.items → items_of (b ∷ bs) ≡ item ∷ items_of (left ∷ bs)
  unfolding items_of
  first_popped b left bs item e = ap (λ l. l ++ items_of bs) e

  pub room_popped : (b left : Queue T) (bs : List (Queue T)) → left.room ≡ b.room → room_of (left ∷ bs) ≡ room_of (b ∷ bs)
  unfolding room_of
  room_popped b left [] e = e
  room_popped b left (c ∷ cs) e = refl

  pub none_have : (bs : List (Queue T)) → bs ≡ [] → AllHaveItems bs
  unfolding AllHaveItems
  none_have [] e = tt
  none_have (b ∷ bs) e = cc

  -- with no block to spare
  pub held_alone : (bs : List (Queue T)) → IsLine bs → HasAtMostOneEmpty bs false
  held_alone bs h = record { lined = h; alone = λ some. absurd (cc) }

  pub held_new : (bs : List (Queue T)) (q : Queue T) → bs ≡ q ∷ [] → q ≡ fresh → HasAtMostOneEmpty bs false
  held_new bs q e is = held_alone bs (inl (subst IsChain (sym e) (last_chained q (subst (λ (b : Queue T). 0 < b.room) (sym is) (omega arith)))))

  front_has : (front : List (Queue T)) (q : Queue T) → IsChain (front ++ q ∷ []) → AllHaveItems front
  unfolding IsChain AllHaveItems
  front_has [] q h = tt
  front_has (b ∷ []) q h = (h.0, tt)
  front_has (b ∷ c ∷ cs) q h = (h.0, front_has (c ∷ cs) q h.1)

  all_with : (front : List (Queue T)) (q : Queue T) → AllHaveItems front → 0 < length q.items → AllHaveItems (front ++ q ∷ [])
  unfolding AllHaveItems
  all_with [] q all some = (some, tt)
  all_with (b ∷ bs) q all some = (all.0, all_with bs q all.1 some)

  -- the last block has no item, and is left out
  pub without_last : (front bs : List (Queue T)) (q : Queue T) → front ++ q ∷ [] ≡ bs → IsChain bs → has_none q.items ≡ true → AllHaveItems front × (items_of front ≡ items_of bs) × (q.items ≡ [])
  without_last front bs q e h none =
      let empty = none_is q.items none in
      (front_has front q (subst IsChain (sym e) h), sym (append-nil (items_of front)) ∙ ap (λ l. items_of front ++ l) (sym (last_items q empty)) ∙ sym (items_of_joined front (q ∷ [])) ∙ ap items_of e, empty)

  -- the last block has an item
  pub with_last : (front bs : List (Queue T)) (q : Queue T) → front ++ q ∷ [] ≡ bs → IsChain bs → has_none q.items ≡ false → AllHaveItems (front ++ q ∷ [])
  with_last front bs q e h some = all_with front q (front_has front q (subst IsChain (sym e) h)) (some_is q.items some)

  pub oldest_at_first : (bs rest : List (Queue T)) (first : Queue T) → bs ≡ first ∷ rest → IsChain bs → oldest first.items ≡ oldest (items_of bs)
  oldest_at_first bs rest first e h = let n : length bs ≡ length (first ∷ rest) = ap length e in oldest_first bs first h (omega arith) (sym (ap (λ l. get_or l 0 first) e))

  pub begins_at_first : (bs rest : List (Queue T)) (first : Queue T) → bs ≡ first ∷ rest → has_none first.items ≡ begins_empty bs
  unfolding begins_empty
  begins_at_first bs rest first e = ap begins_empty (sym e)

  pub without_first : (bs rest : List (Queue T)) (first : Queue T) → bs ≡ first ∷ rest → begins_empty bs ≡ true → 2 ≤ length bs → (items_of rest ≡ items_of bs) × (room_of rest ≡ room_of bs) × (first.items ≡ [])
  without_first bs rest first e none two =
      let same : drop 1 bs ≡ rest = ap (drop 1) e in let freed = freed_first bs none two in
      (ap items_of (sym same) ∙ freed.0, ap room_of (sym same) ∙ freed.1, none_is first.items (begins_at_first bs rest first e ∙ none))

  pub no_room : (bs : List (Queue T)) → bs ≡ [] → 0 ≡ room_of bs
  unfolding room_of
  no_room bs e = ap room_of (sym e)

  pub no_oldest : (bs : List (Queue T)) → bs ≡ [] → None ≡ oldest (items_of bs)
  unfolding items_of
  no_oldest bs e = ap (λ l. oldest (items_of l)) (sym e)

  pub linked_both : (bs cs front new : List (Queue T)) → AllHaveItems front → items_of front ≡ items_of bs → IsChain cs → 0 < length cs → new ≡ front ++ cs → IsJoined bs cs new
  linked_both bs cs front new all same h some e =
      record {
        chained = subst IsChain (sym e) (chained front cs all h some);
        items = ap items_of e ∙ items_of_joined front cs ∙ ap (λ l. l ++ items_of cs) same;
        room = inr (ap room_of e ∙ room_of_joined front cs some);
      }

  pub linked_settled : (bs cs first second new : List (Queue T)) → IsSettled bs first → IsSettled cs second → IsJoined first second new → IsJoined bs cs new
  linked_settled bs cs first second new same also is =
      record {
        chained = is.chained;
        items = is.items ∙ (λ i. same.items i ++ also.items i);
        room = elim is.room [
          | inl r ↦ inl (r ∙ same.room)
          | inr r ↦ inr (r ∙ also.room)
        ];
      }

  pub linked_none : (bs cs new : List (Queue T)) → cs ≡ [] → IsSettled bs new → IsJoined bs cs new
  unfolding items_of
  linked_none bs cs new e same =
      record {
        chained = same.chained;
        items = same.items ∙ sym (append-nil (items_of bs)) ∙ ap (λ l. items_of bs ++ items_of l) (sym e);
        room = inl same.room;
      }

  pub none_linked : (bs cs new : List (Queue T)) → bs ≡ [] → IsSettled cs new → IsJoined bs cs new
  unfolding items_of
  none_linked bs cs new e same =
      record { chained = same.chained; items = same.items ∙ ap (λ l. items_of l ++ items_of cs) (sym e); room = inr same.room }

  pub none_both : (bs cs : List (Queue T)) → bs ≡ [] → cs ≡ [] → IsJoined bs cs []
  unfolding items_of IsChain
  none_both bs cs e f =
      record { chained = tt; items = (λ i. items_of (sym e i) ++ items_of (sym f i)); room = inl (ap room_of (sym e)) }

  pub at_first : (bs rest : List (Queue T)) (first : Queue T) → bs ≡ first ∷ rest → first.items ≡ first_items bs
  unfolding first_items
  at_first bs rest first e = ap first_items (sym e)

  pub no_first_items : (bs : List (Queue T)) → bs ≡ [] → [] ≡ first_items bs
  unfolding first_items
  no_first_items bs e = ap first_items (sym e)

  -- the first block has an item
  pub some_first : (bs : List (Queue T)) → IsChain bs → 0 < length (items_of bs) → 0 < first_count bs
  unfolding items_of first_items
  some_first [] h some = absurd (omega arith)
  some_first (b ∷ bs) h some = first_filled b bs h some

  first_chained : (b left : Queue T) (bs : List (Queue T)) → IsChain (b ∷ bs) → 0 < length left.items → IsChain (left ∷ bs)
  unfolding IsChain
  first_chained b left [] h some = inl some
  first_chained b left (c ∷ cs) h some = (some, h.1)

  first_have : (b left : Queue T) (bs : List (Queue T)) → AllHaveItems (b ∷ bs) → 0 < length left.items → AllHaveItems (left ∷ bs)
  unfolding AllHaveItems
  first_have b left bs all some = (some, all.1)

  have_rest : (b : Queue T) (bs : List (Queue T)) → AllHaveItems (b ∷ bs) → AllHaveItems bs
  unfolding AllHaveItems
  have_rest b bs all = all.1

  -- a first block that was emptied, alone or with others behind it
  emptied_left : (b left : Queue T) (bs : List (Queue T)) → AllHaveItems (b ∷ bs) → left ≡ fresh
      → IsLine (left ∷ bs) × ((room_of (left ∷ bs) ≡ room_of (b ∷ bs)) ⊎ ((items_of (left ∷ bs) ≡ []) × (room_of (left ∷ bs) ≡ 32)))
  unfolding IsChain room_of begins_empty has_none
  emptied_left b left [] all is = (inl (inr (subst (λ q. 0 < q.room) (sym is) (omega arith))), inr (last_items left (ap (λ q. q.items) is), ap (λ q. q.room) is))
  emptied_left b left (c ∷ cs) all is = (inr (record { emptied = ap (λ q. has_none q.items) is; followed = omega arith; filled = have_rest b (c ∷ cs) all }), inl refl)

  -- the first block had one item, where it begins again
  only_left : (bs rest : List (Queue T)) (first left : Queue T) (item : T) → bs ≡ first ∷ rest → first.items ≡ item ∷ left.items → left ≡ fresh → (2 ≤ first_count bs) ⊎ AllHaveItems bs → AllHaveItems bs
  only_left bs rest first left item e popped is (inl two) =
      let n = ap length (at_first bs rest first e) in let m = ap length popped in let k = ap (λ q. length q.items) is in absurd (omega arith)
  only_left bs rest first left item e popped is (inr all) = all

  -- what the first item leaves behind, where it is not the only one of its block or no block is without an item
  pub left_behind : (bs new : List (Queue T)) (item : T) → IsChain bs → (2 ≤ first_count bs) ⊎ AllHaveItems bs → IsFirstPopped bs item new
      → (items_of bs ≡ item ∷ items_of new) × IsLine new × ((room_of new ≡ room_of bs) ⊎ ((items_of new ≡ []) × (room_of new ≡ 32)))
  left_behind bs new item h more (first, left, rest, e, f, popped) =
      let items = ap items_of e ∙ first_popped first left rest item popped.items ∙ ap (λ l. item ∷ items_of l) (sym f) in
      elim popped.room [
        | inl stays ↦
            (items, inl (subst IsChain (sym f) (first_chained first left rest (subst IsChain e h) stays.0)), inl (ap room_of f ∙ room_popped first left rest stays.1 ∙ ap room_of (sym e)))
        | inr is ↦
            let behind = emptied_left first left rest (subst AllHaveItems e (only_left bs rest first left item e popped.items is more)) is in (
              items,
              subst IsLine (sym f) behind.0,
              subst (λ l. (room_of l ≡ room_of bs) ⊎ ((items_of l ≡ []) × (room_of l ≡ 32))) (sym f)
                  (subst (λ l. (room_of (left ∷ rest) ≡ room_of l) ⊎ ((items_of (left ∷ rest) ≡ []) × (room_of (left ∷ rest) ≡ 32))) (sym e) behind.1),
            )
      ]

  pub behind_have : (bs new : List (Queue T)) (item : T) → AllHaveItems bs → IsFirstPopped bs item new → 2 ≤ first_count bs → AllHaveItems new
  behind_have bs new item all (first, left, rest, e, f, popped) two =
      let n = ap length popped.items in let m = ap length (at_first bs rest first e) in
      subst AllHaveItems (sym f) (first_have first left rest (subst AllHaveItems e all) (omega arith))

  none_first : (bs : List (Queue T)) → begins_empty bs ≡ true → first_count bs ≡ 0
  unfolding begins_empty first_items
  none_first [] e = refl
  none_first (b ∷ bs) e = ap length (none_is b.items e)

  -- no block in front was emptied, where the first one has an item
  pub filled_chain : (bs : List (Queue T)) → IsLine bs → 2 ≤ first_count bs → IsChain bs
  filled_chain bs (inl h) two = h
  filled_chain bs (inr e) two = let none = none_first bs e.emptied in absurd (omega arith)

  pub chain_first : (bs : List (Queue T)) → IsChain bs → 2 ≤ length bs → 0 < first_count bs
  unfolding IsChain first_items
  chain_first [] h two = absurd (omega arith)
  chain_first (b ∷ []) h two = absurd (omega arith)
  chain_first (b ∷ c ∷ cs) h two = h.0

  pub no_items : (items : List T) → length items ≡ 0 → items ≡ []
  no_items [] e = refl
  no_items (item ∷ items) e = absurd (omega arith)

  pub items_behind : (b : Queue T) (bs : List (Queue T)) → b.items ≡ [] → items_of (b ∷ bs) ≡ items_of bs
  unfolding items_of
  items_behind b bs none = ap (λ l. l ++ items_of bs) none

  pub room_behind : (b : Queue T) (bs : List (Queue T)) → 1 ≤ length bs → room_of bs ≡ room_of (b ∷ bs)
  unfolding room_of
  room_behind b [] some = absurd (omega arith)
  room_behind b (c ∷ cs) some = refl

  pub settled_same : (bs : List (Queue T)) → IsChain bs → IsSettled bs bs
  settled_same bs h = record { chained = h; items = refl; room = refl }

  -- the emptied first block is taken away
  pub settled_without : (bs rest : List (Queue T)) (first : Queue T) → bs ≡ first ∷ rest → BeginsEmptied bs → IsSettled bs rest × (first.items ≡ [])
  settled_without bs rest first e is =
      let without = without_first bs rest first e is.emptied is.followed in let same : drop 1 bs ≡ rest = ap (drop 1) e in
      (record { chained = have_chained rest (subst AllHaveItems same is.filled); items = without.0; room = without.1 }, without.2)

  -- and is the one to spare then
  pub held_without : (bs rest : List (Queue T)) (first : Queue T) (spare : Bool) → bs ≡ first ∷ rest → BeginsEmptied bs → HasAtMostOneEmpty rest spare
  held_without bs rest first spare e is =
      let all = subst AllHaveItems (ap (drop 1) e) is.filled in record { lined = inl (have_chained rest all); alone = λ some. all }

  pub idle : (bs : List (Queue T)) → IsLine bs → begins_empty bs ≡ true → 2 ≤ length bs → BeginsEmptied bs
  idle bs (inl h) none two = let some = chain_first bs h two in let none : first_count bs ≡ 0 = none_first bs none in absurd (omega arith)
  idle bs (inr e) none two = e

  pub busy : (bs : List (Queue T)) → IsLine bs → begins_empty bs ≡ false → IsChain bs
  busy bs (inl h) some = h
  busy bs (inr e) some = chain_begins bs (have_chained (drop 1 bs) e.filled) some

  pub lone : (bs : List (Queue T)) → IsLine bs → length bs ≤ 1 → IsChain bs
  lone bs (inl h) one = h
  lone bs (inr e) one = let two = e.followed in absurd (omega arith)

  pub ends_room : (bs : List (Queue T)) (last : Queue T) → EndsWith bs last → last.room ≡ room_of bs
  ends_room bs last (front, e) = sym (room_at_end front last) ∙ ap room_of e

  pub ends_have : (bs : List (Queue T)) (last : Queue T) → EndsWith bs last → IsChain bs → has_none last.items ≡ false → AllHaveItems bs
  ends_have bs last (front, e) h some = subst AllHaveItems e (with_last front bs last e h some)

  ends_at : (front : List (Queue T)) (q : Queue T) → ends_empty (front ++ q ∷ []) ≡ has_none q.items
  unfolding ends_empty
  ends_at [] q = refl
  ends_at (b ∷ []) q = refl
  ends_at (b ∷ c ∷ bs) q = ends_at (c ∷ bs) q

  pub ends_none : (bs : List (Queue T)) (last : Queue T) → EndsWith bs last → has_none last.items ≡ ends_empty bs
  ends_none bs last (front, e) = sym (ends_at front last) ∙ ap ends_empty e

  pub no_end : (bs : List (Queue T)) → bs ≡ [] → false ≡ ends_empty bs
  unfolding ends_empty
  no_end bs e = ap ends_empty (sym e)

  pub after_taken : (bs new : List (Queue T)) (r : Option (Bor (Queue T))) → TakesFirst deref bs r new → new ≡ drop 1 bs
  after_taken bs new None e = e.1 ∙ ap (drop 1) (sym e.0)
  after_taken bs new (Some b) e = sym (ap (drop 1) e)

  -- the chain behind an emptied block
  pub passed_over : (bs rest : List (Queue T)) → BeginsEmptied bs → rest ≡ drop 1 bs → IsChain rest × (items_of rest ≡ items_of bs)
  passed_over bs rest is e = (have_chained rest (subst AllHaveItems (sym e) is.filled), ap items_of e ∙ (freed_first bs is.emptied is.followed).0)

  pub oldest_taken : (bs new : List (Queue T)) (b : Bor (Queue T)) → IsChain bs → TakesFirst deref bs (Some b) new → oldest b.now.items ≡ oldest (items_of bs)
  oldest_taken bs new b h e = oldest_at_first bs new b.now e h

  pub none_taken : (bs new : List (Queue T)) → TakesFirst deref bs None new → None ≡ oldest (items_of bs)
  none_taken bs new e = no_oldest bs e.0
