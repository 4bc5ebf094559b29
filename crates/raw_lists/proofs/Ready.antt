-- What makes a list of blocks ready for a pop, and what that pop leaves.
use Rattle.std.proofs.Common.{◌≡◌, ◌<◌, ◌≤◌, ◌⊎◌, inl, inr, true, List, [], ◌∷◌, ◌++◌, refl, sym, ap, ◌∙◌, subst, arith, length, drop, length-append}
use Rattle.raw_lists.specs.Queue.{Queue}
use Rattle.raw_lists.specs.Blocks.{fresh, items_of, first_items, first_count, room_of, pushed, ends_empty, AllHaveItems, IsChain, IsPopped, IsFirstPopped, IsSettled, IsReady}
use Rattle.raw_lists.proofs.Blocks.{none_is, chained_rest}
use Rattle.raw_lists.proofs.Ends.{at_first, first_popped, no_items, items_behind, room_behind}

module _ {T : Type 0} where
  -- an empty last block stands apart from a first one that has items
  pub ends_apart : (bs : List (Queue T)) → ends_empty bs ≡ true → 0 < first_count bs → 2 ≤ length bs
  unfolding ends_empty first_items
  ends_apart [] none some = absurd (omega arith)
  ends_apart (b ∷ []) none some = let n = ap length (none_is b.items none) in absurd (omega arith)
  ends_apart (b ∷ c ∷ cs) none some = omega arith

  ends_behind : (b : Queue T) (bs : List (Queue T)) → 0 < length bs → ends_empty (b ∷ bs) ≡ true → ends_empty bs ≡ true
  unfolding ends_empty
  ends_behind b [] some none = absurd (omega arith)
  ends_behind b (c ∷ cs) some none = none

  -- what stands behind the first block
  pub rest_ends : (bs rest : List (Queue T)) (first : Queue T) → bs ≡ first ∷ rest → 2 ≤ length bs → ends_empty bs ≡ true → ends_empty rest ≡ true
  rest_ends bs rest first e two none = let n = ap length e in ends_behind first rest (omega arith) (subst (λ l. ends_empty l ≡ true) e none)

  pub rest_chained : (bs rest : List (Queue T)) (first : Queue T) → bs ≡ first ∷ rest → IsChain bs → IsChain rest
  rest_chained bs rest first e h = subst IsChain (ap (drop 1) e) (chained_rest bs h)

  pub rest_some : (bs rest : List (Queue T)) (first : Queue T) → bs ≡ first ∷ rest → 2 ≤ length bs → 0 < length rest
  rest_some bs rest first e two = let n = ap length e in omega arith

  -- the only item is taken out of a block
  pub sole_popped : (q left : Queue T) (item : T) → IsPopped q item left → length q.items ≡ 1 → (left ≡ fresh) × (q.items ≡ item ∷ [])
  sole_popped q left item is one =
      let n = ap length is.items in let none : left.items ≡ [] = no_items left.items (omega arith) in let only = is.items ∙ ap (λ l. item ∷ l) none in
      elim is.room [
        | inl stays ↦ let some = stays.0 in absurd (omega arith)
        | inr new ↦ (new, only)
      ]

  chain_on : (b : Queue T) (bs : List (Queue T)) → 0 < length b.items → IsChain bs → IsChain (b ∷ bs)
  unfolding IsChain
  chain_on b [] some h = inl some
  chain_on b (c ∷ cs) some h = (some, h)

  -- a chain behind a first block with items
  pub chained_first : (bs : List (Queue T)) → IsChain (drop 1 bs) → 0 < first_count bs → IsChain bs
  unfolding first_items
  chained_first [] h some = absurd (omega arith)
  chained_first (b ∷ bs) h some = chain_on b bs some h

  -- a sole block without items has room
  pub sole_room : (bs : List (Queue T)) → IsChain bs → 0 < length bs → first_count bs ≡ 0 → 1 ≤ room_of bs
  unfolding IsChain first_items room_of
  sole_room [] h some none = absurd (omega arith)
  sole_room (b ∷ []) (inl has) some none = absurd (omega arith)
  sole_room (b ∷ []) (inr room) some none = omega arith
  sole_room (b ∷ c ∷ cs) h some none = let has = h.0 in absurd (omega arith)

  -- the only item of the first block goes into the only block behind it
  pub moved_behind : (bs rest : List (Queue T)) (first : Queue T) (item : T) → bs ≡ first ∷ rest → first.items ≡ item ∷ [] → IsChain rest → 0 < length rest → first_count rest ≡ 0 → IsReady bs (pushed rest item)
  unfolding IsChain AllHaveItems first_items items_of pushed
  moved_behind bs [] first item e is h some none = absurd (omega arith)
  moved_behind bs (q ∷ []) first item e is h some none =
      let empty : q.items ≡ [] = no_items q.items none in let n = ap length empty in let m = length-append q.items (item ∷ []) in
      record {
        chained = inl (omega arith);
        items = ap (λ l. (l ++ item ∷ []) ++ []) empty ∙ sym (ap items_of e ∙ (λ i. is i ++ (empty i ++ [])));
        more = inr (omega arith, tt);
        room = inr (refl, omega arith);
      }
  moved_behind bs (q ∷ r ∷ rs) first item e is h some none = let has = h.0 in absurd (omega arith)

  pub popped_items : (bs new : List (Queue T)) (item : T) → IsFirstPopped bs item new → items_of bs ≡ item ∷ items_of new
  popped_items bs new item (first, left, rest, e, f, popped) = ap items_of e ∙ first_popped first left rest item popped.items ∙ ap (λ l. item ∷ items_of l) (sym f)

  pub popped_room : (bs new : List (Queue T)) (item : T) → IsFirstPopped bs item new → 2 ≤ length bs → room_of new ≡ room_of bs
  popped_room bs new item (first, left, rest, e, f, popped) two =
      let n = ap length e in ap room_of f ∙ sym (room_behind left rest (omega arith)) ∙ room_behind first rest (omega arith) ∙ ap room_of (sym e)

  pub popped_length : (bs new : List (Queue T)) (item : T) → IsFirstPopped bs item new → length new ≡ length bs
  popped_length bs new item (first, left, rest, e, f, popped) = ap length f ∙ ap length (sym e)

  pub popped_chained : (bs new : List (Queue T)) (item : T) → IsFirstPopped bs item new → IsChain bs → IsChain (drop 1 new)
  popped_chained bs new item (first, left, rest, e, f, popped) h = subst IsChain (ap (drop 1) e ∙ sym (ap (drop 1) f)) (chained_rest bs h)

  -- the only item of the first block and the next one are put into one block in front of the others
  pub joined_next : (bs rest popped freed : List (Queue T)) (first put : Queue T) (item next : T) → bs ≡ first ∷ rest → first.items ≡ item ∷ [] → IsFirstPopped rest next popped → 2 ≤ length rest → IsSettled popped freed → 0 < length freed
      → put.items ≡ item ∷ next ∷ [] → IsReady bs (put ∷ freed)
  unfolding items_of first_items
  joined_next bs rest popped freed first put item next e is out two same some has =
      let n = ap length has in
      record {
        chained = chain_on put freed (omega arith) same.chained;
        items = ap (λ l. l ++ items_of freed) has ∙ ap (λ l. item ∷ next ∷ l) same.items ∙ ap (λ l. item ∷ l) (sym (popped_items rest popped next out)) ∙ sym (ap items_of e ∙ ap (λ l. l ++ items_of rest) is);
        more = inl (omega arith);
        room = inl (sym (room_behind put freed some) ∙ same.room ∙ popped_room rest popped next out two ∙ room_behind first rest (omega arith) ∙ ap room_of (sym e));
      }

  -- the first block has no item, and is taken away
  pub freed_emptied : (bs rest : List (Queue T)) (first : Queue T) → bs ≡ first ∷ rest → IsChain (drop 1 bs) → 2 ≤ length bs → first_count bs ≡ 0 → (first.items ≡ []) × IsSettled bs rest × (0 < length rest)
  freed_emptied bs rest first e h two none =
      let n = ap length e in let m = ap length (at_first bs rest first e) in let empty : first.items ≡ [] = no_items first.items (omega arith) in (
        empty,
        record {
          chained = subst IsChain (ap (drop 1) e) h;
          items = sym (items_behind first rest empty) ∙ ap items_of (sym e);
          room = room_behind first rest (omega arith) ∙ ap room_of (sym e);
        },
        omega arith,
      )

  pub ready_same : (bs : List (Queue T)) → IsChain bs → (2 ≤ first_count bs) ⊎ AllHaveItems bs → IsReady bs bs
  ready_same bs h more = record { chained = h; items = refl; more = more; room = inl refl }

  pub ready_settled : (old bs : List (Queue T)) → IsSettled old bs → (2 ≤ first_count bs) ⊎ AllHaveItems bs → IsReady old bs
  ready_settled old bs s more = record { chained = s.chained; items = s.items; more = more; room = inl s.room }

  pub ready_behind : (old bs new : List (Queue T)) → IsSettled old bs → IsReady bs new → IsReady old new
  ready_behind old bs new s r =
      record {
        chained = r.chained;
        items = r.items ∙ s.items;
        more = r.more;
        room = elim r.room [
          | inl same ↦ inl (same ∙ s.room)
          | inr lone ↦ inr lone
        ];
      }

  lone_left : (bs new : List (Queue T)) (item : T) → IsFirstPopped bs item new → length bs ≡ 1 → first_count bs ≡ 1 → (items_of new ≡ []) × (room_of new ≡ 32)
  unfolding items_of room_of
  lone_left bs new item (first, left, [], e, f, popped) one few =
      let n = ap length (at_first bs [] first e) in let is = (sole_popped first left item popped (omega arith)).0 in
      (ap items_of f ∙ ap (λ q. q.items ++ []) is, ap room_of f ∙ ap (λ q. q.room) is)
  lone_left bs new item (first, left, c ∷ cs, e, f, popped) one few = let n = ap length e in absurd (omega arith)

  -- the room that a pop leaves
  pub ready_room : (old bs new : List (Queue T)) (item : T) → IsReady old bs → IsFirstPopped bs item new → (room_of new ≡ room_of bs) ⊎ ((items_of new ≡ []) × (room_of new ≡ 32)) → (room_of new ≡ room_of old) ⊎ ((items_of new ≡ []) × (room_of new ≡ 32))
  ready_room old bs new item r out (inr is) = inr is
  ready_room old bs new item r out (inl left) = elim r.room [
    | inl same ↦ inl (left ∙ same)
    | inr lone ↦ inr (lone_left bs new item out lone.0 lone.1)
  ]
