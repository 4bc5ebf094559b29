-- What a chain of blocks is after a step at one of its ends. Proofs of the crate above cite this.
use Rattle.std.proofs.Common.{◌≡◌, ℕ, zero, suc, ◌+◌, ◌-◌, ◌^◌, ◌<◌, ◌≤◌, inl, inr, true, false, List, [], ◌∷◌, ◌++◌, Some, None, refl, sym, ap, ◌∙◌, subst, arith, length, get_or, drop, append-nil, append_assoc, length-append}
use Rattle.std.specs.Prelude.{Bool, Result, Ok, Err, OnOk, OnErr, Option, slice_get}
use Rattle.std.specs.Borrow.{Bor}
use Rattle.std.specs.Option.{option_copied}
use Rattle.std.specs.Map.Iter.{TakesFirst, deref}
use Rattle.raw_lists.specs.Queue.{Queue, oldest}
use Rattle.raw_lists.specs.Blocks.{fresh, items_of, left_in, room_of, pushed, has_none, begins_empty, AllHaveItems, IsChain, BeginsEmptied, IsLine, HasAtMostOneEmpty, IsSettled, IsGrown, IsQueue}

module _ {T : Type 0} where
  pub some_with_room : (bs : List (Queue T)) → 1 ≤ room_of bs → 0 < length bs
  unfolding room_of
  some_with_room [] room = absurd (omega arith)
  some_with_room (b ∷ bs) room = omega arith

  pub items_of_pushed : (bs : List (Queue T)) (item : T) → 0 < length bs → items_of (pushed bs item) ≡ items_of bs ++ item ∷ []
  unfolding items_of pushed
  items_of_pushed [] item some = absurd (omega arith)
  items_of_pushed (b ∷ []) item some = append-nil (b.items ++ item ∷ []) ∙ ap (λ l. l ++ item ∷ []) (sym (append-nil b.items))
  items_of_pushed (b ∷ c ∷ cs) item some = ap (λ l. b.items ++ l) (items_of_pushed (c ∷ cs) item (omega arith)) ∙ sym (append_assoc b.items (items_of (c ∷ cs)) (item ∷ []))

  pub room_of_pushed : (bs : List (Queue T)) (item : T) → room_of (pushed bs item) ≡ room_of bs - 1
  unfolding room_of pushed
  room_of_pushed [] item = refl
  room_of_pushed (b ∷ []) item = refl
  room_of_pushed (b ∷ c ∷ []) item = refl
  room_of_pushed (b ∷ c ∷ d ∷ ds) item = room_of_pushed (c ∷ d ∷ ds) item

  pub shape_pushed : (bs : List (Queue T)) (item : T) → IsChain bs → IsChain (pushed bs item)
  unfolding pushed IsChain
  shape_pushed [] item h = tt
  shape_pushed (b ∷ []) item h = inl (omega (arith, length-append b.items (item ∷ [])))
  shape_pushed (b ∷ c ∷ []) item h = (h.0, inl (omega (arith, length-append c.items (item ∷ []))))
  shape_pushed (b ∷ c ∷ d ∷ ds) item h = (h.0, shape_pushed (c ∷ d ∷ ds) item h.1)

  pub some_at_first : (items : List T) (item : T) → Some item ≡ oldest items → false ≡ has_none items
  unfolding has_none
  some_at_first [] item e = cc
  some_at_first (first ∷ items) item e = refl

  pub none_at_first : (items : List T) → None ≡ oldest items → true ≡ has_none items
  unfolding has_none
  none_at_first [] e = refl
  none_at_first (first ∷ items) e = cc

  pub none_is : (items : List T) → has_none items ≡ true → items ≡ []
  unfolding has_none
  none_is [] e = refl
  none_is (item ∷ items) e = cc

  pub some_is : (items : List T) → has_none items ≡ false → 0 < length items
  unfolding has_none
  some_is [] e = cc
  some_is (item ∷ items) e = omega arith

  pub begins : (bs : List (Queue T)) → begins_empty bs ≡ true → 0 < length bs
  unfolding begins_empty
  begins [] e = cc
  begins (b ∷ bs) e = omega arith

  oldest_append : (items more : List T) → 0 < length items → oldest items ≡ oldest (items ++ more)
  oldest_append [] more some = absurd (omega arith)
  oldest_append (item ∷ items) more some = refl

  pub oldest_first : (bs : List (Queue T)) (first : Queue T) → IsChain bs → 0 < length bs → first ≡ get_or bs 0 first → oldest first.items ≡ oldest (items_of bs)
  unfolding items_of IsChain
  oldest_first [] first h some f = absurd (omega arith)
  oldest_first (b ∷ []) first h some f = ap (λ q. oldest q.items) f ∙ ap oldest (sym (append-nil b.items))
  oldest_first (b ∷ c ∷ cs) first h some f = ap (λ q. oldest q.items) f ∙ oldest_append b.items (items_of (c ∷ cs)) h.0

  pub chained_rest : (bs : List (Queue T)) → IsChain bs → IsChain (drop 1 bs)
  unfolding IsChain
  chained_rest [] h = tt
  chained_rest (b ∷ []) h = tt
  chained_rest (b ∷ c ∷ cs) h = h.1

  pub all_have : (bs : List (Queue T)) → IsChain bs → room_of bs ≡ 0 → AllHaveItems bs
  unfolding room_of AllHaveItems IsChain
  all_have [] h none = tt
  all_have (b ∷ []) (inl some) none = (some, tt)
  all_have (b ∷ []) (inr room) none = absurd (omega arith)
  all_have (b ∷ c ∷ cs) h none = (h.0, all_have (c ∷ cs) h.1 none)

  pub have_chained : (bs : List (Queue T)) → AllHaveItems bs → IsChain bs
  unfolding AllHaveItems IsChain
  have_chained [] all = tt
  have_chained (b ∷ []) all = inl all.0
  have_chained (b ∷ c ∷ cs) all = (all.0, have_chained (c ∷ cs) all.1)

  pub pushed_have : (bs : List (Queue T)) (item : T) → AllHaveItems bs → AllHaveItems (pushed bs item)
  unfolding AllHaveItems pushed
  pushed_have [] item all = tt
  pushed_have (b ∷ []) item all = (omega (arith, length-append b.items (item ∷ [])), tt)
  pushed_have (b ∷ c ∷ cs) item all = (all.0, pushed_have (c ∷ cs) item all.1)

  pub chained : (bs cs : List (Queue T)) → AllHaveItems bs → IsChain cs → 0 < length cs → IsChain (bs ++ cs)
  unfolding AllHaveItems IsChain
  chained [] cs all h some = h
  chained (b ∷ []) [] all h some = absurd (omega arith)
  chained (b ∷ []) (c ∷ cs) all h some = (all.0, h)
  chained (b ∷ b' ∷ bs) cs all h some = (all.0, chained (b' ∷ bs) cs all.1 h some)

  pub items_of_joined : (bs cs : List (Queue T)) → items_of (bs ++ cs) ≡ items_of bs ++ items_of cs
  unfolding items_of
  items_of_joined [] cs = refl
  items_of_joined (b ∷ bs) cs = ap (λ l. b.items ++ l) (items_of_joined bs cs) ∙ sym (append_assoc b.items (items_of bs) (items_of cs))

  pub room_of_joined : (bs cs : List (Queue T)) → 0 < length cs → room_of (bs ++ cs) ≡ room_of cs
  unfolding room_of
  room_of_joined [] cs some = refl
  room_of_joined (b ∷ []) [] some = absurd (omega arith)
  room_of_joined (b ∷ []) (c ∷ cs) some = refl
  room_of_joined (b ∷ b' ∷ bs) cs some = room_of_joined (b' ∷ bs) cs some

  -- each block has an item or room
  few_blocks : (bs : List (Queue T)) → IsChain bs → length bs ≤ length (items_of bs) + room_of bs
  unfolding items_of room_of IsChain
  few_blocks [] h = omega arith
  few_blocks (b ∷ []) (inl some) = omega (arith, length-append b.items [])
  few_blocks (b ∷ []) (inr room) = omega arith
  few_blocks (b ∷ c ∷ cs) h = omega (arith, length-append b.items (items_of (c ∷ cs)), few_blocks (c ∷ cs) h.1, h.0)

  pub freed_first : (bs : List (Queue T)) → begins_empty bs ≡ true → 2 ≤ length bs → (items_of (drop 1 bs) ≡ items_of bs) × (room_of (drop 1 bs) ≡ room_of bs)
  unfolding items_of room_of begins_empty
  freed_first [] e two = absurd (omega arith)
  freed_first (b ∷ []) e two = absurd (omega arith)
  freed_first (b ∷ c ∷ cs) e two = (ap (λ l. l ++ items_of (c ∷ cs)) (sym (none_is b.items e)), refl)

  few_behind : (bs : List (Queue T)) → BeginsEmptied bs → length bs ≤ length (items_of bs) + room_of bs + 1
  few_behind [] e = let two = e.followed in absurd (omega arith)
  few_behind (b ∷ bs) e =
      let freed = freed_first (b ∷ bs) e.emptied e.followed in let n : length (items_of bs) ≡ length (items_of (b ∷ bs)) = ap length freed.0 in
      let m : room_of bs ≡ room_of (b ∷ bs) = freed.1 in let few = few_blocks bs (have_chained bs e.filled) in omega arith

  few_lined : (bs : List (Queue T)) → IsLine bs → length bs ≤ length (items_of bs) + room_of bs + 1
  few_lined bs (inl h) = let few = few_blocks bs h in omega arith
  few_lined bs (inr e) = few_behind bs e

  pub blocks_fit : (bs : List (Queue T)) → IsLine bs → length (items_of bs) + room_of bs + 1 < 2 ^ 64 → length bs < 2 ^ 64
  blocks_fit bs h fits = let few = few_lined bs h in omega arith

  emptied_pushed : (bs : List (Queue T)) (item : T) → BeginsEmptied bs → BeginsEmptied (pushed bs item)
  unfolding pushed begins_empty
  emptied_pushed [] item e = let two = e.followed in absurd (omega arith)
  emptied_pushed (b ∷ []) item e = let two = e.followed in absurd (omega arith)
  emptied_pushed (b ∷ c ∷ []) item e = record { emptied = e.emptied; followed = omega arith; filled = pushed_have (c ∷ []) item e.filled }
  emptied_pushed (b ∷ c ∷ d ∷ ds) item e = record { emptied = e.emptied; followed = omega arith; filled = pushed_have (c ∷ d ∷ ds) item e.filled }

  lined_pushed : (bs : List (Queue T)) (item : T) → IsLine bs → IsLine (pushed bs item)
  lined_pushed bs item (inl h) = inl (shape_pushed bs item h)
  lined_pushed bs item (inr e) = inr (emptied_pushed bs item e)

  pub held_pushed : (bs : List (Queue T)) (item : T) (spare : Bool) → HasAtMostOneEmpty bs spare → HasAtMostOneEmpty (pushed bs item) spare
  held_pushed bs item spare is = record { lined = lined_pushed bs item is.lined; alone = λ some. pushed_have bs item (is.alone some) }

  pub queue_new : (bs : List (Queue T)) → bs ≡ [] → IsQueue 0 bs × (items_of bs ≡ [])
  unfolding items_of room_of
  queue_new bs e = subst (λ (l : List (Queue T)). IsQueue 0 l × (items_of l ≡ [])) (sym e) (record { counted = refl; one_block = omega arith; fits = omega arith }, refl)

  pub queue_none : (count : ℕ) (bs : List (Queue T)) → IsQueue count bs → bs ≡ [] → count ≡ 0
  unfolding items_of
  queue_none count bs is e = is.counted ∙ ap (λ l. length (items_of l)) e

  pub none_chained : (bs : List (Queue T)) → bs ≡ [] → IsChain bs
  unfolding IsChain
  none_chained bs e = subst IsChain (sym e) tt

  pub last_room : (q : Queue T) → room_of (q ∷ []) ≡ q.room
  unfolding room_of
  last_room q = refl

  pub last_items : (q : Queue T) → q.items ≡ [] → items_of (q ∷ []) ≡ []
  unfolding items_of
  last_items q e = append-nil q.items ∙ e

  pub last_chained : (q : Queue T) → 0 < q.room → IsChain (q ∷ [])
  unfolding IsChain
  last_chained q room = inr room

  -- a block with room behind blocks that have none
  pub chain_grown : (bs new : List (Queue T)) (q : Queue T) → IsChain bs → room_of bs ≡ 0 → 0 < q.room → new ≡ bs ++ q ∷ [] → IsChain new
  chain_grown bs new q h full room e = subst IsChain (sym e) (chained bs (q ∷ []) (all_have bs h full) (last_chained q room) (omega arith))

  pub grown_is : (old new : List (Queue T)) → IsGrown old new → (items_of new ≡ items_of old) × (room_of new ≡ 32)
  grown_is old new (settled, same, e) = (
    ap items_of e ∙ items_of_joined settled (fresh ∷ []) ∙ ap (λ l. items_of settled ++ l) (last_items fresh refl) ∙ append-nil (items_of settled) ∙ same.items,
    ap room_of e ∙ room_of_joined settled (fresh ∷ []) (omega arith) ∙ last_room fresh,
  )

  pub queue_pushed : (count : ℕ) (bs new : List (Queue T)) (item : T) → IsQueue count bs → 1 ≤ room_of bs → new ≡ pushed bs item
      → IsQueue (count + 1) new × (items_of new ≡ items_of bs ++ item ∷ []) × (room_of bs ≡ room_of new + 1)
  queue_pushed count bs new item is room e =
      let items = ap items_of e ∙ items_of_pushed bs item (some_with_room bs room) in
      let less : room_of new ≡ room_of bs - 1 = ap room_of e ∙ room_of_pushed bs item in
      let n = is.counted in let fits = is.fits in let most = is.one_block in
      let more : count + 1 ≡ length (items_of new) = (omega (arith, length-append (items_of bs) (item ∷ []))) ∙ ap length (sym items) in
      (record { counted = more; one_block = omega arith; fits = omega arith }, items, omega arith)

  pub chain_begins : (bs : List (Queue T)) → IsChain (drop 1 bs) → begins_empty bs ≡ false → IsChain bs
  unfolding IsChain begins_empty
  chain_begins [] h e = tt
  chain_begins (b ∷ []) h e = inl (some_is b.items e)
  chain_begins (b ∷ c ∷ cs) h e = (some_is b.items e, h)

  pub queue_settled : (count : ℕ) (bs new : List (Queue T)) → IsQueue count bs → IsSettled bs new → IsQueue count new
  queue_settled count bs new is to =
      let most = is.one_block in let fits = is.fits in let same = to.room in
      record { counted = is.counted ∙ ap length (sym to.items); one_block = omega arith; fits = omega arith }

  queue_with_room : (count : ℕ) (bs new : List (Queue T)) → IsQueue count bs → count < 2 ^ 63 → items_of new ≡ items_of bs → room_of new ≡ 32 → IsQueue count new
  queue_with_room count bs new is few items room = record { counted = is.counted ∙ ap length (sym items); one_block = omega arith; fits = omega arith }

  -- the first block of a queue
  pub queue_begun : (count : ℕ) (bs new : List (Queue T)) → IsQueue count bs → bs ≡ [] → new ≡ fresh ∷ [] → IsQueue count new × (items_of new ≡ items_of bs) × (1 ≤ room_of new)
  unfolding items_of room_of
  queue_begun count bs new is none e =
      let n = queue_none count bs is none in let items = ap items_of e ∙ ap items_of (sym none) in let room : room_of new ≡ 32 = ap room_of e in
      (queue_with_room count bs new is (omega arith) items room, items, omega arith)

  pub queue_grown : {A E : Type 0} (r : Result A E) (count : ℕ) (bs new : List (Queue T)) → IsQueue count bs → count < 2 ^ 63
      → OnOk r (IsGrown bs new) → OnErr r (IsSettled bs new) → IsQueue count new × (items_of new ≡ items_of bs) × OnOk r (1 ≤ room_of new)
  queue_grown (Ok a) count bs new is few grown same =
      let to = grown_is bs new grown in let room = to.1 in (queue_with_room count bs new is few to.0 room, to.0, omega arith)
  queue_grown (Err e) count bs new is few grown same = (queue_settled count bs new is same, same.items, tt)

  drop_at : (items : List T) (index : ℕ) (x : T) → Some x ≡ slice_get items index → drop index items ≡ x ∷ drop (index + 1) items
  drop_at [] index x e = cc
  drop_at (item ∷ items) zero x e = let same : x ≡ item = cc in ap (λ y. y ∷ items) (sym same)
  drop_at (item ∷ items) (suc index) x e =
      let next : suc (index + 1) ≡ suc index + 1 = omega arith in drop_at items index x e ∙ ap (λ n. x ∷ drop n (item ∷ items)) next

  drop_none : (items : List T) (index : ℕ) → None ≡ slice_get items index → drop index items ≡ []
  drop_none [] zero e = refl
  drop_none [] (suc index) e = refl
  drop_none (item ∷ items) zero e = cc
  drop_none (item ∷ items) (suc index) e = drop_none items index e

  pub taken_here : (block : Option (Bor (Queue T))) (index : ℕ) (x : T) (rest : List T) → Some x ≡ slice_get (left_in block 0) index → left_in block index ++ rest ≡ x ∷ left_in block (index + 1) ++ rest
  taken_here None index x rest e = cc
  taken_here (Some b) index x rest e = ap (λ l. l ++ rest) (drop_at b.now.items index x e)

  pub none_here : (block : Option (Bor (Queue T))) (index : ℕ) → None ≡ slice_get (left_in block 0) index → left_in block index ≡ []
  none_here None index e = refl
  none_here (Some b) index e = drop_none b.now.items index e

  pub none_left : (block : Option (Bor (Queue T))) (index : ℕ) (bs : List (Queue T)) → None ≡ slice_get (left_in block 0) index → bs ≡ [] → left_in block index ++ items_of bs ≡ []
  unfolding items_of
  none_left block index bs e f = ap (λ l. l ++ items_of bs) (none_here block index e) ∙ ap items_of f

  pub next_chained : (bs : List (Queue T)) (b : Queue T) (cs : List (Queue T)) → IsChain bs → bs ≡ b ∷ cs → IsChain cs
  unfolding IsChain
  next_chained bs b [] h e = tt
  next_chained bs b (c ∷ cs) h e = (subst IsChain e h).1

  none_oldest_is : (items : List T) → None ≡ oldest items → items ≡ []
  none_oldest_is [] e = refl
  none_oldest_is (item ∷ items) e = cc

  some_oldest_is : (items : List T) (x : T) → Some x ≡ oldest items → items ≡ x ∷ drop 1 items
  some_oldest_is [] x e = cc
  some_oldest_is (item ∷ items) x e = let same : item ≡ x = cc in ap (λ y. y ∷ items) same

  last_alone : (b : Queue T) (cs : List (Queue T)) → IsChain (b ∷ cs) → length b.items ≡ 0 → cs ≡ []
  unfolding IsChain
  last_alone b [] h none = refl
  last_alone b (c ∷ cs) h none = let some = h.0 in absurd (omega arith)

  pub next_shown : (bs : List (Queue T)) (b : Bor (Queue T)) (cs : List (Queue T)) (r : Option (Bor T)) → IsChain bs → bs ≡ b.now ∷ cs → option_copied r ≡ oldest b.now.items
      → TakesFirst deref (items_of bs) r (left_in (Some b) 1 ++ items_of cs)
  unfolding items_of
  next_shown bs b cs None h e f =
      let none = none_oldest_is b.now.items f in let alone = last_alone b.now cs (subst IsChain e h) (ap length none) in
      (ap items_of e ∙ (λ i. none i ++ items_of (alone i)), (λ i. drop 1 (none i) ++ items_of (alone i)))
  next_shown bs b cs (Some x) h e f = ap items_of e ∙ ap (λ l. l ++ items_of cs) (some_oldest_is b.now.items x.now f)
