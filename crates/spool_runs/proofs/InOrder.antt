-- In which order requests came, and lanes accept them.
use Rattle.std.proofs.Common.{◌≡◌, ℕ, suc, ◌<◌, ◌≤◌, Bool, true, false, cond, eqb, List, [], ◌∷◌, ◌++◌, length, get_or, take, drop, Option, Some, refl, sym, ap, subst, ◌∙◌, inl, inr, arith, eqb-true}
use Rattle.std.specs.Prelude.{◌⊎◌, All, AllPairs}
use Rattle.std.specs.List.{Contains, filter}
use Rattle.std.proofs.lemmas.Bool.{cases_Bool, cases_lt}
use Rattle.std.proofs.lemmas.List.{append-nil, append_assoc}
use Rattle.std.proofs.lemmas.List.Elements.{All-contains, All-contains_itself, All-weaker, Contains-append_left, Contains-append_right, Contains-append_cases, filter-append}
use Rattle.std.proofs.lemmas.List.Kept.{AllPairs-cons, AllPairs-filter}
use Rattle.std.proofs.lemmas.List.Quantifiers.{all_pairs_push}
use Rattle.spool_files.specs.declared.entry.Head.TheVariants as heads
use Rattle.spool_files.specs.Entries.{Entry}
use Rattle.spool_files.specs.Counting.{is_request, key_of, open_of, open_before}
use Rattle.spool_files.proofs.CountLemmas.{kept_parts}
use Rattle.spool_runs.specs.World.{Setup, World, new_world, arrival_of, is_closing, is_lane, is_of, of_lane, has_lane}
use Rattle.spool_runs.specs.Happens.{Happening, Happens, Life, AreBelow, IsFirst, IsOffered, run_over, after_accepted, after_closed, after_start}
use Rattle.spool_runs.specs.Happens.Happening.{starts, takes, drops, accepts, closes, lets_go, syncs, fails, begins, writes_again, removes, ends, crashes}
use Rattle.spool_runs.specs.Laws.{AreAcceptedInOrder, CameBefore}
use Rattle.spool_runs.proofs.Among.{none_there, pushed, last_in, stands, with_one, in_middle, was_passed, of_first, of_rest, parted}
use Rattle.spool_runs.proofs.Counted.{counted_in, counted_stands, no_request}
use Rattle.spool_runs.proofs.Lives.{in_life}
use Rattle.spool_runs.proofs.Started.{once, was_open}

-- ---- one more came

came_more : (came : List Entry) (one other last : Entry) → CameBefore came one other → CameBefore (came ++ last ∷ []) one other
came_more came one other last (first, middle, rest, split) = (
  first,
  middle,
  rest ++ last ∷ [],
  ap (λ es. es ++ last ∷ []) split ∙ append_assoc first (one ∷ (middle ++ other ∷ rest)) (last ∷ []) ∙ ap (λ es. first ++ one ∷ es) (append_assoc middle (other ∷ rest) (last ∷ [])),
)

came_last : (came : List Entry) (one last : Entry) → Contains came one → CameBefore (came ++ last ∷ []) one last
came_last came one last there =
    let s = stands came one there in
    (s.before, s.after, [], ap (λ es. es ++ last ∷ []) s.split ∙ append_assoc s.before (one ∷ s.after) (last ∷ []))

-- ---- places of requests

-- the requests among these entries came in the order of their places, and each place is of one request
record Numbered (on came : List Entry) : Type 0 where
  same : (a b : Entry) → Contains on a → is_request a ≡ true → Contains on b → is_request b ≡ true → arrival_of a ≡ arrival_of b → a ≡ b
  ordered : (a b : Entry) → Contains on a → is_request a ≡ true → Contains on b → is_request b ≡ true → arrival_of a < arrival_of b → CameBefore came a b
  known : (a : Entry) → Contains on a → is_request a ≡ true → Contains came a

abbrev Within : List Entry → List Entry → Type 0
Within fewer on = (a : Entry) → Contains fewer a → is_request a ≡ true → Contains on a

fewer_numbered : (on fewer came : List Entry) → Within fewer on → Numbered on came → Numbered fewer came
fewer_numbered on fewer came of n = record {
  same = λ a b in_a is_a in_b is_b. n.same a b (of a in_a is_a) is_a (of b in_b is_b) is_b;
  ordered = λ a b in_a is_a in_b is_b. n.ordered a b (of a in_a is_a) is_a (of b in_b is_b) is_b;
  known = λ a in_a is_a. n.known a (of a in_a is_a) is_a;
}

fewer_below : (next : ℕ) (on fewer : List Entry) → Within fewer on → AreBelow next on → AreBelow next fewer
fewer_below next on fewer of below a in_a is_a = below a (of a in_a is_a) is_a

lost_numbered : (on came : List Entry) (request : Entry) → Numbered on came → Numbered on (came ++ request ∷ [])
lost_numbered on came request n = record {
  same = n.same;
  ordered = λ a b in_a is_a in_b is_b less. came_more came a b request (n.ordered a b in_a is_a in_b is_b less);
  known = λ a in_a is_a. Contains-append_left came (request ∷ []) a (n.known a in_a is_a);
}

-- one more on it, behind all others
one_more : (disk unwritten : List Entry) (request it : Entry) → Contains (disk ++ (unwritten ++ request ∷ [])) it → Contains (disk ++ unwritten) it ⊎ (request ≡ it)
one_more disk unwritten request it there = pushed (disk ++ unwritten) request it (subst (λ es. Contains es it) (sym (append_assoc disk unwritten (request ∷ []))) there)

handed_numbered : (disk unwritten came : List Entry) (next : ℕ) (request : Entry) → AreBelow next (disk ++ unwritten) → next ≤ arrival_of request → Numbered (disk ++ unwritten) came → Numbered (disk ++ (unwritten ++ request ∷ [])) (came ++ request ∷ [])
handed_numbered disk unwritten came next request below place n = record {
  same = λ a b in_a is_a in_b is_b equal. elim (one_more disk unwritten request a in_a) [
    | inl old_a ↦ elim (one_more disk unwritten request b in_b) [
      | inl old_b ↦ n.same a b old_a is_a old_b is_b equal
      | inr new_b ↦ let less = below a old_a is_a in let eq = ap arrival_of new_b in absurd (omega (arith, less, eq, equal, place))
    ]
    | inr new_a ↦ elim (one_more disk unwritten request b in_b) [
      | inl old_b ↦ let less = below b old_b is_b in let eq = ap arrival_of new_a in absurd (omega (arith, less, eq, equal, place))
      | inr new_b ↦ sym new_a ∙ new_b
    ]
  ];
  ordered = λ a b in_a is_a in_b is_b less. elim (one_more disk unwritten request a in_a) [
    | inl old_a ↦ elim (one_more disk unwritten request b in_b) [
      | inl old_b ↦ came_more came a b request (n.ordered a b old_a is_a old_b is_b less)
      | inr new_b ↦ subst (λ e. CameBefore (came ++ request ∷ []) a e) new_b (came_last came a request (n.known a old_a is_a))
    ]
    | inr new_a ↦ elim (one_more disk unwritten request b in_b) [
      | inl old_b ↦ let under = below b old_b is_b in let eq = ap arrival_of new_a in absurd (omega (arith, under, eq, less, place))
      | inr new_b ↦ let eq = ap arrival_of (sym new_a ∙ new_b) in absurd (omega (arith, less, eq))
    ]
  ];
  known = λ a in_a is_a. elim (one_more disk unwritten request a in_a) [
    | inl old_a ↦ Contains-append_left came (request ∷ []) a (n.known a old_a is_a)
    | inr new_a ↦ subst (λ e. Contains (came ++ request ∷ []) e) new_a (last_in came request)
  ];
}

handed_below : (disk unwritten : List Entry) (next after : ℕ) (request : Entry) → AreBelow next (disk ++ unwritten) → next ≤ arrival_of request → arrival_of request < after → AreBelow after (disk ++ (unwritten ++ request ∷ []))
handed_below disk unwritten next after request below place more a in_a is_a = elim (one_more disk unwritten request a in_a) [
  | inl old_a ↦ let less = below a old_a is_a in omega (arith, less, place, more)
  | inr new_a ↦ let eq = ap arrival_of new_a in omega (arith, eq, more)
]

-- ---- the requests of one lane

pairs_without : {X : Type 0} (R : X → X → Type 0) (xs : List X) (x : X) (ys : List X) → AllPairs R (xs ++ x ∷ ys) → AllPairs R (xs ++ ys)
pairs_without R [] x ys h = λ i j d less within. h (suc i) (suc j) d (omega (arith, less)) (omega (arith, within))
pairs_without {X} R (z ∷ xs) x ys h =
    let head : All (R z) (xs ++ x ∷ ys) = λ k d within. h 0 (suc k) d (omega arith) (omega (arith, within)) in
    AllPairs-cons R z (xs ++ ys)
    (All-weaker (Contains (xs ++ ys)) (R z) (λ y there. All-contains (R z) (xs ++ x ∷ ys) y head (with_one xs x ys y there)) (xs ++ ys) (All-contains_itself (xs ++ ys)))
    (pairs_without R xs x ys (λ i j d less within. h (suc i) (suc j) d (omega (arith, less)) (omega (arith, within))))

glued : {X : Type 0} (b : Bool) (xs : List X) (x : X) (ys : List X) → (xs ++ cond b (x ∷ []) []) ++ ys ≡ xs ++ cond b (x ∷ ys) ys
glued true xs x ys = append_assoc xs (x ∷ []) ys
glued false xs x ys = ap (λ zs. zs ++ ys) (append-nil xs)

module _ {X : Type 0} (p : X → Bool) where
  abbrev F : List X → List X
  F xs = filter p xs

  with_last : (xs : List X) (x : X) (ys : List X) → F ((xs ++ x ∷ []) ++ ys) ≡ F xs ++ cond (p x) (x ∷ F ys) (F ys)
  with_last xs x ys = filter-append p (xs ++ x ∷ []) ys ∙ ap (λ zs. zs ++ F ys) (filter-append p xs (x ∷ [])) ∙ glued (p x) (F xs) x (F ys)

  in_three : (xs before : List X) (x : X) (after : List X) → F (xs ++ (before ++ x ∷ after)) ≡ (F xs ++ F before) ++ cond (p x) (x ∷ F after) (F after)
  in_three xs before x after =
      filter-append p xs (before ++ x ∷ after) ∙ ap (λ zs. F xs ++ zs) (filter-append p before (x ∷ after)) ∙ sym (append_assoc (F xs) (F before) (cond (p x) (x ∷ F after) (F after)))

  in_two : (xs before after : List X) → F (xs ++ (before ++ after)) ≡ (F xs ++ F before) ++ F after
  in_two xs before after = filter-append p xs (before ++ after) ∙ ap (λ zs. F xs ++ zs) (filter-append p before after) ∙ sym (append_assoc (F xs) (F before) (F after))

  -- the first that passes is taken behind those that were taken before it
  moved : (xs before : List X) (x : X) (after : List X) → (F before ≡ []) ⊎ (p x ≡ false) → F ((xs ++ x ∷ []) ++ (before ++ after)) ≡ F (xs ++ (before ++ x ∷ after))
  moved xs before x after (inl none) =
      with_last xs x (before ++ after)
      ∙ ap (λ zs. F xs ++ cond (p x) (x ∷ zs) zs) (filter-append p before after ∙ ap (λ zs. zs ++ F after) none)
      ∙ sym (in_three xs before x after ∙ ap (λ zs. (F xs ++ zs) ++ cond (p x) (x ∷ F after) (F after)) none ∙ ap (λ zs. zs ++ cond (p x) (x ∷ F after) (F after)) (append-nil (F xs)))
  moved xs before x after (inr not_so) =
      with_last xs x (before ++ after)
      ∙ ap (λ b. F xs ++ cond b (x ∷ F (before ++ after)) (F (before ++ after))) not_so
      ∙ ap (λ zs. F xs ++ zs) (filter-append p before after)
      ∙ sym (append_assoc (F xs) (F before) (F after))
      ∙ sym (in_three xs before x after ∙ ap (λ b. (F xs ++ F before) ++ cond b (x ∷ F after) (F after)) not_so)

  module _ (R : X → X → Type 0) where
    by_test : (b : Bool) (xs : List X) (x : X) (ys : List X) → AllPairs R (xs ++ cond b (x ∷ ys) ys) → AllPairs R (xs ++ ys)
    by_test true xs x ys h = pairs_without R xs x ys h
    by_test false xs x ys h = h

    without : (xs before : List X) (x : X) (after : List X) → AllPairs R (F (xs ++ (before ++ x ∷ after))) → AllPairs R (F (xs ++ (before ++ after)))
    without xs before x after h =
        subst (AllPairs R) (sym (in_two xs before after)) (by_test (p x) (F xs ++ F before) x (F after) (subst (AllPairs R) (in_three xs before x after) h))

    -- one more passes, and none waits that does, or it does not pass
    added : (xs : List X) (x : X) (ys : List X) → (F ys ≡ []) ⊎ (p x ≡ false) → ((y : X) → Contains xs y → R y x) → AllPairs R (F (xs ++ ys)) → AllPairs R (F ((xs ++ x ∷ []) ++ ys))
    added xs x ys (inr not_so) all h =
        subst (AllPairs R) (sym (with_last xs x ys ∙ ap (λ b. F xs ++ cond b (x ∷ F ys) (F ys)) not_so ∙ sym (filter-append p xs ys))) h
    added xs x ys (inl none) all h =
        let first : AllPairs R (F xs) = subst (AllPairs R) (filter-append p xs ys ∙ ap (λ zs. F xs ++ zs) none ∙ append-nil (F xs)) h in
        subst (AllPairs R) (sym (with_last xs x ys ∙ ap (λ zs. F xs ++ cond (p x) (x ∷ zs) zs) none)) (at_end (p x) first)
      where
        each : (k : ℕ) (d : X) → k < length (F xs) → R (get_or (F xs) k d) x
        each k d within = all (get_or (F xs) k d) (was_passed p xs (get_or (F xs) k d) (All-contains_itself (F xs) k d within)).0

        at_end : (b : Bool) → AllPairs R (F xs) → AllPairs R (F xs ++ cond b (x ∷ []) [])
        at_end true first = all_pairs_push R (F xs) x first each
        at_end false first = subst (AllPairs R) (sym (append-nil (F xs))) first

one_lane : (lane other : ℕ) (o : Option ℕ) → o ≡ Some other → is_lane lane o ≡ eqb other lane
one_lane lane other o is = ap (is_lane lane) is

-- of another lane, or of the one of which none waits
lane_cases : (setup : Setup) (request : Entry) (its : ℕ) (waits : List Entry) → setup.lane_of request ≡ Some its → of_lane setup its waits ≡ [] → (lane : ℕ) → (of_lane setup lane waits ≡ []) ⊎ (is_of setup lane request ≡ false)
lane_cases setup request its waits of none lane = elim (cases_Bool (eqb its lane)) [
  | inl same ↦ inl (subst (λ n. of_lane setup n waits ≡ []) (eqb-true its lane same) none)
  | inr other ↦ inr (one_lane lane its (setup.lane_of request) of ∙ other)
]

-- ---- what stays

up_and_down : {b : Bool} → b ≡ true → b ≡ false → ⊥
up_and_down up down = cc (sym up ∙ down)

none_up : false ≡ true → ⊥
none_up is = cc (is)

record Ordered (world : World) : Type 0 where
  down : world.up ≡ false → (world.unwritten ≡ []) × (world.accepted ≡ [])
  numbered : Numbered (world.disk ++ world.unwritten) world.came
  below : world.up ≡ true → AreBelow world.next (world.disk ++ world.unwritten)
  held : (it : Entry) → Contains (world.accepted ++ world.waiting) it → Contains world.came it
  lanes : AreAcceptedInOrder world

module _ (old : World) (s : Ordered old) where
  abbrev on : List Entry
  on = old.disk ++ old.unwritten

  -- the disk and what is to be written have no other requests
  fewer : (written disk synced unwritten : List Entry) → old.up ≡ true → Within (disk ++ unwritten) on → Ordered (record old { written = written; disk = disk; synced = synced; unwritten = unwritten })
  fewer written disk synced unwritten up of = record {
    down = λ down. absurd (up_and_down up down);
    numbered = fewer_numbered on (disk ++ unwritten) old.came of s.numbered;
    below = λ _. fewer_below old.next on (disk ++ unwritten) of (s.below up);
    held = s.held;
    lanes = s.lanes;
  }

  on_closed : (closing : Entry) → is_closing closing ≡ true → Within (old.disk ++ (old.unwritten ++ closing ∷ [])) on
  on_closed closing closes_it a there is = elim (one_more old.disk old.unwritten closing a there) [
    | inl before ↦ before
    | inr same ↦ absurd (no_request a (ap is_closing (sym same) ∙ closes_it) is)
  ]

  on_kept : (kept : Entry → Bool) → Within (old.disk ++ filter kept old.unwritten) on
  on_kept kept a there is = elim (Contains-append_cases old.disk (filter kept old.unwritten) a there) [
    | inl first ↦ Contains-append_left old.disk old.unwritten a first
    | inr rest ↦ Contains-append_right old.disk old.unwritten a (was_passed kept old.unwritten a rest).0
  ]

  on_synced : (count : ℕ) → Within ((old.disk ++ take count old.unwritten) ++ drop count old.unwritten) on
  on_synced count a there is = elim (Contains-append_cases (old.disk ++ take count old.unwritten) (drop count old.unwritten) a there) [
    | inl first ↦ on_written count a first is
    | inr rest ↦ Contains-append_right old.disk old.unwritten a (of_rest count old.unwritten a rest)
  ]
    where
      on_written : (count : ℕ) → Within (old.disk ++ take count old.unwritten) on
      on_written count a there is = elim (Contains-append_cases old.disk (take count old.unwritten) a there) [
        | inl before ↦ Contains-append_left old.disk old.unwritten a before
        | inr batch ↦ Contains-append_right old.disk old.unwritten a (of_first count old.unwritten a batch)
      ]

  on_failed : (count : ℕ) → Within ((old.disk ++ take count old.unwritten) ++ old.unwritten) on
  on_failed count a there is = elim (Contains-append_cases (old.disk ++ take count old.unwritten) old.unwritten a there) [
    | inl first ↦ elim (Contains-append_cases old.disk (take count old.unwritten) a first) [
      | inl before ↦ Contains-append_left old.disk old.unwritten a before
      | inr batch ↦ Contains-append_right old.disk old.unwritten a (of_first count old.unwritten a batch)
    ]
    | inr rest ↦ Contains-append_right old.disk old.unwritten a rest
  ]

  on_crashed : (count : ℕ) → Within ((old.disk ++ take count old.unwritten) ++ []) on
  on_crashed count a there is = elim (Contains-append_cases (old.disk ++ take count old.unwritten) [] a there) [
    | inl first ↦ elim (Contains-append_cases old.disk (take count old.unwritten) a first) [
      | inl before ↦ Contains-append_left old.disk old.unwritten a before
      | inr batch ↦ Contains-append_right old.disk old.unwritten a (of_first count old.unwritten a batch)
    ]
    | inr none ↦ absurd (none_there a none)
  ]

  on_ended : Within (old.disk ++ []) on
  on_ended a there is = elim (Contains-append_cases old.disk [] a there) [ inl before ↦ Contains-append_left old.disk old.unwritten a before | inr none ↦ absurd (none_there a none) ]

  -- other entries on the disk, of which the requests are there already
  on_more : (entries : List Entry) → Within entries old.disk → Within ((old.disk ++ entries) ++ old.unwritten) on
  on_more entries of a there is = elim (Contains-append_cases (old.disk ++ entries) old.unwritten a there) [
    | inl first ↦ elim (Contains-append_cases old.disk entries a first) [
      | inl before ↦ Contains-append_left old.disk old.unwritten a before
      | inr more ↦ Contains-append_left old.disk old.unwritten a (of a more is)
    ]
    | inr rest ↦ Contains-append_right old.disk old.unwritten a rest
  ]

  on_begun : (begun : _) → Within ((heads.Begun begun, []) ∷ []) old.disk
  on_begun begun a there is = elim (parted (heads.Begun begun, []) [] a there) [
    | inl same ↦ absurd (none_up (ap is_request same ∙ is))
    | inr none ↦ absurd (none_there a none)
  ]

  on_again : (oldest newer : List Entry) (kept : Entry → Bool) → old.disk ≡ oldest ++ newer → Within (filter kept (open_before oldest newer)) old.disk
  on_again oldest newer kept disk a there is =
      subst (λ es. Contains es a) (sym disk)
      (counted_in is_request (oldest ++ newer) a (subst (λ es. Contains es a) (sym (kept_parts is_request oldest newer)) (Contains-append_left (open_before oldest newer) (open_of newer) a (was_passed kept (open_before oldest newer) a there).0)))

  on_removed : (oldest newer : List Entry) → old.disk ≡ oldest ++ newer → Within (newer ++ old.unwritten) on
  on_removed oldest newer disk a there is = elim (Contains-append_cases newer old.unwritten a there) [
    | inl first ↦ Contains-append_left old.disk old.unwritten a (subst (λ es. Contains es a) (sym disk) (Contains-append_right oldest newer a first))
    | inr rest ↦ Contains-append_right old.disk old.unwritten a rest
  ]

  over : (written disk : List Entry) → Within (disk ++ []) on → Ordered (run_over (record old { written = written; disk = disk }))
  over written disk of = record {
    down = λ _. (refl, refl);
    numbered = fewer_numbered on (disk ++ []) old.came of s.numbered;
    below = λ up. absurd (none_up up);
    held = λ it there. absurd (none_there it there);
    lanes = λ lane i j d less within. absurd (omega (arith, less, within));
  }

  -- where a request of the first part of those that wait came from
  first_known : (request : Entry) (is : IsFirst old request) → Contains old.came request
  first_known request is = s.held request (Contains-append_right old.accepted old.waiting request (subst (λ es. Contains es request) (sym is.split) (in_middle is.before request is.after)))

  rest_known : (request : Entry) (is : IsFirst old request) (it : Entry) → Contains (is.before ++ is.after) it → Contains old.came it
  rest_known request is it there = s.held it (Contains-append_right old.accepted old.waiting it (subst (λ es. Contains es it) (sym is.split) (with_one is.before request is.after it there)))

  accepted_known : (it : Entry) → Contains old.accepted it → Contains old.came it
  accepted_known it there = s.held it (Contains-append_left old.accepted old.waiting it there)

  waits_in_order : (request : Entry) (is : IsFirst old request) (lane : ℕ) → AllPairs (CameBefore old.came) (of_lane old.setup lane (old.accepted ++ (is.before ++ request ∷ is.after)))
  waits_in_order request is lane = subst (λ es. AllPairs (CameBefore old.came) (of_lane old.setup lane (old.accepted ++ es))) is.split (s.lanes lane)

  taken : (request : Entry) (is : IsFirst old request) → Ordered (record old { waiting = is.before ++ is.after; accepted = old.accepted ++ request ∷ [] })
  taken request is = record {
    down = λ down. absurd (up_and_down is.up down);
    numbered = s.numbered;
    below = s.below;
    held = λ it there. elim (Contains-append_cases (old.accepted ++ request ∷ []) (is.before ++ is.after) it there) [
      | inl first ↦ elim (pushed old.accepted request it first) [
        | inl before ↦ accepted_known it before
        | inr same ↦ subst (Contains old.came) same (first_known request is)
      ]
      | inr rest ↦ rest_known request is it rest
    ];
    lanes = λ lane.
        subst (AllPairs (CameBefore old.came)) (sym (moved (is_of old.setup lane) old.accepted is.before request is.after (lane_cases old.setup request is.lane is.before is.of is.first lane)))
        (waits_in_order request is lane);
  }

  dropped : (request : Entry) (is : IsFirst old request) → Ordered (record old { waiting = is.before ++ is.after; dropped = old.dropped ++ request ∷ [] })
  dropped request is = record {
    down = λ down. absurd (up_and_down is.up down);
    numbered = s.numbered;
    below = s.below;
    held = λ it there. elim (Contains-append_cases old.accepted (is.before ++ is.after) it there) [
      | inl first ↦ accepted_known it first
      | inr rest ↦ rest_known request is it rest
    ];
    lanes = λ lane. without (is_of old.setup lane) (CameBefore old.came) old.accepted is.before request is.after (waits_in_order request is lane);
  }

  -- a new request
  more_known : (request it : Entry) → Contains ((old.accepted ++ request ∷ []) ++ old.waiting) it → Contains (old.came ++ request ∷ []) it
  more_known request it there = elim (Contains-append_cases (old.accepted ++ request ∷ []) old.waiting it there) [
    | inl first ↦ elim (pushed old.accepted request it first) [
      | inl before ↦ Contains-append_left old.came (request ∷ []) it (accepted_known it before)
      | inr same ↦ subst (Contains (old.came ++ request ∷ [])) same (last_in old.came request)
    ]
    | inr rest ↦ Contains-append_left old.came (request ∷ []) it (s.held it (Contains-append_right old.accepted old.waiting it rest))
  ]

  more_lanes : (request : Entry) (its : ℕ) → old.setup.lane_of request ≡ Some its → of_lane old.setup its old.waiting ≡ [] → (lane : ℕ) → AllPairs (CameBefore (old.came ++ request ∷ [])) (of_lane old.setup lane ((old.accepted ++ request ∷ []) ++ old.waiting))
  more_lanes request its of none lane =
      added (is_of old.setup lane) (CameBefore (old.came ++ request ∷ [])) old.accepted request old.waiting
      (lane_cases old.setup request its old.waiting of none lane)
      (λ it there. came_last old.came it request (accepted_known it there))
      (λ i j d less within. came_more old.came _ _ request (s.lanes lane i j d less within))

  accepted_step : (request : Entry) (handed : Bool) (moment next its : ℕ) → old.up ≡ true → old.setup.lane_of request ≡ Some its → of_lane old.setup its old.waiting ≡ []
      → old.next ≤ arrival_of request → arrival_of request < next → Ordered (after_accepted old request handed moment next)
  accepted_step request true moment next its up of none place more = record {
    down = λ down. absurd (up_and_down up down);
    numbered = handed_numbered old.disk old.unwritten old.came old.next request (s.below up) place s.numbered;
    below = λ _. handed_below old.disk old.unwritten old.next next request (s.below up) place more;
    held = more_known request;
    lanes = more_lanes request its of none;
  }
  accepted_step request false moment next its up of none place more = record {
    down = λ down. absurd (up_and_down up down);
    numbered = lost_numbered on old.came request s.numbered;
    below = λ _. λ a in_a is_a. let less = s.below up a in_a is_a in omega (arith, less, place, more);
    held = more_known request;
    lanes = more_lanes request its of none;
  }

  closed_step : (closing : Entry) (handed : Bool) → old.up ≡ true → is_closing closing ≡ true → Ordered (after_closed old closing handed)
  closed_step closing true up closes_it =
      let f = fewer old.written old.disk old.synced (old.unwritten ++ closing ∷ []) up (on_closed closing closes_it) in
      record { down = f.down; numbered = f.numbered; below = f.below; held = f.held; lanes = f.lanes }
  closed_step closing false up closes_it = record { down = λ down. absurd (up_and_down up down); numbered = s.numbered; below = s.below; held = s.held; lanes = s.lanes }

  -- what is offered
  offered_known : (offered : List Entry) → IsOffered old.disk offered → (it : Entry) → Contains offered it → Contains on it × (is_request it ≡ true)
  offered_known offered o it there =
      let open_it = was_open old.disk offered it o there in
      (Contains-append_left old.disk old.unwritten it (counted_in is_request old.disk it open_it), (counted_stands is_request old.disk it open_it).passed)

  offered_in_order : (offered : List Entry) → IsOffered old.disk offered → AllPairs (CameBefore old.came) offered
  offered_in_order offered o i j d less within =
      let a = get_or offered i d in
      let b = get_or offered j d in
      let in_a = offered_known offered o a (All-contains_itself offered i d (omega (arith, less, within))) in
      let in_b = offered_known offered o b (All-contains_itself offered j d within) in
      let rises = o.in_order i j d (omega (arith, less)) within in
      elim (cases_lt (arrival_of a) (arrival_of b)) [
        | inl below ↦ s.numbered.ordered a b in_a.0 in_a.1 in_b.0 in_b.1 below
        | inr over ↦ absurd (once old.disk offered o i j d less within (ap (λ (e : Entry). key_of e.0) (s.numbered.same a b in_a.0 in_a.1 in_b.0 in_b.1 (omega (arith, rises, over)))))
      ]

  started_step : (setup : Setup) (moment : ℕ) (offered : List Entry) (next : ℕ) → old.up ≡ false → IsOffered old.disk offered → AreBelow next old.disk
      → Ordered (after_start old setup moment offered next)
  started_step setup moment offered next down o below = record {
    down = λ is. absurd (none_up (sym is));
    numbered = s.numbered;
    below = λ _. λ a in_a is_a. elim (Contains-append_cases old.disk old.unwritten a in_a) [
      | inl first ↦ below a first is_a
      | inr rest ↦ absurd (none_there a (subst (λ es. Contains es a) (s.down down).0 rest))
    ];
    held = λ it there. elim (Contains-append_cases old.accepted (filter (has_lane setup) offered) it there) [
      | inl first ↦ absurd (none_there it (subst (λ es. Contains es it) (s.down down).1 first))
      | inr rest ↦ let k = offered_known offered o it (was_passed (has_lane setup) offered it rest).0 in s.numbered.known it k.0 k.1
    ];
    lanes = λ lane.
        subst (λ es. AllPairs (CameBefore old.came) (of_lane setup lane (es ++ filter (has_lane setup) offered))) (sym (s.down down).1)
        (AllPairs-filter (CameBefore old.came) (is_of setup lane) (filter (has_lane setup) offered)
        (AllPairs-filter (CameBefore old.came) (has_lane setup) offered (offered_in_order offered o)));
  }

step : (old : World) (happening : Happening) (new : World) → Happens old happening new → Ordered old → Ordered new
step old (starts setup moment offered next) new h s = subst Ordered (sym h.world) (started_step old s setup moment offered next h.down h.offers h.below)
step old (takes request) new h s = subst Ordered (sym h.world) (taken old s request h.is)
step old (drops request) new h s = subst Ordered (sym h.world) (dropped old s request h.is)
step old (accepts request handed moment next) new h s = subst Ordered (sym h.world) (accepted_step old s request handed moment next h.lane h.up h.of h.none_waits h.place h.next_place)
step old (closes closing handed) new h s = subst Ordered (sym h.world) (closed_step old s closing handed h.up h.is)
step old (lets_go kept) new h s = subst Ordered (sym h.world) (fewer old s old.written old.disk old.synced (filter kept old.unwritten) h.up (on_kept old s kept))
step old (syncs count) new h s = subst Ordered (sym h.world) (fewer old s (old.written ++ take count old.unwritten) (old.disk ++ take count old.unwritten) (old.synced ++ take count old.unwritten) (drop count old.unwritten) h.up (on_synced old s count))
step old (fails count) new h s = subst Ordered (sym h.world) (fewer old s (old.written ++ take count old.unwritten) (old.disk ++ take count old.unwritten) old.synced old.unwritten h.up (on_failed old s count))
step old (begins begun) new h s = subst Ordered (sym h.world) (fewer old s (old.written ++ (heads.Begun begun, []) ∷ []) (old.disk ++ (heads.Begun begun, []) ∷ []) old.synced old.unwritten h.up (on_more old s ((heads.Begun begun, []) ∷ []) (on_begun old s begun)))
step old (writes_again oldest newer kept) new h s =
    let again = filter kept (open_before oldest newer) in
    subst Ordered (sym h.world) (fewer old s (old.written ++ again) (old.disk ++ again) old.synced old.unwritten h.up (on_more old s again (on_again old s oldest newer kept h.disk)))
step old (removes oldest newer moment) new h s =
    let f = fewer old s old.written newer old.synced old.unwritten h.up (on_removed old s oldest newer h.disk) in
    subst Ordered (sym h.world) (record { down = f.down; numbered = f.numbered; below = f.below; held = f.held; lanes = f.lanes })
step old ends new h s = subst Ordered (sym h.world) (over old s old.written old.disk (on_ended old s))
step old (crashes count) new h s = subst Ordered (sym h.world) (over old s (old.written ++ take count old.unwritten) (old.disk ++ take count old.unwritten) (on_crashed old s count))

new_ordered : (span : ℕ) → Ordered (new_world span)
new_ordered span = record {
  down = λ _. (refl, refl);
  numbered = record {
    same = λ a b in_a is_a in_b is_b equal. absurd (none_there a in_a);
    ordered = λ a b in_a is_a in_b is_b less. absurd (none_there a in_a);
    known = λ a in_a is_a. absurd (none_there a in_a);
  };
  below = λ up. absurd (none_up up);
  held = λ it there. absurd (none_there it there);
  lanes = λ lane i j d less within. absurd (omega (arith, less, within));
}

pub accepted_in_order : (world : World) → Life world → AreAcceptedInOrder world
accepted_in_order world life = (in_life Ordered new_ordered step world life).lanes
