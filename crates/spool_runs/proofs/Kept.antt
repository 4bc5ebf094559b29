-- What was synced was answered after it was handed over, or is open on the disk.
use Rattle.std.proofs.Common.{◌≡◌, ℕ, suc, Bool, true, false, List, [], ◌∷◌, ◌++◌, take, drop, refl, sym, ap, subst, ◌∙◌, inl, inr, arith}
use Rattle.std.specs.Prelude.{◌⊎◌}
use Rattle.std.specs.List.{All, AllPairs, Contains, filter}
use Rattle.std.proofs.lemmas.List.{append_assoc, take-append-drop}
use Rattle.std.proofs.lemmas.List.Elements.{All-contains, All-contains_itself, All-weaker, Contains-append_left, Contains-append_right, Contains-append_cases}
use Rattle.std.proofs.lemmas.List.Kept.{AllPairs-cons, AllPairs-filter}
use Rattle.std.proofs.lemmas.List.Quantifiers.{all_pairs_push}
use Rattle.spool_files.specs.declared.entry.Head.TheVariants as heads
use Rattle.spool_files.specs.Entries.{Entry}
use Rattle.spool_files.specs.Counting.{key_of, is_last, is_request, open_of, open_before}
use Rattle.spool_files.proofs.CountLemmas.{kept_parts}
use Rattle.spool_runs.specs.World.{World, is_closing, new_world}
use Rattle.spool_runs.specs.Happens.{Happening, Happens, IsAnsweredIn, IsOffered, Life, after_accepted, after_closed, run_over}
use Rattle.spool_runs.specs.Happens.Happening.{starts, takes, drops, accepts, closes, lets_go, syncs, fails, begins, writes_again, removes, ends, crashes}
use Rattle.spool_runs.specs.Laws.{NoneIsLost}
use Rattle.spool_runs.proofs.Among.{first_in, last_in, none_there, of_first, of_rest, parted, passes, pushed, stands, was_passed}
use Rattle.spool_runs.proofs.Counted.{begun_has_none, came_key, closed_or_open, counted_in, counted_stands, counting_more, counts_behind, last_about, last_by, no_request, stands_counts}
use Rattle.spool_runs.proofs.Lives.{in_life}
use Rattle.spool_runs.proofs.RunHas.{run_has}
use Rattle.spool_runs.proofs.Started.{was_open}

-- ---- in which order entries were handed over

abbrev After : List Entry → Entry → Entry → Type 0
After told one other = (before : List Entry) × (later : List Entry) × (told ≡ before ++ one ∷ later) × Contains later other

more_after : (told : List Entry) (one other last : Entry) → After told one other → After (told ++ last ∷ []) one other
more_after told one other last (before, later, split, there) =
    (before, later ++ last ∷ [], ap (λ es. es ++ last ∷ []) split ∙ append_assoc before (one ∷ later) (last ∷ []), Contains-append_left later (last ∷ []) other there)

last_after : (told : List Entry) (one last : Entry) → Contains told one → After (told ++ last ∷ []) one last
last_after told one last there =
    let s = stands told one there in
    (s.before, s.after ++ last ∷ [], ap (λ es. es ++ last ∷ []) s.split ∙ append_assoc s.before (one ∷ s.after) (last ∷ []), last_in s.after last)

more_answered : (told : List Entry) (request last : Entry) → IsAnsweredIn told request → IsAnsweredIn (told ++ last ∷ []) request
more_answered told request last a = record {
  before = a.before;
  later = a.later ++ last ∷ [];
  split = ap (λ es. es ++ last ∷ []) a.split ∙ append_assoc a.before (request ∷ a.later) (last ∷ []);
  closed = record { closing = a.closed.closing; there = Contains-append_left a.later (last ∷ []) a.closed.closing a.closed.there; is = a.closed.is; about = a.closed.about };
}

-- ---- pairs of a list in parts

record InParts {X : Type 0} (R : X → X → Type 0) (xs ys : List X) : Type 0 where
  first : AllPairs R xs
  rest : AllPairs R ys
  across : (a b : X) → Contains xs a → Contains ys b → R a b

in_both : {X : Type 0} (R : X → X → Type 0) (xs ys : List X) → AllPairs R (xs ++ ys) → InParts R xs ys
in_both R [] ys h = record { first = λ i j d less within. absurd (omega (arith, less, within)); rest = h; across = λ a b in_a. absurd (none_there a in_a) }
in_both {X} R (x ∷ xs) ys h =
    let p = in_both R xs ys (λ i j d less within. h (suc i) (suc j) d (omega (arith, less)) (omega (arith, within))) in
    let head : All (R x) (xs ++ ys) = λ k d within. h 0 (suc k) d (omega arith) (omega (arith, within)) in
    record {
      first = AllPairs-cons R x xs (All-weaker (Contains xs) (R x) (λ y there. All-contains (R x) (xs ++ ys) y head (Contains-append_left xs ys y there)) xs (All-contains_itself xs)) p.first;
      rest = p.rest;
      across = λ a b in_a in_b. elim (parted x xs a in_a) [
        | inl same ↦ subst (λ y. R y b) same (All-contains (R x) (xs ++ ys) b head (Contains-append_right xs ys b in_b))
        | inr later ↦ p.across a b later in_b
      ];
    }

-- ---- what stays open

-- the key of the request is open
abbrev HasOpen : List Entry → Entry → Type 0
HasOpen disk request = (it : Entry) × Contains (open_of disk) it × (key_of it.0 ≡ key_of request.0)

still_open : (disk more : List Entry) (request : Entry) → is_request request ≡ true → HasOpen disk request → HasOpen (disk ++ more) request ⊎ ((c : Entry) × Contains more c × (is_closing c ≡ true) × (key_of c.0 ≡ key_of request.0))
still_open disk more request is (it, there, same) =
    let k = came_key request is in
    elim (last_about k.0 more) [
      | inl none ↦ inl (
        it,
        subst (λ es. Contains es it) (sym (counting_more is_request disk more))
            (Contains-append_left (filter (λ e. is_last e.0 more) (open_of disk)) (open_of more) it (passes (λ e. is_last e.0 more) (open_of disk) it (last_by it.0 k.0 more (same ∙ k.1) none) there)),
        same,
      )
      | inr l ↦ elim (begun_has_none l.entry k.0 l.about) [
        | inl asks ↦ inl (
          l.entry,
          counts_behind is_request disk more l.entry (subst (λ es. Contains (open_of es) l.entry) (sym l.split) (stands_counts is_request l.before l.entry l.later (last_by l.entry.0 k.0 l.later l.about l.none) asks)),
          l.about ∙ sym k.1,
        )
        | inr closing ↦ inr (l.entry, subst (λ es. Contains es l.entry) (sym l.split) (Contains-append_right l.before (l.entry ∷ l.later) l.entry (first_in l.entry l.later)), closing, l.about ∙ sym k.1)
      ]
    ]

record Kept (world : World) : Type 0 where
  down : world.up ≡ false → world.unwritten ≡ []
  told_there : (it : Entry) → Contains (world.disk ++ world.unwritten) it → is_request it ≡ true → Contains world.told it
  told_synced : (it : Entry) → Contains world.synced it → is_request it ≡ true → Contains world.told it
  told_waits : (it : Entry) → Contains world.unwritten it → Contains world.told it
  behind : (request it : Entry) → Contains world.synced request → is_request request ≡ true → Contains world.unwritten it → After world.told request it
  in_order : AllPairs (After world.told) world.unwritten
  kept : (request : Entry) → Contains world.synced request → is_request request ≡ true → IsAnsweredIn world.told request ⊎ HasOpen world.disk request

none_up : false ≡ true → ⊥
none_up is = cc (is)

up_and_down : {b : Bool} → b ≡ true → b ≡ false → ⊥
up_and_down up down = cc (sym up ∙ down)

answered_by : (told : List Entry) (request c : Entry) → After told request c → is_closing c ≡ true → key_of c.0 ≡ key_of request.0 → IsAnsweredIn told request
answered_by told request c (before, later, split, there) is about = record { before = before; later = later; split = split; closed = record { closing = c; there = there; is = is; about = about } }

module _ (old : World) (s : Kept old) where
  -- entries on the disk of which each that closes was to be written
  kept_more : (entries : List Entry) → ((c : Entry) → Contains entries c → is_closing c ≡ true → Contains old.unwritten c) → (request : Entry) → Contains old.synced request → is_request request ≡ true → IsAnsweredIn old.told request ⊎ HasOpen (old.disk ++ entries) request
  kept_more entries of request there is = elim (s.kept request there is) [
    | inl answered ↦ inl answered
    | inr here ↦ elim (still_open old.disk entries request is here) [
      | inl still ↦ inr still
      | inr c ↦ inl (answered_by old.told request c.0 (s.behind request c.0 there is (of c.0 c.1 c.2)) c.2 c.3)
    ]
  ]

  told_more : (entries unwritten : List Entry) → ((it : Entry) → Contains entries it → is_request it ≡ true → Contains (old.disk ++ old.unwritten) it) → ((it : Entry) → Contains unwritten it → Contains old.unwritten it) → (it : Entry) → Contains ((old.disk ++ entries) ++ unwritten) it → is_request it ≡ true → Contains old.told it
  told_more entries unwritten of less it there is = elim (Contains-append_cases (old.disk ++ entries) unwritten it there) [
    | inl first ↦ elim (Contains-append_cases old.disk entries it first) [
      | inl before ↦ s.told_there it (Contains-append_left old.disk old.unwritten it before) is
      | inr new ↦ s.told_there it (of it new is) is
    ]
    | inr rest ↦ s.told_waits it (less it rest)
  ]

  batch_waits : (count : ℕ) (it : Entry) → Contains (take count old.unwritten) it → is_request it ≡ true → Contains (old.disk ++ old.unwritten) it
  batch_waits count it there is = Contains-append_right old.disk old.unwritten it (of_first count old.unwritten it there)

  -- more on the disk, of which nothing is synced
  only_more : (written : List Entry) (entries : List Entry) → old.up ≡ true → ((it : Entry) → Contains entries it → is_request it ≡ true → Contains (old.disk ++ old.unwritten) it) → ((c : Entry) → Contains entries c → is_closing c ≡ true → Contains old.unwritten c)
      → Kept (record old { written = written; disk = old.disk ++ entries })
  only_more written entries up of closing = record {
    down = λ down. absurd (up_and_down up down);
    told_there = told_more entries old.unwritten of (λ it there. there);
    told_synced = s.told_synced;
    told_waits = s.told_waits;
    behind = s.behind;
    in_order = s.in_order;
    kept = kept_more entries closing;
  }

  parts : (count : ℕ) → InParts (After old.told) (take count old.unwritten) (drop count old.unwritten)
  parts count = in_both (After old.told) (take count old.unwritten) (drop count old.unwritten) (subst (AllPairs (After old.told)) (sym (take-append-drop count old.unwritten)) s.in_order)

  -- of a batch that is synced
  new_kept : (entries : List Entry) → AllPairs (After old.told) entries → (request : Entry) → Contains entries request → is_request request ≡ true → IsAnsweredIn old.told request ⊎ HasOpen (old.disk ++ entries) request
  new_kept entries pairs request there is =
      let t = stands entries request there in
      let split : old.disk ++ entries ≡ (old.disk ++ t.before) ++ request ∷ t.after = ap (λ es. old.disk ++ es) t.split ∙ sym (append_assoc old.disk t.before (request ∷ t.after)) in
      elim (closed_or_open (old.disk ++ entries) (old.disk ++ t.before) request t.after split is) [
        | inl c ↦
            let p = in_both (After old.told) (t.before ++ request ∷ []) t.after (subst (AllPairs (After old.told)) (t.split ∙ sym (append_assoc t.before (request ∷ []) t.after)) pairs) in
            inl (answered_by old.told request c.0 (p.across request c.0 (last_in t.before request) c.1) c.2 c.3)
        | inr o ↦ inr (o.it, o.counts, o.about)
      ]

  synced_step : (count : ℕ) → old.up ≡ true → Kept (record old {
    written = old.written ++ take count old.unwritten;
    disk = old.disk ++ take count old.unwritten;
    synced = old.synced ++ take count old.unwritten;
    unwritten = drop count old.unwritten;
  })
  synced_step count up = record {
    down = λ down. absurd (up_and_down up down);
    told_there = told_more (take count old.unwritten) (drop count old.unwritten) (batch_waits count) (of_rest count old.unwritten);
    told_synced = λ it there is. elim (Contains-append_cases old.synced (take count old.unwritten) it there) [
      | inl before ↦ s.told_synced it before is
      | inr new ↦ s.told_waits it (of_first count old.unwritten it new)
    ];
    told_waits = λ it there. s.told_waits it (of_rest count old.unwritten it there);
    behind = λ request it there is waits. elim (Contains-append_cases old.synced (take count old.unwritten) request there) [
      | inl before ↦ s.behind request it before is (of_rest count old.unwritten it waits)
      | inr new ↦ (parts count).across request it new waits
    ];
    in_order = (parts count).rest;
    kept = λ request there is. elim (Contains-append_cases old.synced (take count old.unwritten) request there) [
      | inl before ↦ kept_more (take count old.unwritten) (λ c in_c _. of_first count old.unwritten c in_c) request before is
      | inr new ↦ new_kept (take count old.unwritten) (parts count).first request new is
    ];
  }

  -- one more entry is handed over
  handed : (came answered accepted : List Entry) (now next : ℕ) (last : Entry) → old.up ≡ true → Kept (record old { now = now; came = came; told = old.told ++ last ∷ []; answered = answered; accepted = accepted; unwritten = old.unwritten ++ last ∷ []; next = next })
  handed came answered accepted now next last up = record {
    down = λ down. absurd (up_and_down up down);
    told_there = λ it there is. elim (pushed (old.disk ++ old.unwritten) last it (subst (λ es. Contains es it) (sym (append_assoc old.disk old.unwritten (last ∷ []))) there)) [
      | inl before ↦ Contains-append_left old.told (last ∷ []) it (s.told_there it before is)
      | inr same ↦ subst (Contains (old.told ++ last ∷ [])) same (last_in old.told last)
    ];
    told_synced = λ it there is. Contains-append_left old.told (last ∷ []) it (s.told_synced it there is);
    told_waits = λ it there. elim (pushed old.unwritten last it there) [
      | inl before ↦ Contains-append_left old.told (last ∷ []) it (s.told_waits it before)
      | inr same ↦ subst (Contains (old.told ++ last ∷ [])) same (last_in old.told last)
    ];
    behind = λ request it there is waits. elim (pushed old.unwritten last it waits) [
      | inl before ↦ more_after old.told request it last (s.behind request it there is before)
      | inr same ↦ subst (After (old.told ++ last ∷ []) request) same (last_after old.told request last (s.told_synced request there is))
    ];
    in_order = all_pairs_push (After (old.told ++ last ∷ [])) old.unwritten last
        (λ i j d less within. more_after old.told _ _ last (s.in_order i j d less within))
        (λ k d within. last_after old.told _ last (s.told_waits _ (All-contains_itself old.unwritten k d within)));
    kept = λ request there is. elim (s.kept request there is) [ inl done ↦ inl (more_answered old.told request last done) | inr here ↦ inr here ];
  }

  -- one is told and not handed over
  only_told : (answered : List Entry) (last : Entry) → old.up ≡ true → Kept (record old { answered = answered; told = old.told ++ last ∷ [] })
  only_told answered last up = record {
    down = λ down. absurd (up_and_down up down);
    told_there = λ it there is. Contains-append_left old.told (last ∷ []) it (s.told_there it there is);
    told_synced = λ it there is. Contains-append_left old.told (last ∷ []) it (s.told_synced it there is);
    told_waits = λ it there. Contains-append_left old.told (last ∷ []) it (s.told_waits it there);
    behind = λ request it there is waits. more_after old.told request it last (s.behind request it there is waits);
    in_order = λ i j d less within. more_after old.told _ _ last (s.in_order i j d less within);
    kept = λ request there is. elim (s.kept request there is) [ inl done ↦ inl (more_answered old.told request last done) | inr here ↦ inr here ];
  }

  accepted_step : (request : Entry) (handed_over : Bool) (moment next : ℕ) → old.up ≡ true → Kept (after_accepted old request handed_over moment next)
  accepted_step request true moment next up =
      let h = handed (old.came ++ request ∷ []) old.answered (old.accepted ++ request ∷ []) moment next request up in
      record { down = h.down; told_there = h.told_there; told_synced = h.told_synced; told_waits = h.told_waits; behind = h.behind; in_order = h.in_order; kept = h.kept }
  accepted_step request false moment next up = record {
    down = λ down. absurd (up_and_down up down);
    told_there = s.told_there;
    told_synced = s.told_synced;
    told_waits = s.told_waits;
    behind = s.behind;
    in_order = s.in_order;
    kept = s.kept;
  }

  closed_step : (closing : Entry) (handed_over : Bool) → old.up ≡ true → Kept (after_closed old closing handed_over)
  closed_step closing true up =
      let h = handed old.came (old.answered ++ closing ∷ []) old.accepted old.now old.next closing up in
      record { down = h.down; told_there = h.told_there; told_synced = h.told_synced; told_waits = h.told_waits; behind = h.behind; in_order = h.in_order; kept = h.kept }
  closed_step closing false up = only_told (old.answered ++ closing ∷ []) closing up

  let_go_step : (keeps : Entry → Bool) → old.up ≡ true → Kept (record old { unwritten = filter keeps old.unwritten })
  let_go_step keeps up = record {
    down = λ down. absurd (up_and_down up down);
    told_there = λ it there is. elim (Contains-append_cases old.disk (filter keeps old.unwritten) it there) [
      | inl first ↦ s.told_there it (Contains-append_left old.disk old.unwritten it first) is
      | inr rest ↦ s.told_waits it (was_passed keeps old.unwritten it rest).0
    ];
    told_synced = s.told_synced;
    told_waits = λ it there. s.told_waits it (was_passed keeps old.unwritten it there).0;
    behind = λ request it there is waits. s.behind request it there is (was_passed keeps old.unwritten it waits).0;
    in_order = AllPairs-filter (After old.told) keeps old.unwritten s.in_order;
    kept = s.kept;
  }

  on_disk : (oldest newer : List Entry) → old.disk ≡ oldest ++ newer → (it : Entry) → Contains (open_before oldest newer) it → Contains (open_of old.disk) it
  on_disk oldest newer disk it there =
      subst (λ es. Contains (open_of es) it) (sym disk) (subst (λ es. Contains es it) (sym (kept_parts is_request oldest newer)) (Contains-append_left (open_before oldest newer) (open_of newer) it there))

  again_step : (oldest newer : List Entry) (keeps : Entry → Bool) → old.up ≡ true → old.disk ≡ oldest ++ newer → Kept (record old { written = old.written ++ filter keeps (open_before oldest newer); disk = old.disk ++ filter keeps (open_before oldest newer) })
  again_step oldest newer keeps up disk =
      let of : (it : Entry) → Contains (filter keeps (open_before oldest newer)) it → Contains (open_of old.disk) it = λ it there. on_disk oldest newer disk it (was_passed keeps (open_before oldest newer) it there).0 in
      only_more (old.written ++ filter keeps (open_before oldest newer)) (filter keeps (open_before oldest newer)) up
      (λ it there is. Contains-append_left old.disk old.unwritten it (counted_in is_request old.disk it (of it there)))
      (λ c there closes_it. absurd (no_request c closes_it (counted_stands is_request old.disk c (of c there)).passed))

  begun_step : (begun : _) → old.up ≡ true → Kept (record old { written = old.written ++ (heads.Begun begun, []) ∷ []; disk = old.disk ++ (heads.Begun begun, []) ∷ [] })
  begun_step begun up = only_more (old.written ++ (heads.Begun begun, []) ∷ []) ((heads.Begun begun, []) ∷ []) up
      (λ it there is. elim (parted (heads.Begun begun, []) [] it there) [ inl same ↦ absurd (none_up (ap is_request same ∙ is)) | inr none ↦ absurd (none_there it none) ])
      (λ c there closes_it. elim (parted (heads.Begun begun, []) [] c there) [ inl same ↦ absurd (none_up (ap is_closing same ∙ closes_it)) | inr none ↦ absurd (none_there c none) ])

  removed_step : (oldest newer : List Entry) (moment : ℕ) → old.up ≡ true → old.disk ≡ oldest ++ newer
      → ((it request : Entry) → Contains (open_before oldest newer) it → Contains old.synced request → is_request request ≡ true → key_of request.0 ≡ key_of it.0 → IsAnsweredIn old.told request)
      → Kept (record old { now = moment; disk = newer })
  removed_step oldest newer moment up disk none = record {
    down = λ down. absurd (up_and_down up down);
    told_there = λ it there is. elim (Contains-append_cases newer old.unwritten it there) [
      | inl first ↦ s.told_there it (Contains-append_left old.disk old.unwritten it (subst (λ es. Contains es it) (sym disk) (Contains-append_right oldest newer it first))) is
      | inr rest ↦ s.told_waits it rest
    ];
    told_synced = s.told_synced;
    told_waits = s.told_waits;
    behind = s.behind;
    in_order = s.in_order;
    kept = λ request there is. elim (s.kept request there is) [
      | inl done ↦ inl done
      | inr here ↦ elim (Contains-append_cases (open_before oldest newer) (open_of newer) here.0 (subst (λ es. Contains es here.0) (kept_parts is_request oldest newer) (subst (λ es. Contains (open_of es) here.0) disk here.1))) [
        | inl first ↦ inl (none here.0 request first there is (sym here.2))
        | inr rest ↦ inr (here.0, rest, here.2)
      ]
    ];
  }

  over : (written disk : List Entry) → ((it : Entry) → Contains disk it → is_request it ≡ true → Contains old.told it) → ((request : Entry) → Contains old.synced request → is_request request ≡ true → IsAnsweredIn old.told request ⊎ HasOpen disk request)
      → Kept (run_over (record old { written = written; disk = disk }))
  over written disk told has = record {
    down = λ _. refl;
    told_there = λ it there is. elim (Contains-append_cases disk [] it there) [ inl first ↦ told it first is | inr none ↦ absurd (none_there it none) ];
    told_synced = s.told_synced;
    told_waits = λ it there. absurd (none_there it there);
    behind = λ request it there is waits. absurd (none_there it waits);
    in_order = λ i j d less within. absurd (omega (arith, less, within));
    kept = has;
  }

  crashed_step : (count : ℕ) → Kept (run_over (record old { written = old.written ++ take count old.unwritten; disk = old.disk ++ take count old.unwritten }))
  crashed_step count = over (old.written ++ take count old.unwritten) (old.disk ++ take count old.unwritten)
      (λ it there is. elim (Contains-append_cases old.disk (take count old.unwritten) it there) [
        | inl before ↦ s.told_there it (Contains-append_left old.disk old.unwritten it before) is
        | inr new ↦ s.told_waits it (of_first count old.unwritten it new)
      ])
      (kept_more (take count old.unwritten) (λ c in_c _. of_first count old.unwritten c in_c))

  started_told : (offered : List Entry) → IsOffered old.disk offered → (it : Entry) → Contains offered it → Contains (open_of old.disk) it
  started_told offered o it there = was_open old.disk offered it o there

step : (old : World) (happening : Happening) (new : World) → Happens old happening new → Kept old → Kept new
step old (starts setup moment offered next) new h s = subst Kept (sym h.world) (record {
  down = λ is. absurd (none_up (sym is));
  told_there = s.told_there;
  told_synced = λ it there is. elim (Contains-append_cases old.synced offered it there) [
    | inl before ↦ s.told_synced it before is
    | inr new ↦ s.told_there it (Contains-append_left old.disk old.unwritten it (counted_in is_request old.disk it (started_told old s offered h.offers it new))) is
  ];
  told_waits = s.told_waits;
  behind = λ request it there is waits. absurd (none_there it (subst (λ es. Contains es it) (s.down h.down) waits));
  in_order = s.in_order;
  kept = λ request there is. elim (Contains-append_cases old.synced offered request there) [
    | inl before ↦ s.kept request before is
    | inr new ↦ inr (request, started_told old s offered h.offers request new, refl)
  ];
})
step old (takes request) new h s = subst Kept (sym h.world) (record { down = s.down; told_there = s.told_there; told_synced = s.told_synced; told_waits = s.told_waits; behind = s.behind; in_order = s.in_order; kept = s.kept })
step old (drops request) new h s = subst Kept (sym h.world) (record { down = s.down; told_there = s.told_there; told_synced = s.told_synced; told_waits = s.told_waits; behind = s.behind; in_order = s.in_order; kept = s.kept })
step old (accepts request handed_over moment next) new h s = subst Kept (sym h.world) (accepted_step old s request handed_over moment next h.up)
step old (closes closing handed_over) new h s = subst Kept (sym h.world) (closed_step old s closing handed_over h.up)
step old (lets_go keeps) new h s = subst Kept (sym h.world) (let_go_step old s keeps h.up)
step old (syncs count) new h s = subst Kept (sym h.world) (synced_step old s count h.up)
step old (fails count) new h s = subst Kept (sym h.world) (only_more old s (old.written ++ take count old.unwritten) (take count old.unwritten) h.up (batch_waits old s count) (λ c in_c _. of_first count old.unwritten c in_c))
step old (begins begun) new h s = subst Kept (sym h.world) (begun_step old s begun h.up)
step old (writes_again oldest newer keeps) new h s = subst Kept (sym h.world) (again_step old s oldest newer keeps h.up h.disk)
step old (removes oldest newer moment) new h s = subst Kept (sym h.world) (removed_step old s oldest newer moment h.up h.disk h.none_open)
step old ends new h s = subst Kept (sym h.world) (over old s old.written old.disk (λ it there is. s.told_there it (Contains-append_left old.disk old.unwritten it there) is) s.kept)
step old (crashes count) new h s = subst Kept (sym h.world) (crashed_step old s count)

new_kept_all : (span : ℕ) → Kept (new_world span)
new_kept_all span = record {
  down = λ _. refl;
  told_there = λ it there. absurd (none_there it there);
  told_synced = λ it there. absurd (none_there it there);
  told_waits = λ it there. absurd (none_there it there);
  behind = λ request it there. absurd (none_there request there);
  in_order = λ i j d less within. absurd (omega (arith, less, within));
  kept = λ request there. absurd (none_there request there);
}

pub none_lost : (world : World) → Life world → NoneIsLost world
none_lost world life request there is = elim ((in_life Kept new_kept_all step world life).kept request there is) [
  | inl done ↦ inl done
  | inr o ↦ inr (record { it = o.0; about = o.2; is_open = o.1; held = λ up. (run_has world life).held up o.0 o.1 })
]
