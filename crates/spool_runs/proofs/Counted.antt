-- What counts of entries, as more are written.
use Rattle.std.proofs.Common.{◌≡◌, ℕ, suc, ◌-◌, ◌≤◌, leb, Bool, true, false, cond, not, ◌&&◌, ◌||◌, List, [], ◌∷◌, ◌++◌, Option, Some, None, refl, sym, ap, subst, ◌∙◌, inl, inr, arith}
use Rattle.std.specs.Prelude.{◌⊎◌, All, AllPairs}
use Rattle.std.specs.List.{filter, Contains}
use Rattle.std.specs.Ordering.{eq_by_cmp}
use Rattle.std.proofs.lemmas.Bool.Decides.{nat_tests}
use Rattle.std.proofs.lemmas.List.{append-nil, append_assoc}
use Rattle.std.proofs.lemmas.List.Elements.{All-contains, All-contains_itself, All-weaker, Contains-append_left, Contains-append_right, Contains-append_cases}
use Rattle.std.proofs.lemmas.List.Folds.{list_any-append}
use Rattle.std.proofs.lemmas.List.Kept.{AllPairs-cons, AllPairs-filter}
use Rattle.rad_tables.specs.declared.duplicates.Key.{Key}
use Rattle.rad_tables.specs.Keys.{key_cmp}
use Rattle.rad_tables.proofs.KeyLemmas.{exact_keys, tied}
use Rattle.spool_files.specs.declared.entry.Head.{Head}
use Rattle.spool_files.specs.declared.entry.Head.TheVariants as heads
use Rattle.spool_files.specs.Entries.{Entry}
use Rattle.spool_files.specs.Counting.{key_of, is_key, has_about, is_last, last_of, is_request, is_answer_within, open_of}
use Rattle.spool_files.proofs.CountLemmas.{kept_parts, itself, last_if}
use Rattle.spool_runs.specs.World.{is_closing}
use Rattle.spool_runs.proofs.Among.{first_in, behind, parted, none_there, was_passed, passes}

-- those of the entries that count, and pass a test
abbrev pub counting : (Entry → Bool) → List Entry → List Entry
counting test entries = filter test (last_of entries [])

-- ---- keys

pub same_keys : (one other : Key) → eq_by_cmp key_cmp one other ≡ true → one ≡ other
same_keys one other is = exact_keys one other (tied one other is)

about_by : (key : Key) (o : Option Key) → is_key key o ≡ true → o ≡ Some key
about_by key None is = cc
about_by key (Some other) is = ap Some (sym (same_keys key other is))

pub is_about : (key : Key) (head : Head) → is_key key (key_of head) ≡ true → key_of head ≡ Some key
is_about key head is = about_by key (key_of head) is

pub is_key_of : (key : Key) (head : Head) → key_of head ≡ Some key → is_key key (key_of head) ≡ true
is_key_of key head is = ap (is_key key) is ∙ itself key

-- ---- the last about its request

not_split : (b c : Bool) → not (b || c) ≡ (not b && not c)
not_split true c = refl
not_split false c = refl

not_about : (key : Key) (xs ys : List Entry) → not (has_about key (xs ++ ys)) ≡ (not (has_about key xs) && not (has_about key ys))
not_about key xs ys = ap not (list_any-append (λ (entry : Entry). is_key key (key_of entry.0)) xs ys) ∙ not_split (has_about key xs) (has_about key ys)

last_both : (head : Head) (xs ys : List Entry) → is_last head (xs ++ ys) ≡ (is_last head xs && is_last head ys)
last_both (heads.Begun b) xs ys = refl
last_both (heads.Came c) xs ys = not_about c.key xs ys
last_both (heads.Answered a) xs ys = not_about a.key xs ys
last_both (heads.GivenUp g) xs ys = not_about g.key xs ys

kept_step : (test : Entry → Bool) (entry : Entry) (last : Bool) (entries : List Entry) → filter test (cond last (entry ∷ entries) entries) ≡ cond (test entry && last) (entry ∷ filter test entries) (filter test entries)
kept_step test entry true entries = one (test entry)
  where
    one : (b : Bool) → cond b (entry ∷ filter test entries) (filter test entries) ≡ cond (b && true) (entry ∷ filter test entries) (filter test entries)
    one true = refl
    one false = refl
kept_step test entry false entries = one (test entry)
  where
    one : (b : Bool) → filter test entries ≡ cond (b && false) (entry ∷ filter test entries) (filter test entries)
    one true = refl
    one false = refl

in_front : (t a p : Bool) → (t && (a && p)) ≡ (p && (t && a))
in_front true true true = refl
in_front true true false = refl
in_front true false true = refl
in_front true false false = refl
in_front false true true = refl
in_front false true false = refl
in_front false false true = refl
in_front false false false = refl

again : (test kept : Entry → Bool) (first : Entry) (last : Bool) (entries : List Entry) → filter kept (filter test (cond last (first ∷ entries) entries)) ≡ cond (kept first && (test first && last)) (first ∷ filter kept (filter test entries)) (filter kept (filter test entries))
again test kept first last entries =
    ap (filter kept) (kept_step test first last entries) ∙ kept_step kept first (test first && last) (filter test entries)

-- what counts where others follow is what counted and is not closed by them
still_counting : (test : Entry → Bool) (entries more : List Entry) → filter test (last_of entries more) ≡ filter (λ other. is_last other.0 more) (counting test entries)
still_counting test [] more = refl
still_counting test (first ∷ entries) more =
    let kept : Entry → Bool = λ other. is_last other.0 more in
    let here : Bool = is_last first.0 (entries ++ []) in
    let xs : List Entry = filter test (last_of entries more) in
    kept_step test first (is_last first.0 (entries ++ more)) (last_of entries more)
    ∙ ap (λ (b : Bool). cond (test first && b) (first ∷ xs) xs) (last_both first.0 entries more)
    ∙ ap (λ (b : Bool). cond b (first ∷ xs) xs) (in_front (test first) (is_last first.0 entries) (kept first))
    ∙ ap (λ (es : List Entry). cond (kept first && (test first && is_last first.0 es)) (first ∷ xs) xs) (sym (append-nil entries))
    ∙ ap (λ (es : List Entry). cond (kept first && (test first && here)) (first ∷ es) es) (still_counting test entries more)
    ∙ sym (again test kept first here (last_of entries []))

pub counting_more : (test : Entry → Bool) (entries more : List Entry) → counting test (entries ++ more) ≡ filter (λ other. is_last other.0 more) (counting test entries) ++ counting test more
counting_more test entries more =
    kept_parts test entries more ∙ ap (λ (xs : List Entry). xs ++ counting test more) (still_counting test entries more)

-- what counts of the newer entries counts of all
pub counts_behind : (test : Entry → Bool) (older newer : List Entry) (entry : Entry) → Contains (counting test newer) entry → Contains (counting test (older ++ newer)) entry
counts_behind test older newer entry there =
    subst (λ xs. Contains xs entry) (sym (kept_parts test older newer)) (Contains-append_right (filter test (last_of older newer)) (counting test newer) entry there)

-- what counts counted before, or is new
pub counted_from : (test : Entry → Bool) (entries more : List Entry) (entry : Entry) → Contains (counting test (entries ++ more)) entry → Contains (counting test entries) entry ⊎ Contains (counting test more) entry
counted_from test entries more entry there =
    elim (Contains-append_cases _ (counting test more) entry (subst (λ xs. Contains xs entry) (counting_more test entries more) there)) [
      | inl old ↦ inl ((was_passed (λ other. is_last other.0 more) (counting test entries) entry old).0)
      | inr new ↦ inr new
    ]

-- ---- what counts stands among the entries, passes the test, and nothing about it follows

pub record Counts (test : Entry → Bool) (entries : List Entry) (entry : Entry) : Type 0 where
  pub before : List Entry
  pub later : List Entry
  pub split : entries ≡ before ++ entry ∷ later
  pub last : is_last entry.0 later ≡ true
  pub passed : test entry ≡ true

either : (b : Bool) (x y : Entry) (xs : List Entry) → Contains (cond b (x ∷ xs) xs) y → ((b ≡ true) × (x ≡ y)) ⊎ Contains xs y
either true x y xs there = elim (parted x xs y there) [ inl same ↦ inl (refl, same) | inr later ↦ inr later ]
either false x y xs there = inr there

last_stands : (entries : List Entry) (entry : Entry) → Contains (last_of entries []) entry → Counts (λ _. true) entries entry
last_stands [] entry there = absurd (none_there entry there)
last_stands (first ∷ entries) entry there = elim (either (is_last first.0 (entries ++ [])) first entry (last_of entries []) there) [
  | inl here ↦ record {
    before = [];
    later = entries;
    split = ap (λ e. e ∷ entries) here.1;
    last = ap (λ (e : Entry). is_last e.0 entries) (sym here.1) ∙ ap (is_last first.0) (sym (append-nil entries)) ∙ here.0;
    passed = refl;
  }
  | inr rest ↦
      let s = last_stands entries entry rest in
      record { before = first ∷ s.before; later = s.later; split = ap (λ es. first ∷ es) s.split; last = s.last; passed = refl }
]

pub counted_stands : (test : Entry → Bool) (entries : List Entry) (entry : Entry) → Contains (counting test entries) entry → Counts test entries entry
counted_stands test entries entry there =
    let w = was_passed test (last_of entries []) entry there in
    let s = last_stands entries entry w.0 in
    record { before = s.before; later = s.later; split = s.split; last = s.last; passed = w.1 }

pub counted_in : (test : Entry → Bool) (entries : List Entry) (entry : Entry) → Contains (counting test entries) entry → Contains entries entry
counted_in test entries entry there =
    let s = counted_stands test entries entry there in
    subst (λ es. Contains es entry) (sym s.split) (Contains-append_right s.before (entry ∷ s.later) entry (first_in entry s.later))

-- and the other way round
one_counts : (b : Bool) (entry : Entry) (entries : List Entry) → b ≡ true → Contains (cond b (entry ∷ entries) entries) entry
one_counts true entry entries is = first_in entry entries
one_counts false entry entries is = cc

pub stands_counts : (test : Entry → Bool) (before : List Entry) (entry : Entry) (later : List Entry) → is_last entry.0 later ≡ true → test entry ≡ true → Contains (counting test (before ++ entry ∷ later)) entry
stands_counts test before entry later last passed =
    counts_behind test before (entry ∷ later) entry
    (passes test (last_of (entry ∷ later) []) entry passed
    (one_counts (is_last entry.0 (later ++ [])) entry (last_of later []) (ap (is_last entry.0) (append-nil later) ∙ last)))

-- ---- each request counts once

abbrev pub OtherKeys : Entry → Entry → Type 0
OtherKeys one other = key_of one.0 ≡ key_of other.0 → ⊥

pub other_back : (one other : Entry) → OtherKeys one other → OtherKeys other one
other_back one other apart same = apart (sym same)

none_split : (b c : Bool) → not (b || c) ≡ true → b ≡ true → ⊥
none_split true c is so = cc (is)
none_split false c is so = cc (so)

rest_split : (b c : Bool) → not (b || c) ≡ true → not c ≡ true
rest_split true c is = cc (is)
rest_split false c is = is

not_among : (key : Key) (entries : List Entry) (entry : Entry) → not (has_about key entries) ≡ true → Contains entries entry → key_of entry.0 ≡ Some key → ⊥
not_among key [] entry none there is = none_there entry there
not_among key (first ∷ entries) entry none there is = elim (parted first entries entry there) [
  | inl same ↦ none_split (is_key key (key_of first.0)) (has_about key entries) none (ap (λ (e : Entry). is_key key (key_of e.0)) same ∙ is_key_of key entry.0 is)
  | inr later ↦ not_among key entries entry (rest_split (is_key key (key_of first.0)) (has_about key entries) none) later is
]

pub last_alone : (head : Head) (later : List Entry) (entry : Entry) → is_last head later ≡ true → Contains later entry → key_of head ≡ key_of entry.0 → ⊥
last_alone (heads.Begun b) later entry last there same = cc (last)
last_alone (heads.Came c) later entry last there same = not_among c.key later entry last there (sym same)
last_alone (heads.Answered a) later entry last there same = not_among a.key later entry last there (sym same)
last_alone (heads.GivenUp g) later entry last there same = not_among g.key later entry last there (sym same)

-- the last entries after one more in front
apart_with : (first : Entry) (entries : List Entry) (b : Bool) → is_last first.0 (entries ++ []) ≡ b → AllPairs OtherKeys (last_of entries []) → AllPairs OtherKeys (cond b (first ∷ last_of entries []) (last_of entries []))
apart_with first entries true is apart =
    AllPairs-cons OtherKeys first (last_of entries [])
    (All-weaker (Contains (last_of entries [])) (OtherKeys first)
    (λ x there. last_alone first.0 (entries ++ []) x is
    (let s = last_stands entries x there in
    Contains-append_left entries [] x (subst (λ es. Contains es x) (sym s.split) (Contains-append_right s.before (x ∷ s.later) x (first_in x s.later)))))
    (last_of entries []) (All-contains_itself (last_of entries [])))
    apart
apart_with first entries false is apart = apart

last_apart : (entries : List Entry) → AllPairs OtherKeys (last_of entries [])
last_apart [] = λ i j d less within. absurd (omega (arith, less, within))
last_apart (first ∷ entries) = apart_with first entries (is_last first.0 (entries ++ [])) refl (last_apart entries)

pub counted_apart : (test : Entry → Bool) (entries : List Entry) → AllPairs OtherKeys (counting test entries)
counted_apart test entries = AllPairs-filter OtherKeys test (last_of entries []) (last_apart entries)

pub one_of_key : (xs : List Entry) → AllPairs OtherKeys xs → (one other : Entry) → Contains xs one → Contains xs other → key_of one.0 ≡ key_of other.0 → one ≡ other
one_of_key [] apart one other a b same = absurd (none_there one a)
one_of_key (x ∷ xs) apart one other a b same = elim (parted x xs one a) [
  | inl is ↦ elim (parted x xs other b) [
    | inl is' ↦ sym is ∙ is'
    | inr later ↦ absurd (All-contains (OtherKeys x) xs other head later (ap (λ (e : Entry). key_of e.0) is ∙ same))
  ]
  | inr before ↦ elim (parted x xs other b) [
    | inl is' ↦ absurd (All-contains (OtherKeys x) xs one head before (ap (λ (e : Entry). key_of e.0) is' ∙ sym same))
    | inr later ↦ one_of_key xs (λ i j d less within. apart (suc i) (suc j) d (omega (arith, less)) (omega (arith, within))) one other before later same
  ]
]
  where
    head : All (OtherKeys x) xs
    head k d within = apart 0 (suc k) d (omega arith) (omega (arith, within))

-- ---- what was written of a request is closed by what follows, or counts, or a later request of its key does

closing_is_other : (entry : Entry) → is_closing entry ≡ true → is_request entry ≡ false
closing_is_other (heads.Begun b, text) is = refl
closing_is_other (heads.Came c, text) is = cc (is)
closing_is_other (heads.Answered a, text) is = refl
closing_is_other (heads.GivenUp g, text) is = refl

pub no_request : (entry : Entry) → is_closing entry ≡ true → is_request entry ≡ true → ⊥
no_request entry closing request = cc (sym request ∙ closing_is_other entry closing)

pub begun_has_none : (entry : Entry) (key : Key) → key_of entry.0 ≡ Some key → (is_request entry ≡ true) ⊎ (is_closing entry ≡ true)
begun_has_none (heads.Begun b, text) key is = cc (is)
begun_has_none (heads.Came c, text) key is = inl refl
begun_has_none (heads.Answered a, text) key is = inr refl
begun_has_none (heads.GivenUp g, text) key is = inr refl

-- the last entry about a key
pub record LastAbout (key : Key) (entries : List Entry) : Type 0 where
  pub before : List Entry
  pub entry : Entry
  pub later : List Entry
  pub split : entries ≡ before ++ entry ∷ later
  pub about : key_of entry.0 ≡ Some key
  pub none : has_about key later ≡ false

by_first : (key : Key) (entry : Entry) (entries : List Entry) (b : Bool) → is_key key (key_of entry.0) ≡ b → has_about key entries ≡ false → (has_about key (entry ∷ entries) ≡ false) ⊎ LastAbout key (entry ∷ entries)
by_first key entry entries true is none = inr (record { before = []; entry = entry; later = entries; split = refl; about = is_about key entry.0 is; none = none })
by_first key entry entries false is none = inl (ap (λ (b : Bool). b || has_about key entries) is ∙ none)

pub last_about : (key : Key) (entries : List Entry) → (has_about key entries ≡ false) ⊎ LastAbout key entries
last_about key [] = inl refl
last_about key (entry ∷ entries) = elim (last_about key entries) [
  | inl none ↦ by_first key entry entries (is_key key (key_of entry.0)) refl none
  | inr found ↦ inr (record {
    before = entry ∷ found.before;
    entry = found.entry;
    later = found.later;
    split = ap (λ es. entry ∷ es) found.split;
    about = found.about;
    none = found.none;
  })
]

pub came_key : (request : Entry) → is_request request ≡ true → (key : Key) × (key_of request.0 ≡ Some key)
came_key (heads.Begun b, text) is = cc (is)
came_key (heads.Came c, text) is = (c.key, refl)
came_key (heads.Answered a, text) is = cc (is)
came_key (heads.GivenUp g, text) is = cc (is)

pub last_by : (head : Head) (key : Key) (later : List Entry) → key_of head ≡ Some key → has_about key later ≡ false → is_last head later ≡ true
last_by head key later is none = last_if head key later is ∙ ap not none

-- the request that is still open, of the key of an earlier one
pub record IsOpenNow (entries : List Entry) (request : Entry) (later : List Entry) : Type 0 where
  pub it : Entry
  pub which : Contains (request ∷ later) it
  pub about : key_of it.0 ≡ key_of request.0
  pub counts : Contains (open_of entries) it

pub closed_or_open : (entries before : List Entry) (request : Entry) (later : List Entry) → entries ≡ before ++ request ∷ later → is_request request ≡ true
    → ((closing : Entry) × Contains later closing × (is_closing closing ≡ true) × (key_of closing.0 ≡ key_of request.0)) ⊎ IsOpenNow entries request later
closed_or_open entries before request later split is =
    let k = came_key request is in
    elim (last_about k.0 later) [
      | inl none ↦ inr (record {
        it = request;
        which = first_in request later;
        about = refl;
        counts = subst (λ es. Contains (open_of es) request) (sym split) (stands_counts is_request before request later (last_by request.0 k.0 later k.1 none) is);
      })
      | inr l ↦
          let there : Contains later l.entry = subst (λ es. Contains es l.entry) (sym l.split) (Contains-append_right l.before (l.entry ∷ l.later) l.entry (first_in l.entry l.later)) in
          elim (begun_has_none l.entry k.0 l.about) [
            | inl request_too ↦ inr (record {
              it = l.entry;
              which = behind request later l.entry there;
              about = l.about ∙ sym k.1;
              counts = subst (λ es. Contains (open_of es) l.entry) (sym (split ∙ ap (λ es. before ++ request ∷ es) l.split ∙ sym (append_assoc before (request ∷ l.before) (l.entry ∷ l.later))))
                  (stands_counts is_request (before ++ request ∷ l.before) l.entry l.later (last_by l.entry.0 k.0 l.later l.about l.none) request_too);
            })
            | inr closing ↦ inl (l.entry, there, closing, l.about ∙ sym k.1)
          ]
    ]

-- ---- a span that goes on

late_too : (earlier later span less moment : ℕ) → earlier ≤ later → less ≤ span → leb (later - moment) less ≡ true → leb (earlier - moment) span ≡ true
late_too earlier later span less moment le fewer is = grind (arith, nat_tests)

pub within_before : (earlier later span less : ℕ) (entry : Entry) → earlier ≤ later → less ≤ span → is_answer_within later less entry ≡ true → is_answer_within earlier span entry ≡ true
within_before earlier later span less (heads.Begun b, text) le fewer is = is
within_before earlier later span less (heads.Came c, text) le fewer is = is
within_before earlier later span less (heads.Answered a, text) le fewer is = late_too earlier later span less a.moment le fewer is
within_before earlier later span less (heads.GivenUp g, text) le fewer is = is
