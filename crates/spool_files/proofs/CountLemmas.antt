-- What counts of entries.
use Rattle.std.proofs.Common.{◌≡◌, ℕ, ◌+◌, ◌-◌, ◌*◌, ◌≤◌, leb, ltb, Bool, true, false, cond, not, ◌&&◌, ◌||◌, List, [], ◌∷◌, ◌++◌, Option, Some, None, refl, sym, ap, ◌∙◌, arith, subst}
use Rattle.std.proofs.lemmas.Bool.Decides.{nat_tests}
use Rattle.std.proofs.lemmas.List.{append-nil, append_assoc, reverse-append, reverse-reverse}
use Rattle.std.proofs.lemmas.List.Elements.{filter-append}
use Rattle.std.proofs.lemmas.List.Folds.{list_any-append}
use Rattle.std.proofs.lemmas.Cmp.{eq_by_cmp_equiv}
use Rattle.std.specs.Prelude.{reverse, is_some}
use Rattle.std.specs.List.{filter, AllByRecursion}
use Rattle.std.specs.FinMap as table
use Rattle.std.specs.Ordering.{eq_by_cmp}
use Rattle.rad_tables.specs.declared.duplicates.Key.{Key}
use Rattle.rad_tables.specs.Keys.{key_cmp}
use Rattle.rad_tables.proofs.KeyLemmas.{keys_total}
use Rattle.spool_files.specs.declared.entry.Head.{Head}
use Rattle.spool_files.specs.declared.entry.Head.TheVariants as heads
use Rattle.spool_files.specs.declared.counting.Counted.{Counted}
use Rattle.spool_files.specs.Entries.{Entry}
use Rattle.spool_files.specs.Counting.{key_of, is_key, has_about, is_last, last_of, is_request, is_answer_within, open_before, answers_before, open_of, answers_of, request_entries, answer_entries, Knows, Counts, RemovalKeeps, WritingOnceMoreKeeps, InParts, Closes, Size, total_of, within_of, OldestIsPast, AnsweredBy, PastCanGo}

-- ---- the last entries of a list in two parts

put_in_front : (b : Bool) (entry : Entry) (xs ys : List Entry) → cond b (entry ∷ (xs ++ ys)) (xs ++ ys) ≡ cond b (entry ∷ xs) xs ++ ys
put_in_front true entry xs ys = refl
put_in_front false entry xs ys = refl

pub last_append : (older newer later : List Entry) → last_of (older ++ newer) later ≡ last_of older (newer ++ later) ++ last_of newer later
last_append [] newer later = refl
last_append (entry ∷ older) newer later =
    ap (λ (rest : List Entry). cond (is_last entry.0 rest) (entry ∷ last_of (older ++ newer) later) (last_of (older ++ newer) later)) (append_assoc older newer later)
    ∙ ap (λ (xs : List Entry). cond (is_last entry.0 (older ++ (newer ++ later))) (entry ∷ xs) xs) (last_append older newer later)
    ∙ put_in_front (is_last entry.0 (older ++ (newer ++ later))) entry (last_of older (newer ++ later)) (last_of newer later)

pub kept_append : (test : Entry → Bool) (older newer later : List Entry) → filter test (last_of (older ++ newer) later) ≡ filter test (last_of older (newer ++ later)) ++ filter test (last_of newer later)
kept_append test older newer later =
    ap (filter test) (last_append older newer later) ∙ filter-append test (last_of older (newer ++ later)) (last_of newer later)

pub kept_parts : (test : Entry → Bool) → InParts test
kept_parts test older newer =
    kept_append test older newer [] ∙ ap (λ (rest : List Entry). filter test (last_of older rest) ++ filter test (last_of newer [])) (append-nil newer)

pub removal : (now span : ℕ) (oldest newer : List Entry) → open_before oldest newer ≡ [] → answers_before now span oldest newer ≡ [] → RemovalKeeps now span oldest newer
removal now span oldest newer none_open none_kept = record {
  requests = kept_parts is_request oldest newer ∙ ap (λ (xs : List Entry). xs ++ open_of newer) none_open;
  answers = kept_parts (is_answer_within now span) oldest newer ∙ ap (λ (xs : List Entry). xs ++ answers_of now span newer) none_kept;
}

pub none_reversed : (entries : List Entry) → reverse entries ≡ [] → entries ≡ []
none_reversed entries none = sym (reverse-reverse entries) ∙ ap reverse none

-- ---- the keys that are known

pub itself : (key : Key) → is_key key (Some key) ≡ true
itself key = (eq_by_cmp_equiv keys_total).refl key

none_some : (key : Key) → None ≡ Some key → ⊥
none_some key e = absurd cc

same_key : (one other : Key) → Some one ≡ Some other → one ≡ other
same_key one other e = cc

pub last_if : (head : Head) (key : Key) (later : List Entry) → key_of head ≡ Some key → is_last head later ≡ not (has_about key later)
last_if (heads.Begun b) key later is = absurd (none_some key is)
last_if (heads.Came c) key later is = ap (λ (k : Key). not (has_about k later)) (same_key c.key key is)
last_if (heads.Answered a) key later is = ap (λ (k : Key). not (has_about k later)) (same_key a.key key is)
last_if (heads.GivenUp g) key later is = ap (λ (k : Key). not (has_about k later)) (same_key g.key key is)

some_none : (key : Key) → Some key ≡ None → ⊥
some_none key e = absurd cc

pub last_of_none : (head : Head) (later : List Entry) → key_of head ≡ None → is_last head later ≡ false
last_of_none (heads.Begun b) later none = refl
last_of_none (heads.Came c) later none = absurd (some_none c.key none)
last_of_none (heads.Answered a) later none = absurd (some_none a.key none)
last_of_none (heads.GivenUp g) later none = absurd (some_none g.key none)

pub none_known : (known : table.FinMap key_cmp ℕ) → known ≡ table.empty → Knows known []
none_known known none = λ key. ap (λ m. is_some (table.get m key)) none ∙ ap is_some (table.get-empty key_cmp key)

pub noted : (old new : table.FinMap key_cmp ℕ) (key : Key) (entries : List Entry) (head : Head) (text : List ℕ) → key_of head ≡ Some key → new ≡ table.insert old key 0 → Knows old entries → Knows new ((head, text) ∷ entries)
noted old new key entries head text about inserted knows = λ other.
    ap (λ m. is_some (table.get m other)) inserted
    ∙ ap is_some (table.get-insert keys_total old key 0 other)
    ∙ one (eq_by_cmp key_cmp other key) (table.get old other)
    ∙ ap (λ (b : Bool). eq_by_cmp key_cmp other key || b) (knows other)
    ∙ ap (λ (k : Option Key). is_key other k || has_about other entries) (sym about)
  where
    one : (b : Bool) (o : Option ℕ) → is_some (cond b (Some 0) o) ≡ (b || is_some o)
    one true o = refl
    one false o = refl

pub not_noted : (known : table.FinMap key_cmp ℕ) (entries : List Entry) (head : Head) (text : List ℕ) → key_of head ≡ None → Knows known entries → Knows known ((head, text) ∷ entries)
not_noted known entries head text about knows = λ other. knows other ∙ ap (λ (k : Option Key). is_key other k || has_about other entries) (sym about)

-- ---- an entry that is counted

kept_step : (test : Entry → Bool) (entry : Entry) (last : Bool) (entries : List Entry) → filter test (cond last (entry ∷ entries) entries) ≡ cond (test entry && last) (entry ∷ filter test entries) (filter test entries)
kept_step test entry true entries = one (test entry)
  where
    one : (b : Bool) → cond b (entry ∷ filter test entries) (filter test entries) ≡ cond (b && true) (entry ∷ filter test entries) (filter test entries)
    one true = refl
    one false = refl
kept_step test entry false entries = one (test entry)
  where
    one : (b : Bool) → filter test entries ≡ cond (b && false) (entry ∷ filter test entries) (filter test entries)
    one true = refl
    one false = refl

reversed : (c : Bool) (entry : Entry) (entries : List Entry) → reverse entries ++ cond c (entry ∷ []) [] ≡ reverse (cond c (entry ∷ entries) entries)
reversed true entry entries = sym (reverse-append (entry ∷ []) entries)
reversed false entry entries = append-nil (reverse entries)

-- what is pushed if an entry passes a test and is the last about its request
pushed : (test : Entry → Bool) (head : Head) (text : List ℕ) (done later old new : List Entry) → old ≡ reverse (filter test (last_of done later))
    → new ≡ old ++ cond (test (head, text) && is_last head (done ++ later)) ((head, text) ∷ []) []
    → new ≡ reverse (filter test (last_of ((head, text) ∷ done) later))
pushed test head text done later old new was is =
    let counts : Bool = test (head, text) && is_last head (done ++ later) in
    is
    ∙ ap (λ (xs : List Entry). xs ++ cond counts ((head, text) ∷ []) []) was
    ∙ reversed counts (head, text) (filter test (last_of done later))
    ∙ ap reverse (sym (kept_step test (head, text) (is_last head (done ++ later)) (last_of done later)))

nothing_more : (old : List Entry) (b : Bool) (entry : Entry) → b ≡ false → old ≡ old ++ cond b (entry ∷ []) []
nothing_more old b entry not = sym (ap (λ (c : Bool). old ++ cond c (entry ∷ []) []) not ∙ append-nil old)

one_more : (old : List Entry) (b : Bool) (entry : Entry) → b ≡ true → old ++ entry ∷ [] ≡ old ++ cond b (entry ∷ []) []
one_more old b entry is = sym (ap (λ (c : Bool). old ++ cond c (entry ∷ []) []) is)

pub and_false : (b c : Bool) → c ≡ false → (b && c) ≡ false
and_false true c is = is
and_false false c is = refl

-- an entry of another kind, or one that does not count, is passed by
pub passed_by : (now span : ℕ) (old new : Counted) (done later : List Entry) (head : Head) (text : List ℕ) → Counts now span old done later
    → Knows new.known ((head, text) ∷ (done ++ later)) → new.requests ≡ old.requests → new.answers ≡ old.answers
    → (is_request (head, text) && is_last head (done ++ later)) ≡ false
    → (is_answer_within now span (head, text) && is_last head (done ++ later)) ≡ false
    → Counts now span new ((head, text) ∷ done) later
passed_by now span old new done later head text counts known same_requests same_answers not_open not_kept = record {
  known = known;
  requests = pushed is_request head text done later _ _ counts.requests (ap (λ v. request_entries v.items) same_requests ∙ nothing_more _ _ (head, text) not_open);
  answers = pushed (is_answer_within now span) head text done later _ _ counts.answers (ap (λ v. answer_entries v.items) same_answers ∙ nothing_more _ _ (head, text) not_kept);
}

pub request_counted : (now span : ℕ) (old new : Counted) (done later : List Entry) (head : Head) (text : List ℕ) → Counts now span old done later
    → Knows new.known ((head, text) ∷ (done ++ later)) → request_entries new.requests.items ≡ request_entries old.requests.items ++ (head, text) ∷ [] → new.answers ≡ old.answers
    → (is_request (head, text) && is_last head (done ++ later)) ≡ true
    → (is_answer_within now span (head, text) && is_last head (done ++ later)) ≡ false
    → Counts now span new ((head, text) ∷ done) later
request_counted now span old new done later head text counts known more same_answers is not_kept = record {
  known = known;
  requests = pushed is_request head text done later _ _ counts.requests (more ∙ one_more _ _ (head, text) is);
  answers = pushed (is_answer_within now span) head text done later _ _ counts.answers (ap (λ v. answer_entries v.items) same_answers ∙ nothing_more _ _ (head, text) not_kept);
}

pub answer_counted : (now span : ℕ) (old new : Counted) (done later : List Entry) (head : Head) (text : List ℕ) → Counts now span old done later
    → Knows new.known ((head, text) ∷ (done ++ later)) → new.requests ≡ old.requests → answer_entries new.answers.items ≡ answer_entries old.answers.items ++ (head, text) ∷ []
    → (is_request (head, text) && is_last head (done ++ later)) ≡ false
    → (is_answer_within now span (head, text) && is_last head (done ++ later)) ≡ true
    → Counts now span new ((head, text) ∷ done) later
answer_counted now span old new done later head text counts known same_requests more not_open is = record {
  known = known;
  requests = pushed is_request head text done later _ _ counts.requests (ap (λ v. request_entries v.items) same_requests ∙ nothing_more _ _ (head, text) not_open);
  answers = pushed (is_answer_within now span) head text done later _ _ counts.answers (more ∙ one_more _ _ (head, text) is);
}

-- ---- what is written once more

not_split : (b c : Bool) → not (b || c) ≡ (not b && not c)
not_split true c = refl
not_split false c = refl

not_about : (key : Key) (xs ys : List Entry) → not (has_about key (xs ++ ys)) ≡ (not (has_about key xs) && not (has_about key ys))
not_about key xs ys = ap not (list_any-append (λ (entry : Entry). is_key key (key_of entry.0)) xs ys) ∙ not_split (has_about key xs) (has_about key ys)

last_both : (head : Head) (xs ys : List Entry) → is_last head (xs ++ ys) ≡ (is_last head xs && is_last head ys)
last_both (heads.Begun b) xs ys = refl
last_both (heads.Came c) xs ys = not_about c.key xs ys
last_both (heads.Answered a) xs ys = not_about a.key xs ys
last_both (heads.GivenUp g) xs ys = not_about g.key xs ys

-- each of these entries is the last about its request, where others follow it
abbrev AreLast : List Entry → List Entry → Type 0
AreLast [] later = Unit {0}
AreLast (entry ∷ entries) later = (is_last entry.0 later ≡ true) × AreLast entries later

first_true : (b c : Bool) → (b && c) ≡ true → b ≡ true
first_true true c is = refl
first_true false c is = is

second_true : (b c : Bool) → (b && c) ≡ true → c ≡ true
second_true true c is = is
second_true false c is = cc (is)

both_true : (b c : Bool) → b ≡ true → c ≡ true → (b && c) ≡ true
both_true b c one other = ap (λ (d : Bool). d && c) one ∙ other

last_front : (head : Head) (xs ys : List Entry) → is_last head (xs ++ ys) ≡ true → is_last head xs ≡ true
last_front head xs ys is = first_true (is_last head xs) (is_last head ys) (sym (last_both head xs ys) ∙ is)

last_behind : (head : Head) (xs ys : List Entry) → is_last head (xs ++ ys) ≡ true → is_last head ys ≡ true
last_behind head xs ys is = second_true (is_last head xs) (is_last head ys) (sym (last_both head xs ys) ∙ is)

-- of a list that may begin with one entry more
one_of : (P : List Entry → Type 0) (c : Bool) (entry : Entry) (entries : List Entry) → (c ≡ true → P (entry ∷ entries)) → P entries → P (cond c (entry ∷ entries) entries)
one_of P true entry entries more less = more refl
one_of P false entry entries more less = less

opened : (entry : Entry) (older newer : List Entry) → open_before (entry ∷ older) newer ≡ cond (is_request entry && is_last entry.0 (older ++ newer)) (entry ∷ open_before older newer) (open_before older newer)
opened entry older newer = kept_step is_request entry (is_last entry.0 (older ++ newer)) (last_of older newer)

opened_last : (older newer : List Entry) → AreLast (open_before older newer) newer
opened_last [] newer = tt
opened_last (entry ∷ older) newer =
    subst (λ (xs : List Entry). AreLast xs newer) (sym (opened entry older newer))
    (one_of (λ (xs : List Entry). AreLast xs newer) (is_request entry && is_last entry.0 (older ++ newer)) entry (open_before older newer)
    (λ is. (last_behind entry.0 older newer (second_true (is_request entry) (is_last entry.0 (older ++ newer)) is), opened_last older newer))
    (opened_last older newer))

last_of_open : (head : Head) (older newer : List Entry) → is_last head older ≡ true → is_last head (open_before older newer) ≡ true
last_of_open head [] newer is = is
last_of_open head (entry ∷ older) newer is =
    subst (λ (xs : List Entry). is_last head xs ≡ true) (sym (opened entry older newer))
    (one_of (λ (xs : List Entry). is_last head xs ≡ true) (is_request entry && is_last entry.0 (older ++ newer)) entry (open_before older newer)
    (λ _. last_both head (entry ∷ []) (open_before older newer) ∙ both_true _ _ (last_front head (entry ∷ []) older is) (last_of_open head older newer (last_behind head (entry ∷ []) older is)))
    (last_of_open head older newer (last_behind head (entry ∷ []) older is)))

opened_again : (older newer : List Entry) → open_of (open_before older newer) ≡ open_before older newer
opened_again [] newer = refl
opened_again (entry ∷ older) newer =
    subst (λ (xs : List Entry). open_of xs ≡ xs) (sym (opened entry older newer))
    (one_of (λ (xs : List Entry). open_of xs ≡ xs) (is_request entry && is_last entry.0 (older ++ newer)) entry (open_before older newer)
    (λ is.
    let last : is_last entry.0 (open_before older newer ++ []) ≡ true = ap (is_last entry.0) (append-nil (open_before older newer)) ∙ last_of_open entry.0 older newer (last_front entry.0 older newer (second_true (is_request entry) (is_last entry.0 (older ++ newer)) is)) in
    opened entry (open_before older newer) []
    ∙ ap (λ (c : Bool). cond c (entry ∷ open_of (open_before older newer)) (open_of (open_before older newer))) (both_true _ _ (first_true (is_request entry) (is_last entry.0 (older ++ newer)) is) last)
    ∙ ap (λ (xs : List Entry). entry ∷ xs) (opened_again older newer))
    (opened_again older newer))

no_answers : (now span : ℕ) (entries : List Entry) → answers_of now span (filter is_request entries) ≡ []
no_answers now span [] = refl
no_answers now span ((heads.Begun b, text) ∷ entries) = no_answers now span entries
no_answers now span ((heads.Came c, text) ∷ entries) =
    kept_step (is_answer_within now span) (heads.Came c, text) (is_last (heads.Came c) (filter is_request entries ++ [])) (last_of (filter is_request entries) []) ∙ no_answers now span entries
no_answers now span ((heads.Answered a, text) ∷ entries) = no_answers now span entries
no_answers now span ((heads.GivenUp g, text) ∷ entries) = no_answers now span entries

front_false : (b c : Bool) → not (b || c) ≡ true → b ≡ false
front_false true c is = cc (is)
front_false false c is = refl

unlike_key : (key other : Key) (about : Option Key) (h : Bool) → about ≡ Some key → not (is_key other about || h) ≡ true → is_key key (Some other) ≡ false
unlike_key key other about h is not_first =
    (eq_by_cmp_equiv keys_total).symm key other
    ∙ sym (ap (is_key other) is)
    ∙ front_false (is_key other about) h not_first

unlike : (key : Key) (entry : Entry) → key_of entry.0 ≡ Some key → (head : Head) (rest : List Entry) → is_last head (entry ∷ rest) ≡ true → is_key key (key_of head) ≡ false
unlike key entry is (heads.Begun b) rest last = refl
unlike key entry is (heads.Came c) rest last = unlike_key key c.key (key_of entry.0) (has_about c.key rest) is last
unlike key entry is (heads.Answered a) rest last = unlike_key key a.key (key_of entry.0) (has_about a.key rest) is last
unlike key entry is (heads.GivenUp g) rest last = unlike_key key g.key (key_of entry.0) (has_about g.key rest) is last

none_about : (key : Key) (entry : Entry) → key_of entry.0 ≡ Some key → (copies rest : List Entry) → AreLast copies (entry ∷ rest) → not (has_about key copies) ≡ true
none_about key entry is [] rest all = refl
none_about key entry is (copy ∷ copies) rest all =
    ap (λ (b : Bool). not (b || has_about key copies)) (unlike key entry is copy.0 rest all.0) ∙ none_about key entry is copies rest all.1

same_last : (entry : Entry) (copies rest : List Entry) → AreLast copies (entry ∷ rest) → is_last entry.0 copies ≡ is_last entry.0 []
same_last (heads.Begun b, text) copies rest all = refl
same_last (heads.Came c, text) copies rest all = none_about c.key (heads.Came c, text) refl copies rest all
same_last (heads.Answered a, text) copies rest all = none_about a.key (heads.Answered a, text) refl copies rest all
same_last (heads.GivenUp g, text) copies rest all = none_about g.key (heads.GivenUp g, text) refl copies rest all

behind_first : (copies : List Entry) (entry : Entry) (rest : List Entry) → AreLast copies (entry ∷ rest) → AreLast copies rest
behind_first [] entry rest all = tt
behind_first (copy ∷ copies) entry rest all = (last_behind copy.0 (entry ∷ []) rest all.0, behind_first copies entry rest all.1)

keeps_newer : (newer copies : List Entry) → AreLast copies newer → last_of newer copies ≡ last_of newer []
keeps_newer [] copies all = refl
keeps_newer (entry ∷ newer) copies all =
    let same : is_last entry.0 (newer ++ copies) ≡ is_last entry.0 (newer ++ []) =
    last_both entry.0 newer copies
    ∙ ap (λ (b : Bool). is_last entry.0 newer && b) (same_last entry copies newer all)
    ∙ sym (last_both entry.0 newer []) in
    ap (λ (b : Bool). cond b (entry ∷ last_of newer copies) (last_of newer copies)) same
    ∙ ap (λ (xs : List Entry). cond (is_last entry.0 (newer ++ [])) (entry ∷ xs) xs) (keeps_newer newer copies (behind_first copies entry newer all))

before_itself : (entry : Entry) (rest : List Entry) → is_last entry.0 (entry ∷ rest) ≡ false
before_itself (heads.Begun b, text) rest = refl
before_itself (heads.Came c, text) rest = ap (λ (b : Bool). not (b || has_about c.key rest)) (itself c.key)
before_itself (heads.Answered a, text) rest = ap (λ (b : Bool). not (b || has_about a.key rest)) (itself a.key)
before_itself (heads.GivenUp g, text) rest = ap (λ (b : Bool). not (b || has_about g.key rest)) (itself g.key)

four_last : (head : Head) (xs ys zs us : List Entry) → is_last head (xs ++ (ys ++ (zs ++ us))) ≡ (is_last head xs && (is_last head ys && (is_last head zs && is_last head us)))
four_last head xs ys zs us =
    last_both head xs (ys ++ (zs ++ us))
    ∙ ap (λ (b : Bool). is_last head xs && b) (last_both head ys (zs ++ us))
    ∙ ap (λ (b : Bool). is_last head xs && (is_last head ys && b)) (last_both head zs us)

none_of_four : (r a b c : Bool) → (r && (a && (b && (c && false)))) ≡ false
none_of_four true true true true = refl
none_of_four true true true false = refl
none_of_four true true false c = refl
none_of_four true false b c = refl
none_of_four false a b c = refl

still_not : (r a b c d : Bool) → (r && (a && b)) ≡ false → (r && (a && (b && (c && d)))) ≡ false
still_not true true true c d not = cc (not)
still_not true true false c d not = refl
still_not true false b c d not = refl
still_not false a b c d not = refl

closed_one : (entry : Entry) (older newer before copies : List Entry) → ((before : List Entry) → open_before older (newer ++ (before ++ copies)) ≡ []) → (c : Bool) → (is_request entry && is_last entry.0 (older ++ newer)) ≡ c
    → open_before (entry ∷ older) (newer ++ (before ++ cond c (entry ∷ copies) copies)) ≡ []
closed_one entry older newer before copies others true is =
    opened entry older (newer ++ (before ++ entry ∷ copies))
    ∙ ap (λ (c : Bool). cond c (entry ∷ open_before older (newer ++ (before ++ entry ∷ copies))) (open_before older (newer ++ (before ++ entry ∷ copies))))
    (ap (λ (b : Bool). is_request entry && b) (four_last entry.0 older newer before (entry ∷ copies) ∙ ap (λ (b : Bool). is_last entry.0 older && (is_last entry.0 newer && (is_last entry.0 before && b))) (before_itself entry copies))
    ∙ none_of_four (is_request entry) (is_last entry.0 older) (is_last entry.0 newer) (is_last entry.0 before))
    ∙ ap (λ (xs : List Entry). open_before older (newer ++ xs)) (sym (append_assoc before (entry ∷ []) copies))
    ∙ others (before ++ entry ∷ [])
closed_one entry older newer before copies others false is =
    opened entry older (newer ++ (before ++ copies))
    ∙ ap (λ (c : Bool). cond c (entry ∷ open_before older (newer ++ (before ++ copies))) (open_before older (newer ++ (before ++ copies))))
    (ap (λ (b : Bool). is_request entry && b) (four_last entry.0 older newer before copies)
    ∙ still_not (is_request entry) (is_last entry.0 older) (is_last entry.0 newer) (is_last entry.0 before) (is_last entry.0 copies)
    (ap (λ (b : Bool). is_request entry && b) (sym (last_both entry.0 older newer)) ∙ is))
    ∙ others before

closed : (older newer before : List Entry) → open_before older (newer ++ (before ++ open_before older newer)) ≡ []
closed [] newer before = refl
closed (entry ∷ older) newer before =
    subst (λ (xs : List Entry). open_before (entry ∷ older) (newer ++ (before ++ xs)) ≡ []) (sym (opened entry older newer))
    (closed_one entry older newer before (open_before older newer) (closed older newer) (is_request entry && is_last entry.0 (older ++ newer)) refl)

pub written_once_more : (now span : ℕ) (oldest newer : List Entry) → WritingOnceMoreKeeps now span oldest newer
written_once_more now span oldest newer =
    let copies : List Entry = open_before oldest newer in
    let same : last_of newer copies ≡ last_of newer [] = keeps_newer newer copies (opened_last oldest newer) in
    let without : open_of (newer ++ copies) ≡ open_of newer ++ copies =
    kept_parts is_request newer copies
    ∙ ap (λ (xs : List Entry). filter is_request xs ++ open_of copies) same
    ∙ ap (λ (xs : List Entry). open_of newer ++ xs) (opened_again oldest newer) in
    let none : open_before oldest (newer ++ copies) ≡ [] = closed oldest newer [] in
    record {
      with_oldest = kept_parts is_request oldest (newer ++ copies) ∙ ap (λ (xs : List Entry). xs ++ open_of (newer ++ copies)) none ∙ without;
      without_oldest = without;
      oldest_closed = none;
      answers =
          kept_parts (is_answer_within now span) newer copies
          ∙ ap (λ (xs : List Entry). filter (is_answer_within now span) xs ++ answers_of now span copies) same
          ∙ ap (λ (xs : List Entry). answers_of now span newer ++ xs) (no_answers now span (last_of oldest newer))
          ∙ append-nil (answers_of now span newer);
    }

-- ---- what an entry closes

in_front : (t a p : Bool) → (t && (a && p)) ≡ (p && (t && a))
in_front true true true = refl
in_front true true false = refl
in_front true false true = refl
in_front true false false = refl
in_front false true true = refl
in_front false true false = refl
in_front false false true = refl
in_front false false false = refl

-- filtered once more
again : (test kept : Entry → Bool) (first : Entry) (last : Bool) (entries : List Entry) → filter kept (filter test (cond last (first ∷ entries) entries)) ≡ cond (kept first && (test first && last)) (first ∷ filter kept (filter test entries)) (filter kept (filter test entries))
again test kept first last entries =
    ap (filter kept) (kept_step test first last entries) ∙ kept_step kept first (test first && last) (filter test entries)

earlier : (test : Entry → Bool) (entries : List Entry) (entry : Entry) → filter test (last_of entries (entry ∷ [])) ≡ filter (λ other. is_last other.0 (entry ∷ [])) (filter test (last_of entries []))
earlier test [] entry = refl
earlier test (first ∷ entries) entry =
    let kept : Entry → Bool = λ other. is_last other.0 (entry ∷ []) in
    let here : Bool = is_last first.0 (entries ++ []) in
    let xs : List Entry = filter test (last_of entries (entry ∷ [])) in
    kept_step test first (is_last first.0 (entries ++ entry ∷ [])) (last_of entries (entry ∷ []))
    ∙ ap (λ (b : Bool). cond (test first && b) (first ∷ xs) xs) (last_both first.0 entries (entry ∷ []))
    ∙ ap (λ (b : Bool). cond b (first ∷ xs) xs) (in_front (test first) (is_last first.0 entries) (kept first))
    ∙ ap (λ (es : List Entry). cond (kept first && (test first && is_last first.0 es)) (first ∷ xs) xs) (sym (append-nil entries))
    ∙ ap (λ (es : List Entry). cond (kept first && (test first && here)) (first ∷ es) es) (earlier test entries entry)
    ∙ sym (again test kept first here (last_of entries []))

itself_last : (test : Entry → Bool) → ((entry : Entry) → key_of entry.0 ≡ None → test entry ≡ false) → (entry : Entry) → filter test (last_of (entry ∷ []) []) ≡ filter test (entry ∷ [])
itself_last test begun (heads.Begun b, text) = sym (ap (λ (c : Bool). cond c ((heads.Begun b, text) ∷ []) []) (begun (heads.Begun b, text) refl))
itself_last test begun (heads.Came c, text) = refl
itself_last test begun (heads.Answered a, text) = refl
itself_last test begun (heads.GivenUp g, text) = refl

pub closes_earlier : (test : Entry → Bool) → ((entry : Entry) → key_of entry.0 ≡ None → test entry ≡ false) → Closes test
closes_earlier test begun entries entry =
    kept_parts test entries (entry ∷ [])
    ∙ ap (λ (xs : List Entry). xs ++ filter test (last_of (entry ∷ []) [])) (earlier test entries entry)
    ∙ ap (λ (xs : List Entry). filter (λ other. is_last other.0 (entry ∷ [])) (filter test (last_of entries [])) ++ xs) (itself_last test begun entry)

pub begun_is_no_request : (entry : Entry) → key_of entry.0 ≡ None → is_request entry ≡ false
begun_is_no_request (heads.Begun b, text) none = refl
begun_is_no_request (heads.Came c, text) none = absurd (some_none c.key none)
begun_is_no_request (heads.Answered a, text) none = refl
begun_is_no_request (heads.GivenUp g, text) none = refl

pub begun_is_no_answer : (now span : ℕ) (entry : Entry) → key_of entry.0 ≡ None → is_answer_within now span entry ≡ false
begun_is_no_answer now span (heads.Begun b, text) none = refl
begun_is_no_answer now span (heads.Came c, text) none = refl
begun_is_no_answer now span (heads.Answered a, text) none = absurd (some_none a.key none)
begun_is_no_answer now span (heads.GivenUp g, text) none = refl

-- ---- the octets of all segments

late_too : (now span earlier later : ℕ) → earlier ≤ later → leb (now - earlier) span ≡ true → leb (now - later) span ≡ true
late_too now span earlier later le is = grind (arith, nat_tests)

all_within : (now span : ℕ) (oldest : Size) (newer : List Size) → AllByRecursion (λ size. oldest.1 ≤ size.1) newer → leb (now - oldest.1) span ≡ true → within_of now span newer ≡ total_of newer
all_within now span oldest [] after is = refl
all_within now span oldest (size ∷ newer) after is =
    ap (λ (b : Bool). cond b size.0 0 + within_of now span newer) (late_too now span oldest.1 size.1 after.0 is)
    ∙ ap (λ (n : ℕ). size.0 + n) (all_within now span oldest newer after.1 is)

no_more : (a b c n : ℕ) → b ≡ n → ltb (a + b + c) n ≡ true → ⊥
no_more a b c n is more = grind (arith, nat_tests)

pub oldest_is_past : OldestIsPast
oldest_is_past now span most counting oldest newer after more = one (leb (now - oldest.1) span) refl
  where
    one : (b : Bool) → leb (now - oldest.1) span ≡ b → b ≡ false
    one true is =
        absurd (no_more (4 * counting) (within_of now span (oldest ∷ newer)) (3 * most) (total_of (oldest ∷ newer))
        (ap (λ (b : Bool). cond b oldest.0 0 + within_of now span newer) is ∙ ap (λ (n : ℕ). oldest.0 + n) (all_within now span oldest newer after is)) more)
    one false is = refl

late_again : (now span earlier later : ℕ) → earlier ≤ later → leb (now - later) span ≡ false → leb (now - earlier) span ≡ false
late_again now span earlier later le is = grind (arith, nat_tests)

not_within : (now span moment : ℕ) (entry : Entry) → AnsweredBy moment entry → leb (now - moment) span ≡ false → is_answer_within now span entry ≡ false
not_within now span moment (heads.Begun b, text) by past = refl
not_within now span moment (heads.Came c, text) by past = refl
not_within now span moment (heads.Answered a, text) by past = late_again now span a.moment moment by past
not_within now span moment (heads.GivenUp g, text) by past = refl

none_within : (now span moment : ℕ) (entries later : List Entry) → AllByRecursion (AnsweredBy moment) entries → leb (now - moment) span ≡ false → answers_before now span entries later ≡ []
none_within now span moment [] later by past = refl
none_within now span moment (entry ∷ entries) later by past =
    kept_step (is_answer_within now span) entry (is_last entry.0 (entries ++ later)) (last_of entries later)
    ∙ ap (λ (b : Bool). cond (b && is_last entry.0 (entries ++ later)) (entry ∷ answers_before now span entries later) (answers_before now span entries later)) (not_within now span moment entry by.0 past)
    ∙ none_within now span moment entries later by.1 past

pub past_can_go : PastCanGo
past_can_go now span moment oldest newer by past =
    removal now span oldest (newer ++ open_before oldest newer) ((written_once_more now span oldest newer).oldest_closed) (none_within now span moment oldest (newer ++ open_before oldest newer) by past)
