-- What is kept of each client, where a queue of one of them changes.
use Rattle.std.specs.Prelude.{◌≡◌, ◌≢◌, ℕ, zero, suc, ◌+◌, ◌-◌, ◌<◌, ◌≤◌, Bool, true, false, List, [], ◌∷◌, ◌++◌, length, map, bytes_eq, nat_lt, slice_get, is_some, Option, Some, None, IfOk, IfSome, Result, Ok, Err, MatchResult, if◌then◌else◌}
use Rattle.std.specs.List.{All, filter, position, position_or_len, remove}
use Rattle.std.proofs.Common.{refl, sym, ap, subst, ◌∙◌, ◌⊎◌, ⊎_elim, inl, inr, get_or, take, arith, append_assoc, ltb}
use Rattle.std.proofs.Math.ListN.{set}
use Rattle.std.proofs.lemmas.Bool.{false≢true, true≢false, false_from_ne_true, leb-true, ltb-false, ltb-true}
use Rattle.std.proofs.lemmas.List.{append-nil, length-append, length-map, length-set, map-append, nil_from_length, take_all}
use Rattle.std.proofs.lemmas.List.Concat.{flat_map-append}
use Rattle.std.proofs.lemmas.List.Quantifiers.{all_pairs_push, position-Some}
use Rattle.std.proofs.lemmas.List.Sums.{fails_before_first}
use Rattle.std.proofs.lemmas.List.Elements.{All-append, All-cons, All-get_or, All-head, All-more, All-nil, All-push, All-set, All-tail, All-weaker, filter-append}
use Rattle.std.proofs.lemmas.Option.{none-some}
use Rattle.std.proofs.lemmas.Slice.Eq.{bytes_eq-Decides}
use Rattle.rad_server.specs.internal.Taken.{Departure}
use Rattle.rad_server.specs.internal.Queues.{PutsBehind, TakesFirst}
use Rattle.rad_server.specs.internal.Keeping.{departure_of, first_at, first_in, for_client, is_for, is_old, len_at, one_or_none, queued, kept_in, IsOfClient, IsPlaceOf, AreOfClients, AreApart, KeepsOrder}
use Rattle.rad_server.specs.declared.sending.client_queue.ClientQueue.{ClientQueue}
use Rattle.rad_server.specs.declared.sending.outbox.Waiting.{Waiting}

-- These are all for one client.
abbrev pub AreFor : List ℕ → List Departure → Type 0
AreFor client departures = All (λ departure. departure.to.address ≡ client) departures

by_test : (b : Bool) {P : Type 0} → (b ≡ true → P) → (P → b ≡ true) → P ⊎ (P → ⊥)
by_test true if_true if_so = inl (if_true refl)
by_test false if_true if_so = inr (λ p. false≢true (if_so p))

pub same_or_not : (one other : List ℕ) → (one ≡ other) ⊎ (one ≢ other)
same_or_not one other = by_test (bytes_eq one other) (bytes_eq-Decides one other).0 (bytes_eq-Decides one other).1

other_client : (one other : List ℕ) → one ≢ other → bytes_eq one other ≡ false
other_client one other apart = false_from_ne_true (bytes_eq one other) (λ same. apart ((bytes_eq-Decides one other).0 same))

-- None of them is for another client.
pub for_other : (c x : List ℕ) (ds : List Departure) → c ≢ x → AreFor c ds → for_client x ds ≡ []
for_other c x [] apart own = refl
for_other c x (d ∷ ds) apart own =
    rw (other_client d.to.address x (λ same. apart (sym (All-head (λ e. e.to.address ≡ c) d ds own) ∙ same)))
    (for_other c x ds apart (All-tail (λ e. e.to.address ≡ c) d ds own))

pub none_for : (x : List ℕ) (queues : List ClientQueue) → All IsOfClient queues → All (λ queue. queue.client ≢ x) queues → for_client x (kept_in queues) ≡ []
none_for x [] own others = refl
none_for x (q ∷ qs) own others =
    filter-append (is_for x) (queued q) (kept_in qs)
    ∙ (ap (λ l. l ++ for_client x (kept_in qs)) (for_other q.client x (queued q) (All-head (λ e. e.client ≢ x) q qs others) (All-head IsOfClient q qs own))
    ∙ none_for x qs (All-tail IsOfClient q qs own) (All-tail (λ e. e.client ≢ x) q qs others))

-- Lists that are joined.
glued_same : {X : Type 0} (a k b g n : List X) → k ≡ [] → a ++ b ≡ g ++ n → (a ++ k) ++ b ≡ g ++ (n ++ k)
glued_same a k b g n none is =
    ap (λ l. (a ++ l) ++ b) none ∙ (ap (λ l. l ++ b) (append-nil a) ∙ (is ∙ (ap (λ l. g ++ l) (sym (append-nil n)) ∙ ap (λ l. g ++ (n ++ l)) (sym none))))

glued_other : {X : Type 0} (a k b g n : List X) → a ≡ [] → b ≡ [] → g ≡ [] → n ≡ [] → (a ++ k) ++ b ≡ g ++ (n ++ k)
glued_other a k b g n none_a none_b none_g none_n =
    ap (λ l. (l ++ k) ++ b) none_a ∙ (ap (λ l. k ++ l) none_b ∙ (append-nil k ∙ (ap (λ l. l ++ k) (sym none_n) ∙ ap (λ l. l ++ (n ++ k)) (sym none_g))))

glued_later : {X : Type 0} (a k b g k' : List X) → a ++ g ≡ g ++ a → k ++ b ≡ g ++ k' → (a ++ k) ++ b ≡ g ++ (a ++ k')
glued_later a k b g k' swap is =
    append_assoc a k b ∙ (ap (λ l. a ++ l) is ∙ (sym (append_assoc a g k') ∙ (ap (λ l. l ++ k') swap ∙ append_assoc g a k')))

pub one_empty : {X : Type 0} (a g : List X) → (a ≡ []) ⊎ (g ≡ []) → a ++ g ≡ g ++ a
one_empty a g = ⊎_elim (λ none. ap (λ l. l ++ g) none ∙ (sym (append-nil g) ∙ ap (λ l. g ++ l) (sym none))) (λ none. ap (λ l. a ++ l) none ∙ (append-nil a ∙ ap (λ l. l ++ a) (sym none)))

-- Of two queues of different clients, one has nothing for this client.
not_both : (x c e : List ℕ) (ds es : List Departure) → c ≢ e → AreFor c ds → AreFor e es → (for_client x ds ≡ []) ⊎ (for_client x es ≡ [])
not_both x c e ds es apart own_ds own_es =
    ⊎_elim (λ same. inr (for_other e x es (λ is. apart (same ∙ sym is)) own_es)) (λ other. inl (for_other c x ds other own_ds)) (same_or_not c x)

-- The queue of client c at a place gets something behind what it has, or loses something in front, or both.
at_head : (x c : List ℕ) (q new : ClientQueue) (qs : List ClientQueue) (came gone : List Departure)
    → AreFor c (queued q) → AreFor c came → AreFor c gone → AreFor c (queued new) → All IsOfClient qs → All (λ queue. queue.client ≢ c) qs
    → queued q ++ came ≡ gone ++ queued new
    → for_client x (kept_in (q ∷ qs)) ++ for_client x came ≡ for_client x gone ++ for_client x (kept_in (new ∷ qs))
at_head x c q new qs came gone own_q own_came own_gone own_new own others is =
    ap (λ l. l ++ for_client x came) (filter-append (is_for x) (queued q) (kept_in qs))
    ∙ (⊎_elim
    (λ same. glued_same (for_client x (queued q)) (for_client x (kept_in qs)) (for_client x came) (for_client x gone) (for_client x (queued new))
    (none_for x qs own (subst (λ y. All (λ queue. queue.client ≢ y) qs) same others))
    (sym (filter-append (is_for x) (queued q) came) ∙ (ap (for_client x) is ∙ filter-append (is_for x) gone (queued new))))
    (λ other. glued_other (for_client x (queued q)) (for_client x (kept_in qs)) (for_client x came) (for_client x gone) (for_client x (queued new))
    (for_other c x (queued q) other own_q) (for_other c x came other own_came) (for_other c x gone other own_gone) (for_other c x (queued new) other own_new))
    (same_or_not c x)
    ∙ ap (λ l. for_client x gone ++ l) (sym (filter-append (is_for x) (queued new) (kept_in qs))))

apart_tail : (q : ClientQueue) (qs : List ClientQueue) → AreApart (q ∷ qs) → AreApart qs
apart_tail q qs apart i j d below within = apart (suc i) (suc j) d (omega arith) (omega arith)

apart_head : (q : ClientQueue) (qs : List ClientQueue) → AreApart (q ∷ qs) → All (λ queue. queue.client ≢ q.client) qs
apart_head q qs apart k d within same = apart zero (suc k) d (omega arith) (omega arith) (sym same)

pub replaced : (x c : List ℕ) (queues : List ClientQueue) (i : ℕ) (new d : ClientQueue) (came gone : List Departure)
    → i < length queues → All IsOfClient queues → AreApart queues → (get_or queues i d).client ≡ c
    → AreFor c came → AreFor c gone → AreFor c (queued new)
    → queued (get_or queues i d) ++ came ≡ gone ++ queued new
    → for_client x (kept_in queues) ++ for_client x came ≡ for_client x gone ++ for_client x (kept_in (set queues i new))
replaced x c [] i new d came gone below own apart of own_came own_gone own_new is = absurd (omega arith)
replaced x c (q ∷ qs) zero new d came gone below own apart of own_came own_gone own_new is =
    at_head x c q new qs came gone (subst (λ y. AreFor y (queued q)) of (All-head IsOfClient q qs own)) own_came own_gone own_new
    (All-tail IsOfClient q qs own) (subst (λ y. All (λ queue. queue.client ≢ y) qs) of (apart_head q qs apart)) is
replaced x c (q ∷ qs) (suc i) new d came gone below own apart of own_came own_gone own_new is =
    ap (λ l. l ++ for_client x came) (filter-append (is_for x) (queued q) (kept_in qs))
    ∙ (glued_later (for_client x (queued q)) (for_client x (kept_in qs)) (for_client x came) (for_client x gone) (for_client x (kept_in (set qs i new)))
    (one_empty (for_client x (queued q)) (for_client x gone)
    (not_both x q.client c (queued q) gone (λ same. apart_head q qs apart i d (omega arith) (of ∙ sym same)) (All-head IsOfClient q qs own) own_gone))
    (replaced x c qs i new d came gone (omega arith) (All-tail IsOfClient q qs own) (apart_tail q qs apart) of own_came own_gone own_new is)
    ∙ ap (λ l. for_client x gone ++ l) (sym (filter-append (is_for x) (queued q) (kept_in (set qs i new)))))

-- An empty queue is removed.
pub removed : (queues : List ClientQueue) (i : ℕ) (d : ClientQueue) → i < length queues → queued (get_or queues i d) ≡ [] → kept_in (remove queues i) ≡ kept_in queues
removed [] i d below none = absurd (omega arith)
removed (q ∷ qs) zero d below none = ap (λ l. l ++ kept_in qs) (sym none)
removed (q ∷ qs) (suc i) d below none = ap (λ l. queued q ++ l) (removed qs i d (omega arith) none)

-- A queue stays that of its client.
same_clients : (queues : List ClientQueue) (i : ℕ) (new d : ClientQueue) (k : ℕ) (e : ClientQueue) → i < length queues → new.client ≡ (get_or queues i d).client → (get_or (set queues i new) k e).client ≡ (get_or queues k e).client
same_clients [] i new d k e below is = absurd (omega arith)
same_clients (q ∷ qs) zero new d zero e below is = is
same_clients (q ∷ qs) zero new d (suc k) e below is = refl
same_clients (q ∷ qs) (suc i) new d zero e below is = refl
same_clients (q ∷ qs) (suc i) new d (suc k) e below is = same_clients qs i new d k e (omega arith) is

pub set_apart : (queues : List ClientQueue) (i : ℕ) (new d : ClientQueue) → i < length queues → new.client ≡ (get_or queues i d).client → AreApart queues → AreApart (set queues i new)
set_apart queues i new d below is apart = λ k l e before within same.
    apart k l e before (omega (arith, length-set queues i new, within))
    (sym (same_clients queues i new d k e below is) ∙ (same ∙ same_clients queues i new d l e below is))

-- Where no queue of a client is found, there is none.
no_place : (b : Bool) (n : ℕ) → is_some (if b then Some n else None) ≡ false → b ≡ false
no_place true n none = absurd (true≢false none)
no_place false n none = refl

pub none_found : (x : List ℕ) (queues : List ClientQueue) (place : Option ℕ) → place ≡ position (λ queue. bytes_eq queue.client x) queues → is_some place ≡ false → All (λ queue. queue.client ≢ x) queues
none_found x queues place found none = λ k d within same.
    let test : ClientQueue → Bool = λ queue. bytes_eq queue.client x in
    let past = no_place (nat_lt (position_or_len test queues) (length queues)) (position_or_len test queues) (ap is_some (sym found) ∙ none) in
    let before : k < position_or_len test queues = omega (arith, ltb-false (position_or_len test queues) (length queues) past, within) in
    false≢true (sym (fails_before_first test queues k d before) ∙ (bytes_eq-Decides (get_or queues k d).client x).1 same)

pub found_place : (x : List ℕ) (queues : List ClientQueue) (place : Option ℕ) (i : ℕ) → place ≡ position (λ queue. bytes_eq queue.client x) queues → place ≡ Some i → IsPlaceOf x queues i
found_place x queues place i found is = λ d.
    (bytes_eq-Decides (get_or queues i d).client x).0 (position-Some (λ queue. bytes_eq queue.client x) queues i d (sym found ∙ is)).1

left_part : {X : Type 0} (P : X → Type 0) (xs ys : List X) → All P (xs ++ ys) → All P xs
left_part P [] ys all = All-nil P
left_part P (x ∷ xs) ys all = All-cons P x xs (All-head P x (xs ++ ys) all) (left_part P xs ys (All-tail P x (xs ++ ys) all))

right_part : {X : Type 0} (P : X → Type 0) (xs ys : List X) → All P (xs ++ ys) → All P ys
right_part P [] ys all = all
right_part P (x ∷ xs) ys all = right_part P xs ys (All-tail P x (xs ++ ys) all)

-- The queues once one of them got something behind what it had, or lost something in front.
pub record Changed (was : List ClientQueue) (came gone : List Departure) (now : List ClientQueue) : Type 0 where
  pub order : KeepsOrder (kept_in was) came gone (kept_in now)
  pub own : AreOfClients now
  pub apart : AreApart now

pub changed : (c : List ℕ) (queues : List ClientQueue) (i : ℕ) (new d : ClientQueue) (came gone : List Departure)
    → i < length queues → AreOfClients queues → AreApart queues → (get_or queues i d).client ≡ c → new.client ≡ c → AreFor c came
    → queued (get_or queues i d) ++ came ≡ gone ++ queued new → Changed queues came gone (set queues i new)
changed c queues i new d came gone below own apart of same own_came is =
    let old_own = subst (λ y. AreFor y (queued (get_or queues i d))) of (All-get_or IsOfClient queues i d below own) in
    let P : Departure → Type 0 = λ departure. departure.to.address ≡ c in
    let both = subst (All P) is (All-append P (queued (get_or queues i d)) came old_own own_came) in
    let own_new = right_part P gone (queued new) both in
    record {
      order = λ x. replaced x c queues i new d came gone below own apart of own_came (left_part P gone (queued new) both) own_new is;
      own = All-set IsOfClient queues i new (subst (λ y. AreFor y (queued new)) (sym same) own_new) own;
      apart = set_apart queues i new d below (same ∙ sym of) apart;
    }

pub put_behind : (was now : List Waiting) (d : Waiting) (lost : Option Waiting) → PutsBehind 64 was d lost now → map departure_of was ++ departure_of d ∷ [] ≡ one_or_none lost ++ map departure_of now
put_behind was now d None puts = sym (ap (map departure_of) puts.1 ∙ map-append departure_of was (d ∷ []))
put_behind was now d (Some lost) puts = sym (map-append departure_of was (d ∷ [])) ∙ ap (map departure_of) puts.1

pub taken_front : (was now : List Waiting) (first : Option Waiting) → TakesFirst was first now → map departure_of was ++ [] ≡ one_or_none first ++ map departure_of now
taken_front was now None takes = append-nil (map departure_of was) ∙ ap (map departure_of) (takes.0 ∙ sym takes.1)
taken_front was now (Some first) takes = append-nil (map departure_of was) ∙ ap (map departure_of) takes

front_of : (was now : List Waiting) (first : Option Waiting) → TakesFirst was first now → first ≡ slice_get was 0
front_of was now None takes = ap (λ l. slice_get l 0) (sym takes.0)
front_of was now (Some first) takes = ap (λ l. slice_get l 0) (sym takes)

first_of : (queues : List ClientQueue) (i : ℕ) (d : ClientQueue) → i < length queues → first_at queues i ≡ first_in (get_or queues i d)
first_of [] i d below = absurd (omega arith)
first_of (q ∷ qs) zero d below = refl
first_of (q ∷ qs) (suc i) d below = first_of qs i d (omega arith)

pub no_first : (queues : List ClientQueue) (i : ℕ) → length queues ≤ i → first_at queues i ≡ None
no_first [] i past = refl
no_first (q ∷ qs) zero past = absurd (omega arith)
no_first (q ∷ qs) (suc i) past = no_first qs i (omega arith)

pub first_taken : (queues : List ClientQueue) (i : ℕ) (d : ClientQueue) (now : List Waiting) (first : Option Waiting) → i < length queues → TakesFirst (get_or queues i d).datagrams.items first now → first ≡ first_at queues i
first_taken queues i d now first below takes = front_of (get_or queues i d).datagrams.items now first takes ∙ sym (first_of queues i d below)

pub changed_at : (c : List ℕ) (queues : List ClientQueue) (i : ℕ) (new q : ClientQueue) (came gone : List Departure)
    → i < length queues → AreOfClients queues → AreApart queues → q ≡ get_or queues i q → q.client ≡ c → new.client ≡ c → AreFor c came
    → queued q ++ came ≡ gone ++ queued new → Changed queues came gone (set queues i new)
changed_at c queues i new q came gone below own apart at of same own_came is =
    changed c queues i new q came gone below own apart (ap (λ e. e.client) (sym at) ∙ of) same own_came (ap (λ e. queued e ++ came) (sym at) ∙ is)

-- A queue that holds the same is kept the same.
same_kept : (queues : List ClientQueue) (i : ℕ) (new d : ClientQueue) → i < length queues → queued new ≡ queued (get_or queues i d) → kept_in (set queues i new) ≡ kept_in queues
same_kept [] i new d below is = absurd (omega arith)
same_kept (q ∷ qs) zero new d below is = ap (λ l. l ++ kept_in qs) is
same_kept (q ∷ qs) (suc i) new d below is = ap (λ l. queued q ++ l) (same_kept qs i new d (omega arith) is)

-- A datagram is put into the queue at its place, or memory was refused.
pub record PutAt {E : Type 0} (was : List ClientQueue) (datagram : Waiting) (r : Result (Option Waiting) E) (now : List ClientQueue) : Type 0 where
  pub order : MatchResult r (λ lost. KeepsOrder (kept_in was) (departure_of datagram ∷ []) (one_or_none lost) (kept_in now)) (λ _. kept_in now ≡ kept_in was)
  pub own : AreOfClients now
  pub apart : AreApart now

only_for : (d : Departure) → AreFor d.to.address (d ∷ [])
only_for d = All-cons (λ e. e.to.address ≡ d.to.address) d [] refl (All-nil (λ e. e.to.address ≡ d.to.address))

pub put_at : {E : Type 0} (queues : List ClientQueue) (i : ℕ) (new q : ClientQueue) (datagram : Waiting) (r : Result (Option Waiting) E)
    → i < length queues → AreOfClients queues → AreApart queues → q ≡ get_or queues i q → IsPlaceOf datagram.to.address queues i → new.client ≡ q.client
    → MatchResult r (λ lost. PutsBehind 64 q.datagrams.items datagram lost new.datagrams.items) (λ _. new.datagrams.items ≡ q.datagrams.items)
    → PutAt queues datagram r (set queues i new)
put_at queues i new q datagram (Ok lost) below own apart at place same puts =
    let of = ap (λ e. e.client) at ∙ place q in
    let after = changed_at datagram.to.address queues i new q (departure_of datagram ∷ []) (one_or_none lost) below own apart at of (same ∙ of)
    (only_for (departure_of datagram)) (put_behind q.datagrams.items new.datagrams.items datagram lost puts) in
    record { order = after.order; own = after.own; apart = after.apart }
put_at queues i new q datagram (Err e) below own apart at place same kept =
    let is : queued new ≡ queued q = ap (map departure_of) kept in
    let after = changed_at q.client queues i new q [] [] below own apart at refl same (All-nil (λ d. d.to.address ≡ q.client)) (append-nil (queued q) ∙ sym is) in
    record { order = same_kept queues i new q below (is ∙ ap queued at); own = after.own; apart = after.apart }

-- The first one of the queue at a place is taken.
pub take_at : (queues : List ClientQueue) (i : ℕ) (new q : ClientQueue) (first : Option Waiting)
    → i < length queues → AreOfClients queues → AreApart queues → q ≡ get_or queues i q → new.client ≡ q.client
    → TakesFirst q.datagrams.items first new.datagrams.items → Changed queues [] (one_or_none first) (set queues i new)
take_at queues i new q first below own apart at same takes =
    changed_at q.client queues i new q [] (one_or_none first) below own apart at refl same (All-nil (λ d. d.to.address ≡ q.client)) (taken_front q.datagrams.items new.datagrams.items first takes)

pub take_first_at : (queues : List ClientQueue) (i : ℕ) (q : ClientQueue) (now : List Waiting) (first : Option Waiting)
    → i < length queues → q ≡ get_or queues i q → TakesFirst q.datagrams.items first now → first ≡ first_at queues i
take_first_at queues i q now first below at takes = first_taken queues i q now first below (subst (λ e. TakesFirst e.datagrams.items first now) at takes)

-- A queue with one datagram is added, where its client had none.
pub added : (client : List ℕ) (queues : List ClientQueue) (q : ClientQueue) (none : List Waiting) (d : Waiting) (lost : Option Waiting)
    → AreOfClients queues → AreApart queues → none ≡ [] → q.client ≡ client → d.to.address ≡ client → All (λ e. e.client ≢ client) queues
    → PutsBehind 64 none d lost q.datagrams.items → Changed queues (departure_of d ∷ []) (one_or_none lost) (queues ++ q ∷ [])
added client queues q none d None own apart is of to others puts =
    let only = puts.1 ∙ ap (λ l. l ++ d ∷ []) is in
    let joined = flat_map-append queued queues (q ∷ []) ∙ ap (λ l. kept_in queues ++ l) (append-nil (queued q) ∙ ap (map departure_of) only) in
    record {
      order = λ x. sym (filter-append (is_for x) (kept_in queues) (departure_of d ∷ [])) ∙ ap (for_client x) (sym joined);
      own = All-push IsOfClient queues q own (subst (λ l. AreFor q.client (map departure_of l)) (sym only) (All-cons (λ e. e.to.address ≡ q.client) (departure_of d) [] (to ∙ sym of) (All-nil (λ e. e.to.address ≡ q.client))));
      apart = all_pairs_push (λ one other. one.client ≢ other.client) queues q apart (λ k e within same. others k e within (same ∙ of));
    }
added client queues q none d (Some lost) own apart is of to others puts = absurd (omega (arith, puts.0, ap length is))

-- One change and the next.
pub order_then : (k0 came k1 gone k2 : List Departure) → KeepsOrder k0 came [] k1 → KeepsOrder k1 [] gone k2 → KeepsOrder k0 came gone k2
order_then k0 came k1 gone k2 first next x = first x ∙ (sym (append-nil (for_client x k1)) ∙ next x)

-- What is read of the first one of a queue.
pub first_found : (queues got : List ClientQueue) (i : ℕ) (q : ClientQueue) → got ≡ queues → true ≡ ltb i (length got) → q ≡ get_or got i q → first_at queues i ≡ first_in q
first_found queues got i q same below at =
    subst (λ l. first_at l i ≡ first_in q) same (first_of got i q (ltb-true i (length got) (sym below)) ∙ ap first_in (sym at))

pub first_missing : (queues got : List ClientQueue) (i : ℕ) → got ≡ queues → false ≡ ltb i (length got) → first_at queues i ≡ None
first_missing queues got i same past = subst (λ l. first_at l i ≡ None) same (no_first got i (ltb-false i (length got) (sym past)))

old_first : (now : ℕ) (queues : List ClientQueue) (i : ℕ) (w : Waiting) → Some w ≡ first_at queues i → ((d : ClientQueue) → is_old now (first_in (get_or queues i d)) ≡ true) → is_old now (Some w) ≡ true
old_first now [] i w first old = absurd (none-some w (sym first))
old_first now (q ∷ qs) zero w first old = ap (is_old now) first ∙ old q
old_first now (q ∷ qs) (suc i) w first old = old_first now qs i w first old

pub old_taken : (now : ℕ) (queues : List ClientQueue) (place : Option ℕ) (i : ℕ) (first : Option Waiting)
    → place ≡ position (λ queue. is_old now (first_in queue)) queues → place ≡ Some i → first ≡ first_at queues i → IfSome first (λ lost. lost.moment + 2000 ≤ now)
old_taken now queues place i None found is first = tt
old_taken now queues place i (Some w) found is first =
    let old = old_first now queues i w first (λ d. (position-Some (λ queue. is_old now (first_in queue)) queues i d (sym found ∙ is)).1) in
    omega (arith, leb-true 2000 (now - w.moment) old)

-- Of datagrams, those for other clients.
abbrev others : List ℕ → List Departure → List Departure
others c ds = filter (λ d. if is_for c d then false else true) ds

parted_step : (b : Bool) (d : Departure) (one more : List Departure) (n : ℕ) → n ≡ length one + length more
    → suc n ≡ length (if b then d ∷ one else one) + length (if (if b then false else true) then d ∷ more else more)
parted_step true d one more n is = omega (arith, is)
parted_step false d one more n is = omega (arith, is)

parted : (c : List ℕ) (ds : List Departure) → length ds ≡ length (for_client c ds) + length (others c ds)
parted c [] = refl
parted c (d ∷ ds) = parted_step (is_for c d) d (for_client c ds) (others c ds) (length ds) (parted c ds)

none_step : (b : Bool) (c : List ℕ) (d : Departure) (rest : List Departure) → is_for c d ≡ b → for_client c rest ≡ []
    → for_client c (if (if b then false else true) then d ∷ rest else rest) ≡ []
none_step true c d rest is none = none
none_step false c d rest is none = subst (λ t. (if t then d ∷ for_client c rest else for_client c rest) ≡ []) (sym is) none

none_of_others : (c : List ℕ) (ds : List Departure) → for_client c (others c ds) ≡ []
none_of_others c [] = refl
none_of_others c (d ∷ ds) = none_step (is_for c d) c d (others c ds) refl (none_of_others c ds)

same_step : (b : Bool) (x : List ℕ) (d : Departure) (rest ds : List Departure) → (b ≡ true → is_for x d ≡ false) → for_client x rest ≡ for_client x ds
    → for_client x (if (if b then false else true) then d ∷ rest else rest) ≡ for_client x (d ∷ ds)
same_step true x d rest ds apart is = subst (λ t. for_client x rest ≡ (if t then d ∷ for_client x ds else for_client x ds)) (sym (apart refl)) is
same_step false x d rest ds apart is = ap (λ l. if is_for x d then d ∷ l else l) is

same_of_others : (c x : List ℕ) (ds : List Departure) → c ≢ x → for_client x (others c ds) ≡ for_client x ds
same_of_others c x [] apart = refl
same_of_others c x (d ∷ ds) apart =
    same_step (is_for c d) x d (others c ds) ds
    (λ own. other_client d.to.address x (λ same. apart (sym ((bytes_eq-Decides d.to.address c).0 own) ∙ same)))
    (same_of_others c x ds apart)

for_own : (c : List ℕ) (ds : List Departure) → AreFor c ds → for_client c ds ≡ ds
for_own c [] own = refl
for_own c (d ∷ ds) own =
    let is : is_for c d ≡ true = (bytes_eq-Decides d.to.address c).1 (All-head (λ e. e.to.address ≡ c) d ds own) in
    subst (λ t. (if t then d ∷ for_client c ds else for_client c ds) ≡ d ∷ ds) (sym is) (ap (λ l. d ∷ l) (for_own c ds (All-tail (λ e. e.to.address ≡ c) d ds own)))

own_first : (d : Departure) (ds : List Departure) → 1 ≤ length (for_client d.to.address (d ∷ ds))
own_first d ds =
    let is : is_for d.to.address d ≡ true = (bytes_eq-Decides d.to.address d.to.address).1 refl in
    subst (λ t. 1 ≤ length (if t then d ∷ for_client d.to.address ds else for_client d.to.address ds)) (sym is) (omega arith)

-- If there are as many of each client, there are as many in all.
as_many : (n : ℕ) (a b : List Departure) → length a ≤ n → ((c : List ℕ) → length (for_client c a) ≡ length (for_client c b)) → length a ≡ length b
as_many n [] [] below each = refl
as_many n [] (e ∷ es) below each = absurd (omega (arith, each e.to.address, own_first e es))
as_many zero (d ∷ ds) b below each = absurd (omega (arith, below))
as_many (suc n) (d ∷ ds) b below each =
    let c = d.to.address in
    let fewer : length (others c (d ∷ ds)) ≤ n = omega (arith, below, parted c (d ∷ ds), own_first d ds) in
    let rest = as_many n (others c (d ∷ ds)) (others c b) fewer (λ x.
    ⊎_elim (λ same. subst (λ y. length (for_client y (others c (d ∷ ds))) ≡ length (for_client y (others c b))) same (ap length (none_of_others c (d ∷ ds) ∙ sym (none_of_others c b))))
    (λ apart. ap length (same_of_others c x (d ∷ ds) apart) ∙ (each x ∙ sym (ap length (same_of_others c x b apart))))
    (same_or_not c x)) in
    omega (arith, parted c (d ∷ ds), parted c b, each c, rest)

pub kept_count : (old came gone new : List Departure) → KeepsOrder old came gone new → length old + length came ≡ length gone + length new
kept_count old came gone new order =
    let all = as_many (length (old ++ came)) (old ++ came) (gone ++ new) (omega arith)
    (λ c. ap length (filter-append (is_for c) old came ∙ (order c ∙ sym (filter-append (is_for c) gone new)))) in
    omega (arith, length-append old came, length-append gone new, all)

-- A queue's datagrams are among those that are kept for its client.
queue_within : (queues : List ClientQueue) (i : ℕ) (d : ClientQueue) → i < length queues → AreOfClients queues
    → length (queued (get_or queues i d)) ≤ length (for_client (get_or queues i d).client (kept_in queues))
queue_within [] i d below own = absurd (omega arith)
queue_within (q ∷ qs) zero d below own =
    omega (
      arith,
      ap length (filter-append (is_for q.client) (queued q) (kept_in qs)),
      length-append (for_client q.client (queued q)) (for_client q.client (kept_in qs)),
      ap length (for_own q.client (queued q) (All-head IsOfClient q qs own)),
    )
queue_within (q ∷ qs) (suc i) d below own =
    let c = (get_or qs i d).client in
    omega (
      arith,
      ap length (filter-append (is_for c) (queued q) (kept_in qs)),
      length-append (for_client c (queued q)) (for_client c (kept_in qs)),
      queue_within qs i d (omega arith) (All-tail IsOfClient q qs own),
    )

pub full_at : {E : Type 0} (queues : List ClientQueue) (i : ℕ) (q : ClientQueue) (now : List Waiting) (datagram : Waiting) (r : Result (Option Waiting) E)
    → i < length queues → AreOfClients queues → q ≡ get_or queues i q → IsPlaceOf datagram.to.address queues i
    → MatchResult r (λ lost. PutsBehind 64 q.datagrams.items datagram lost now) (λ _. now ≡ q.datagrams.items)
    → IfOk r (λ lost. IfSome lost (λ _. 64 ≤ length (for_client datagram.to.address (kept_in queues))))
full_at queues i q now datagram (Ok None) below own at place puts = tt
full_at queues i q now datagram (Ok (Some lost)) below own at place puts =
    let within = queue_within queues i q below own in
    subst (λ c. 64 ≤ length (for_client c (kept_in queues))) (place q)
    (omega (arith, within, puts.0, ap (λ e. length (queued e)) at, length-map q.datagrams.items departure_of))
full_at queues i q now datagram (Err e) below own at place puts = tt

pub none_full : (none now : List Waiting) (d : Waiting) (lost : Option Waiting) (n : ℕ) → none ≡ [] → PutsBehind 64 none d lost now → IfSome lost (λ _. 64 ≤ n)
none_full none now d None n is puts = tt
none_full none now d (Some lost) n is puts = absurd (omega (arith, puts.0, ap length is))

-- If the longest queue is empty, nothing is kept.
no_items : (items : List Waiting) → slice_get items 0 ≡ None → length items ≡ 0
no_items [] none = refl
no_items (item ∷ items) none = absurd (none-some item (sym none))

first_len : (queues : List ClientQueue) (place : ℕ) → first_at queues place ≡ None → len_at queues place ≡ 0
first_len [] place none = refl
first_len (q ∷ qs) zero none = no_items q.datagrams.items none
first_len (q ∷ qs) (suc place) none = first_len qs place none

all_empty : (queues : List ClientQueue) → All (λ queue. length queue.datagrams.items ≤ 0) queues → kept_in queues ≡ []
all_empty [] all = refl
all_empty (q ∷ qs) all =
    let none = nil_from_length q.datagrams.items (omega (arith, All-head (λ queue. length queue.datagrams.items ≤ 0) q qs all)) in
    ap (λ l. map departure_of l ++ kept_in qs) none ∙ all_empty qs (All-tail (λ queue. length queue.datagrams.items ≤ 0) q qs all)

pub none_kept : (queues : List ClientQueue) (place : ℕ) → All (λ queue. length queue.datagrams.items ≤ len_at queues place) queues → first_at queues place ≡ None → kept_in queues ≡ []
none_kept queues place all none = all_empty queues (subst (λ n. All (λ queue. length queue.datagrams.items ≤ n) queues) (first_len queues place none) all)

pub len_of : (queues : List ClientQueue) (i : ℕ) (d : ClientQueue) → i < length queues → len_at queues i ≡ length (get_or queues i d).datagrams.items
len_of [] i d below = absurd (omega arith)
len_of (q ∷ qs) zero d below = refl
len_of (q ∷ qs) (suc i) d below = len_of qs i d (omega arith)

pub no_len : (queues : List ClientQueue) (i : ℕ) → length queues ≤ i → len_at queues i ≡ 0
no_len [] i past = refl
no_len (q ∷ qs) zero past = absurd (omega arith)
no_len (q ∷ qs) (suc i) past = no_len qs i (omega arith)

pub len_found : (queues got : List ClientQueue) (i : ℕ) (q : ClientQueue) (n : ℕ) → got ≡ queues → true ≡ ltb i (length got) → q ≡ get_or got i q → n ≡ length q.datagrams.items → n ≡ len_at queues i
len_found queues got i q n same below at is =
    is ∙ (ap (λ e. length e.datagrams.items) at ∙ (sym (len_of got i q (ltb-true i (length got) (sym below))) ∙ ap (λ l. len_at l i) same))

pub len_missing : (queues got : List ClientQueue) (i : ℕ) → got ≡ queues → false ≡ ltb i (length got) → 0 ≡ len_at queues i
len_missing queues got i same past = subst (λ l. 0 ≡ len_at l i) same (sym (no_len got i (ltb-false i (length got) (sym past))))

-- How many are kept, once a datagram is taken, or is put, or none is.
pub none_taken : (old new : List Departure) (r : Option Waiting) → r ≡ None → KeepsOrder old [] (one_or_none r) new → length old ≡ length new
none_taken old new r is order = omega (arith, kept_count old [] (one_or_none r) new order, ap (λ o. length (one_or_none o)) is)

pub one_taken : (n : ℕ) (old new : List Departure) (r : Option Waiting) (w : Waiting) → n ≡ length old → r ≡ Some w → KeepsOrder old [] (one_or_none r) new → n - 1 ≡ length new
one_taken n old new r w counted is order = omega (arith, counted, kept_count old [] (one_or_none r) new order, ap (λ o. length (one_or_none o)) is)

pub at_most_less : (n m : ℕ) → m ≡ n - 1 → n ≤ 2048 → m ≤ 2048
at_most_less n m is most = omega (arith, is, most)

pub none_put : {E : Type 0} (old new : List Departure) (d : Departure) (r : Result (Option Waiting) E) (e : E)
    → MatchResult r (λ lost. KeepsOrder old (d ∷ []) (one_or_none lost) new) (λ _. new ≡ old) → r ≡ Err e → length old ≡ length new
none_put old new d r e order is =
    sym (ap length (subst (λ s. MatchResult s (λ lost. KeepsOrder old (d ∷ []) (one_or_none lost) new) (λ _. new ≡ old)) is order))

pub one_replaced : (old new : List Departure) (d : Departure) (r : Option Waiting) (w : Waiting) → r ≡ Some w → KeepsOrder old (d ∷ []) (one_or_none r) new → length old ≡ length new
one_replaced old new d r w is order = omega (arith, kept_count old (d ∷ []) (one_or_none r) new order, ap (λ o. length (one_or_none o)) is)

pub one_put : (n : ℕ) (old new : List Departure) (d : Departure) (r : Option Waiting) → n ≡ length old → r ≡ None → KeepsOrder old (d ∷ []) (one_or_none r) new → n + 1 ≡ length new
one_put n old new d r counted is order = omega (arith, counted, kept_count old (d ∷ []) (one_or_none r) new order, ap (λ o. length (one_or_none o)) is)

pub one_for_one : (n : ℕ) (mid new : List Departure) (r : Option Waiting) → n + 1 ≡ length mid → (r ≡ None → mid ≡ []) → KeepsOrder mid [] (one_or_none r) new → n ≡ length new
one_for_one n mid new None more some order = absurd (omega (arith, more, ap length (some refl)))
one_for_one n mid new (Some w) more some order = omega (arith, more, kept_count mid [] (departure_of w ∷ []) new order)

pub below_most : (n : ℕ) → n < 2048 → n + 1 ≤ 2048
below_most n below = omega (arith, below)

-- The longest queue so far.
pub longest_more : (queues : List ClientQueue) (i most new : ℕ) → i < length queues → All (λ queue. length queue.datagrams.items ≤ len_at queues most) (take i queues)
    → len_at queues most ≤ len_at queues new → len_at queues i ≤ len_at queues new → All (λ queue. length queue.datagrams.items ≤ len_at queues new) (take (i + 1) queues)
longest_more [] i most new below all than this = absurd (omega (arith, below))
longest_more (q ∷ qs) i most new below all than this =
    let queues = q ∷ qs in
    All-more (λ queue. length queue.datagrams.items ≤ len_at queues new) queues i q below
    (All-weaker (λ queue. length queue.datagrams.items ≤ len_at queues most) (λ queue. length queue.datagrams.items ≤ len_at queues new) (λ queue short. omega (arith, short, than)) (take i queues) all)
    (omega (arith, this, len_of queues i q below))

pub longest_of_all : (queues : List ClientQueue) (n most : ℕ) → length queues ≤ n → All (λ queue. length queue.datagrams.items ≤ len_at queues most) (take n queues)
    → All (λ queue. length queue.datagrams.items ≤ len_at queues most) queues
longest_of_all queues n most past all = subst (All (λ queue. length queue.datagrams.items ≤ len_at queues most)) (take_all n queues past) all
