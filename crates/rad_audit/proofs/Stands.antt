-- How lanes stand after one line more.
use Rattle.std.proofs.Common.{◌≡◌, ◌==◌, ◌&&◌, ◌<◌, nat_lt, ℕ, Bool, true, false, cond, List, [], ◌∷◌, ◌++◌, append_assoc, length, take, get_or, add-one, ◌+◌, Result, Ok, Err, OnOk, Option, Some, None, option_map, refl, sym, ap, subst, ◌∙◌, inl, inr, rules, arith}
use Rattle.std.specs.Prelude.{find, filter, MatchBool, MatchOption}
use Rattle.std.specs.List.{list_any, position, position_or_len}
use Rattle.std.specs.BTreeMap.{BTreeMap, WritesThrough, get, is_at}
use Rattle.std.specs.Option.{option_or}
use Rattle.std.specs.Ordering.{nat_cmp}
use Rattle.std.specs.Str.{bytes_eq}
use Rattle.std.proofs.Math.ListN.{set}
use Rattle.std.proofs.Math.Seq.{take-suc}
use Rattle.std.proofs.lemmas.Bool.{MatchBool-at_true, MatchBool-at_false, and_left, and_right, cases_Bool, cases_eq, ltb-true, ltb-false, eqb-true, eq-eqb, ne_eqb}
use Rattle.std.proofs.lemmas.List.{append-nil}
use Rattle.std.proofs.lemmas.List.Elements.{filter-append}
use Rattle.std.proofs.lemmas.List.Folds.{find-append, list_any-append, find_at, find-set, find_past}
use Rattle.std.proofs.lemmas.List.Quantifiers.{position-Some}
use Rattle.std.proofs.lemmas.Option.{slice_get_past, slice_get-get_or}
use Rattle.rad_config.specs.Configuration.{Configuration}
use Rattle.ledger_rules.specs.declared.left.Left.{Left as TheLeft}
use Rattle.ledger_rules.specs.declared.record_count.AnswerCount.{AnswerCount}
use Rattle.ledger_rules.specs.declared.record_count.RecordCount.{RecordCount}
use Rattle.ledger_rules.specs.declared.resumed.Resumed.{Resumed as TheResumed}
use Rattle.ledger_lines.specs.declared.begin.Begin.{Begin}
use Rattle.ledger_lines.specs.declared.end.End.{End as TheEnd}
use Rattle.ledger_lines.specs.declared.end.LaneCount.{LaneCount}
use Rattle.ledger_lines.specs.declared.hidden.Hidden.{Hidden as TheHidden}
use Rattle.ledger_lines.specs.declared.lane_start.LaneStart.{LaneStart}
use Rattle.rad_audit.specs.Lanes.{AreTaken, Begins, BeginsLane, EndWith, Follow, Follows, HasBegun, IsFresh, LaneEnds, LaneFollows, LaneGoes, LanesEnd, Make, MakeEnds, Makes, MakesEnd, RunEnds, StandAfter, StandAlike, Standing, StandsAfter, StandsAt, is_about, is_begin_of, is_of, standing, standing_at, standing_in}
use Rattle.rad_audit.specs.declared.judging.Content.{Content}
use Rattle.rad_audit.specs.declared.judging.Content.TheVariants as content
use Rattle.rad_audit.specs.declared.judging.JudgedEntry.{JudgedEntry}
use Rattle.rad_audit.specs.declared.lanes.Lane.{Lane}
use Rattle.rad_audit.specs.declared.runs.Run.{Run}
use Rattle.rad_audit.specs.declared.runs.Runs.{Runs}

some_is : {X : Type 0} (x y : X) → Some x ≡ Some y → x ≡ y
some_is x y e = cc

some_none : {X : Type 0} {x : X} → Some x ≡ None → ⊥
some_none e = absurd cc

-- ---- the lane at a place

place_found : {X : Type 0} (p : X → Bool) (xs : List X) (i : ℕ) → position p xs ≡ Some i → (i ≡ position_or_len p xs) × (i < length xs)
place_found p xs i e =
    elim (cases_Bool (nat_lt (position_or_len p xs) (length xs))) [
      | inl there ↦
          let same : position_or_len p xs ≡ i = some_is (position_or_len p xs) i (rw there at e) in
          (sym same, subst (λ (k : ℕ). k < length xs) same (ltb-true (position_or_len p xs) (length xs) there))
      | inr not_there ↦ absurd (some_none (sym (rw not_there at e)))
    ]

no_place : {X : Type 0} (p : X → Bool) (xs : List X) → position p xs ≡ None → find p xs ≡ None
no_place p xs e =
    elim (cases_Bool (nat_lt (position_or_len p xs) (length xs))) [
      | inl there ↦ absurd (some_none (rw there at e))
      | inr not_there ↦ find_at p xs ∙ slice_get_past xs (position_or_len p xs) (ltb-false (position_or_len p xs) (length xs) not_there)
    ]

-- a lane of which a line is not, or makes nothing, stays
stays : (is : List ℕ → Bool) (R : Standing → Standing → Type 0) (s : Option Standing) → ((old : Standing) → MatchBool (is old.home) (R old old) (old ≡ old)) → LaneGoes is R s s
stays is R None other = refl
stays is R (Some old) other = other old

-- the lane at a place becomes another one of its number, and the other lanes stay
pub lanes_go : (n : ℕ) (lanes : List Lane) (i : ℕ) (old new : Lane) (is : ℕ → List ℕ → Bool) (R : ℕ → Standing → Standing → Type 0)
    → position (λ l. l.number == n) lanes ≡ Some i → get_or lanes i old ≡ old → new.number ≡ old.number
    → MatchBool (is n (standing old).home) (R n (standing old) (standing new)) (standing new ≡ standing old)
    → ((m : ℕ) (s : Standing) → ¬ (n ≡ m) → MatchBool (is m s.home) (R m s s) (s ≡ s))
    → (m : ℕ) → LaneGoes (is m) (R m) (standing_in m lanes) (standing_in m (set lanes i new))
lanes_go n lanes i old new is R at there number goes others m =
    let found = place_found (λ l. l.number == n) lanes i at in
    let passes : (old.number == n) ≡ true = rw there at ((position-Some (λ l. l.number == n) lanes i old at).1) in
    elim (cases_eq n m) [
      | inl same ↦
          let is_old : find (λ l. l.number == n) lanes ≡ Some old = find_at (λ l. l.number == n) lanes ∙ rw (← found.0) (slice_get-get_or lanes i old found.1 ∙ ap (λ l. Some l) there) in
          let is_new : find (λ l. l.number == n) (set lanes i new) ≡ Some new = find-set (λ l. l.number == n) lanes i new found.0 found.1 (rw number passes) in
          subst (λ (k : ℕ). LaneGoes (is k) (R k) (standing_in k lanes) (standing_in k (set lanes i new))) same (rw (is_old, is_new) goes)
      | inr other ↦
          let not_m : (old.number == m) ≡ false = ne_eqb old.number m (λ e. other (sym (eqb-true old.number n passes) ∙ e)) in
          let past : find (λ l. l.number == m) (set lanes i new) ≡ find (λ l. l.number == m) lanes = find_past (λ l. l.number == m) lanes i new old (rw there not_m) (rw number not_m) in
          rw past (stays (is m) (R m) (standing_in m lanes) (λ s. others m s other))
    ]

-- of a number that no lane has, each lane stays
pub no_lane_goes : (n : ℕ) (lanes : List Lane) (is : ℕ → List ℕ → Bool) (R : ℕ → Standing → Standing → Type 0)
    → position (λ l. l.number == n) lanes ≡ None
    → ((m : ℕ) (s : Standing) → ¬ (n ≡ m) → MatchBool (is m s.home) (R m s s) (s ≡ s))
    → (m : ℕ) → LaneGoes (is m) (R m) (standing_in m lanes) (standing_in m lanes)
no_lane_goes n lanes is R none others m =
    elim (cases_eq n m) [
      | inl same ↦
          let is_none : find (λ l. l.number == m) lanes ≡ None = subst (λ (k : ℕ). find (λ l. l.number == k) lanes ≡ None) same (no_place (λ l. l.number == n) lanes none) in
          rw is_none refl
      | inr other ↦ stays (is m) (R m) (standing_in m lanes) (λ s. others m s other)
    ]

-- ---- a line that names its lane and its home server

module _ (run n : ℕ) (home : List ℕ) (R : ℕ → Standing → Standing → Type 0) (lanes : List Lane) where
  abbrev is : ℕ → List ℕ → Bool
  is m its = run == run && (n == m && bytes_eq its home)

  elsewhere : (m : ℕ) (s : Standing) → ¬ (n ≡ m) → MatchBool (is m s.home) (R m s s) (s ≡ s)
  elsewhere m s other = rw (and_right (run == run) (n == m && bytes_eq s.home home) (and_left (n == m) (bytes_eq s.home home) (ne_eqb n m other))) refl

  named : (its : List ℕ) → is n its ≡ bytes_eq its home
  named its = rw (eq-eqb run run refl, eq-eqb n n refl) refl

  -- makes nothing of any lane, if none has its number
  pub goes_nowhere : position (λ l. l.number == n) lanes ≡ None → (m : ℕ) → LaneGoes (λ its. run == run && (n == m && bytes_eq its home)) (R m) (standing_in m lanes) (standing_in m lanes)
  goes_nowhere none = no_lane_goes n lanes is R none elsewhere

  -- or if that one has another home server
  pub goes_by : (i : ℕ) (old : Lane) → position (λ l. l.number == n) lanes ≡ Some i → get_or lanes i old ≡ old → bytes_eq (standing old).home home ≡ false
      → (m : ℕ) → LaneGoes (λ its. run == run && (n == m && bytes_eq its home)) (R m) (standing_in m lanes) (standing_in m (set lanes i old))
  goes_by i old at there other = lanes_go n lanes i old old is R at there refl (rw (named (standing old).home ∙ other) refl) elsewhere

  -- and else makes something of that one alone
  pub goes_to : (i : ℕ) (old new : Lane) → position (λ l. l.number == n) lanes ≡ Some i → get_or lanes i old ≡ old → bytes_eq (standing old).home home ≡ true → new.number ≡ old.number
      → R n (standing old) (standing new)
      → (m : ℕ) → LaneGoes (λ its. run == run && (n == m && bytes_eq its home)) (R m) (standing_in m lanes) (standing_in m (set lanes i new))
  goes_to i old new at there its number makes = lanes_go n lanes i old new is R at there number (rw (named (standing old).home ∙ its) makes) elsewhere

-- ---- one line more

has_more : (run : ℕ) (lines : List Content) (line : Content) (P Q : Begin → List Content → Type 0)
    → ((begin : Begin) (after : List Content) → P begin after → Q begin (after ++ line ∷ []))
    → HasBegun run lines P → HasBegun run (lines ++ line ∷ []) Q
has_more run lines line P Q f has = record {
  before = has.before;
  begin = has.begin;
  after = has.after ++ line ∷ [];
  split = ap (λ l. l ++ line ∷ []) has.split ∙ append_assoc has.before (content.Begin has.begin ∷ has.after) (line ∷ []);
  first = has.first;
  named = has.named;
  goes = f has.begin has.after has.goes;
}

home_ends : (counts : List LaneCount) (a b : Standing) → MakeEnds counts a b → b.home ≡ a.home
home_ends [] a b make = ap (λ s. s.home) make
home_ends (c ∷ cs) a b make = home_ends cs make.0 b make.2 ∙ make.1.home

module _ (config : Configuration) (number : ℕ) where
  make_more : (lines : List Content) (line : Content) (a b c : Standing) → Make config number lines a b → Makes config number line b c → Make config number (lines ++ line ∷ []) a c
  make_more [] line a b c make makes = (c, subst (λ (s : Standing). Makes config number line s c) make makes, refl)
  make_more (l ∷ ls) line a b c make makes = (make.0, make.1, make_more ls line make.0 b c make.2 makes)

  -- the home server of a lane stays
  home_makes : (line : Content) (a b : Standing) → Makes config number line a b → b.home ≡ a.home
  home_makes (content.Begin begin) a b makes = ap (λ s. s.home) makes
  home_makes (content.Entry its) a b makes = makes.home
  home_makes (content.Left left) a b makes = makes.home
  home_makes (content.Count count) a b makes = makes.home
  home_makes (content.AgainEarlier count) a b makes = makes.home
  home_makes (content.Resumed its) a b makes = makes.home
  home_makes (content.End end) a b makes = home_ends (filter (λ c. c.lane == number) end.lanes.items) a b makes
  home_makes (content.Hidden hidden) a b makes = ap (λ s. s.home) makes

  home_make : (lines : List Content) (a b : Standing) → Make config number lines a b → b.home ≡ a.home
  home_make [] a b make = ap (λ s. s.home) make
  home_make (l ∷ ls) a b make = home_make ls make.0 b make.2 ∙ home_makes l a make.0 make.1

  at_more : (run : ℕ) (line : Content) (old new : Standing) → MatchBool (is_of run number old.home line) (Makes config number line old new) (new ≡ old)
      → (begin : Begin) (after : List Content) → StandsAt config run number old begin after → StandsAt config run number new begin (after ++ line ∷ [])
  at_more run line old new follows begin after at =
      let of = is_of run number at.start.home.now in
      let home : old.home ≡ at.start.home.now = home_make (filter of after) at.fresh old at.make ∙ at.is_fresh.home in
      record {
        start = at.start;
        named = at.named;
        fresh = at.fresh;
        is_fresh = at.is_fresh;
        make =
            rw (filter-append of after (line ∷ []))
            (elim (cases_Bool (of line)) [
              | inl its ↦ rw its (make_more (filter of after) line at.fresh old new at.make (MatchBool-at_true _ _ (ap (λ h. is_of run number h line) home ∙ its) follows))
              | inr other ↦ rw (other, append-nil (filter of after)) (subst (λ (s : Standing). Make config number (filter of after) at.fresh s) (sym (MatchBool-at_false _ _ (ap (λ h. is_of run number h line) home ∙ other) follows)) at.make)
            ]);
      }

no_begin : (run : ℕ) (lines : List Content) (line : Content) → list_any (is_begin_of run) lines ≡ false → is_begin_of run line ≡ false → list_any (is_begin_of run) (lines ++ line ∷ []) ≡ false
no_begin run lines line none other = list_any-append (is_begin_of run) lines (line ∷ []) ∙ rw (none, other) refl

none_of : (found : Option LaneStart) → MatchOption found (◌≡◌ {A = Option Standing} None None) (λ start. ⊥) → found ≡ None
none_of None its = refl
none_of (Some start) its = absurd its

start_of : (found : Option LaneStart) (new : Standing) → MatchOption found (Some new ≡ None) (λ start. IsFresh start new) → (start : LaneStart) × (found ≡ Some start) × IsFresh start new
start_of None new its = absurd (some_none its)
start_of (Some start) new its = (start, refl, its)

module _ (config : Configuration) (lines : List Content) (run number : ℕ) where
  begins_one : (b : Begin) (inner : Option Standing) → list_any (is_begin_of run) lines ≡ false → b.run ≡ run → BeginsLane number b.lanes.items inner → StandsAfter config (lines ++ content.Begin b ∷ []) run number (Some inner)
  begins_one b None none named its =
      record { before = lines; begin = b; after = []; split = refl; first = none; named = named; goes = none_of (find (λ s. s.lane == number) b.lanes.items) its }
  begins_one b (Some new) none named its =
      let start = start_of (find (λ s. s.lane == number) b.lanes.items) new its in
      record { before = lines; begin = b; after = []; split = refl; first = none; named = named; goes = record { start = start.0; named = start.1; fresh = new; is_fresh = start.2; make = refl } }

  not_begun : (line : Content) (new : Option (Option Standing)) → list_any (is_begin_of run) lines ≡ false → is_begin_of run line ≡ false → new ≡ None → StandsAfter config (lines ++ line ∷ []) run number new
  not_begun line new none other its = subst (λ (s : Option (Option Standing)). StandsAfter config (lines ++ line ∷ []) run number s) (sym its) (no_begin run lines line none other)

  begins : (line : Content) (new : Option (Option Standing)) → list_any (is_begin_of run) lines ≡ false → Begins run number line new → StandsAfter config (lines ++ line ∷ []) run number new
  begins (content.Begin b) None none its =
      elim (cases_Bool (b.run == run)) [
        | inl same ↦ absurd (rw same at its)
        | inr other ↦ no_begin run lines (content.Begin b) none other
      ]
  begins (content.Begin b) (Some inner) none its =
      elim (cases_Bool (b.run == run)) [
        | inl same ↦ begins_one b inner none (eqb-true b.run run same) (rw same at its)
        | inr other ↦ absurd (some_none (rw other at its))
      ]
  begins (content.Entry e) new none its = not_begun (content.Entry e) new none refl its
  begins (content.Left e) new none its = not_begun (content.Left e) new none refl its
  begins (content.Count e) new none its = not_begun (content.Count e) new none refl its
  begins (content.AgainEarlier e) new none its = not_begun (content.AgainEarlier e) new none refl its
  begins (content.Resumed e) new none its = not_begun (content.Resumed e) new none refl its
  begins (content.End e) new none its = not_begun (content.End e) new none refl its
  begins (content.Hidden e) new none its = not_begun (content.Hidden e) new none refl its

  stands_more : (line : Content) (old new : Option (Option Standing)) → StandsAfter config lines run number old → Follows config run number line old new → StandsAfter config (lines ++ line ∷ []) run number new
  stands_more line None new stands follows = begins line new stands follows
  stands_more line (Some None) None stands follows = absurd follows
  stands_more line (Some None) (Some None) stands follows = has_more run lines line _ _ (λ begin after none. none) stands
  stands_more line (Some None) (Some (Some s)) stands follows = absurd cc
  stands_more line (Some (Some old)) None stands follows = absurd follows
  stands_more line (Some (Some old)) (Some None) stands follows = absurd follows
  stands_more line (Some (Some old)) (Some (Some new)) stands follows = has_more run lines line (StandsAt config run number old) (StandsAt config run number new) (at_more config number run line old new follows) stands

-- a line that was taken stands behind the others
pub taken_of : (config : Configuration) (line : Content) (old new : Runs) → Follow config line old new → AreTaken config (line ∷ []) old new
taken_of config line old new follow before stand run number = stands_more config before run number line (standing_at old run number) (standing_at new run number) (stand run number) (follow run number)

-- what stands alike stands after the same lines
pub alike_follow : (config : Configuration) (line : Content) (a b c : Runs) → StandAlike a b → Follow config line b c → Follow config line a c
alike_follow config line a b c alike follow run number = subst (λ (s : Option (Option Standing)). Follows config run number line s (standing_at c run number)) (alike run number) (follow run number)

pub follow_alike : (config : Configuration) (line : Content) (a b c : Runs) → Follow config line a b → StandAlike b c → Follow config line a c
follow_alike config line a b c follow alike run number = subst (λ (s : Option (Option Standing)). Follows config run number line (standing_at a run number) s) (sym (alike run number)) (follow run number)

pub on_ok : {T E P : Type 0} (r : Result T E) → P → OnOk r P
on_ok (Ok x) p = p
on_ok (Err e) p = tt

pub alike_more : (a b c : Runs) → StandAlike a b → StandAlike b c → StandAlike a c
alike_more a b c first next run number = next run number ∙ first run number

-- ---- a line that ends a run

ends_elsewhere : (name : ℕ) (count : LaneCount) (m : ℕ) (s : Standing) → ¬ (count.lane ≡ m) → MatchBool (name == name) (MakeEnds (filter (λ c. c.lane == m) (count ∷ [])) s s) (s ≡ s)
ends_elsewhere name count m s other = rw (eq-eqb name name refl, ne_eqb count.lane m other) refl

ends_at : (name : ℕ) (count : LaneCount) (old new : Standing) → MakesEnd count old new → MatchBool (name == name) (MakeEnds (filter (λ c. c.lane == count.lane) (count ∷ [])) old new) (new ≡ old)
ends_at name count old new makes = rw (eq-eqb name name refl, eq-eqb count.lane count.lane refl) (new, makes, refl)

-- what it counts of a lane makes something of that one alone
pub ends_nowhere : (count : LaneCount) (lanes : List Lane) → position (λ l. l.number == count.lane) lanes ≡ None → LanesEnd count lanes lanes
ends_nowhere count lanes none name = no_lane_goes count.lane lanes (λ m its. name == name) (λ m. MakeEnds (filter (λ c. c.lane == m) (count ∷ []))) none (ends_elsewhere name count)

pub ends_to : (count : LaneCount) (lanes : List Lane) (i : ℕ) (old new : Lane) → position (λ l. l.number == count.lane) lanes ≡ Some i → get_or lanes i old ≡ old → new.number ≡ old.number
    → MakesEnd count (standing old) (standing new) → LanesEnd count lanes (set lanes i new)
ends_to count lanes i old new at there number makes name =
    lanes_go count.lane lanes i old new (λ m its. name == name) (λ m. MakeEnds (filter (λ c. c.lane == m) (count ∷ []))) at there number
    (ends_at name count (standing old) (standing new) makes) (ends_elsewhere name count)

make_ends : (xs ys : List LaneCount) (a b c : Standing) → MakeEnds xs a b → MakeEnds ys b c → MakeEnds (xs ++ ys) a c
make_ends [] ys a b c make more = subst (λ (s : Standing). MakeEnds ys s c) make more
make_ends (x ∷ xs) ys a b c make more = (make.0, make.1, make_ends xs ys make.0 b c make.2 more)

module _ (name run number : ℕ) (xs : List LaneCount) (x : LaneCount) where
  abbrev of : LaneCount → Bool
  of c = c.lane == number

  lane_ends : (a b c : Standing) → MatchBool (name == run) (MakeEnds (filter of xs) a b) (b ≡ a) → MatchBool (name == run) (MakeEnds (filter of (x ∷ [])) b c) (c ≡ b)
      → MatchBool (name == run) (MakeEnds (filter of (xs ++ x ∷ [])) a c) (c ≡ a)
  lane_ends a b c make more =
      elim (cases_Bool (name == run)) [
        | inl same ↦ rw (same, filter-append of xs (x ∷ [])) (make_ends (filter of xs) (filter of (x ∷ [])) a b c (MatchBool-at_true _ _ same make) (MatchBool-at_true _ _ same more))
        | inr other ↦ rw other (MatchBool-at_false _ _ other more ∙ MatchBool-at_false _ _ other make)
      ]

  lane_ends_more : (a b c : Option Standing) → LaneEnds name run number xs a b → LaneEnds name run number (x ∷ []) b c → LaneEnds name run number (xs ++ x ∷ []) a c
  lane_ends_more None None c make more = more
  lane_ends_more None (Some b) c make more = absurd (some_none make)
  lane_ends_more (Some a) None c make more = absurd make
  lane_ends_more (Some a) (Some b) None make more = absurd more
  lane_ends_more (Some a) (Some b) (Some c) make more = lane_ends a b c make more

  run_ends_more : (a b c : Option (Option Standing)) → RunEnds name run number xs a b → RunEnds name run number (x ∷ []) b c → RunEnds name run number (xs ++ x ∷ []) a c
  run_ends_more None None c make more = more
  run_ends_more None (Some b) c make more = absurd (some_none make)
  run_ends_more (Some a) None c make more = absurd make
  run_ends_more (Some a) (Some b) None make more = absurd more
  run_ends_more (Some a) (Some b) (Some c) make more = lane_ends_more a b c make more

pub end_more : (name : ℕ) (xs : List LaneCount) (x : LaneCount) (a b c : Runs) → EndWith name xs a b → EndWith name (x ∷ []) b c → EndWith name (xs ++ x ∷ []) a c
end_more name xs x a b c make more run number = run_ends_more name run number xs x (standing_at a run number) (standing_at b run number) (standing_at c run number) (make run number) (more run number)

-- the next one
pub end_next : (name : ℕ) (xs : List LaneCount) (i : ℕ) (x : LaneCount) (a b c : Runs) → i < length xs → x ≡ get_or xs i x → EndWith name (take i xs) a b → EndWith name (x ∷ []) b c → EndWith name (take (i + 1) xs) a c
end_next name xs i x a b c h is first next =
    let grown : take (i + 1) xs ≡ take i xs ++ x ∷ [] = rw add-one (take-suc xs i x h ∙ ap (λ y. take i xs ++ y ∷ []) (sym is)) in
    subst (λ (ys : List LaneCount). EndWith name ys a c) (sym grown) (end_more name (take i xs) x a b c first next)

either : (b : Bool) (P : Type 0) → P → MatchBool b P P
either true P p = p
either false P p = p

run_ends_none : (name run number : ℕ) (s : Option (Option Standing)) → RunEnds name run number [] s s
run_ends_none name run number None = refl
run_ends_none name run number (Some None) = refl
run_ends_none name run number (Some (Some s)) = either (name == run) (s ≡ s) refl

-- without a count it ends none
pub end_none : (name : ℕ) (a b : Runs) → StandAlike a b → EndWith name [] a b
end_none name a b alike run number = subst (λ (s : Option (Option Standing)). RunEnds name run number [] (standing_at a run number) s) (sym (alike run number)) (run_ends_none name run number (standing_at a run number))

run_ends_follow : (config : Configuration) (end : TheEnd) (run number : ℕ) (a b : Option (Option Standing)) → RunEnds end.run run number end.lanes.items a b → Follows config run number (content.End end) a b
run_ends_follow config end run number None b ends = ends
run_ends_follow config end run number (Some None) None ends = absurd ends
run_ends_follow config end run number (Some None) (Some b) ends = ends
run_ends_follow config end run number (Some (Some a)) None ends = absurd ends
run_ends_follow config end run number (Some (Some a)) (Some b) ends = ends

-- with all its counts it is taken
pub end_follow : (config : Configuration) (end : TheEnd) (a b : Runs) → EndWith end.run end.lanes.items a b → Follow config (content.End end) a b
end_follow config end a b ends run number = run_ends_follow config end run number (standing_at a run number) (standing_at b run number) (ends run number)

-- ---- lines that make nothing of a lane

hidden_stays : (config : Configuration) (hidden : TheHidden) (run number : ℕ) (s : Option (Option Standing)) → Follows config run number (content.Hidden hidden) s s
hidden_stays config hidden run number None = refl
hidden_stays config hidden run number (Some None) = refl
hidden_stays config hidden run number (Some (Some s)) = refl

pub hidden_follow : (config : Configuration) (hidden : TheHidden) (a b : Runs) → StandAlike a b → Follow config (content.Hidden hidden) a b
hidden_follow config hidden a b alike run number = subst (λ (s : Option (Option Standing)). Follows config run number (content.Hidden hidden) (standing_at a run number) s) (sym (alike run number)) (hidden_stays config hidden run number (standing_at a run number))

begin_stays : (config : Configuration) (begin : Begin) (run number : ℕ) (s : Option (Option Standing)) → (s ≡ None → begin.run ≡ run → ⊥) → Follows config run number (content.Begin begin) s s
begin_stays config begin run number None other =
    elim (cases_Bool (begin.run == run)) [
      | inl same ↦ absurd (other refl (eqb-true begin.run run same))
      | inr not_it ↦ rw not_it refl
    ]
begin_stays config begin run number (Some None) other = refl
begin_stays config begin run number (Some (Some s)) other = refl

map_some : {X Y : Type 0} (f : X → Y) (o : Option X) → option_map f o ≡ None → o ≡ None
map_some f None e = refl
map_some f (Some x) e = absurd (some_none e)

-- a later file of a run
pub begin_follow : (config : Configuration) (begin : Begin) (a b : Runs) (its : Run) → get nat_cmp a.runs begin.run ≡ Some its → StandAlike a b → Follow config (content.Begin begin) a b
begin_follow config begin a b its there alike run number =
    subst (λ (s : Option (Option Standing)). Follows config run number (content.Begin begin) (standing_at a run number) s) (sym (alike run number))
    (begin_stays config begin run number (standing_at a run number) (λ none same. some_none (sym there ∙ ap (get nat_cmp a.runs) same ∙ map_some (λ r. standing_in number r.lanes.items) (get nat_cmp a.runs run) none)))

-- ---- lanes that are alike, and the lanes of a new run

same_from : (a b : Option Standing) → LaneGoes (λ _. false) (λ old new. new ≡ old) a b → b ≡ a
same_from None b goes = goes
same_from (Some a) None goes = absurd goes
same_from (Some a) (Some b) goes = ap (λ s. Some s) goes

-- a lane that stands as before at its place
pub stands_same : (n : ℕ) (lanes : List Lane) (i : ℕ) (old new : Lane) → position (λ l. l.number == n) lanes ≡ Some i → get_or lanes i old ≡ old → new.number ≡ old.number → standing new ≡ standing old
    → (m : ℕ) → standing_in m (set lanes i new) ≡ standing_in m lanes
stands_same n lanes i old new at there number same m =
    same_from (standing_in m lanes) (standing_in m (set lanes i new))
    (lanes_go n lanes i old new (λ k its. false) (λ k its become. become ≡ its) at there number same (λ k s other. refl) m)

abbrev begins_from : Option LaneStart → Option Standing → Type 0
begins_from found after = MatchOption found (after ≡ None) (λ start. MatchOption after ⊥ (λ its. IsFresh start its))

from_more : (start : LaneStart) (lane : Lane) → IsFresh start (standing lane) → (b : Bool) (found : Option LaneStart) (its : Option Lane) → begins_from found (option_map standing its)
    → begins_from (option_or found (cond b (Some start) None)) (option_map standing (option_or its (cond b (Some lane) None)))
from_more start lane fresh true None None from = fresh
from_more start lane fresh false None None from = from
from_more start lane fresh b None (Some its) from = absurd (some_none from)
from_more start lane fresh b (Some found) None from = absurd from
from_more start lane fresh b (Some found) (Some its) from = from

-- one more lane of a new run
pub begins_more : (starts : List LaneStart) (lanes : List Lane) (start : LaneStart) (lane : Lane) → ((m : ℕ) → BeginsLane m starts (standing_in m lanes)) → lane.number ≡ start.lane → IsFresh start (standing lane)
    → (m : ℕ) → BeginsLane m (starts ++ start ∷ []) (standing_in m (lanes ++ lane ∷ []))
begins_more starts lanes start lane from number fresh m =
    let found = find (λ s. s.lane == m) starts in
    let its = find (λ l. l.number == m) lanes in
    rw (find-append (λ s. s.lane == m) starts (start ∷ []), find-append (λ l. l.number == m) lanes (lane ∷ []))
    (subst (λ (b : Bool). begins_from (option_or found (cond (start.lane == m) (Some start) None)) (option_map standing (option_or its (cond b (Some lane) None)))) (sym (ap (λ n. n == m) number))
    (from_more start lane fresh (start.lane == m) found its (from m)))

-- ---- the run of a name

not_at : (m q : ℕ) → ¬ (m ≡ q) → is_at (nat_cmp m) q ≡ false
not_at m q other = grind (arith, other)

-- what becomes of the lanes of one run, and nothing of the others
pub runs_go : (m n : BTreeMap ℕ Run) (name : ℕ) (old new : Run) (P : ℕ → ℕ → Option (Option Standing) → Option (Option Standing) → Type 0)
    → get nat_cmp m name ≡ Some old → WritesThrough nat_cmp (nat_cmp name) m new n
    → ((number : ℕ) → P name number (Some (standing_in number old.lanes.items)) (Some (standing_in number new.lanes.items)))
    → ((run number : ℕ) (s : Option (Option Standing)) → ¬ (name ≡ run) → P run number s s)
    → (run number : ℕ) → P run number (option_map (λ r. standing_in number r.lanes.items) (get nat_cmp m run)) (option_map (λ r. standing_in number r.lanes.items) (get nat_cmp n run))
runs_go m n name old new P there writes here others run number =
    let updates = writes.3 (search rules) in
    let is_new : get nat_cmp n name ≡ Some new = updates.1 in
    elim (cases_eq name run) [
      | inl same ↦
          subst (λ (k : ℕ). P k number (option_map (λ r. standing_in number r.lanes.items) (get nat_cmp m k)) (option_map (λ r. standing_in number r.lanes.items) (get nat_cmp n k))) same
          (rw (there, is_new) (here number))
      | inr other ↦
          rw (updates.2 run (not_at name run other)) (others run number (option_map (λ r. standing_in number r.lanes.items) (get nat_cmp m run)) other)
    ]

begins_not : (run number : ℕ) (line : Content) → is_begin_of run line ≡ false → Begins run number line None
begins_not run number (content.Begin begin) not_it = rw not_it refl
begins_not run number (content.Entry e) not_it = refl
begins_not run number (content.Left e) not_it = refl
begins_not run number (content.Count e) not_it = refl
begins_not run number (content.AgainEarlier e) not_it = refl
begins_not run number (content.Resumed e) not_it = refl
begins_not run number (content.End e) not_it = refl
begins_not run number (content.Hidden e) not_it = refl

follows_not : (config : Configuration) (run number : ℕ) (line : Content) (s : Option (Option Standing)) → is_begin_of run line ≡ false → ((home : List ℕ) → is_of run number home line ≡ false) → Follows config run number line s s
follows_not config run number line None not_begin not_of = begins_not run number line not_begin
follows_not config run number line (Some None) not_begin not_of = refl
follows_not config run number line (Some (Some s)) not_begin not_of = rw (not_of s.home) refl

-- a line of one run leaves those of the others
pub entry_not : (config : Configuration) (its : JudgedEntry) (run number : ℕ) (s : Option (Option Standing)) → ¬ (its.entry.about.run ≡ run) → Follows config run number (content.Entry its) s s
entry_not config its run number s other = follows_not config run number (content.Entry its) s refl (λ home. and_left (its.entry.about.run == run) _ (ne_eqb its.entry.about.run run other))

pub left_not : (config : Configuration) (left : TheLeft) (run number : ℕ) (s : Option (Option Standing)) → ¬ (left.about.run ≡ run) → Follows config run number (content.Left left) s s
left_not config left run number s other = follows_not config run number (content.Left left) s refl (λ home. and_left (left.about.run == run) _ (ne_eqb left.about.run run other))

pub count_not : (config : Configuration) (count : RecordCount) (run number : ℕ) (s : Option (Option Standing)) → ¬ (count.run ≡ run) → Follows config run number (content.Count count) s s
count_not config count run number s other = follows_not config run number (content.Count count) s refl (λ home. and_left (count.run == run) _ (ne_eqb count.run run other))

pub earlier_not : (config : Configuration) (count : AnswerCount) (run number : ℕ) (s : Option (Option Standing)) → ¬ (count.run ≡ run) → Follows config run number (content.AgainEarlier count) s s
earlier_not config count run number s other = follows_not config run number (content.AgainEarlier count) s refl (λ home. and_left (count.run == run) _ (ne_eqb count.run run other))

pub resumed_not : (config : Configuration) (its : TheResumed) (run number : ℕ) (s : Option (Option Standing)) → ¬ (its.run ≡ run) → Follows config run number (content.Resumed its) s s
resumed_not config its run number s other = follows_not config run number (content.Resumed its) s refl (λ home. and_left (its.run == run) _ (ne_eqb its.run run other))

pub ends_not : (name : ℕ) (counts : List LaneCount) (run number : ℕ) (s : Option (Option Standing)) → ¬ (name ≡ run) → RunEnds name run number counts s s
ends_not name counts run number None other = refl
ends_not name counts run number (Some None) other = refl
ends_not name counts run number (Some (Some s)) other = rw (ne_eqb name run other) refl
