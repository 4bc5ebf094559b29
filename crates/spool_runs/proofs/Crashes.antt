-- Lives with a crash.
use Rattle.std.proofs.Common.{◌≡◌, ℕ, ◌+◌, ◌≤◌, true, false, cond, not, ◌||◌, List, [], ◌∷◌, Some, refl, sym, ap, subst, ◌∙◌, inl, inr, arith, le-leb, get_or, leb, ◌-◌}
use Rattle.std.specs.Prelude.{is_some}
use Rattle.std.specs.List.{filter}
use Rattle.std.specs.List.Sorted.{IsPermutation}
use Rattle.std.proofs.lemmas.List.Sorted.{IsPermutation-refl}
use Rattle.rad_tables.specs.declared.duplicates.Key.{Key}
use Rattle.spool_files.specs.declared.entry.Came.{Came}
use Rattle.spool_files.specs.declared.entry.Answered.{Answered}
use Rattle.spool_files.specs.declared.entry.Head.TheVariants as heads
use Rattle.spool_files.specs.Entries.{Entry}
use Rattle.spool_files.specs.Counting.{is_key, is_request, is_answer_within, open_of, last_of, answers_of}
use Rattle.spool_files.proofs.CountLemmas.{itself}
use Rattle.spool_runs.specs.World.{Setup, arrival_of, has_lane}
use Rattle.spool_runs.specs.Happens.{AreBelow, IsOffered}
use Rattle.spool_runs.specs.Example.{ComesAgain, ComesNotAgain}
use Rattle.spool_runs.proofs.Among.{first_in, none_there, parted}

none_offered : IsOffered [] []
none_offered = record { same = IsPermutation-refl []; in_order = λ i j d le within. absurd (omega (arith, within)) }

one_offered : (came : Came) (text : List ℕ) → IsOffered ((heads.Came came, text) ∷ []) ((heads.Came came, text) ∷ [])
one_offered came text = record {
  same = IsPermutation-refl ((heads.Came came, text) ∷ []);
  in_order = λ i j d le within.
      let e : i ≡ j = omega (arith, le, within) in
      subst (λ n. arrival_of (get_or ((heads.Came came, text) ∷ []) i d) ≤ arrival_of (get_or ((heads.Came came, text) ∷ []) n d)) e (omega arith);
}

none_below : (next : ℕ) → AreBelow next []
none_below next entry there is = absurd (none_there entry there)

one_below : (request : Entry) → AreBelow (arrival_of request + 1) (request ∷ [])
one_below request entry there is =
    let same : request ≡ entry = elim (parted request [] entry there) [ inl same ↦ same | inr none ↦ absurd (none_there entry none) ] in
    let e = ap arrival_of same in
    omega (arith, e)

waits_alone : (setup : Setup) (request : Entry) (lane : ℕ) → setup.lane_of request ≡ Some lane → filter (has_lane setup) (request ∷ []) ≡ request ∷ []
waits_alone setup request lane of = ap (λ o. cond (is_some o) (request ∷ []) []) of

pub comes_again : ComesAgain
comes_again span setup came text lane spans of = (
  _,
  (
    _,
    record { down = refl; later = omega arith; spans = spans.0; no_greater = spans.1; offers = none_offered; below = none_below 0; world = refl },
    (
      _,
      record {
        up = refl;
        later = omega arith;
        is = refl;
        lane = lane;
        of = of;
        none_waits = refl;
        not_recalled = λ answered response there same. absurd (none_there _ there);
        place = omega arith;
        next_place = omega arith;
        world = refl;
      },
      (
        _,
        record { up = refl; world = refl },
        (
          _,
          record { up = refl; world = refl },
          (
            _,
            record { down = refl; later = omega arith; spans = spans.0; no_greater = omega arith; offers = one_offered came text; below = one_below (heads.Came came, text); world = refl },
            refl,
          ),
        ),
      ),
    ),
  ),
  waits_alone setup (heads.Came came, text) lane of,
)

-- the request is closed by the answer behind it
closed : (came : Came) (answered : Answered) → answered.key ≡ came.key → is_key came.key (Some answered.key) ≡ true
closed came answered same = ap (λ (k : Key). is_key came.key (Some k)) same ∙ itself came.key

last_two : (came : Came) (text : List ℕ) (answered : Answered) (response : List ℕ) → answered.key ≡ came.key
    → last_of ((heads.Came came, text) ∷ (heads.Answered answered, response) ∷ []) [] ≡ (heads.Answered answered, response) ∷ []
last_two came text answered response same =
    ap (λ b. cond (not (b || false)) ((heads.Came came, text) ∷ (heads.Answered answered, response) ∷ []) ((heads.Answered answered, response) ∷ [])) (closed came answered same)

none_open : (came : Came) (text : List ℕ) (answered : Answered) (response : List ℕ) → answered.key ≡ came.key → open_of ((heads.Came came, text) ∷ (heads.Answered answered, response) ∷ []) ≡ []
none_open came text answered response same = ap (filter is_request) (last_two came text answered response same)

at_once : (moment span : ℕ) → leb (0 - moment) span ≡ true
at_once moment span = le-leb (0 - moment) span (omega arith)

one_kept : (span : ℕ) (came : Came) (text : List ℕ) (answered : Answered) (response : List ℕ) → answered.key ≡ came.key
    → answers_of 0 span ((heads.Came came, text) ∷ (heads.Answered answered, response) ∷ []) ≡ (heads.Answered answered, response) ∷ []
one_kept span came text answered response same =
    ap (filter (is_answer_within 0 span)) (last_two came text answered response same)
    ∙ ap (λ b. cond b ((heads.Answered answered, response) ∷ []) []) (at_once answered.moment span)

two_below : (came : Came) (text : List ℕ) (answered : Answered) (response : List ℕ) → AreBelow (came.arrival + 1) ((heads.Came came, text) ∷ (heads.Answered answered, response) ∷ [])
two_below came text answered response entry there is = elim (parted (heads.Came came, text) ((heads.Answered answered, response) ∷ []) entry there) [
  | inl same ↦ let e = ap arrival_of same in omega (arith, e)
  | inr later ↦ elim (parted (heads.Answered answered, response) [] entry later) [
    | inl same ↦ absurd (no_answer (ap is_request same ∙ is))
    | inr none ↦ absurd (none_there entry none)
  ]
]
  where
    no_answer : false ≡ true → ⊥
    no_answer e = cc (e)

pub comes_not_again : ComesNotAgain
comes_not_again span setup came text lane answered response spans of same = (
  _,
  (
    _,
    record { down = refl; later = omega arith; spans = spans.0; no_greater = spans.1; offers = none_offered; below = none_below 0; world = refl },
    (
      _,
      record {
        up = refl;
        later = omega arith;
        is = refl;
        lane = lane;
        of = of;
        none_waits = refl;
        not_recalled = λ earlier octets there equal. absurd (none_there _ there);
        place = omega arith;
        next_place = omega arith;
        world = refl;
      },
      (
        _,
        record { up = refl; world = refl },
        (
          _,
          record { up = refl; is = refl; request = (heads.Came came, text); accepted = first_in (heads.Came came, text) []; about = ap Some (sym same); world = refl },
          (
            _,
            record { up = refl; world = refl },
            (
              _,
              record { up = refl; world = refl },
              (
                _,
                record {
                  down = refl;
                  later = omega arith;
                  spans = spans.0;
                  no_greater = omega arith;
                  offers = record {
                    same = subst (λ es. IsPermutation es []) (sym (none_open came text answered response same)) (IsPermutation-refl []);
                    in_order = λ i j d le within. absurd (omega (arith, within));
                  };
                  below = two_below came text answered response;
                  world = refl;
                },
                refl,
              ),
            ),
          ),
        ),
      ),
    ),
  ),
  refl,
  one_kept setup.greatest_span came text answered response same,
)
