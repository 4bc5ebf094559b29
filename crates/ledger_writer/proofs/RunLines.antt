-- The lanes of a line that begins a file or ends a run, so far.
use Rattle.std.proofs.Common.{◌≡◌, Bool, ℕ, suc, ◌+◌, ◌<◌, ◌≤◌, List, [], ◌∷◌, ◌++◌, length, take, map, String, Result, Ok, Err, sym, subst, ap, ◌∙◌, arith}
use Rattle.std.specs.Prelude.{IfOk, slice_get, string_bytes}
use Rattle.std.proofs.lemmas.List.{map-append, take_all}
use Rattle.ledger_lines.specs.declared.end.LaneCount.{LaneCount}
use Rattle.ledger_lines.specs.declared.lane_start.LaneStart.{LaneStart}
use Rattle.ledger_writer.specs.declared.progress.LaneProgress.{LaneProgress}
use Rattle.ledger_writer.specs.RunLines.{AreCounted, AreStarts, lane_number, lane_numbers, serial_in, serials_in}

mapped : {X Y : Type 0} (f : X → Y) (xs : List X) (x : X) (ys : List Y) (y : Y) → map f xs ≡ ys → f x ≡ y → map f (xs ++ x ∷ []) ≡ ys ++ y ∷ []
mapped f xs x ys y e is = map-append f xs (x ∷ []) ∙ ap (λ zs. zs ++ f x ∷ []) e ∙ ap (λ z. ys ++ z ∷ []) is

more : (i : ℕ) → i + 1 ≡ suc i
more i = omega arith

-- ---- the lanes that a file begins with

pub record StartsSoFar {A : Type 0} (names : List (String A)) (gone : Bool) (lanes : List LaneProgress) (count : ℕ) (starts : List LaneStart) : Type 0 where
  pub within : count ≤ length names
  pub numbers : map (λ start. start.lane) starts ≡ lane_numbers count
  pub homes : map (λ start. start.home.now) starts ≡ map string_bytes (take count names)
  pub serials : map (λ start. start.serial) starts ≡ serials_in gone lanes count

pub no_starts : {A : Type 0} (names : List (String A)) (gone : Bool) (lanes : List LaneProgress) (starts : List LaneStart) → starts ≡ [] → StartsSoFar names gone lanes 0 starts
no_starts names gone lanes starts none = record {
  within = omega arith;
  numbers = ap (map (λ (x : LaneStart). x.lane)) none;
  homes = ap (map (λ (x : LaneStart). x.home.now)) none;
  serials = ap (map (λ (x : LaneStart). x.serial)) none;
}

module _ {A : Type 0} (names : List (String A)) (gone : Bool) (lanes : List LaneProgress) (i : ℕ) (starts : List LaneStart) (so : StartsSoFar names gone lanes i starts) where
  pub start_added : (name : String A) (start : LaneStart) (all : List LaneStart) → i < length names → take (i + 1) names ≡ take i names ++ name ∷ [] → start.lane ≡ lane_number i → start.home.now ≡ string_bytes name → start.serial ≡ serial_in gone (slice_get lanes i) → all ≡ starts ++ start ∷ [] → StartsSoFar names gone lanes (i + 1) all
  start_added name start all lt front l h s grown = subst (StartsSoFar names gone lanes (i + 1)) (sym grown) (record {
    within = omega (arith, lt);
    numbers = mapped (λ (x : LaneStart). x.lane) starts start (lane_numbers i) (lane_number i) so.numbers l ∙ sym (ap lane_numbers (more i));
    homes =
        mapped (λ (x : LaneStart). x.home.now) starts start (map string_bytes (take i names)) (string_bytes name) so.homes h
        ∙ sym (ap (map string_bytes) front ∙ map-append string_bytes (take i names) (name ∷ []));
    serials = mapped (λ (x : LaneStart). x.serial) starts start (serials_in gone lanes i) (serial_in gone (slice_get lanes i)) so.serials s ∙ sym (ap (serials_in gone lanes) (more i));
  })

  pub all_starts : length names ≤ i → AreStarts names gone lanes starts
  all_starts le =
      let same : i ≡ length names = omega (arith, le, so.within) in
      record {
        numbers = so.numbers ∙ ap lane_numbers same;
        homes = so.homes ∙ ap (map string_bytes) (take_all i names le);
        serials = so.serials ∙ ap (serials_in gone lanes) same;
      }

-- ---- the lanes that an end line counts

pub count_added : (i : ℕ) (counts all : List LaneCount) (count : LaneCount) → AreCounted i counts → count.lane ≡ lane_number i → all ≡ counts ++ count ∷ [] → AreCounted (i + 1) all
count_added i counts all count so is grown = subst (AreCounted (i + 1)) (sym grown) (mapped (λ (x : LaneCount). x.lane) counts count (lane_numbers i) (lane_number i) so is ∙ sym (ap lane_numbers (more i)))

pub all_counted : (lanes i : ℕ) (counts : List LaneCount) → lanes ≤ i → i ≤ lanes → AreCounted i counts → AreCounted lanes counts
all_counted lanes i counts le within so = let same : i ≡ lanes = omega (arith, le, within) in so ∙ ap lane_numbers same

-- ---- what holds of a result follows from what holds of it

pub ok_then : {B E : Type 0} {P Q : B → Type 0} (r : Result B E) → ((x : B) → P x → Q x) → IfOk r P → IfOk r Q
ok_then (Ok x) f h = f x h
ok_then (Err e) f h = h
