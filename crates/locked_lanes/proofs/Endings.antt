-- The ends of the lanes, one more.
use Rattle.std.proofs.Common.{◌≡◌, ℕ, zero, suc, ◌+◌, ◌<◌, List, [], ◌∷◌, ◌++◌, length, drop, refl, sym, ap, ◌∙◌, subst, arith, add-one, length-append, append-nil, below_more}
use Rattle.std.specs.Prelude.{slice_get, map as each, All, Option, Some, None, IsSome}
use Rattle.std.specs.Option.{option_to_list}
use Rattle.std.specs.List.{flat_map}
use Rattle.std.proofs.lemmas.List.{map-append}
use Rattle.std.proofs.lemmas.List.Elements.{All-head, All-tail}
use Rattle.std.proofs.lemmas.Grind.{flat_map-append}
use Rattle.rad_lane.specs.Stamp.{Recorded, Kept}
use Rattle.locked_lanes.specs.declared.desk.Desk.{Desk}
use Rattle.locked_lanes.specs.declared.inlet.Inlet.{Inlet}
use Rattle.locked_lanes.specs.declared.report.LaneEnd.{LaneEnd}
use Rattle.locked_lanes.specs.Desk.{book}
use Rattle.locked_lanes.proofs.Rests.{made_up_by}
use Rattle.locked_lanes.specs.Ending.{IsEnd, EndsAt}

-- The first of what is left of a list, and what is left after it.
at_drop : {X : Type 0} (n : ℕ) (xs : List X) → slice_get (drop n xs) 0 ≡ slice_get xs n
at_drop zero xs = refl
at_drop (suc n) [] = refl
at_drop (suc n) (x ∷ xs) = at_drop n xs

drop_more : {X : Type 0} (n : ℕ) (xs : List X) → drop 1 (drop n xs) ≡ drop (suc n) xs
drop_more zero xs = refl
drop_more (suc n) [] = refl
drop_more (suc n) (x ∷ xs) = drop_more n xs

first_of : {X : Type 0} (xs : List X) (first : Option X) (rest : List X) → xs ≡ option_to_list first ++ rest → (0 < length xs → IsSome first) → (slice_get xs 0 ≡ first) × (drop 1 xs ≡ rest)
first_of [] None rest e some = (refl, e)
first_of [] (Some y) rest e some = (cc, cc)
first_of (x ∷ xs) None rest e some = let none = some (omega arith) in (cc, cc)
first_of (x ∷ xs) (Some y) rest e some = (cc, cc)

pub next_of : {X : Type 0} (n : ℕ) (xs : List X) (first : Option X) (rest : List X) → drop n xs ≡ option_to_list first ++ rest → (0 < length (drop n xs) → IsSome first) → (slice_get xs n ≡ first) × (drop (n + 1) xs ≡ rest)
next_of n xs first rest e some =
    let is = first_of (drop n xs) first rest e some in
    (sym (at_drop n xs) ∙ is.0, rw add-one (sym (drop_more n xs) ∙ is.1))

-- What stands in a longer list.
still_at : {X : Type 0} (xs : List X) (x y : X) (k : ℕ) → slice_get xs k ≡ Some y → slice_get (xs ++ x ∷ []) k ≡ Some y
still_at [] x y zero h = cc
still_at [] x y (suc k) h = cc
still_at (a ∷ xs) x y zero h = h
still_at (a ∷ xs) x y (suc k) h = still_at xs x y k h

last_at : {X : Type 0} (xs : List X) (x : X) → slice_get (xs ++ x ∷ []) (length xs) ≡ Some x
last_at [] x = refl
last_at (a ∷ xs) x = last_at xs x

ends_still : (desks : List Desk) (inlets : List Inlet) (ends : List LaneEnd) (desk : Desk) (end : LaneEnd) (lane : ℕ) → EndsAt desks inlets ends lane → EndsAt (desks ++ desk ∷ []) inlets (ends ++ end ∷ []) lane
ends_still desks inlets ends desk end lane h = record {
  desk = h.desk;
  end = h.end;
  of_desk = still_at desks desk h.desk lane h.of_desk;
  there = still_at ends end h.end lane h.there;
  is_end = h.is_end;
  accounted = h.accounted;
  made_up = h.made_up;
}

pub ends_more : (desks : List Desk) (inlets : List Inlet) (ends : List LaneEnd) (desk : Desk) (end : LaneEnd) → length ends ≡ length desks → ((lane : ℕ) → lane < length desks → EndsAt desks inlets ends lane) → IsEnd (length desks) (book desk) (slice_get inlets (length desks)) end → (lane : ℕ) → lane < length (desks ++ desk ∷ []) → EndsAt (desks ++ desk ∷ []) inlets (ends ++ end ∷ []) lane
ends_more desks inlets ends desk end count h is lane within =
    let Ends : ℕ → Type 0 = λ n. EndsAt (desks ++ desk ∷ []) inlets (ends ++ end ∷ []) n in
    let before : (n : ℕ) → n < length desks → Ends n = λ n below. ends_still desks inlets ends desk end n (h n below) in
    let last : slice_get (ends ++ end ∷ []) (length desks) ≡ Some end = ap (λ n. slice_get (ends ++ end ∷ []) n) (sym count) ∙ last_at ends end in
    let here : Ends (length desks) = record { desk = desk; end = end; of_desk = last_at desks desk; there = last; is_end = is; accounted = desk.accounted; made_up = made_up_by (length desks) desk (slice_get inlets (length desks)) end.rest is.rest } in
    let below : lane < length desks + 1 = omega (arith, within, length-append desks (desk ∷ [])) in
    below_more Ends (length desks) before here lane below

-- What holds of all that are left still holds once the first is gone.
pub rooms_left : {X : Type 0} (P : X → Type 0) (first : Option X) (rest : List X) → All P (option_to_list first ++ rest) → All P rest
rooms_left P None rest h = h
rooms_left P (Some x) rest h = All-tail P x rest h

pub room_first : {X : Type 0} (P : X → Type 0) (first : Option X) (rest : List X) → All P (option_to_list first ++ rest) → (x : X) → first ≡ Some x → P x
room_first P None rest h x is = cc
room_first P (Some y) rest h x is = let same : y ≡ x = cc in subst P same (All-head P y rest h)

-- The queues joined, one more.
pub joined_more : (queued queue : List Kept) (desks : List Desk) (desk : Desk) → each (λ k. k.recorded) queued ≡ flat_map (λ d. (book d).queued) desks → each (λ k. k.recorded) queue ≡ (book desk).queued → each (λ k. k.recorded) (queued ++ queue) ≡ flat_map (λ d. (book d).queued) (desks ++ desk ∷ [])
joined_more queued queue desks desk before here =
    let f : Desk → List Recorded = λ d. (book d).queued in
    map-append (λ (k : Kept). k.recorded) queued queue
    ∙ ap (λ xs. xs ++ each (λ (k : Kept). k.recorded) queue) before
    ∙ ap (λ xs. flat_map f desks ++ xs) (here ∙ sym (append-nil (book desk).queued))
    ∙ sym (flat_map-append f desks (desk ∷ []))
