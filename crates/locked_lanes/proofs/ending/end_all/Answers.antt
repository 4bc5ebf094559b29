use Rattle.std.proofs.Common.{◌≡◌, ℕ, ◌+◌, ◌<◌, List, [], ◌∷◌, ◌++◌, length, drop, sym, ap, ◌∙◌, subst, append_assoc, append-nil, arith, length-append}
use Rattle.std.specs.Prelude.{slice_get, map as each, All, IsSome}
use Rattle.std.specs.List.{flat_map}
use Rattle.std.specs.Option.{option_to_list}
use Rattle.std.specs.Vec.Iter.{into_iter_items}
use Rattle.std.proofs.lemmas.Grind.{common_steps}
use Rattle.std.proofs.lemmas.List.{nil_from_length}
use Rattle.rad_lane.specs.Stamp.{Kept}
use Rattle.locked_lanes.specs.declared.report.LaneEnd.{LaneEnd}
use Rattle.locked_lanes.specs.Desk.{book}
use Rattle.locked_lanes.specs.Inlet.{HasRoom}
use Rattle.locked_lanes.specs.Ending.{IsEnd, EndsAt, IsReport}
use Rattle.locked_lanes.proofs.Endings.{next_of, ends_more, rooms_left, room_first, joined_more}
use Rattle.locked_lanes.proofs.ending.end_all.Goals as goal

pub end_of-end-requires : goal.end_of-end-requires
end_of-end-requires c =
    let left = into_iter_items c.next-in-loop-desk.new.self in
    room_first HasRoom c.next-in-loop-desk.result left (subst (All HasRoom) c.next-in-loop-desk.ensures.items c.loop-desk.invariant.rooms)

pub loop-desk-preserved : goal.loop-desk-preserved
loop-desk-preserved c =
    let at = c.loop-desk in
    let was = at.invariant in
    let desk = c.in-Some.desk in
    let end = c.end_of-end.result.0 in
    let inlets = c.args.inlets.items in
    let next = c.next-in-loop-desk.result in
    let left = into_iter_items c.next-in-loop-desk.new.self in
    let items = c.next-in-loop-desk.ensures.items in
    let lane = length at.yielded in
    let steps : into_iter_items at.desk-iterator ≡ desk ∷ into_iter_items c.next.new.self = c.in-Some.ensures.steps.0 in
    let gone = c.in-Some.ensures.steps.1 in
    let fewer = ap length steps in
    let one_more : length (at.yielded ++ desk ∷ []) ≡ lane + 1 = length-append at.yielded (desk ∷ []) in
    let some : 0 < length (drop lane inlets) → IsSome next = λ h. c.next-in-loop-desk.ensures.variant.1 (omega (arith, was.inlets_len, ap length was.inlets, h)) in
    let nexts = next_of lane inlets next left (was.inlets ∙ items) some in
    let lane_is : c.len-lane.result ≡ lane = omega (arith, was.count, c.len-lane.ensures, at.ends.ok.0) in
    let is_end : IsEnd lane (book desk) (slice_get inlets lane) end =
    subst (λ i. IsEnd lane (book desk) i end) (sym nexts.0) (subst (λ n. IsEnd n (book desk) next end) lane_is c.end_of-end.ensures.end) in
    let pushed = c.push_reserved.ensures.items in
    let ends = ends_more at.yielded inlets at.ends.items desk end was.count was.ends is_end in
    record {
      desks = append_assoc at.yielded (desk ∷ []) _ ∙ rw (← steps) was.desks;
      desks_len = omega (arith, was.desks_len, gone, fewer);
      inlets = ap (λ n. drop n inlets) one_more ∙ nexts.1;
      inlets_len = omega (arith, was.inlets_len, c.next-in-loop-desk.ensures.len, ap length items, length-append (option_to_list next) left);
      rooms = rooms_left HasRoom next left (subst (All HasRoom) items was.rooms);
      count = ap length pushed ∙ length-append at.ends.items (end ∷ []) ∙ ap (λ n. n + 1) was.count ∙ sym one_more;
      places = grind (arith, common_steps, was.places, c.push_reserved.ensures.capacity);
      ends = subst (λ (es : List LaneEnd). (n : ℕ) → n < length (at.yielded ++ desk ∷ []) → EndsAt (at.yielded ++ desk ∷ []) inlets es n) (sym pushed) ends;
      queued = subst (λ q. each (λ k. k.recorded) q ≡ flat_map (λ d. (book d).queued) (at.yielded ++ desk ∷ [])) (sym c.append.ensures) (joined_more _ _ at.yielded desk was.queued c.end_of-end.ensures.queued);
      bounded = omega (arith, was.bounded, c.end_of-end.ensures.bounded, ap length c.append.ensures, length-append at.queued.items c.end_of-end.result.1.items, one_more);
    }

pub returns : goal.returns
returns c =
    let at = c.loop-desk in
    let was = at.invariant in
    let none = c.in-None.ensures.steps in
    let empty : into_iter_items at.desk-iterator ≡ [] = nil_from_length _ (sym was.desks_len ∙ none.0) in
    let all : at.yielded ≡ c.args.desks.items = sym (append-nil at.yielded) ∙ rw empty at was.desks in
    let made = sym c.from_vec.ensures in
    let report : IsReport at.yielded c.args.inlets.items (record { ends = at.ends.items; queued = at.queued }) =
    record { counted = was.count; ends = was.ends; queued = was.queued } in
    subst (λ es. IsReport c.args.desks.items c.args.inlets.items (record { ends = es; queued = at.queued })) made
    (subst (λ ds. IsReport ds c.args.inlets.items (record { ends = at.ends.items; queued = at.queued })) all report)

pub loop-desk-init : goal.loop-desk-init
loop-desk-init c =
    let none = ap length c.requires.none in
    let empty = ap length c.new-queued.ensures in
    record {
      desks = c.into_iter-desk-iterator.ensures.into_iter_gives.0;
      desks_len = omega (arith, c.into_iter-desk-iterator.ensures.into_iter_gives.1, ap length c.into_iter-desk-iterator.ensures.into_iter_gives.0, c.args.desks.ok.0);
      inlets = sym c.into_iter-inlets.ensures.rest;
      inlets_len = omega (arith, c.into_iter-inlets.ensures.len, ap length c.into_iter-inlets.ensures.rest, c.args.inlets.ok.0);
      rooms = subst (All HasRoom) (sym c.into_iter-inlets.ensures.rest) c.requires.rooms;
      count = none;
      places = c.requires.places;
      ends = λ lane below. absurd (omega (arith, below));
      queued = ap (each (λ (k : Kept). k.recorded)) c.new-queued.ensures;
      bounded = omega (arith, empty);
    }

pub append-requires : goal.append-requires
append-requires c =
    let at = c.loop-desk in
    let was = at.invariant in
    omega (arith, was.bounded, c.end_of-end.ensures.bounded, length-append at.yielded (into_iter_items at.desk-iterator), ap length was.desks, c.args.desks.ok.0, c.requires.few)

pub push_reserved-requires : goal.push_reserved-requires
push_reserved-requires c =
    let at = c.loop-desk in
    let was = at.invariant in
    let left = ap length c.in-Some.ensures.steps.0 in
    omega (arith, was.count, was.places, at.ends.ok.0, length-append at.yielded (into_iter_items at.desk-iterator), ap length was.desks, left, c.args.desks.ok.0)

pub loop-desk-smaller : goal.loop-desk-smaller
loop-desk-smaller c = omega (arith, c.in-Some.ensures.steps.1)
