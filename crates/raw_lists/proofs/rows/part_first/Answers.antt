use Rattle.std.proofs.Common.{suc, ◌≡◌, ◌+◌, ◌<◌, ◌++◌, ◌∙◌, refl, sym, ap, subst, arith, length, take, drop}
use Rattle.std.proofs.lemmas.List.{append-nil}
use Rattle.raw_lists.specs.Sliding.{below, since}
use Rattle.raw_lists.proofs.Fronts.{drop_popped, some_left}
use Rattle.raw_lists.proofs.Parted.{below_more, below_same, since_more, since_same}
use Rattle.raw_lists.proofs.rows.part_first.Goals as goal
use Rattle.raw_lists.proofs.rows.part_first.Goals.{then-number, else-number}

pub loop-init : goal.loop-init
loop-init g c = record {
  row = refl;
  before = omega arith;
  taken = sym (append-nil c.args.taken.now.items);
  kept = sym (append-nil c.args.kept.now.items);
  taken_len = omega arith;
  kept_len = omega arith;
  taken_room = refl;
  kept_room = refl;
}

pub pop-item-requires : goal.pop-item-requires
pop-item-requires g c = subst (λ l. 0 < length l) (sym c.loop.invariant.row) (some_left c.loop.counter c.args.row.now.items (omega arith))

pub push_reserved-requires : goal.push_reserved-requires
push_reserved-requires g c =
    let len = c.loop.invariant.taken_len in let room = c.loop.invariant.taken_room in let all = c.requires.taken_room in
    omega (arith, len, room, all)

pub push_reserved-requires-else-number : goal.push_reserved-requires-else-number
push_reserved-requires-else-number g c =
    let len = c.loop.invariant.kept_len in let room = c.loop.invariant.kept_room in let all = c.requires.kept_room in
    omega (arith, len, room, all)

pub loop-preserved : goal.loop-preserved
loop-preserved g c =
    let items = c.args.row.now.items in
    let inv = c.loop.invariant in
    let step : c.loop.counter + 1 ≡ suc c.loop.counter = omega arith in
    let first = sym inv.row ∙ c.pop-item.ensures.items in
    let row = drop_popped c.loop.counter (c.loop.counter + 1) items c.pop-item.new.self.items c.pop-item.result (omega arith) first in
    elim c.if-number.branch [
      | then-number w ↦ record {
        row = row;
        before = omega (arith, c.pop-item.ensures.before, inv.before);
        taken = below_more g.T.Numbered.number_of c.args.number items c.pop-item.new.self.items c.loop.counter (c.loop.counter + 1) step c.pop-item.result first c.number.result c.number.ensures c.args.taken.now.items c.loop.taken.items c.if-number.taken.items w.if-number.true inv.taken (ap (λ v. v.items) w.taken-is ∙ w.push_reserved.ensures.items);
        kept = since_same g.T.Numbered.number_of c.args.number items c.pop-item.new.self.items c.loop.counter (c.loop.counter + 1) step c.pop-item.result first c.number.result c.number.ensures c.args.kept.now.items c.loop.kept.items c.if-number.kept.items w.if-number.true inv.kept (ap (λ v. v.items) w.kept-is);
        taken_len = omega (arith, inv.taken_len, ap (λ v. v.len) w.taken-is, w.push_reserved.ensures.len);
        kept_len = omega (arith, inv.kept_len, ap (λ v. v.len) w.kept-is);
        taken_room = ap (λ v. v.cap) w.taken-is ∙ w.push_reserved.ensures.capacity ∙ inv.taken_room;
        kept_room = ap (λ v. v.cap) w.kept-is ∙ inv.kept_room;
      }
      | else-number w ↦ record {
        row = row;
        before = omega (arith, c.pop-item.ensures.before, inv.before);
        taken = below_same g.T.Numbered.number_of c.args.number items c.pop-item.new.self.items c.loop.counter (c.loop.counter + 1) step c.pop-item.result first c.number.result c.number.ensures c.args.taken.now.items c.loop.taken.items c.if-number.taken.items (omega (arith, w.if-number.false)) inv.taken (ap (λ v. v.items) w.taken-is);
        kept = since_more g.T.Numbered.number_of c.args.number items c.pop-item.new.self.items c.loop.counter (c.loop.counter + 1) step c.pop-item.result first c.number.result c.number.ensures c.args.kept.now.items c.loop.kept.items c.if-number.kept.items (omega (arith, w.if-number.false)) inv.kept (ap (λ v. v.items) w.kept-is ∙ w.push_reserved-else-number.ensures.items);
        taken_len = omega (arith, inv.taken_len, ap (λ v. v.len) w.taken-is);
        kept_len = omega (arith, inv.kept_len, ap (λ v. v.len) w.kept-is, w.push_reserved-else-number.ensures.len);
        taken_room = ap (λ v. v.cap) w.taken-is ∙ inv.taken_room;
        kept_room = ap (λ v. v.cap) w.kept-is ∙ w.push_reserved-else-number.ensures.capacity ∙ inv.kept_room;
      }
    ]

pub returns-clause-row : goal.returns-clause-row
returns-clause-row g c =
    let all : c.loop.counter ≡ c.args.end = omega arith in
    c.loop.invariant.row ∙ ap (λ k. drop k c.args.row.now.items) all

pub returns-clause-before : goal.returns-clause-before
returns-clause-before g c = omega (arith, c.loop.invariant.before)

pub returns-clause-taken : goal.returns-clause-taken
returns-clause-taken g c =
    let all : c.loop.counter ≡ c.args.end = omega arith in
    c.loop.invariant.taken ∙ ap (λ k. c.args.taken.now.items ++ below g.T.Numbered.number_of c.args.number (take k c.args.row.now.items)) all

pub returns-clause-kept : goal.returns-clause-kept
returns-clause-kept g c =
    let all : c.loop.counter ≡ c.args.end = omega arith in
    c.loop.invariant.kept ∙ ap (λ k. c.args.kept.now.items ++ since g.T.Numbered.number_of c.args.number (take k c.args.row.now.items)) all

pub returns-clause-count : goal.returns-clause-count
returns-clause-count g c = omega (arith, c.loop.invariant.kept_len)
