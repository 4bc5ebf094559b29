use Rattle.std.proofs.lemmas.Bool.{false≢true}
use Rattle.std.proofs.Common.{ℕ, ◌-◌, ◌<◌, ◌≡◌, ◌≤◌, None, is_some, IsSome, get_or, refl, sym, ap, subst, ◌∙◌, arith, length, ◌*◌}
use Rattle.std.proofs.lemmas.List.{length-map, get_or_past, get_or_read}
use Rattle.std.specs.FinMap as map
use Rattle.rad_tables.specs.internal.Kept.{place_of, at, contents_of, entry_of}
use Rattle.rad_tables.proofs.ContentsLemmas.{get_slot, remove_absent}
use Rattle.rad_tables.proofs.IndexLemmas.{within}
use Rattle.rad_tables.proofs.KeptLemmas.{cell_at, entries_of-set_free, kept_take, table, kept_free}
use Rattle.rad_tables.proofs.slots.Slots.take.Goals as goal

-- where something stands at a place, there is something
some_below : (i n m : ℕ) → i < n → m ≡ n → 1 ≤ m
some_below i n m below same = omega arith

one_below : (i n m k : ℕ) → i < n → m ≡ n → k ≡ n → m - 1 < k
one_below i n m k below same other = omega arith

as_far : (p q n m k : ℕ) → p ≡ q → q < n → m ≡ n → k ≡ m → p < k
as_far p q n m k same below other as_many = omega arith

pub returns-then-place-len-clause-value : goal.returns-then-place-len-clause-value
returns-then-place-len-clause-value g c =
    let cells = c.self.inside.cells.items in
    let slot = c.args.slot in
    let past : length (contents_of cells) ≤ place_of slot = omega (arith, length-map cells entry_of, c.self.inside.cells.ok.0) in
    sym (sym (ap (λ t. map.get t.entries slot) c.self.view_is) ∙ get_slot (contents_of cells) slot (omega arith) ∙ get_or_past (contents_of cells) (place_of slot) None past)

pub returns-then-place-len-clause-taken : goal.returns-then-place-len-clause-taken
returns-then-place-len-clause-taken g c =
    let cells = c.self.inside.cells.items in
    let slot = c.args.slot in
    let now = c.args.self.now in
    let past : length (contents_of cells) ≤ place_of slot = omega (arith, length-map cells entry_of, c.self.inside.cells.ok.0) in
    let absent = sym (ap (λ t. map.get t.entries slot) c.self.view_is) ∙ get_slot (contents_of cells) slot (omega arith) ∙ get_or_past (contents_of cells) (place_of slot) None past in
    sym (ap (λ entries. table now.ports entries now.allotted) (remove_absent now.entries slot absent))

pub overflow_sub-len : goal.overflow_sub-len
overflow_sub-len g c =
    let cells = c.self.inside.cells.items in
    let place = c.place_of-place.result in
    let fits : place < length cells = subst (λ n. place < n) (c.len.ensures ∙ c.self.inside.cells.ok.0) c.if-place-len.false in
    let there = cell_at cells place (place_of c.args.slot) c.index_mut.result.now c.place_of-place.ensures fits c.index_mut.ensures.value ∙ ap entry_of (sym c.in-Used.ensures.value) in
    some_below _ _ _ (c.self.invariant.index.known (place_of c.args.slot) (ap is_some there)) (c.len-in-Used.ensures ∙ c.self.inside.places.ok.0)

pub index-moved-requires : goal.index-moved-requires
index-moved-requires g c =
    let cells = c.self.inside.cells.items in
    let place = c.place_of-place.result in
    let fits : place < length cells = subst (λ n. place < n) (c.len.ensures ∙ c.self.inside.cells.ok.0) c.if-place-len.false in
    let there = cell_at cells place (place_of c.args.slot) c.index_mut.result.now c.place_of-place.ensures fits c.index_mut.ensures.value ∙ ap entry_of (sym c.in-Used.ensures.value) in
    let used : IsSome (at (contents_of cells) (place_of c.args.slot)) = ap is_some there in
    let index = c.self.invariant.index in
    let known = index.known (place_of c.args.slot) used in
    let places = c.self.inside.places.items in
    let count : c.len-in-Used.result ≡ length places = c.len-in-Used.ensures ∙ c.self.inside.places.ok.0 in
    one_below _ _ _ _ known count c.self.inside.places.ok.0

pub index_mut-requires-in-Used : goal.index_mut-requires-in-Used
index_mut-requires-in-Used g c =
    let cells = c.self.inside.cells.items in
    let place = c.place_of-place.result in
    let fits : place < length cells = subst (λ n. place < n) (c.len.ensures ∙ c.self.inside.cells.ok.0) c.if-place-len.false in
    let there = cell_at cells place (place_of c.args.slot) c.index_mut.result.now c.place_of-place.ensures fits c.index_mut.ensures.value ∙ ap entry_of (sym c.in-Used.ensures.value) in
    let used : IsSome (at (contents_of cells) (place_of c.args.slot)) = ap is_some there in
    let index = c.self.invariant.index in
    let known = index.known (place_of c.args.slot) used in
    let places = c.self.inside.places.items in
    let count : c.len-in-Used.result ≡ length places = c.len-in-Used.ensures ∙ c.self.inside.places.ok.0 in
    let below : length places - 1 < length places = one_below _ _ _ _ known refl refl in
    let moved : c.index-moved.result.now ≡ get_or places (length places - 1) 0 =
    get_or_read places (c.len-in-Used.result - 1) c.index-moved.result.now (one_below _ _ _ _ known count refl) c.index-moved.ensures 0 ∙ ap (λ n. get_or places (n - 1) 0) count in
    as_far _ _ _ _ _ (c.from.ensures ∙ moved) (within (contents_of cells) (get_or places (length places - 1) 0) (index.in_use (length places - 1) below)) index.back c.self.inside.positions.ok.0

pub swap_remove-requires : goal.swap_remove-requires
swap_remove-requires g c =
    let cells = c.self.inside.cells.items in
    let place = c.place_of-place.result in
    let fits : place < length cells = subst (λ n. place < n) (c.len.ensures ∙ c.self.inside.cells.ok.0) c.if-place-len.false in
    let there = cell_at cells place (place_of c.args.slot) c.index_mut.result.now c.place_of-place.ensures fits c.index_mut.ensures.value ∙ ap entry_of (sym c.in-Used.ensures.value) in
    let used : IsSome (at (contents_of cells) (place_of c.args.slot)) = ap is_some there in
    let index = c.self.invariant.index in
    let known = index.known (place_of c.args.slot) used in
    let places = c.self.inside.places.items in
    let positions = c.self.inside.positions.items in
    let place_fits : place < length positions = as_far place place (length cells) (length (contents_of cells)) _ refl fits (length-map cells entry_of) index.back in
    let position = get_or_read positions place c.index-position.result.now place_fits c.index-position.ensures 0 in
    let stands : get_or positions place 0 ≡ get_or positions (place_of c.args.slot) 0 = ap (λ q. get_or positions q 0) c.place_of-place.ensures in
    as_far _ _ _ _ _ (c.from-in-Used.ensures ∙ position ∙ stands) known refl c.self.inside.places.ok.0

pub invariant_of-self-in-Used : goal.invariant_of-self-in-Used
invariant_of-self-in-Used g c =
    let cells = c.self.inside.cells.items in
    let place = c.place_of-place.result in
    let fits : place < length cells = subst (λ n. place < n) (c.len.ensures ∙ c.self.inside.cells.ok.0) c.if-place-len.false in
    let there = cell_at cells place (place_of c.args.slot) c.index_mut.result.now c.place_of-place.ensures fits c.index_mut.ensures.value ∙ ap entry_of (sym c.in-Used.ensures.value) in
    let used : IsSome (at (contents_of cells) (place_of c.args.slot)) = ap is_some there in
    let index = c.self.invariant.index in
    let known = index.known (place_of c.args.slot) used in
    let places = c.self.inside.places.items in
    let count : c.len-in-Used.result ≡ length places = c.len-in-Used.ensures ∙ c.self.inside.places.ok.0 in
    let below : length places - 1 < length places = one_below _ _ _ _ known refl refl in
    let moved : c.index-moved.result.now ≡ get_or places (length places - 1) 0 =
    get_or_read places (c.len-in-Used.result - 1) c.index-moved.result.now (one_below _ _ _ _ known count refl) c.index-moved.ensures 0 ∙ ap (λ n. get_or places (n - 1) 0) count in
    let positions = c.self.inside.positions.items in
    let place_fits : place < length positions = as_far place place (length cells) (length (contents_of cells)) _ refl fits (length-map cells entry_of) index.back in
    let position = get_or_read positions place c.index-position.result.now place_fits c.index-position.ensures 0 in
    let stands : get_or positions place 0 ≡ get_or positions (place_of c.args.slot) 0 = ap (λ q. get_or positions q 0) c.place_of-place.ensures in
    kept_take cells _ _ _ _ _ c.self.invariant c.args.slot place c.index-position.result.now c.from-in-Used.result c.from.result c.swap_remove.result c.replace.new.dest _ _
    c.replace.ensures.after c.place_of-place.ensures position c.from-in-Used.ensures (c.from.ensures ∙ moved) c.swap_remove.ensures.items c.swap_remove.ensures.capacity (omega arith) used

pub returns-in-Free-clause-value : goal.returns-in-Free-clause-value
returns-in-Free-clause-value g c =
    let cells = c.self.inside.cells.items in
    let slot = c.args.slot in
    let place = c.place_of-place.result in
    let fits : place < length cells = subst (λ n. place < n) (c.len.ensures ∙ c.self.inside.cells.ok.0) c.if-place-len.false in
    sym (ap entry_of (sym c.in-Free.ensures.value))
    ∙ sym (cell_at cells place (place_of slot) c.index_mut.result.now c.place_of-place.ensures fits c.index_mut.ensures.value)
    ∙ sym (get_slot (contents_of cells) slot (omega arith)) ∙ ap (λ t. map.get t.entries slot) c.self.view_is

pub returns-in-Free-clause-taken : goal.returns-in-Free-clause-taken
returns-in-Free-clause-taken g c =
    let cells = c.self.inside.cells.items in
    let slot = c.args.slot in
    let place = c.place_of-place.result in
    let fits : place < length cells = subst (λ n. place < n) (c.len.ensures ∙ c.self.inside.cells.ok.0) c.if-place-len.false in
    let inside : place_of slot < length (contents_of cells) = as_far (place_of slot) place (length cells) _ _ (sym c.place_of-place.ensures) fits refl (length-map cells entry_of) in
    ap (λ entries. table c.self.inside.ports entries c.self.inside.allotted)
    (entries_of-set_free cells slot c.place_of-place.result c.replace.new.dest c.replace.ensures.after c.place_of-place.ensures (omega arith) inside)
    ∙ ap (λ t. table t.ports (map.remove t.entries slot) t.allotted) c.self.view_is

pub returns-in-Used-clause-value : goal.returns-in-Used-clause-value
returns-in-Used-clause-value g c =
    let cells = c.self.inside.cells.items in
    let slot = c.args.slot in
    let place = c.place_of-place.result in
    let fits : place < length cells = subst (λ n. place < n) (c.len.ensures ∙ c.self.inside.cells.ok.0) c.if-place-len.false in
    sym (ap entry_of (sym c.in-Used.ensures.value))
    ∙ sym (cell_at cells place (place_of slot) c.index_mut.result.now c.place_of-place.ensures fits c.index_mut.ensures.value)
    ∙ sym (get_slot (contents_of cells) slot (omega arith)) ∙ ap (λ t. map.get t.entries slot) c.self.view_is

pub returns-in-Used-clause-taken : goal.returns-in-Used-clause-taken
returns-in-Used-clause-taken g c =
    let cells = c.self.inside.cells.items in
    let slot = c.args.slot in
    let place = c.place_of-place.result in
    let fits : place < length cells = subst (λ n. place < n) (c.len.ensures ∙ c.self.inside.cells.ok.0) c.if-place-len.false in
    let inside : place_of slot < length (contents_of cells) = as_far (place_of slot) place (length cells) _ _ (sym c.place_of-place.ensures) fits refl (length-map cells entry_of) in
    ap (λ entries. table c.self.inside.ports entries c.self.inside.allotted)
    (entries_of-set_free cells slot c.place_of-place.result c.replace.new.dest c.replace.ensures.after c.place_of-place.ensures (omega arith) inside)
    ∙ ap (λ t. table t.ports (map.remove t.entries slot) t.allotted) c.self.view_is

pub returns-then-place-len-clause-in_range : goal.returns-then-place-len-clause-in_range
returns-then-place-len-clause-in_range g c = λ wrong. absurd (false≢true wrong)

pub index_mut-requires : goal.index_mut-requires
index_mut-requires g c = subst (λ n. c.place_of-place.result < n) c.len.ensures c.if-place-len.false

pub invariant_of-self : goal.invariant_of-self
invariant_of-self g c =
    let cells = c.self.inside.cells.items in
    let place = c.place_of-place.result in
    let fits : place < length cells = subst (λ n. place < n) (c.len.ensures ∙ c.self.inside.cells.ok.0) c.if-place-len.false in
    kept_free cells _ _ _ _ _ c.self.invariant place c.index_mut.result.now c.replace.new.dest c.index_mut.ensures.value (sym c.in-Free.ensures.value) c.replace.ensures.after

pub index-position-requires : goal.index-position-requires
index-position-requires g c =
    let cells = c.self.inside.cells.items in
    let place = c.place_of-place.result in
    let fits : place < length cells = subst (λ n. place < n) (c.len.ensures ∙ c.self.inside.cells.ok.0) c.if-place-len.false in
    as_far place place (length cells) (length (contents_of cells)) _ refl fits (length-map cells entry_of) (c.self.inside.positions.ok.0 ∙ c.self.invariant.index.back)

pub returns-in-Free-clause-in_range : goal.returns-in-Free-clause-in_range
returns-in-Free-clause-in_range g c = λ wrong. absurd (false≢true wrong)

pub returns-in-Used-clause-in_range : goal.returns-in-Used-clause-in_range
returns-in-Used-clause-in_range g c =
    let cells = c.self.inside.cells.items in
    let place = c.place_of-place.result in
    let fits : place < length cells = subst (λ n. place < n) (c.len.ensures ∙ c.self.inside.cells.ok.0) c.if-place-len.false in
    let kept = c.self.invariant in
    let inside : place < 256 * c.self.inside.ports = omega (arith, fits, kept.pairs, length-map cells entry_of) in
    let ports = ap (λ t. t.ports) c.self.view_is in
    λ _. (omega (arith, inside, ports, c.place_of-place.ensures), omega arith)
