use Rattle.std.proofs.Common.{◌≡◌, ℕ, min, List, ◌++◌, length, take, ◌∙◌, arith}
use Rattle.std.proofs.lemmas.List.{take_at, take_min, length-take}
use Rattle.locked_lanes.proofs.spent.Session.of.Goals as goal

-- octets at the front of a buffer, as far as there is room
kept : (octets rest filled : List ℕ) (room count : ℕ) → count ≡ min room (length octets) → filled ≡ take count octets ++ rest → take count filled ≡ take room octets
kept octets rest filled room count is filling =
    let counted : length (take count octets) ≡ count = rw (length-take, is) (omega arith) in
    let front : take count (take count octets ++ rest) ≡ take count octets = take_at (take count octets) rest count counted in
    let all : take count octets ≡ take room octets = rw is (take_min room octets) in
    rw filling (front ∙ all)

pub returns : goal.returns
returns c = kept c.args.octets.now _ _ 253 c.min-count.result (omega (arith, c.min-count.ensures)) c.put.ensures
