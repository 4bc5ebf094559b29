use Rattle.std.proofs.Common.{◌≡◌, ℕ, ◌+◌, ◌≤◌, List, [], ◌++◌, length, take, Option, Some, None, IfSome, ap, subst, ◌∙◌, arith}
use Rattle.std.specs.Option.{option_map}
use Rattle.std.proofs.lemmas.List.{length-take, take_all}
use Rattle.rad_files.proofs.bounded.read_at_most.Goals as goal

-- what is no longer than the most was not cut
whole_below : (given : Option (List ℕ)) (start octets : List ℕ) (limit most : ℕ) → limit ≡ most + 1 → start ≡ []
    → IfSome (option_map (take limit) given) (λ read. octets ≡ start ++ read) → length octets ≤ most → IfSome given (λ all. octets ≡ all)
whole_below None start octets limit most above empty is bound = tt
whole_below (Some given) start octets limit most above empty is bound =
    let read : octets ≡ take limit given = rw empty at is in
    let short : length given ≤ limit = omega (arith, above, bound, ap length read, length-take limit given) in
    read ∙ take_all limit given short

pub returns-clause-whole : goal.returns-clause-whole
returns-clause-whole g c =
    let octets = c.read_to_end.new.buf.items in
    let start = c.new-octets.result.items in
    whole_below (g.R.Read.remaining c.args.reader) start octets c.take.result.limit c.args.most c.take.ensures.limit c.new-octets.ensures.items
    (subst (λ reader. IfSome (option_map (take c.take.result.limit) (g.R.Read.remaining reader)) (λ read. octets ≡ start ++ read))
    c.take.ensures.inner c.in_ok-read_to_end.ensures.bytes)
    (omega (arith, c.if-len-most.false, c.len.ensures))
