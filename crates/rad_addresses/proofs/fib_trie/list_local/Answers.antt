use Rattle.std.proofs.Common.{◌≡◌, ◌++◌, Some, None, rules, sym, ap, ◌∙◌}
use Rattle.std.specs.Str.{trim_start}
use Rattle.std.proofs.lemmas.Iterator.Splits.{YieldsList-from_lines}
use Rattle.std.proofs.lemmas.Iterator.Consumers.{YieldsList-at, YieldsList-end}
use Rattle.rad_addresses.specs.FibTrie.{nothing_listed, named_in, is_local, local_by}
use Rattle.rad_addresses.proofs.Listings.{listing_named}
use Rattle.rad_addresses.proofs.fib_trie.list_local.Goals as goal

pub loop-line-preserved-in-Some-name_in : goal.loop-line-preserved-in-Some-name_in
loop-line-preserved-in-Some-name_in c =
    let named : Some c.in-Some-name_in.address.now ≡ named_in (trim_start c.in-Some.line.now) = rw c.trim_start-line.ensures.trim at c.in-Some-name_in.ensures in
    let more = listing_named nothing_listed c.loop-line.yielded c.in-Some.line (Some c.in-Some-name_in.address.now) named in
    record {
      can_next = search rules;
      finite = search rules;
      listed = c.loop-line.invariant.listed ∙ sym (ap (λ so_far. so_far.listed) more);
      named = c.read_address-named.ensures ∙ sym (ap (λ so_far. so_far.named) more);
    }

pub loop-line-preserved : goal.loop-line-preserved
loop-line-preserved c =
    let named : None ≡ named_in (trim_start c.in-Some.line.now) = rw c.trim_start-line.ensures.trim at c.in-None-name_in.ensures in
    let more = listing_named nothing_listed c.loop-line.yielded c.in-Some.line None named in
    let added : c.add_if_local.new.listed.items ≡ c.loop-line.listed.items ++ local_by c.loop-line.named (is_local (trim_start c.in-Some.line.now)) =
    rw c.trim_start-line.ensures.trim at c.in_ok-add_if_local-in-None-name_in.ensures in
    let both = rw (c.loop-line.invariant.listed, c.loop-line.invariant.named) at added in
    record {
      can_next = search rules;
      finite = search rules;
      listed = both ∙ sym (ap (λ so_far. so_far.listed) more);
      named = c.loop-line.invariant.named ∙ sym (ap (λ so_far. so_far.named) more);
    }

pub returns : goal.returns
returns c =
    let seen = YieldsList-end
    (YieldsList-at c.into_iter-line-iterator.ensures.into_iter_gives (YieldsList-from_lines c.args.text.now c.lines-line-items.ensures.rest))
    c.loop-line.yielded _ c.loop-line.yielded_by _ _ c.in-None.is c.next.ensures.steps in
    rw (← seen.0) c.loop-line.invariant.listed
