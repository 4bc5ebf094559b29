use Rattle.std.proofs.Common.{◌≡◌, ◌<◌, ◌==◌, ◌++◌, ap, sym, ◌∙◌, option_to_list, arith, rules}
use Rattle.std.specs.List.{filter_map, slice_split}
use Rattle.std.proofs.lemmas.Iterator.Splits.{YieldsList-from_str_split}
use Rattle.std.proofs.lemmas.Iterator.Consumers.{YieldsList-at, YieldsList-end}
use Rattle.rad_server.specs.Ports.{reserved_item}
use Rattle.rad_server.proofs.Reserved.{given_more}
use Rattle.rad_server.proofs.sockets.port_range.read_reserved.Goals as goal

pub loop-item-preserved : goal.loop-item-preserved
loop-item-preserved c =
    let added : c.add_item.new.ranges.items ≡ c.loop-item.ranges.items ++ option_to_list (reserved_item c.in-Some.item.now) =
    c.in_ok-add_item.ensures in
    let both = rw c.loop-item.invariant.listed at added in
    record {
      can_next = search rules;
      finite = search rules;
      listed = both ∙ sym (given_more reserved_item c.loop-item.yielded c.in-Some.item);
    }

pub returns : goal.returns
returns c =
    let small : 44 < 128 = omega arith in
    let cut = YieldsList-from_str_split 44 c.trim_end.result.now small
    c.split-item-items.ensures.text c.split-item-items.ensures.has_more c.split-item-items.ensures.pattern in
    let seen = YieldsList-end
    (YieldsList-at c.into_iter-item-iterator.ensures.into_iter_gives cut)
    c.loop-item.yielded _ c.loop-item.yielded_by _ _ c.in-None.is c.next.ensures.steps in
    let listed : c.loop-item.ranges.items ≡ filter_map reserved_item (slice_split (λ o. o == 44) c.trim_end.result.now) =
    rw (← seen.0) c.loop-item.invariant.listed in
    listed ∙ ap (λ text. filter_map reserved_item (slice_split (λ o. o == 44) text)) c.trim_end.ensures.trim
