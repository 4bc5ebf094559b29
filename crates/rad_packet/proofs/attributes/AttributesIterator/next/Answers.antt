use Rattle.std.proofs.Common.{◌≡◌, length, ap, rules}
use Rattle.std.proofs.lemmas.List.{take_rest}
use Rattle.rad_packet.specs.Attribute.{attributes_of}
use Rattle.rad_packet.proofs.Joined.{none_below_two, split_least, split_fits, split_rest, split_attributes}
use Rattle.rad_packet.proofs.attributes.AttributesIterator.next.Goals as goal

pub returns-in_default-clause-steps : goal.returns-in_default-clause-steps
returns-in_default-clause-steps c =
    let e : attributes_of c.args.self.now ≡ _ =
    rw (← c.self.view_is) (none_below_two c.self.inside.rest.now c.self.invariant c.in_default.len_below)
    in (e, e)

pub overflow_sub-from : goal.overflow_sub-from
overflow_sub-from c =
    split_least c.self.inside.rest.now _ c.from.result c.self.invariant c.in-len2-up.len_at_least (take_rest c.self.inside.rest.now 2) c.from.ensures

pub split_at-requires : goal.split_at-requires
split_at-requires c =
    split_fits c.self.inside.rest.now _ c.from.result c.self.invariant c.in-len2-up.len_at_least (take_rest c.self.inside.rest.now 2) c.from.ensures

pub invariant_of-self : goal.invariant_of-self
invariant_of-self c =
    rw c.split_at.ensures.back
    (split_rest c.self.inside.rest.now _ c.from.result c.self.invariant c.in-len2-up.len_at_least (take_rest c.self.inside.rest.now 2) c.from.ensures)

pub returns-clause-steps : goal.returns-clause-steps
returns-clause-steps c =
    rw (← c.self.view_is, c.split_at.ensures.front, c.split_at.ensures.back)
    (split_attributes c.self.inside.rest.now _ c.from.result c.self.invariant c.in-len2-up.len_at_least (take_rest c.self.inside.rest.now 2) c.from.ensures)

pub returns-clause-goes : goal.returns-clause-goes
returns-clause-goes c =
    let shorter = ap length (returns-clause-steps c) in search rules
