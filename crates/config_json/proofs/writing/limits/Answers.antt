use Rattle.std.proofs.Common.{[], ◌∷◌, Some, codes}
use Rattle.json_objects.specs.Written.{number_value}
use Rattle.json_objects.proofs.Adding.{slots_then, slots_last}
use Rattle.config_json.proofs.writing.limits.Goals as goal

pub returns : goal.returns
returns c =
    let n = c.args.numbers in
    let four = slots_then (slots_then (slots_then c.in_ok-number.ensures c.in_ok-number-2.ensures) c.in_ok-number-3.ensures) c.in_ok-number-4.ensures in
    let eight = slots_then (slots_then (slots_then (slots_then four c.in_ok-number-5.ensures) c.in_ok-number-6.ensures) c.in_ok-number-7.ensures) c.in_ok-number-8.ensures in
    slots_last c.number-10.result c.args.writer.now c.number-9.new.writer c.number-10.new.writer _ ((codes "ports", Some (number_value n.ports)) ∷ []) (slots_then eight c.in_ok-number-9.ensures) c.number-10.ensures
