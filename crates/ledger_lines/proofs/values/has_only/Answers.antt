use Rattle.std.proofs.Common.{map, ap, sym, ◌∙◌}
use Rattle.json.specs.Strict.{keys}
use Rattle.json.specs.Value.{value_view, members_view}
use Rattle.json.proofs.Trees.{view-Object}
use Rattle.ledger_lines.proofs.Known.{only_of}
use Rattle.ledger_lines.proofs.values.has_only.Goals as goal

pub returns-in-Object : goal.returns-in-Object
returns-in-Object c =
    let members = c.in-Object.members in
    only_of (map (λ k. k.now) c.args.known.now) _ (members_view members.items) _ c.are_known.result (ap value_view c.in-Object.is ∙ view-Object members)
    (ap (λ ms. keys (members_view ms)) (sym c.as_slice.ensures.value)) c.are_known.ensures
