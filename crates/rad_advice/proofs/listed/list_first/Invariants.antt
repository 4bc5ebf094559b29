use Rattle.std.proofs.Common.{take, Ok}
use Rattle.std.specs.List.{AllZip}
use Rattle.rad_advice.proofs.listed.list_first.Given as goal

abbrev pub invariant-loop-item : goal.invariant-loop-item
invariant-loop-item g l = AllZip (λ item told. goal.F-post g l.tell item (Ok told)) (take l.item-index l.item-items) l.first.items
