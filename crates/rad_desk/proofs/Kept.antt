-- What calls leave as it was, one after the other.
use Rattle.std.proofs.Common.{◌≡◌, List, Option, refl, sym, subst, ◌∙◌}
use Rattle.rad_desk.specs.declared.shift.Shift.{Shift}
use Rattle.rad_desk.specs.Traffic.{Event}
use Rattle.rad_desk.specs.Calls.{Passes}
use Rattle.rad_desk.specs.Keeping.{Keeps}

pub keeps_all : {R W G : Type 0} (p : Shift R W G) → Keeps p p
keeps_all p = record { wire = refl; proxy = refl; turns = refl }

pub keeps_then : {R W G : Type 0} (old mid new : Shift R W G) → Keeps old mid → Keeps mid new → Keeps old new
keeps_then old mid new a b = record { wire = b.wire ∙ a.wire; proxy = b.proxy ∙ a.proxy; turns = b.turns ∙ a.turns }

-- What passed over a wire until it was left as it then was.
pub passes_left : {V : Type 0} (log : V → Option (List Event)) (Right : List Event → Type 0) (old : Option (List Event)) (now left : V) → Passes Right old (log now) → left ≡ now → Passes Right old (log left)
passes_left log Right old now left passes same = subst (λ v. Passes Right old (log v)) (sym same) passes
