use Rattle.std.proofs.Common.{◌∷◌, [], ◌++◌, List, refl, ap, ◌∙◌}
use Rattle.spool_writer.specs.declared.parcel.Parcel.{Parcel}
use Rattle.spool_writer.proofs.Accounts.{new_lost, new_put}
use Rattle.spool_writer.proofs.giving.RequestGiver.give.Goals as goal

pub invariant_of-self : goal.invariant_of-self
invariant_of-self c = new_lost _ _ _ _ _ c.requires.0 c.requires.1 refl c.add.ensures c.self.invariant

pub invariant_of-self-then-is_full : goal.invariant_of-self-then-is_full
invariant_of-self-then-is_full c = new_lost _ _ _ _ _ c.requires.0 c.requires.1 c.is_full.ensures.looked.1 c.add.ensures c.self.invariant

pub invariant_of-self-2 : goal.invariant_of-self-2
invariant_of-self-2 c =
    new_put _ _ _ _ _ c.requires.0 c.args.parcel c.in-Some.parcel c.in-Some.is c.requires.1 c.requires.2
    (c.push_reserved.ensures.sent.0 ∙ ap (λ (l : List Parcel). l ++ c.in-Some.parcel ∷ []) c.is_full.ensures.looked.1) c.add.ensures c.self.invariant
