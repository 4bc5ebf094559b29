use Rattle.std.proofs.Common.{◌∷◌, [], ◌++◌, List, refl, ap, ◌∙◌}
use Rattle.spool_writer.specs.declared.parcel.Parcel.{Parcel}
use Rattle.spool_writer.proofs.Accounts.{response_lost, response_put}
use Rattle.spool_writer.proofs.giving.ResponseGiver.give.Goals as goal

pub invariant_of-self : goal.invariant_of-self
invariant_of-self g c = response_lost _ _ _ _ _ refl c.add.ensures c.self.invariant

pub invariant_of-self-then-is_full : goal.invariant_of-self-then-is_full
invariant_of-self-then-is_full g c = response_lost _ _ _ _ _ c.is_full.ensures.looked.1 c.add.ensures c.self.invariant

pub invariant_of-self-2 : goal.invariant_of-self-2
invariant_of-self-2 g c =
    response_put _ _ _ _ _ c.args.parcel c.in-Some.parcel c.in-Some.is c.requires
    (c.push_reserved.ensures.sent.0 ∙ ap (λ (l : List Parcel). l ++ c.in-Some.parcel ∷ []) c.is_full.ensures.looked.1) c.add.ensures c.self.invariant
