-- A `&` to a region reaches each value that it holds. Assumes `Logic`.
use mathlib.Core.List.{[], ◌++◌}
use base.Fml.{Incl-trans}
use contract.BorrowLft.{meet_⊑_left}
use denote.RattleType.{RattleType}
use denote.Param.Laws.{Laws}
use denote.Param.Shared.{copy_shared}
use denote.Struct.Field.{RawPtr-field}
use denote.Struct.Laws.{RawPtr-copy, field_copy}
use denote.Struct.Lending.{of_Lends}
use Rattle.core.specs.declared.alloc.Allocator.{Ghosts}
use Rattle.core.specs.contracts.marker.PhantomData as marker
use Rattle.raw_lists.specs.contracts.region.Region as C
use Rattle.raw_lists.proofs.region.Region.TheLaw.Statement.{statement}
use Rattle.raw_lists.proofs.Lending.{region_lent_laws, Lends-region}

pub shares : (R A : RattleType) (g : Ghosts A.Denot) (L : Laws R) (P : Laws A) → statement R A g L P
shares R A g L P = of_Lends (C.struct R A g) (C.the_codes R.Denot A.Denot R.coded A.coded (marker.the_row A).coded) (C.the_heap R A g) (C.the_lent R A g)
    (λ d p. region_lent_laws R L.shr_laws d.first d.places) (copy_shared RawPtr-field RawPtr-copy, (copy_shared (marker.the_field A) (field_copy (marker.the_type A) tt), tt))
    (λ M 𝓤 𝓛 d p. Lends-region 𝓛 (C.the_row R A g).lives R L (Incl-trans (meet_⊑_left (R.lives ++ (A.lives ++ [])) _) (meet_⊑_left R.lives (A.lives ++ []))) (g.dealloc_token d.heap) d.first d.places)
