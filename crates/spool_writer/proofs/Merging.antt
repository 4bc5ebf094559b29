-- What is first in a ring.
use Rattle.std.proofs.Common.{◌≡◌, List, [], ◌∷◌, sym, ◌∙◌}
use mathlib.Core.List.{IsPrefix}
use Rattle.spool_writer.specs.declared.parcel.Parcel.{Parcel}

pub same_first : (one other : Parcel) (known : List Parcel) → IsPrefix (one ∷ []) known → IsPrefix (other ∷ []) known → one ≡ other
same_first one other known first also = let joined : one ∷ first.0 ≡ other ∷ also.0 = first.1 ∙ sym also.1 in cc
