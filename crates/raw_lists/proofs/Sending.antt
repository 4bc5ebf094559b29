-- What a region owns can move to another thread where its values and its allocator do.
use Rattle.std.specs.Prelude.{ℕ, ◌+◌, List, [], ◌∷◌, Option, Some, None, length}
use Rattle.std.specs.Mem.{type_size}
use base.Fraction.{full_share}
use base.Fml.{Fml}
use base.Shift.{Keyless}
use mir.Syntax.{Ty, ty_array}
use mir.Raw.{raw}
use denote.RattleType.{RattleType}
use denote.Memory.{lone}
use denote.RawPtr.{Ptr, block_ptr, null_ptr}
use denote.Param.Send.{IsSend, part_keyless}
use Rattle.raw_lists.specs.Region.{places_own, region_owns}

places-Keyless : (R : RattleType) → IsSend R → (b o : ℕ) (places : List (Option R.Denot)) → Keyless (places_own R b o places)
places-Keyless R s b o [] = tt
places-Keyless R s b o (Some x ∷ places) = (part_keyless R s full_share x b o, places-Keyless R s b (o + type_size R) places)
places-Keyless R s b o (None ∷ places) = (tt, places-Keyless R s b (o + type_size R) places)

pub region-Keyless : (R : RattleType) → IsSend R → (token : Ty → Ptr → Fml) → ((ty : Ty) (p : Ptr) → Keyless (token ty p)) → (p : Ptr) (places : List (Option R.Denot)) → Keyless (region_owns R token p places)
region-Keyless R s token frees (block_ptr b o) places = (tt, (places-Keyless R s b o places, frees (raw (ty_array (lone R.mir) (length places))) (block_ptr b o)))
region-Keyless R s token frees null_ptr places = tt
