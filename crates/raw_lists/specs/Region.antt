-- Which memory a region of places owns and lends, the value of each full place and the room for one of each empty one.
-- Own. R is the row of the values.
use Rattle.std.specs.Prelude.{ℕ, ◌+◌, ◌*◌, ◌^◌, ◌<◌, List, [], ◌∷◌, Option, Some, None, length}
use Rattle.std.specs.Mem.{type_size}
use base.Fraction.{full_share}
use base.Fml.{Lft, Fml, ftrue, ffalse, fsep, flt, froom}
use mir.Syntax.{Ty, ty_array}
use mir.Raw.{raw}
use denote.RattleType.{RattleType}
use denote.Memory.{lone, part_at, shared_of}
use denote.Sharing.{nothing, said, beside}
use denote.RawPtr.{Ptr, block_ptr, null_ptr}

-- `count` values take fewer than 2 ^ 63 octets
abbrev pub Fits : RattleType → ℕ → Type 0
Fits R count = count * type_size R < 2 ^ 63

module _ (R : RattleType) where
  -- a place that begins o octets into the block b: its value, or the room for one
  abbrev pub place_owns : ℕ → ℕ → Option R.Denot → Fml
  place_owns b o (Some x) = part_at R full_share x b o
  place_owns b o None = froom (raw (lone R.mir)) b o

  -- consecutive places
  abbrev pub places_own : ℕ → ℕ → List (Option R.Denot) → Fml
  places_own b o [] = ftrue
  places_own b o (place ∷ places) = fsep (place_owns b o place) (places_own b (o + type_size R) places)

  -- the places, and the token, which is the right to release their memory
  abbrev pub region_owns : (Ty → Ptr → Fml) → Ptr → List (Option R.Denot) → Fml
  region_owns token (block_ptr b o) places =
      fsep (flt (length places * type_size R) (2 ^ 63))
      (fsep (places_own b o places) (token (raw (ty_array (lone R.mir) (length places))) (block_ptr b o)))
  region_owns token null_ptr places = ffalse

  -- what a `&` to a region has of a place, of the places, and of the region
  abbrev pub place_lent : ℕ → ℕ → Option R.Denot → Lft → Fml
  place_lent b o (Some x) = shared_of R x b o
  place_lent b o None = nothing

  abbrev pub places_lent : ℕ → ℕ → List (Option R.Denot) → Lft → Fml
  places_lent b o [] = nothing
  places_lent b o (place ∷ places) = beside (place_lent b o place) (places_lent b (o + type_size R) places)

  abbrev pub region_lent : Ptr → List (Option R.Denot) → Lft → Fml
  region_lent (block_ptr b o) places =
      beside (said (flt (length places * type_size R) (2 ^ 63))) (beside (places_lent b o places) nothing)
  region_lent null_ptr places = said ffalse
