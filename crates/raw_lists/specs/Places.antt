-- Which places of a region hold a value. Own.
use Rattle.std.specs.Prelude.{◌≡◌, ℕ, zero, suc, ◌+◌, ◌-◌, ◌≤◌, length, List, [], ◌∷◌, Option, Some, None, get_or, replicate}

module _ {T : Type 0} where
  -- `start` empty places, then the items, then `rest` empty places
  unfoldable pub laid : ℕ → List T → ℕ → List (Option T)
  laid zero [] rest = replicate rest None
  laid zero (item ∷ items) rest = Some item ∷ laid zero items rest
  laid (suc start) items rest = None ∷ laid start items rest

  -- the values that the places hold, in order
  unfoldable pub values : List (Option T) → List T
  values [] = []
  values (None ∷ places) = values places
  values (Some item ∷ places) = item ∷ values places

  -- the place holds a value
  abbrev pub IsFilled : List (Option T) → ℕ → Type 0
  IsFilled places index = (item : T) × (get_or places index None ≡ Some item)

  -- the items of a block are in `count` of its 32 places, consecutively from `start` on
  pub record IsBlock (start count : ℕ) (places : List (Option T)) : Type 0 where
    pub laid_out : places ≡ laid start (values places) (32 - (start + count))
    pub counted : count ≡ length (values places)
    pub within : start + count ≤ 32

  -- the values are in `count` consecutive places from `start` on, and the other places are empty
  pub record IsRun (start count : ℕ) (places : List (Option T)) : Type 0 where
    pub laid_out : places ≡ laid start (values places) (length places - (start + count))
    pub counted : count ≡ length (values places)
    pub within : start + count ≤ length places
    pub some : 1 ≤ length places

  -- the items of a row are like this in its n places
  pub record IsRow (n start count : ℕ) (places : List (Option T)) : Type 0 where
    pub run : IsRun start count places
    pub all : length places ≡ n
