-- A text that is cut at its first separator.
use Rattle.std.proofs.Common.{ℕ, ◌+◌, ◌-◌, List, ◌∷◌, ◌++◌, length, take, drop, Some, sym, ap, ◌∙◌, arith}
use Rattle.std.proofs.lemmas.List.{take_all, length-drop}
use Rattle.rad_console.specs.Commands.{IsFirstAt}
use Rattle.rad_replay.specs.Pieces.{IsCut}
use Rattle.rad_console.proofs.CommandLemmas.{split_round}

-- the piece is what stands before the separator, and all that stands behind it is left
pub cuts_at : (separator : ℕ) (text : List ℕ) (place : ℕ) → IsFirstAt text separator place
    → IsCut separator text (take place text) (Some (take (length text - (place + 1)) (drop (place + 1) text)))
cuts_at separator text place found = (
  split_round text place separator found.there
      ∙ ap (λ xs. take place text ++ separator ∷ xs)
      (sym (take_all (length text - (place + 1)) (drop (place + 1) text) (omega (arith, length-drop (place + 1) text)))),
  found.before,
)
