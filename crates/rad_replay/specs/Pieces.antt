-- A text that is cut at each separator.
use Rattle.std.specs.Prelude.{◌≡◌, ◌≢◌, ℕ, suc, List, ◌∷◌, ◌++◌, Option, None, Some, length, All}
use Rattle.std.specs.Borrow.{Bor}
use Rattle.rad_replay.specs.declared.pieces.Pieces.{Pieces}

-- The text that remains to be cut, if any. After the last piece there is none.
abbrev pub text_of : Option (Bor (List ℕ)) → Option (List ℕ)
text_of None = None
text_of (Some rest) = Some rest.now

abbrev pub text_left : Pieces → Option (List ℕ)
text_left pieces = text_of pieces.rest

-- The piece is the part of the text before the first separator, and what follows the separator remains. A text without
-- a separator is one piece, and nothing remains.
abbrev pub IsCut : ℕ → List ℕ → List ℕ → Option (List ℕ) → Type 0
IsCut separator text piece None = (text ≡ piece) × All (λ octet. octet ≢ separator) piece
IsCut separator text piece (Some left) = (text ≡ piece ++ separator ∷ left) × All (λ octet. octet ≢ separator) piece

-- The first piece of the text that remains, if any.
abbrev pub CutsText : ℕ → Option (List ℕ) → Option (Bor (List ℕ)) → Option (List ℕ) → Type 0
CutsText separator None None left = left ≡ None
CutsText separator None (Some piece) left = ⊥
CutsText separator (Some text) None left = ⊥
CutsText separator (Some text) (Some piece) left = IsCut separator text piece.now left

-- The next piece is cut off, and the separator is unchanged.
abbrev pub CutsPiece : Pieces → Option (Bor (List ℕ)) → Pieces → Type 0
CutsPiece pieces piece after =
    CutsText pieces.separator (text_left pieces) piece (text_left after) × (after.separator ≡ pieces.separator)

-- The most pieces that a text can have.
abbrev pub piece_count : Option (List ℕ) → ℕ
piece_count None = 0
piece_count (Some text) = suc (length text)

abbrev pub pieces_left : Pieces → ℕ
pieces_left pieces = piece_count (text_left pieces)
