-- What a call that writes a part of a line adds to its tokens (own).
use Rattle.std.specs.Prelude.{◌≡◌, ℕ, List, [], ◌∷◌, ◌++◌, Option, Some, None}
use Rattle.std.specs.Str.{IsUtf8}
use Rattle.json.specs.Json.{Json}
use Rattle.json.specs.Lex.{tokens}
use Rattle.json.specs.Print.{print}
use Rattle.json.specs.Token.{Token, key, begin_object}
use Rattle.json.specs.Tree.{json_tokens}
use Rattle.json.specs.Written.{Written}

-- These tokens are added, and nothing else changes.
pub record Adds (old new : Written) (ts : List Token) : Type 0 where
  pub before : new.before ≡ old.before
  pub added : new.tokens ≡ old.tokens ++ ts

-- The tokens of members, without the bracket that closes the object.
abbrev pub slot_tokens : List ℕ → Option Json → List Token
slot_tokens name None = []
slot_tokens name (Some value) = key name ∷ json_tokens value

abbrev pub slots_tokens : List (List ℕ × Option Json) → List Token
slots_tokens [] = []
slots_tokens (slot ∷ slots) = slot_tokens slot.0 slot.1 ++ slots_tokens slots

-- Members are added; or an object is begun, with its first members.
pub record AddsSlots (old new : Written) (slots : List (List ℕ × Option Json)) : Type 0 where
  pub before : new.before ≡ old.before
  pub added : new.tokens ≡ old.tokens ++ slots_tokens slots

pub record Opens (old new : Written) (slots : List (List ℕ × Option Json)) : Type 0 where
  pub before : new.before ≡ old.before
  pub added : new.tokens ≡ old.tokens ++ begin_object ∷ slots_tokens slots

-- The octets that a writer leaves, with a line end: those before, and the text of its tokens.
pub record EndsLine (w : Written) (all : List ℕ) : Type 0 where
  pub text : IsUtf8 (print w.tokens)
  pub read : tokens (print w.tokens) ≡ w.tokens
  pub are : all ≡ w.before ++ (print w.tokens ++ 10 ∷ [])

-- The octets that a writer leaves of an object without its last brace: those before, and what is printed before that brace.
pub record EndsBody (w : Written) (all : List ℕ) : Type 0 where
  pub text : IsUtf8 (print w.tokens)
  pub read : tokens (print w.tokens) ≡ w.tokens
  pub are : (front : List ℕ) → print w.tokens ≡ front ++ 125 ∷ [] → all ≡ w.before ++ front
