-- What octets with a line of JSON are, and the value of an object and of a list (RFC 8259, own).
use Rattle.std.specs.Prelude.{◌≡◌, ℕ, List, [], ◌∷◌, ◌++◌, decimal, Option, Some, None}
use Rattle.std.specs.Str.{IsUtf8}
use Rattle.json.specs.Json.{Json, number, object, document, Items, no_items, item, Members, no_members, member}
use Rattle.json.specs.Print.{print}
use Rattle.json.specs.Strict.{HasUniqueKeys}
use Rattle.json.specs.Tree.{json_tokens}

-- Octets that are a value, in which no object has a key twice.
pub record IsValue (octets : List ℕ) (value : Json) : Type 0 where
  pub characters : IsUtf8 octets
  pub read : document octets ≡ Some value
  pub once : HasUniqueKeys value

-- Octets that are those before, and a line behind them, which is text, with its line end.
pub record HasLineBehind (before all : List ℕ) : Type 0 where
  pub line : List ℕ
  pub text : IsUtf8 line
  pub are : all ≡ before ++ (line ++ 10 ∷ [])

-- Octets that are those before, and behind them, with its line end, a line that is this value.
pub record HasValueBehind (before all : List ℕ) (value : Json) : Type 0 where
  pub line : List ℕ
  pub its_value : IsValue line value
  pub are : all ≡ before ++ (line ++ 10 ∷ [])

-- Octets that are those before, and a text behind them.
pub record HasBodyBehind (before all : List ℕ) : Type 0 where
  pub body : List ℕ
  pub text : IsUtf8 body
  pub are : all ≡ before ++ body

-- Octets that are those before, and behind them an object's text without its last brace: with that it is this value, as it is printed.
pub record HasFrontBehind (before all : List ℕ) (value : Json) : Type 0 where
  pub front : List ℕ
  pub text : IsUtf8 front
  pub its_value : IsValue (front ++ 125 ∷ []) value
  pub printed : front ++ 125 ∷ [] ≡ print (json_tokens value)
  pub are : all ≡ before ++ front

-- The members of an object, in order: each key with its value, and without those that have none.
abbrev pub member_if : List ℕ → Option Json → Members → Members
member_if key None others = others
member_if key (Some value) others = member key value others

abbrev pub present : List (List ℕ × Option Json) → Members
present [] = no_members
present (slot ∷ slots) = member_if slot.0 slot.1 (present slots)

abbrev pub object_of : List (List ℕ × Option Json) → Json
object_of slots = object (present slots)

-- A list, with the value of each of its items.
abbrev pub items_of : {X : Type 0} → (X → Json) → List X → Items
items_of value [] = no_items
items_of value (x ∷ xs) = item (value x) (items_of value xs)

-- A number, in decimal.
abbrev pub number_value : ℕ → Json
number_value its = number (decimal its)
