-- A line that was written is read back as its value. Proofs of the crates above cite these.
use Rattle.std.proofs.Common.{◌≡◌, ℕ, List, [], ◌∷◌, ◌++◌, Some, sym, ap, ◌∙◌, subst, length, Bool, true, false, fold, refl, Result, Ok, Err, Vec, option_and_then, append-nil}
use Rattle.std.specs.Prelude.{IfOk}
use Rattle.json.specs.Json.{Json, document, if_last, max_depth, value}
use Rattle.json.specs.Lex.{tokens}
use Rattle.json.specs.Print.{print}
use Rattle.json.specs.Tree.{json_tokens}
use Rattle.json.specs.Written.{Written}
use Rattle.json.specs.Token.{Token, begin_object, end_object}
use Rattle.json.specs.Print.{ends, separator}
use Rattle.std.specs.Str.{IsUtf8}
use Rattle.std.proofs.Common.{Option}
use Rattle.std.proofs.lemmas.List.{take_at}
use Rattle.std.proofs.lemmas.Str.{IsUtf8-take, IsCharBoundary-at_seam}
use Rattle.json.proofs.Printed.Tokens.{print_from_push}
use Rattle.json.proofs.Printed.Utf8.{IsUtf8-are_ascii}
use Rattle.json_objects.proofs.Adding.{slots_end}
use Rattle.json.proofs.Printed.Trees.{value-json_tokens}
use Rattle.json_objects.specs.Written.{HasBodyBehind, HasFrontBehind, HasLineBehind, HasValueBehind, object_of}
use Rattle.json_objects.specs.Adding.{Adds, EndsBody, EndsLine, slots_tokens}
use Rattle.json_objects.proofs.Fine.{IsFine}

read_as : (j : Json) (text : List ℕ) → tokens text ≡ json_tokens j → IsFine 128 j → document text ≡ Some j
read_as j text e fine =
    ap (λ ts. option_and_then (λ p. if_last p.0 p.1) (value max_depth ts)) (e ∙ sym (append-nil (json_tokens j)))
    ∙ ap (option_and_then (λ p. if_last p.0 p.1)) (value-json_tokens j max_depth [] fine.0)

value_behind : (j : Json) (first w : Written) (all before : List ℕ) → EndsLine w all → first.before ≡ before → first.tokens ≡ [] → Adds first w (json_tokens j) → IsFine 128 j → HasValueBehind before all j
value_behind j first w all before h b t added fine =
    let same : w.tokens ≡ json_tokens j = added.added ∙ ap (λ ts. ts ++ json_tokens j) t in
    record {
      line = print w.tokens;
      its_value = record { characters = h.text; read = read_as j (print w.tokens) (h.read ∙ same) fine; once = fine.1 };
      are = h.are ∙ ap (λ xs. xs ++ (print w.tokens ++ 10 ∷ [])) (added.before ∙ b);
    }

module _ {A E : Type 0} (r : Result (Vec ℕ A) E) (j : Json) (before : List ℕ) where
  pub value_written : (first w : Written) → IfOk r (λ all. EndsLine w all.items) → first.before ≡ before → first.tokens ≡ [] → Adds first w (json_tokens j) → IsFine 128 j → IfOk r (λ all. HasValueBehind before all.items j)
  value_written first w ends at t added fine = by r ends
    where
      by : (s : Result (Vec ℕ A) E) → IfOk s (λ all. EndsLine w all.items) → IfOk s (λ all. HasValueBehind before all.items j)
      by (Ok all) h = value_behind j first w all.items before h at t added fine
      by (Err e) h = tt

  pub line_written : IfOk r (λ all. HasValueBehind before all.items j) → IfOk r (λ all. HasLineBehind before all.items)
  line_written = by r
    where
      by : (s : Result (Vec ℕ A) E) → IfOk s (λ all. HasValueBehind before all.items j) → IfOk s (λ all. HasLineBehind before all.items)
      by (Ok all) h = record { line = h.line; text = h.its_value.characters; are = h.are }
      by (Err e) h = tt

-- ---- without the last brace

-- what is printed of tokens before the last one, where that is a closing brace
before_brace : (c : Bool) → separator c end_object ≡ []
before_brace true = refl
before_brace false = refl

pub print_brace : (ts : List Token) → print (ts ++ end_object ∷ []) ≡ print ts ++ 125 ∷ []
print_brace ts = print_from_push false ts end_object ∙ ap (λ xs. print ts ++ (xs ++ 125 ∷ [])) (before_brace (fold (λ _ u. ends u) false ts))

-- the tokens of an object are those of its members and a brace
pub object_tokens : (slots : List (List ℕ × Option Json)) → json_tokens (object_of slots) ≡ (begin_object ∷ slots_tokens slots) ++ end_object ∷ []
object_tokens slots = ap (λ ts. begin_object ∷ ts) (slots_end slots)

pub front_printed : (slots : List (List ℕ × Option Json)) → print (json_tokens (object_of slots)) ≡ print (begin_object ∷ slots_tokens slots) ++ 125 ∷ []
front_printed slots = ap print (object_tokens slots) ∙ print_brace (begin_object ∷ slots_tokens slots)

-- what stands before a brace is a text if that is
before_ascii : (front : List ℕ) → IsUtf8 (front ++ 125 ∷ []) → IsUtf8 front
before_ascii front u =
    subst IsUtf8 (take_at front (125 ∷ []) (length front) refl)
    (IsUtf8-take (front ++ 125 ∷ []) (length front) u (IsCharBoundary-at_seam (front ++ 125 ∷ []) front (125 ∷ []) refl (IsUtf8-are_ascii (125 ∷ []) refl)))

module _ (slots : List (List ℕ × Option Json)) (before all : List ℕ) where
  pub front_written : (first w : Written) → EndsBody w all → first.before ≡ before → first.tokens ≡ [] → Adds first w (json_tokens (object_of slots)) → IsFine 128 (object_of slots) → HasFrontBehind before all (object_of slots)
  front_written first w h b t added fine =
      let value = object_of slots in
      let same : w.tokens ≡ json_tokens value = added.added ∙ ap (λ ts. ts ++ json_tokens value) t in
      let front = print (begin_object ∷ slots_tokens slots) in
      let text : print w.tokens ≡ front ++ 125 ∷ [] = ap print same ∙ front_printed slots in
      record {
        front = front;
        text = before_ascii front (subst IsUtf8 text h.text);
        its_value = record {
          characters = subst IsUtf8 text h.text;
          read = read_as value (front ++ 125 ∷ []) (ap tokens (sym text) ∙ h.read ∙ same) fine;
          once = fine.1;
        };
        printed = sym (front_printed slots);
        are = h.are front text ∙ ap (λ xs. xs ++ front) (added.before ∙ b);
      }

  pub body_written : HasFrontBehind before all (object_of slots) → HasBodyBehind before all
  body_written h = record { body = h.front; text = h.text; are = h.are }
