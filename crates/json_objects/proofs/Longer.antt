-- An object's text without its last brace, with a member more and the brace behind it, is the object with that member. Proofs of the
-- crates above cite these.
use Rattle.std.proofs.Common.{◌≡◌, ℕ, ◌≤◌, Bool, true, false, List, [], ◌∷◌, ◌++◌, fold, Option, Some, None, refl, sym, ap, ◌∙◌, append_assoc, append-nil}
use Rattle.std.proofs.lemmas.List.{append_cancel_right}
use Rattle.json.specs.Json.{Json, null, boolean, number, string, array, object, Items, no_items, item, Members, no_members, member, document}
use Rattle.json.specs.Token.{Token, begin_object, key}
use Rattle.json.specs.Print.{ends, escape, print, print_from, quoted}
use Rattle.json.specs.Tree.{json_tokens, items_tokens, members_tokens, depth, HasNumbers}
use Rattle.json.proofs.Printed.Tokens.{print_from-append}
use Rattle.json.proofs.Printed.Trees.{document-print}
use Rattle.json_objects.specs.Adding.{slot_tokens, slots_tokens}
use Rattle.json_objects.specs.Written.{HasFrontBehind, object_of}
use Rattle.json_objects.proofs.Adding.{slots_both}
use Rattle.json_objects.proofs.Behind.{front_printed}

-- ---- a value's tokens end with one that ends a value

abbrev ends_by : Bool → List Token → Bool
ends_by c ts = fold (λ _ t. ends t) c ts

ends_both : (c : Bool) (ts us : List Token) → ends_by c (ts ++ us) ≡ ends_by (ends_by c ts) us
ends_both c [] us = refl
ends_both c (t ∷ ts) us = ends_both (ends t) ts us

mutual
  value_ends : (c : Bool) (j : Json) → ends_by c (json_tokens j) ≡ true
  value_ends c null = refl
  value_ends c (boolean b) = refl
  value_ends c (number s) = refl
  value_ends c (string s) = refl
  value_ends c (array js) = items_end false js
  value_ends c (object ms) = members_end false ms

  items_end : (c : Bool) (js : Items) → ends_by c (items_tokens js) ≡ true
  items_end c no_items = refl
  items_end c (item j js) = ends_both c (json_tokens j) (items_tokens js) ∙ items_end (ends_by c (json_tokens j)) js

  members_end : (c : Bool) (ms : Members) → ends_by c (members_tokens ms) ≡ true
  members_end c no_members = refl
  members_end c (member k j ms) = ends_both false (json_tokens j) (members_tokens ms) ∙ members_end (ends_by false (json_tokens j)) ms

slot_ends : (name : List ℕ) (o : Option Json) → ends_by true (slot_tokens name o) ≡ true
slot_ends name None = refl
slot_ends name (Some j) = value_ends false j

slots_end : (slots : List (List ℕ × Option Json)) → ends_by true (slots_tokens slots) ≡ true
slots_end [] = refl
slots_end (s ∷ ss) =
    ends_both true (slot_tokens s.0 s.1) (slots_tokens ss) ∙ ap (λ b. ends_by b (slots_tokens ss)) (slot_ends s.0 s.1) ∙ slots_end ss

-- ---- one member more

-- a member whose key and text need no escape
abbrev pub member_text : List ℕ → List ℕ → List ℕ
member_text name text = 44 ∷ (34 ∷ (name ++ 34 ∷ []) ++ 58 ∷ []) ++ (34 ∷ (text ++ 34 ∷ []))

printed_member : (name text : List ℕ) → escape name ≡ name → escape text ≡ text → print_from true (key name ∷ json_tokens (string text)) ≡ member_text name text
unfolding print_from
printed_member name text e f =
    ap (λ xs. 44 ∷ ((34 ∷ (xs ++ 34 ∷ [])) ++ 58 ∷ []) ++ (quoted text ++ [])) e
    ∙ ap (λ ys. 44 ∷ ((34 ∷ (name ++ 34 ∷ [])) ++ 58 ∷ []) ++ ys) (append-nil (quoted text) ∙ ap (λ ys. 34 ∷ (ys ++ 34 ∷ [])) f)

module _ (first : List ℕ) (value : Json) (more : List (List ℕ × Option Json)) (name text : List ℕ) where
  abbrev slots : List (List ℕ × Option Json)
  slots = (first, Some value) ∷ more

  abbrev longer : List (List ℕ × Option Json)
  longer = slots ++ (name, Some (string text)) ∷ []

  pub longer_front : escape name ≡ name → escape text ≡ text → print (begin_object ∷ slots_tokens longer) ≡ print (begin_object ∷ slots_tokens slots) ++ member_text name text
  longer_front e f =
      let last = key name ∷ json_tokens (string text) in
      let ended : ends_by false (begin_object ∷ slots_tokens slots) ≡ true =
      ends_both false (key first ∷ json_tokens value) (slots_tokens more) ∙ ap (λ b. ends_by b (slots_tokens more)) (value_ends false value) ∙ slots_end more in
      ap (λ ts. print (begin_object ∷ ts)) (slots_both slots ((name, Some (string text)) ∷ []) ∙ ap (λ ts. slots_tokens slots ++ ts) (append-nil last))
      ∙ print_from-append false (begin_object ∷ slots_tokens slots) last
      ∙ ap (λ b. print (begin_object ∷ slots_tokens slots) ++ print_from b last) ended
      ∙ ap (λ ys. print (begin_object ∷ slots_tokens slots) ++ ys) (printed_member name text e f)

  pub longer_read : escape name ≡ name → escape text ≡ text → HasNumbers (object_of longer) → depth (object_of longer) ≤ 128 → (before all : List ℕ) (h : HasFrontBehind before all (object_of slots)) → document (h.front ++ (member_text name text ++ 125 ∷ [])) ≡ Some (object_of longer)
  longer_read e f numbers shallow before all h =
      let same : h.front ≡ print (begin_object ∷ slots_tokens slots) = append_cancel_right h.front (print (begin_object ∷ slots_tokens slots)) (125 ∷ []) (h.printed ∙ front_printed slots) in
      let whole : h.front ++ (member_text name text ++ 125 ∷ []) ≡ print (json_tokens (object_of longer)) =
      ap (λ xs. xs ++ (member_text name text ++ 125 ∷ [])) same ∙ sym (append_assoc (print (begin_object ∷ slots_tokens slots)) (member_text name text) (125 ∷ []))
      ∙ ap (λ xs. xs ++ 125 ∷ []) (sym (longer_front e f)) ∙ sym (front_printed longer) in
      ap document whole ∙ document-print (object_of longer) numbers shallow
