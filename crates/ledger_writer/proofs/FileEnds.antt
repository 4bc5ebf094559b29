-- The last whole line of octets.
use Rattle.std.proofs.Common.{◌≡◌, ℕ, ◌+◌, ◌-◌, ◌<◌, ◌≤◌, List, [], ◌∷◌, ◌++◌, length, take, drop, sym, ap, ◌∙◌, add-one, arith, append_assoc, Bor, Option, None, Some}
use Rattle.std.specs.Prelude.{slice_index, ◌≢◌, IfSome}
use Rattle.std.proofs.Math.Seq.{take-suc}
use Rattle.std.proofs.lemmas.List.{take-append-drop}
use Rattle.ledger_files.specs.Tails.{tail_of}
use Rattle.ledger_writer.specs.RunLines.{EndsWithSum}

-- It ends where the last line end is; what stands before that and behind another place is its body, and a tail.
pub ends_with_sum : (octets lines front line body sum : List ℕ) (end : ℕ) → end < length octets → slice_index octets end ≡ 10
    → ((place : ℕ) → end < place → place < length octets → slice_index octets place ≢ 10)
    → lines ≡ take end octets → lines ≡ front ++ line → line ++ 10 ∷ [] ≡ body ++ tail_of sum → EndsWithSum octets sum
ends_with_sum octets lines front line body sum end low feed last l s t = record {
  end = end + 1;
  within = omega (arith, low);
  front = front;
  body = body;
  line =
      let one : take (end + 1) octets ≡ take end octets ++ slice_index octets end ∷ [] = rw add-one (take-suc octets end 0 low) in
      one ∙ ap (λ (x : ℕ). take end octets ++ x ∷ []) feed
      ∙ ap (λ (x : List ℕ). x ++ 10 ∷ []) (sym l ∙ s)
      ∙ append_assoc front line (10 ∷ [])
      ∙ ap (λ (x : List ℕ). front ++ x) t;
  last = λ place from below. last place (omega (arith, from)) below;
}

-- All of the lines are a part of them.
pub whole_lines : (lines : List ℕ) (result : Option (Bor (List ℕ))) → IfSome result (λ line. lines ≡ line.now) → IfSome result (λ line. (front : List ℕ) × (lines ≡ front ++ line.now))
whole_lines lines None h = h
whole_lines lines (Some line) h = ([], h)
